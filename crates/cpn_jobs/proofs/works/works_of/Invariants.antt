-- The works so far are those of the transitions so far.
use Rattle.std.proofs.Common.{◌≡◌, length, map, take}
use Rattle.cpn_core.specs.Nets.{net_view, transition_view}
use Rattle.cpn_jobs.specs.Views.{work_view}
use Rattle.cpn_jobs.specs.Work.{work_by}
use Rattle.cpn_jobs.proofs.works.works_of.Given as goal

abbrev pub invariant-loop-transition : goal.invariant-loop-transition
invariant-loop-transition l = record {
  count : length l.works.items ≡ l.transition-index;
  works : map (λ work. work_view work.value) l.works.items ≡ map (work_by (net_view l.net)) (map transition_view (take l.transition-index l.transition-items));
}
