-- At the end the works are those of all transitions.
use Rattle.std.proofs.Common.{List, map, ap, ◌∙◌, arith}
use Rattle.std.proofs.lemmas.List.{take_all}
use Rattle.cpn_core.specs.declared.nets.Transition.{Transition}
use Rattle.cpn_core.specs.Nets.{net_view, transition_view}
use Rattle.cpn_jobs.specs.Work.{work_by}
use Rattle.cpn_jobs.proofs.NumberedWork.{numbered_work}
use Rattle.cpn_jobs.proofs.works.works_of.Goals as goal

pub returns-clause-each : goal.returns-clause-each
returns-clause-each c t =
    let n = net_view c.args.net.now in
    numbered_work _ c.loop-transition.works.items n
    (c.loop-transition.invariant.works
    ∙ ap (λ (ts : List Transition). map (work_by n) (map transition_view ts)) (take_all c.loop-transition.transition-index c.deref-transition-items.result.now (omega arith) ∙ c.deref-transition-items.ensures.value))
    t
