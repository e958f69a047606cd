-- What is enabled with the value is there, of the transitions so far.
use Rattle.std.proofs.Common.{◌≡◌, ℕ, ◌+◌, ◌≤◌, take}
use Rattle.cpn_core.specs.Nets.{net_view}
use Rattle.cpn_core.specs.Views.{value_view}
use Rattle.cpn_stages.specs.Work.{IsPinned}
use Rattle.cpn_index.specs.Added.{HaveMore, HaveAll, HasTermAt}
use Rattle.cpn_index.specs.UpdateWork.{IsSum}
use Rattle.cpn_index.proofs.SearchedParts.{IsOfOne}
use Rattle.cpn_index.proofs.searching.add_all_with.Given as goal

abbrev pub invariant-loop-t : goal.invariant-loop-t
invariant-loop-t g l = record {
  more : HaveMore (net_view l.net) l.marking l.initial.elements.elements l.elements.elements;
  all : HaveAll (net_view l.net) l.marking (IsOfOne (take l.t-index l.t-items) (HasTermAt (net_view l.net) l.change.place (value_view l.change.value))) l.elements.elements;
  bound : (k : ℕ) → IsSum (λ t own. IsPinned (net_view l.net) l.marking t l.change.place (value_view l.change.value) own) (take l.t-index l.t-items) k → l.steps ≤ l.initial.steps + k;
  clock : l.elements.clock ≡ l.initial.elements.clock;
  places : l.elements.places ≡ l.initial.elements.places;
}
