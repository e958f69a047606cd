-- What is enabled with one of the values so far is there.
use Rattle.std.proofs.Common.{◌≡◌, ℕ, ◌+◌, ◌≤◌, true, take}
use Rattle.cpn_definitions.specs.Value.{PlainValue}
use Rattle.cpn_core.specs.Nets.{net_view}
use Rattle.cpn_tmset.specs.Changed.{is_told}
use Rattle.cpn_tmset.specs.ChangedViews.{change_views}
use Rattle.cpn_index.specs.Added.{HaveMore, HaveAll, HasTermAt}
use Rattle.cpn_index.specs.UpdateWork.{IsSum, IsPinnedInAll}
use Rattle.cpn_index.proofs.searching.add_found_with_each.Given as goal

abbrev pub invariant-loop-change : goal.invariant-loop-change
invariant-loop-change g l = record {
  more : HaveMore (net_view l.net) l.marking l.initial.elements.elements l.elements.elements;
  all : (p : ℕ) (v : PlainValue) → is_told p v (change_views (take l.change-index l.changes)) ≡ true → HaveAll (net_view l.net) l.marking (HasTermAt (net_view l.net) p v) l.elements.elements;
  bound : (k : ℕ) → IsSum (IsPinnedInAll (net_view l.net) l.marking) (change_views (take l.change-index l.changes)) k → l.steps ≤ l.initial.steps + k;
  clock : l.elements.clock ≡ l.initial.elements.clock;
  places : l.elements.places ≡ l.initial.elements.places;
}
