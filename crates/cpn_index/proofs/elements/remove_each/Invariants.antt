-- The elements of other transitions are all there.
use Rattle.std.proofs.Common.{◌≡◌, length}
use Rattle.cpn_definitions.specs.Lists.{Rises}
use Rattle.cpn_due.specs.Due.{enabled_cmp}
use Rattle.cpn_index.specs.WatchedElements.{of_others, AreWatched}
use Rattle.cpn_index.specs.Watchers.{places_of}
use Rattle.cpn_index.proofs.elements.remove_each.Given as goal

abbrev pub decreases-loop-first : goal.decreases-loop-first
decreases-loop-first l = length l.due.elements

abbrev pub invariant-loop-first : goal.invariant-loop-first
invariant-loop-first l = record {
  others : of_others l.transition l.due.elements ≡ of_others l.transition l.initial.due.elements;
  in_order : Rises enabled_cmp l.due.elements;
  watched : AreWatched l.due.elements l.watchers;
  clock : l.due.clock ≡ l.initial.due.clock;
  places : places_of l.watchers ≡ places_of l.initial.watchers;
}
