-- The elements so far are added.
use Rattle.std.proofs.Common.{◌≡◌, map}
use Rattle.cpn_definitions.specs.Lists.{Rises}
use Rattle.cpn_due.specs.Due.{plain_enabled, enabled_cmp}
use Rattle.cpn_index.specs.Added.{AreAdded}
use Rattle.cpn_index.specs.WatchedElements.{AreWatched}
use Rattle.cpn_index.specs.Watchers.{places_of}
use Rattle.cpn_index.proofs.elements.add_each.Given as goal

abbrev pub invariant-loop-element : goal.invariant-loop-element
invariant-loop-element l = record {
  added : AreAdded l.initial.due.elements (map plain_enabled l.yielded) l.due.elements;
  in_order : Rises enabled_cmp l.due.elements;
  watched : AreWatched l.due.elements l.watchers;
  clock : l.due.clock ≡ l.initial.due.clock;
  places : places_of l.watchers ≡ places_of l.initial.watchers;
}
