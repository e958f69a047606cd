-- All is there of each transition that reads otherwise, but for those that are left.
use Rattle.std.proofs.Common.{◌≡◌, ℕ}
use Rattle.cpn_definitions.proofs.RisingLists.{IsIn}
use Rattle.cpn_core.specs.Nets.{net_view}
use Rattle.cpn_index.specs.Added.{HaveMore}
use Rattle.cpn_index.proofs.ReadTransitions.{HaveAllBut, AreBounded}
use Rattle.cpn_index.proofs.searching.add_read_otherwise.Given as goal

abbrev pub invariant-loop-t : goal.invariant-loop-t
invariant-loop-t g l = record {
  more : HaveMore (net_view l.net) l.marking l.initial.elements.elements l.elements.elements;
  all : HaveAllBut (net_view l.net) l.marking l.initial.t-iterator l.t-iterator l.elements.elements;
  within : (t : ℕ) → IsIn t l.t-iterator → IsIn t l.initial.t-iterator;
  bound : AreBounded (net_view l.net) l.marking l.initial.t-iterator l.t-iterator l.initial.steps l.steps;
  clock : l.elements.clock ≡ l.initial.elements.clock;
  places : l.elements.places ≡ l.initial.elements.places;
}
