-- The readers so far are those among the transitions so far.
use Rattle.cpn_core.specs.Nets.{net_view}
use Rattle.cpn_index.specs.Readers.{has_term, reads_otherwise}
use Rattle.cpn_index.proofs.ReadersBelow.{AreSoFar}
use Rattle.cpn_index.proofs.readers.Readers.of.Given as goal

abbrev pub invariant-loop-t : goal.invariant-loop-t
invariant-loop-t l = record {
  with_term : AreSoFar (net_view l.net) has_term l.t l.readers.with_term.items;
  otherwise : AreSoFar (net_view l.net) reads_otherwise l.t l.readers.otherwise.items;
}
