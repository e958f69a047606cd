-- The number stands in the lists of the places of the arcs so far.
use Rattle.std.proofs.Common.{take}
use Rattle.std.specs.List.{list_any}
use Rattle.cpn_core.specs.Nets.{arcs_view}
use Rattle.cpn_index.specs.Readers.{has_term, reads_otherwise, bears, AreWith}
use Rattle.cpn_index.proofs.readers.Readers.push_arcs.Given as goal

abbrev pub invariant-loop-arc : goal.invariant-loop-arc
invariant-loop-arc l = record {
  with_term : AreWith (λ p. list_any (bears has_term p) (arcs_view (take l.arc-index l.inputs))) l.number l.initial.self.with_term.items l.self.with_term.items;
  otherwise : AreWith (λ p. list_any (bears reads_otherwise p) (arcs_view (take l.arc-index l.inputs))) l.number l.initial.self.otherwise.items l.self.otherwise.items;
}
