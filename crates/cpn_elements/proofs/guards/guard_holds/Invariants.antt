-- The conjuncts so far are true; those that are left have a meaning.
use Rattle.std.proofs.Common.{◌≡◌, drop, map}
use Rattle.cpn_definitions.specs.Occurrence.{guard_holds}
use Rattle.cpn_core.specs.Inscriptions.{expr_view}
use Rattle.cpn_core.specs.Nets.{net_view}
use Rattle.cpn_elements.specs.Guards.{GuardHasMeaning}
use Rattle.cpn_elements.proofs.guards.guard_holds.Given as goal

abbrev pub invariant-loop-conjunct : goal.invariant-loop-conjunct
invariant-loop-conjunct l = record {
  meaning : GuardHasMeaning (net_view l.net).functions (map expr_view (drop l.conjunct-index l.conjunct-items)) l.binding;
  rest : guard_holds (net_view l.net).functions (map expr_view l.conjunct-items) l.binding ≡ guard_holds (net_view l.net).functions (map expr_view (drop l.conjunct-index l.conjunct-items)) l.binding;
}
