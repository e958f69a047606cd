-- All variables are without a value.
use Rattle.std.proofs.Common.{ℕ, List, Option, None, ap}
use Rattle.cpn_definitions.specs.Value.{PlainValue}
use Rattle.cpn_match.specs.declared.partials.PartialPair.{PartialPair}
use Rattle.cpn_match.specs.Pairs.{pair_view, pairs_view}
use Rattle.cpn_match.proofs.GrownLists.{grown_all}
use Rattle.cpn_match.proofs.partials.Partial.new.Goals as goal

abbrev without_value : ℕ → ℕ × Option PlainValue
without_value x = (x, None)

pub loop-variable-init : goal.loop-variable-init
loop-variable-init c = ap (λ (ps : List PartialPair). pairs_view ps) c.in_ok-pairs.ensures.items

pub returns : goal.returns
returns c = record { unbound = grown_all without_value pair_view c.args.variables.now c.loop-variable.pairs.items c.loop-variable.variable-index c.loop-variable-test.false c.loop-variable.invariant }
