-- The patterns that are left in a form are smaller than it.
use Rattle.std.proofs.Common.{rules, arith, ◌<◌, ⊎_elim}
use denote.Param.Weighed.{most}
use Rattle.cpn_trees.specs.declared.patterns.Pat.{size-Pat}
use Rattle.cpn_trees.proofs.Sizes.{most_left, call_patterns, tuple_patterns, list_patterns}
use Rattle.cpn_trees.proofs.patterns.Pat.+pattern.Goals as goal

pub drop-parts-requires-in-Call : goal.drop-parts-requires-in-Call
drop-parts-requires-in-Call t c κs =
    let h = rw c.in-Call.is at c.loop-name.invariant in
    let falls = call_patterns c.loop-name.self.at c.in-Call._constructor c.in-Call.parts in
    (((most_left _ c.in-Call.parts.items c.remove-self.new.self.items c.deep_pattern-index.result t c.remove-self.ensures.items (omega (arith, falls, h, c.decreases)), tt), tt), search rules)

pub drop-parts-requires-in-Tuple : goal.drop-parts-requires-in-Tuple
drop-parts-requires-in-Tuple t c κs =
    let small : most size-Pat c.in-Tuple.parts.items < t = ⊎_elim
    (λ is. let h = rw is at c.loop-name.invariant in let falls = tuple_patterns c.loop-name.self.at c.in-Tuple.parts in omega (arith, falls, h, c.decreases))
    (λ is. let h = rw is at c.loop-name.invariant in let falls = list_patterns c.loop-name.self.at c.in-Tuple.parts in omega (arith, falls, h, c.decreases)) c.in-Tuple.is in
    (((most_left _ c.in-Tuple.parts.items c.remove-self-in-Tuple.new.self.items c.deep_pattern-index-in-Tuple.result t c.remove-self-in-Tuple.ensures.items small, tt), tt), search rules)
