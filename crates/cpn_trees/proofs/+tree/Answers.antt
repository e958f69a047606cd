-- The parts that are left in a form are smaller than it.
use Rattle.std.proofs.Common.{rules, arith, ◌<◌, ⊎_elim}
use denote.Param.Weighed.{most}
use Rattle.cpn_trees.specs.declared.trees.Ast.{size-Ast}
use Rattle.cpn_trees.specs.declared.trees.LocalValue.{size-LocalValue}
use Rattle.cpn_trees.proofs.Sizes.{most_left, call_parts, tuple_parts, list_parts, sum_parts, let_values, case_arms}
use Rattle.cpn_trees.proofs.+tree.Goals as goal
use Rattle.cpn_trees.proofs.+tree.Goals.{trees::Ast::drop-then-is_deeper-2, trees::Ast::drop-else-is_deeper-2}

pub trees::Ast::drop-drop-parts-requires-in-Call : goal.trees::Ast::drop-drop-parts-requires-in-Call
trees::Ast::drop-drop-parts-requires-in-Call t c κs =
    let h = rw c.in-Call.is at c.loop-name.invariant in
    let falls = call_parts c.loop-name.self.at c.in-Call._function c.in-Call.parts in
    (((most_left _ c.in-Call.parts.items c.remove-self.new.self.items c.deep_part-index.result t c.remove-self.ensures.items (omega (arith, falls, h, c.decreases)), tt), tt), search rules)

pub trees::Ast::drop-drop-parts-requires-in-Tuple : goal.trees::Ast::drop-drop-parts-requires-in-Tuple
trees::Ast::drop-drop-parts-requires-in-Tuple t c κs =
    let small : most size-Ast c.in-Tuple.parts.items < t = ⊎_elim
    (λ is. let h = rw is at c.loop-name.invariant in let falls = tuple_parts c.loop-name.self.at c.in-Tuple.parts in omega (arith, falls, h, c.decreases))
    (⊎_elim (λ is. let h = rw is at c.loop-name.invariant in let falls = list_parts c.loop-name.self.at c.in-Tuple.parts in omega (arith, falls, h, c.decreases))
    (λ is. let h = rw is at c.loop-name.invariant in let falls = sum_parts c.loop-name.self.at c.in-Tuple.parts in omega (arith, falls, h, c.decreases))) c.in-Tuple.is in
    (((most_left _ c.in-Tuple.parts.items c.remove-self-in-Tuple.new.self.items c.deep_part-index-in-Tuple.result t c.remove-self-in-Tuple.ensures.items small, tt), tt), search rules)

pub trees::Ast::drop-drop-values-requires : goal.trees::Ast::drop-drop-values-requires
trees::Ast::drop-drop-values-requires t c κs =
    let h = rw c.in-Let.is at c.loop-name.invariant in
    let falls = let_values c.loop-name.self.at c.in-Let.values c.in-Let.body in
    let small : most size-LocalValue c.in-Let.values.items < t = omega (arith, falls, h, c.decreases) in
    let left : most size-LocalValue c.if-is_deeper-2.values.items < t = elim c.if-is_deeper-2.branch [
      | trees::Ast::drop-then-is_deeper-2 w ↦ rw w.values-is small
      | trees::Ast::drop-else-is_deeper-2 w ↦ rw w.values-is (most_left _ c.in-Let.values.items w.remove-name.new.self.items w.deep_value-index.result t w.remove-name.ensures.items small)
    ] in
    (((left, tt), tt), search rules)

pub trees::Ast::drop-drop-arms-requires-else-is_deeper-3 : goal.trees::Ast::drop-drop-arms-requires-else-is_deeper-3
trees::Ast::drop-drop-arms-requires-else-is_deeper-3 t c κs =
    let h = rw c.in-Case.is at c.loop-name.invariant in
    let falls = case_arms c.loop-name.self.at c.in-Case.subject c.in-Case.arms in
    (((most_left _ c.in-Case.arms.items c.remove-pattern.new.self.items c.deep_arm-index.result t c.remove-pattern.ensures.items (omega (arith, falls, h, c.decreases)), tt), tt), search rules)
