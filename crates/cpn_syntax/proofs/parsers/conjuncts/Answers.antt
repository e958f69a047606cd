-- The conjuncts of a guard, of which the tree was read.
use Rattle.std.proofs.Common.{ap, ap₂, sym, ◌∙◌, map}
use Rattle.cpn_trees.specs.AstViews.{ast_view}
use Rattle.cpn_syntax.specs.Guards.{conjuncts_of}
use Rattle.cpn_syntax.proofs.Guards.{list_view, some_conjuncts, some_items}
use Rattle.cpn_syntax.proofs.parsers.conjuncts.Goals as goal

pub returns-else-is_empty : goal.returns-else-is_empty
returns-else-is_empty c =
    let at = c.into_parts-at.result.0 in
    let shown = ap ast_view c.into_parts-at.ensures.parts ∙ ap (λ f. ast_view (record { at = at; form = f })) c.in-List.is ∙ list_view at c.in-List.parts in
    sym (ap₂ conjuncts_of shown c.if-not-bracketed.false ∙ some_conjuncts at (map ast_view c.in-List.parts.items) (some_items c.in-List.parts (sym c.is_empty.ensures ∙ c.if-is_empty.false)))
