-- Trees of the program, one level at a time.
use Rattle.std.proofs.Common.{◌≡◌, ℕ, List, [], ◌∷◌, length, nat_eq, refl, map, Vec, Global, rules}
use Rattle.cpn_trees.specs.AstViews.{form_view, ast_view}
use Rattle.cpn_trees.specs.Trees.{list, asts_from}
use Rattle.cpn_trees.specs.declared.trees.Ast.{Ast}
use Rattle.cpn_trees.specs.declared.trees.Form.{the_lemmas}
use Rattle.cpn_trees.specs.declared.trees.Form.TheVariants as form
use Rattle.cpn_typing.specs.Rules.{is_empty_form}

view_list : (items : Vec Ast Global) → form_view (form.List items) ≡ list (asts_from (map ast_view items.items))
view_list items = search (rules, the_lemmas)

none_in : (xs : List Ast) → is_empty_form (list (asts_from (map ast_view xs))) ≡ nat_eq (length xs) 0
none_in [] = refl
none_in (x ∷ xs) = search rules

pub empty_form : (items : Vec Ast Global) → is_empty_form (form_view (form.List items)) ≡ nat_eq (length items.items) 0
empty_form items = rw (view_list items) (none_in items.items)
