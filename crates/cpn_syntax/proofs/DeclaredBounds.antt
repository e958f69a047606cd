-- The integers that a declaration writes are tokens of its text: what holds of each number among the tokens holds of each of them.
use Rattle.std.proofs.Common.{ℤ, [], ◌∷◌}
use Rattle.std.specs.List.{AllByRecursion}
use Rattle.cpn_lex.specs.Token.{PlainToken}
use Rattle.cpn_trees.specs.DeclTrees.{PlainBody, PlainDecl}
use Rattle.cpn_trees.specs.DeclaredBounds.{bounds_in_body, declared_bounds}
use Rattle.cpn_syntax.specs.Texts.{Text, IsNumber}
use Rattle.cpn_syntax.specs.Declarations.{SpellsBody, unit_line, bool_line, int_line, string_line, range_line, with_line, product_line, list_line, union_line, named_line, SpellsForm, colour_set_line, variables_line, value_line, function_line, SpellsDecl, decl_line}
use Rattle.cpn_syntax.proofs.DeclaredNames.{front}

module _ (P : ℤ → Type 0) where
  -- of a token, where it is a number
  abbrev Holds : PlainToken → Type 0
  Holds t = (z : ℤ) → IsNumber z t → P z

  body_holds : (body : PlainBody) (u : Text) → SpellsBody body u → AllByRecursion Holds u → AllByRecursion P (bounds_in_body body)
  body_holds body u (unit_line t is) h = tt
  body_holds body u (bool_line t is) h = tt
  body_holds body u (int_line t is) h = tt
  body_holds body u (string_line t is) h = tt
  body_holds body u (range_line t1 t2 m t3 n {low} {high} is1 is2 low_is is4 high_is) h = (h.1.1.0 low low_is, (h.1.1.1.1.0 high high_is, tt))
  body_holds body u (with_line t v is spelled) h = tt
  body_holds body u (product_line t1 n t2 v is1 is2 is3 spelled) h = tt
  body_holds body u (list_line t n is1 is2) h = tt
  body_holds body u (union_line t v is spelled) h = tt
  body_holds body u (named_line n is) h = tt

  form_holds : (d : PlainDecl) (u : Text) → SpellsForm d u → AllByRecursion Holds u → AllByRecursion P (declared_bounds d)
  form_holds d u (colour_set_line t1 n t2 {name} {body} {timed} v w is1 is2 is3 spelled timed_is) h = body_holds body v spelled (front Holds v w h.1.1.1)
  form_holds d u (variables_line t1 t2 n v is1 spelled is2 is3) h = tt
  form_holds d u (value_line t1 n t2 v is1 is2 is3 spelled) h = tt
  form_holds d u (function_line t1 n t2 t3 t4 m t5 v w is1 is2 is3 spelled is4 is5 is6 is7 spelled2) h = tt

  -- What holds of each number among the tokens holds of each integer that the declaration writes.
  pub bounds_all : (d : PlainDecl) (u : Text) → SpellsDecl d u → AllByRecursion Holds u → AllByRecursion P (declared_bounds d)
  bounds_all d u (decl_line t v spelled is) h = form_holds d v spelled (front Holds v (t ∷ []) h)
