-- Types of the program, one level or one item at a time.
use Rattle.std.proofs.Common.{◌≡◌, ℕ, zero, suc, ◌+◌, ◌<◌, min, ◌&&◌, nat_eq, List, [], ◌∷◌, length, map, get_or, drop, refl, sym, ap, ◌∙◌, arith, add-one, drop-cons, Global, Vec, rules}
use Rattle.std.specs.declared.sync.Arc.{Arc}
use Rattle.std.proofs.lemmas.Bool.Decides.{nat_tests}
use Rattle.cpn_core.specs.Colours.{shape_view, shapes_view}
use Rattle.cpn_core.specs.declared.colours.Shape.{Shape}
use Rattle.cpn_typing.specs.Types.{lists, tuples, more_types, same_type, same_types, types_from, type_of_shape, types_of_shapes}
use Rattle.cpn_declared.specs.TypeViews.{ty_view, tys_view}
use Rattle.cpn_declared.specs.declared.types.Ty.{Ty, the_lemmas}
use Rattle.cpn_declared.specs.declared.types.Ty.TheViews as views

pub view_list : (b : Arc Ty Global) → ty_view (views.List b) ≡ lists (ty_view b.value)
view_list b = search (rules, the_lemmas)

pub view_tuple : (ts : Arc (Vec Ty Global) Global) → ty_view (views.Tuple ts) ≡ tuples (tys_view ts.value.items)
view_tuple ts = search (rules, the_lemmas)

-- from an index on the types are the same where those there are and those after them are
pub same_more : (ts us : List Ty) (i : ℕ) (t u : Ty) → i < length ts → i < length us → t ≡ get_or ts i t → u ≡ get_or us i u
    → same_types (tys_view (drop i ts)) (tys_view (drop i us)) ≡ (same_type (ty_view t) (ty_view u) && same_types (tys_view (drop (i + 1) ts)) (tys_view (drop (i + 1) us)))
same_more ts us i t u lt lu et eu =
    let dt : drop i ts ≡ t ∷ drop (i + 1) ts = rw add-one (drop-cons ts i t lt ∙ ap (λ x. x ∷ drop (suc i) ts) (sym et)) in
    let du : drop i us ≡ u ∷ drop (i + 1) us = rw add-one (drop-cons us i u lu ∙ ap (λ x. x ∷ drop (suc i) us) (sym eu)) in
    rw (dt, du) refl

-- where the shorter list ends, they are the same if there are as many of both
pub same_ends : (ts us : List Ty) (i : ℕ) → i ≡ min (length ts) (length us) → same_types (tys_view (drop i ts)) (tys_view (drop i us)) ≡ nat_eq (length ts) (length us)
same_ends [] [] i e = let z : i ≡ 0 = omega arith in rw z refl
same_ends [] (u ∷ us) i e = let z : i ≡ 0 = omega arith in rw z (grind (arith, nat_tests))
same_ends (t ∷ ts) [] i e = let z : i ≡ 0 = omega arith in rw z (grind (arith, nat_tests))
same_ends (t ∷ ts) (u ∷ us) zero e = let no : ⊥ = omega arith in absurd no
same_ends (t ∷ ts) (u ∷ us) (suc i) e = same_ends ts us i (omega arith) ∙ grind (arith, nat_tests)

-- ---- types of shapes

pub types_of_each : (ss : List Shape) → types_of_shapes (shapes_view ss) ≡ types_from (map (λ s. type_of_shape (shape_view s)) ss)
types_of_each [] = refl
types_of_each (s ∷ ss) = ap (more_types (type_of_shape (shape_view s))) (types_of_each ss)
