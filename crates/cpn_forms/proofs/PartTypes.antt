-- The type of a part of a product, by its number.
use Rattle.std.proofs.Common.{◌≡◌, ℕ, zero, suc, ◌<◌, ◌≤◌, ◌-◌, ℤ, pos, List, [], ◌∷◌, length, get_or, map, slice_get, Option, Some, None, refl, sym, ap, ◌∙◌, arith}
use Rattle.cpn_typing.specs.Types.{tuples, type_at, types_from}
use Rattle.cpn_typing.specs.Rules.{part_of}
use Rattle.cpn_declared.specs.TypeViews.{ty_view, tys_view}
use Rattle.cpn_declared.specs.declared.types.Ty.{Ty}

type_there : (ts : List Ty) (k : ℕ) (t : Ty) → k < length ts → t ≡ get_or ts k t → type_at (tys_view ts) k ≡ Some (ty_view t)
type_there [] k t lt e = absurd (omega arith)
type_there (u ∷ ts) zero t lt e = ap (λ x. Some (ty_view x)) (sym e)
type_there (u ∷ ts) (suc k) t lt e = type_there ts k t (omega arith) e

pub part_there : (ts : List Ty) (k : ℕ) (t : Ty) → 0 < k → k ≤ length ts → t ≡ get_or ts (k - 1) t → part_of (tuples (tys_view ts)) (pos k) ≡ Some (ty_view t)
part_there ts zero t p lt e = absurd (omega arith)
part_there ts (suc k) t p lt e = type_there ts k t (omega arith) (e ∙ ap (λ i. get_or ts i t) (one_less k))
  where
    one_less : (j : ℕ) → suc j - 1 ≡ j
    one_less j = omega arith

none_there : (ts : List Ty) (k : ℕ) → length ts ≤ k → type_at (tys_view ts) k ≡ None
none_there [] zero le = refl
none_there [] (suc k) le = refl
none_there (t ∷ ts) zero le = absurd (omega arith)
none_there (t ∷ ts) (suc k) le = none_there ts k (omega arith)

pub no_part : (ts : List Ty) (k : ℕ) → length ts < k → part_of (tuples (tys_view ts)) (pos k) ≡ None
no_part ts zero lt = absurd (omega arith)
no_part ts (suc k) lt = none_there ts k (omega arith)
