-- A function with parameters is none alone, and one without is not called.
use Rattle.std.proofs.Common.{◌≡◌, ℕ, false, List, [], ◌∷◌, length, nat_eq, true, refl, rules}
use Rattle.cpn_typing.specs.Names.{Name, declared, a_function, refused, unknown}
use Rattle.cpn_typing.specs.Rules.{Spot, name_rule, called_as, calls, nothing_called}
use Rattle.cpn_declared.specs.TypeViews.{ty_view, tys_view}
use Rattle.cpn_declared.specs.declared.types.Ty.{Ty}

pub function_unknown : (spot : Spot) (n : Name) (k : ℕ) (ts : List Ty) (t : Ty) → nat_eq (length ts) 0 ≡ false
    → name_rule (declared (a_function k (tys_view ts) (ty_view t))) spot n ≡ refused (unknown n)
function_unknown spot n k [] t h = absurd (cc)
function_unknown spot n k (x ∷ ts) t h = refl

pub value_uncalled : (k : ℕ) (ts : List Ty) (t : Ty) → nat_eq (length ts) 0 ≡ true → called_as (declared (a_function k (tys_view ts) (ty_view t))) ≡ nothing_called
value_uncalled k [] t h = refl
value_uncalled k (x ∷ ts) t h = let no : nat_eq (length (x ∷ ts)) 0 ≡ false = search rules in cc

pub function_called : (k : ℕ) (ts : List Ty) (t : Ty) → nat_eq (length ts) 0 ≡ false → called_as (declared (a_function k (tys_view ts) (ty_view t))) ≡ calls k (tys_view ts) (ty_view t)
function_called k [] t h = absurd (cc)
function_called k (x ∷ ts) t h = refl
