-- What a name means where it is found is kept: a local has a value of its type, and what is declared is declared under it.
use Rattle.std.proofs.Common.{◌≡◌, ℕ, Bool, true, false, List, [], ◌∷◌, ◌++◌, Option, Some, None, refl, cond, IfSome, slice_get}
use Rattle.std.specs.Str.{bytes_eq}
use Rattle.cpn_definitions.specs.Value.{PlainValue}
use Rattle.cpn_definitions.specs.Outcome.{given}
use Rattle.cpn_definitions.specs.Inscription.{Operation}
use Rattle.cpn_typing.specs.Types.{PlainTy}
use Rattle.cpn_typing.specs.Names.{Name, Meant, meant_among, predeclared_named, Scope, Found, a_local, predeclared, declared, nothing, found, found_in, local_named, further}
use Rattle.cpn_typing.specs.TypedValues.{Sets, HasType}
use Rattle.cpn_typing.specs.Law.{Fits, Means, World}

-- the values of two scopes, one after the other
pub fits_more : (sets : Sets) (sc inner : Scope) (ls vs : List PlainValue) → Fits sets sc ls → Fits sets inner vs → Fits sets (sc ++ inner) (ls ++ vs)
fits_more sets [] inner [] vs f h = h
fits_more sets [] inner (v ∷ ls) vs f h = absurd f
fits_more sets (l ∷ sc) inner [] vs f h = absurd f
fits_more sets (l ∷ sc) inner (v ∷ ls) vs f h = (f.0, fits_more sets sc inner ls vs f.1 h)

-- a local by its number
abbrev pub HasLocal : Sets → List PlainValue → ℕ × PlainTy → Type 0
HasLocal sets ls l = Means (λ v. HasType sets v l.1) (given (slice_get ls l.0))

further_has : (sets : Sets) (v : PlainValue) (ls : List PlainValue) (o here : Option (ℕ × PlainTy)) → IfSome o (HasLocal sets ls) → IfSome here (HasLocal sets (v ∷ ls)) → IfSome (further o here) (HasLocal sets (v ∷ ls))
further_has sets v ls (Some l) here p q = p
further_has sets v ls None here p q = q

here_has : (sets : Sets) (v : PlainValue) (ls : List PlainValue) (t : PlainTy) (b : Bool) → HasType sets v t → IfSome (cond b (Some (0, t)) None) (HasLocal sets (v ∷ ls))
here_has sets v ls t true h = h
here_has sets v ls t false h = tt

local_has : (sets : Sets) (n : Name) (sc : Scope) (ls : List PlainValue) → Fits sets sc ls → IfSome (local_named n sc) (HasLocal sets ls)
local_has sets n [] ls f = tt
local_has sets n (l ∷ sc) [] f = absurd f
local_has sets n (l ∷ sc) (v ∷ ls) f =
    further_has sets v ls (local_named n sc) _ (local_has sets n sc ls f.1) (here_has sets v ls l.type_of (bytes_eq n l.name) f.0)

-- what is found by a name is kept
abbrev pub FoundKept : World → Scope → Name → Found → Type 0
FoundKept g sc n (a_local k t) = (ls : List PlainValue) → Fits g.sets sc ls → HasLocal g.sets ls (k, t)
FoundKept g sc n (predeclared o) = Unit {0}
FoundKept g sc n (declared m) = meant_among n g.declared.names ≡ Some m
FoundKept g sc n nothing = Unit {0}

found_in_kept : (g : World) (n : Name) (sc : Scope) (l : Option (ℕ × PlainTy)) (o : Option Operation) (m : Option Meant) → ((ls : List PlainValue) → Fits g.sets sc ls → IfSome l (HasLocal g.sets ls)) → meant_among n g.declared.names ≡ m → FoundKept g sc n (found_in l o m)
found_in_kept g n sc (Some l) o m p e = p
found_in_kept g n sc None (Some o) m p e = tt
found_in_kept g n sc None None (Some m) p e = e
found_in_kept g n sc None None None p e = tt

pub found_kept : (g : World) (n : Name) (sc : Scope) → FoundKept g sc n (found n sc g.declared)
found_kept g n sc = found_in_kept g n sc (local_named n sc) (predeclared_named n) (meant_among n g.declared.names) (λ ls f. local_has g.sets n sc ls f) refl
