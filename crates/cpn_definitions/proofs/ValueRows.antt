-- Rows of values: a row as a list, and back.
use Rattle.std.proofs.Common.{◌≡◌, List, [], ◌∷◌, refl, ap}
use Rattle.cpn_definitions.specs.Value.{PlainValue, PlainValues, none, more, to_list, from_list}

pub to_list_from_list : (vs : List PlainValue) → to_list (from_list vs) ≡ vs
to_list_from_list [] = refl
to_list_from_list (v ∷ vs) = ap (λ ws. v ∷ ws) (to_list_from_list vs)

pub from_list_to_list : (vs : PlainValues) → from_list (to_list vs) ≡ vs
from_list_to_list none = refl
from_list_to_list (more v vs) = ap (λ ws. more v ws) (from_list_to_list vs)
