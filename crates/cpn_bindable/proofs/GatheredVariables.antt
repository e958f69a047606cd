-- The variables that are gathered part by part are those of the whole.
use Rattle.std.proofs.Common.{◌≡◌, ℕ, List, [], ◌∷◌, ◌++◌, refl, ap, append_assoc}
use Rattle.std.specs.List.{flat_map}
use Rattle.cpn_definitions.specs.Inscription.{PlainExpr, exprs_from}
use Rattle.cpn_definitions.specs.Bindable.{variables_of, variables_of_each}

-- several inscriptions, as the parts of a form and as a list
pub each_is_flat : (es : List PlainExpr) → variables_of_each (exprs_from es) ≡ flat_map variables_of es
each_is_flat [] = refl
each_is_flat (e ∷ es) = ap (λ xs. variables_of e ++ xs) (each_is_flat es)

pub gathered : (v w x y z guard delay inputs outputs each : List ℕ) → v ≡ [] → w ≡ v ++ each → each ≡ guard → x ≡ w ++ delay → y ≡ x ++ inputs → z ≡ y ++ outputs → z ≡ guard ++ (delay ++ (inputs ++ outputs))
gathered v w x y z guard delay inputs outputs each none first same second third last = rw (last, third, second, first, none, same, append_assoc, append_assoc) refl
