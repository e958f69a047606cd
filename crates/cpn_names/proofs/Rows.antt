-- Rows worked out by hand.
use Rattle.std.proofs.Common.{◌≡◌, ℕ, [], ◌∷◌, refl}
use Rattle.std.specs.Prelude.{Some, None, codes}
use Rattle.cpn_names.specs.Names.{number_of}
use Rattle.cpn_names.specs.Named.{names_of}

-- the first of two that are the same
first_of_two : number_of (codes "b") (codes "a" ∷ codes "b" ∷ codes "b" ∷ []) ≡ Some 1
first_of_two = refl

-- the beginning of a name is another name
no_beginning : number_of (codes "a") (codes "ab" ∷ []) ≡ None
no_beginning = refl

-- names in the order of the things, one of them twice
names_in_order : names_of {X = ℕ} ((codes "b", 7) ∷ (codes "a", 8) ∷ (codes "b", 9) ∷ []) ≡ codes "b" ∷ codes "a" ∷ codes "b" ∷ []
names_in_order = refl
