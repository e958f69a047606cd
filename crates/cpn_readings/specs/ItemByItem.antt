-- What corresponds item by item. Source: own choice.
use Rattle.std.specs.Prelude.{List, [], ◌∷◌, Option, Some, None}

-- lists that correspond item by item
abbrev pub EachIs : {A B : Type 0} → (A → B → Type 0) → List A → List B → Type 0
EachIs Is [] [] = Unit {0}
EachIs Is (x ∷ xs) (y ∷ ys) = Is x y × EachIs Is xs ys
EachIs Is [] (y ∷ ys) = ⊥
EachIs Is (x ∷ xs) [] = ⊥

-- options that correspond, where there is one
abbrev pub OptionIs : {A B : Type 0} → (A → B → Type 0) → Option A → Option B → Type 0
OptionIs Is None None = Unit {0}
OptionIs Is (Some x) (Some y) = Is x y
OptionIs Is None (Some y) = ⊥
OptionIs Is (Some x) None = ⊥
