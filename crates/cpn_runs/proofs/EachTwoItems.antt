-- What holds of each two items at one index of two lists.
use Rattle.std.proofs.Common.{List, [], ◌∷◌, ◌++◌}
use Rattle.cpn_runs.specs.Filling.{EachTwo}

module _ {A : Type 0} (R : A → A → Type 0) where
  pub each_itself : ((x : A) → R x x) → (xs : List A) → EachTwo R xs xs
  each_itself itself [] = tt
  each_itself itself (x ∷ xs) = (itself x, each_itself itself xs)

  pub each_through : ((x y z : A) → R x y → R y z → R x z) → (xs ys zs : List A) → EachTwo R xs ys → EachTwo R ys zs → EachTwo R xs zs
  each_through through [] [] [] first second = tt
  each_through through [] [] (z ∷ zs) first second = absurd second
  each_through through [] (y ∷ ys) zs first second = absurd first
  each_through through (x ∷ xs) [] zs first second = absurd first
  each_through through (x ∷ xs) (y ∷ ys) [] first second = absurd second
  each_through through (x ∷ xs) (y ∷ ys) (z ∷ zs) first second = (through x y z first.0 second.0, each_through through xs ys zs first.1 second.1)

  pub each_joined : (xs ys more others : List A) → EachTwo R xs ys → EachTwo R more others → EachTwo R (xs ++ more) (ys ++ others)
  each_joined [] [] more others each rest = rest
  each_joined [] (y ∷ ys) more others each rest = absurd each
  each_joined (x ∷ xs) [] more others each rest = absurd each
  each_joined (x ∷ xs) (y ∷ ys) more others each rest = (each.0, each_joined xs ys more others each.1 rest)
