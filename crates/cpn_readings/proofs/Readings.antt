-- Readings: what was read before, where the whole was read.
use Rattle.std.proofs.Common.{◌≡◌, Bool, true, false, List, [], ◌∷◌, refl, ap}
use Rattle.std.specs.List.{AllByRecursion}
use Rattle.cpn_readings.specs.Reading.{Reading, read, refused, ◌>>=◌, check, each}

module _ {R : Type 0} where
  -- a value that was read, or another one instead of a refusal
  abbrev value_or : {A : Type 0} → A → Reading R A → A
  value_or x (read y) = y
  value_or x (refused refusal) = x

  -- a reading that gives a value
  abbrev reads : {A : Type 0} → A → Reading R A
  reads x = read x

  pub same_read : {A : Type 0} (x y : A) → reads x ≡ read y → x ≡ y
  same_read x y h = ap (value_or x) h

  -- what the first reading gave, where the second gave something
  pub steps : {A B : Type 0} (f : A → Reading R B) (reading : Reading R A) (y : B) → (reading >>= f) ≡ read y → (x : A) × (reading ≡ read x) × (f x ≡ read y)
  steps f (read x) y h = (x, refl, h)
  steps f (refused refusal) y h = cc

  -- the test of a check that goes on passes
  pub checked : (test x : Bool) (refusal : R) → check test refusal ≡ read x → test ≡ true
  checked true x refusal h = refl
  checked false x refusal h = cc

  -- what holds of each reading of an item holds of each item of what a list is read as
  pub each_all : {A B : Type 0} (f : A → Reading R B) (P : B → Type 0) → ((x : A) (y : B) → f x ≡ read y → P y) → (xs : List A) (ys : List B) → each f xs ≡ read ys → AllByRecursion P ys
  unfolding each
  each_all f P holds [] ys h = rw (← (same_read [] ys h)) tt
  each_all f P holds (x ∷ xs) ys h =
      let first = steps _ (f x) ys h in
      let rest = steps _ (each f xs) ys first.2 in
      rw (← (same_read (first.0 ∷ rest.0) ys rest.2)) (holds x first.0 first.1, each_all f P holds xs rest.0 rest.1)
