-- A list that is read item by item, by a relation: what it may be read as, given the items that were read.
use Rattle.std.proofs.Common.{◌≡◌, ℕ, suc, ◌+◌, ◌<◌, ◌≤◌, List, [], ◌∷◌, ◌++◌, length, take, drop, get_or, map, refl, sym, ap, ◌∙◌, subst, arith}
use Rattle.std.specs.Prelude.{Option, Some, None}
use Rattle.std.proofs.lemmas.List.{take_more, take_all, drop_more, map-append, take-append-drop, length-map, length-take-le}
use Rattle.cpn_readings.specs.Reading.{Reading, read, refused}
use Rattle.cpn_readings.specs.Relations.{each_so, RefusesBy}
use Rattle.cpn_readings.proofs.Readings.{same_read}
use Rattle.cpn_readings.proofs.RelatedReadings.{then_read, then_refused, step_parts}

module _ {R A B : Type 0} (Reads : ℕ → A → Reading R B → Type 0) where
  -- each item of a list, numbered from a number on, may be read as the item at its position in another
  abbrev pub AreRead : ℕ → List A → List B → Type 0
  AreRead i [] [] = Unit {0}
  AreRead i (x ∷ xs) (y ∷ ys) = Reads i x (read y) × AreRead (suc i) xs ys
  AreRead i [] (y ∷ ys) = ⊥
  AreRead i (x ∷ xs) [] = ⊥

  later : (i k : ℕ) → i + suc k ≡ suc i + k
  later i k = omega arith

  -- one item more
  pub read_more : (i : ℕ) (xs : List A) (ys : List B) (x : A) (y : B) → AreRead i xs ys → Reads (i + length xs) x (read y) → AreRead i (xs ++ x ∷ []) (ys ++ y ∷ [])
  read_more i [] [] x y are h = (subst (λ k. Reads k x (read y)) (let e : i + 0 ≡ i = omega arith in e) h, tt)
  read_more i (z ∷ zs) (w ∷ ws) x y are h = (are.0, read_more (suc i) zs ws x y are.1 (subst (λ k. Reads k x (read y)) (later i (length zs)) h))
  read_more i [] (w ∷ ws) x y are h = absurd are
  read_more i (z ∷ zs) [] x y are h = absurd are

  -- all items
  pub all_read : (i : ℕ) (xs : List A) (ys : List B) → AreRead i xs ys → each_so Reads i xs (read ys)
  unfolding each_so
  all_read i [] [] are = refl
  all_read i (x ∷ xs) (y ∷ ys) are = then_read (Reads i x) _ y (read (y ∷ ys)) are.0 (then_read (each_so Reads (suc i) xs) _ ys (read (y ∷ ys)) (all_read (suc i) xs ys are.1) refl)
  all_read i [] (y ∷ ys) are = absurd are
  all_read i (x ∷ xs) [] are = absurd are

  -- where a list is read, so are its items
  pub each_read : (i : ℕ) (xs : List A) (ys : List B) → each_so Reads i xs (read ys) → AreRead i xs ys
  unfolding each_so
  each_read i [] ys h = subst (AreRead i []) (sym (same_read ys [] h)) tt
  each_read i (x ∷ xs) ys h =
      let first = step_parts (Reads i x) _ ys h in
      let rest = step_parts (each_so Reads (suc i) xs) _ ys first.2 in
      subst (AreRead i (x ∷ xs)) (sym (same_read ys (first.0 ∷ rest.0) rest.2)) (first.1, each_read (suc i) xs rest.0 rest.1)

  -- an item is refused behind those that were read, and so is the list
  pub item_refused : (i : ℕ) (xs : List A) (ys : List B) (x : A) (zs : List A) (refusal : R) → AreRead i xs ys → Reads (i + length xs) x (refused refusal) → each_so Reads i (xs ++ x ∷ zs) (refused refusal)
  unfolding each_so
  item_refused i [] [] x zs refusal are h = then_refused (Reads i x) _ refusal (subst (λ k. Reads k x (refused refusal)) (let e : i + 0 ≡ i = omega arith in e) h)
  item_refused i (z ∷ xs) (y ∷ ys) x zs refusal are h =
      then_read (Reads i z) _ y (refused refusal) are.0 (then_refused (each_so Reads (suc i) (xs ++ x ∷ zs)) _ refusal (item_refused (suc i) xs ys x zs refusal are.1 (subst (λ k. Reads k x (refused refusal)) (later i (length xs)) h)))
  item_refused i [] (y ∷ ys) x zs refusal are h = absurd are
  item_refused i (z ∷ xs) [] x zs refusal are h = absurd are

  -- ---- the items so far of a list of the program

  module _ {V : Type 0} (seen : V → A) (vs : List V) where
    module _ (i : ℕ) (v : V) (lt : i < length vs) (at : v ≡ get_or vs i v) (ys : List B) (are : AreRead 0 (map seen (take i vs)) ys) where
      number : 0 + length (map seen (take i vs)) ≡ i
      number = let long = length-map (take i vs) seen ∙ length-take-le i vs (omega (arith, lt)) in omega (arith, long)

      -- the item at a position is read
      pub related_more : (y : B) → Reads i (seen v) (read y) → AreRead 0 (map seen (take (i + 1) vs)) (ys ++ y ∷ [])
      related_more y h =
          rw (take_more vs i v lt, ← at, map-append seen (take i vs) (v ∷ [])) (read_more 0 (map seen (take i vs)) ys (seen v) y are (subst (λ k. Reads k (seen v) (read y)) (sym number) h))

      in_front : map seen (take i vs) ++ seen v ∷ map seen (drop (i + 1) vs) ≡ map seen vs
      in_front = sym (map-append seen (take i vs) (v ∷ drop (i + 1) vs)) ∙ ap (λ xs. map seen (take i vs ++ xs)) (ap (λ w. w ∷ drop (i + 1) vs) at ∙ sym (drop_more vs i v lt)) ∙ ap (map seen) (take-append-drop i vs)

      -- the item at a position is refused, and so is the list
      pub related_refused : (o : Option R) → RefusesBy (Reads i (seen v)) o → RefusesBy (each_so Reads 0 (map seen vs)) o
      related_refused None h = tt
      related_refused (Some refusal) h =
          subst (λ xs. each_so Reads 0 xs (refused refusal)) in_front
          (item_refused 0 (map seen (take i vs)) ys (seen v) (map seen (drop (i + 1) vs)) refusal are (subst (λ k. Reads k (seen v) (refused refusal)) (sym number) h))

    -- each item was read
    pub related_done : (i : ℕ) (ys : List B) → length vs ≤ i → AreRead 0 (map seen (take i vs)) ys → each_so Reads 0 (map seen vs) (read ys)
    related_done i ys past are = all_read 0 (map seen vs) ys (subst (λ xs. AreRead 0 (map seen xs) ys) (take_all i vs past) are)
