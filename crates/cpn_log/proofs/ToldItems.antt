-- One item more of a list that is gone through: what was told of those so far.
use Rattle.std.proofs.Common.{◌≡◌, ℕ, zero, suc, ◌+◌, ◌-◌, ◌<◌, ◌==◌, Bool, true, false, ◌&&◌, cond, Some, slice_get, arith, eqb-true, eq-eqb, List, [], ◌∷◌, ◌++◌, append_assoc, map, take, length, get_or, refl, sym, ap, ◌∙◌}
use Rattle.std.specs.List.{filter}
use Rattle.std.proofs.lemmas.List.{take_more}
use Rattle.std.proofs.lemmas.Option.{slice_get_within}
use Rattle.cpn_runs.specs.HoleRun.{PlainClaim}
use Rattle.cpn_tmset.specs.Changed.{PlainChange}
use Rattle.cpn_log.specs.Gathered.{and_then, each_once, same_change, ends_with, touched_by, touched}
use Rattle.cpn_log.proofs.EachOnce.{each_once_more}
use Rattle.cpn_definitions.proofs.ListItems.{map_more}

-- the items up to one more, each seen by another
pub seen_more : {X Y : Type 0} (f : X → Y) (xs : List X) (i : ℕ) (x : X) → i < length xs → x ≡ get_or xs i x → map f (take (i + 1) xs) ≡ map f (take i xs) ++ f x ∷ []
seen_more f xs i x within is = ap (map f) (take_more xs i x within ∙ ap (λ y. take i xs ++ y ∷ []) (sym is)) ∙ map_more f (take i xs) x

-- one more is told
pub told_more : {X Y : Type 0} (f : X → Y) (g : Y → PlainChange) (xs : List X) (i : ℕ) (x : X) (old new : List PlainChange) → i < length xs → x ≡ get_or xs i x
    → old ≡ each_once (map g (map f (take i xs))) → new ≡ and_then (g (f x)) old → new ≡ each_once (map g (map f (take (i + 1) xs)))
told_more f g xs i x old new within is so_far now =
    now ∙ ap (and_then (g (f x))) so_far ∙ sym (each_once_more (g (f x)) (map g (map f (take i xs)))) ∙ ap each_once (sym (ap (map g) (seen_more f xs i x within is) ∙ map_more g (map f (take i xs)) (f x)))

filter_more : (test : PlainChange → Bool) (cs : List PlainChange) (c : PlainChange) (b : Bool) → test c ≡ b → filter test (cs ++ c ∷ []) ≡ cond b (filter test cs ++ c ∷ []) (filter test cs)
filter_more test [] c true is = ap (λ b. cond b (c ∷ []) []) is
filter_more test [] c false is = ap (λ b. cond b (c ∷ []) []) is
filter_more test (d ∷ ds) c true is = split (test d) (filter_more test ds c true is)
  where
    split : (b : Bool) → filter test (ds ++ c ∷ []) ≡ filter test ds ++ c ∷ [] → cond b (d ∷ filter test (ds ++ c ∷ [])) (filter test (ds ++ c ∷ [])) ≡ cond b (d ∷ filter test ds) (filter test ds) ++ c ∷ []
    split true rest = ap (λ es. d ∷ es) rest
    split false rest = rest
filter_more test (d ∷ ds) c false is = split (test d) (filter_more test ds c false is)
  where
    split : (b : Bool) → filter test (ds ++ c ∷ []) ≡ filter test ds → cond b (d ∷ filter test (ds ++ c ∷ [])) (filter test (ds ++ c ∷ [])) ≡ cond b (d ∷ filter test ds) (filter test ds)
    split true rest = ap (λ es. d ∷ es) rest
    split false rest = rest

-- one more is told that passes the test, and none that doesn't
pub passed_more : {X : Type 0} (f : X → PlainChange) (test : PlainChange → Bool) (xs : List X) (i : ℕ) (x : X) (old new : List PlainChange) → i < length xs → x ≡ get_or xs i x
    → old ≡ each_once (filter test (map f (take i xs))) → test (f x) ≡ true → new ≡ and_then (f x) old → new ≡ each_once (filter test (map f (take (i + 1) xs)))
passed_more f test xs i x old new within is so_far passes now =
    now ∙ ap (and_then (f x)) so_far ∙ sym (each_once_more (f x) (filter test (map f (take i xs)))) ∙ ap each_once (sym (ap (filter test) (seen_more f xs i x within is) ∙ filter_more test (map f (take i xs)) (f x) true passes))

pub left_out_more : {X : Type 0} (f : X → PlainChange) (test : PlainChange → Bool) (xs : List X) (i : ℕ) (x : X) (old : List PlainChange) → i < length xs → x ≡ get_or xs i x
    → old ≡ each_once (filter test (map f (take i xs))) → test (f x) ≡ false → old ≡ each_once (filter test (map f (take (i + 1) xs)))
left_out_more f test xs i x old within is so_far fails =
    so_far ∙ ap each_once (sym (ap (filter test) (seen_more f xs i x within is) ∙ filter_more test (map f (take i xs)) (f x) false fails))

-- what one more claim touches
touched_joined : (cs : List PlainClaim) (c : PlainClaim) → touched (cs ++ c ∷ []) ≡ touched cs ++ touched_by c
touched_joined [] c = end (touched_by c)
  where
    end : (ds : List PlainChange) → ds ++ [] ≡ ds
    end [] = refl
    end (d ∷ ds) = ap (λ es. d ∷ es) (end ds)
touched_joined (d ∷ ds) c = ap (λ es. touched_by d ++ es) (touched_joined ds c) ∙ sym (append_assoc (touched_by d) (touched ds) (touched_by c))

pub touched_more : {X : Type 0} (f : X → PlainClaim) (xs : List X) (i : ℕ) (x : X) → i < length xs → x ≡ get_or xs i x → touched (map f (take (i + 1) xs)) ≡ touched (map f (take i xs)) ++ touched_by (f x)
touched_more f xs i x within is = ap touched (seen_more f xs i x within is) ∙ touched_joined (map f (take i xs)) (f x)

-- ---- the last item

-- whether the list ends with it is whether its last item is it
ends_at : {X : Type 0} (view : X → PlainChange) (xs : List X) (n : ℕ) (x : X) (c : PlainChange) → n + 1 ≡ length xs → slice_get xs n ≡ Some x → ends_with c (map view xs) ≡ same_change c (view x)
ends_at view [] n x c long is = absurd (omega arith)
ends_at view (y ∷ []) zero x c long is = let same : y ≡ x = cc in ap (λ z. same_change c (view z)) same
ends_at view (y ∷ []) (suc n) x c long is = absurd (omega arith)
ends_at view (y ∷ z ∷ zs) zero x c long is = absurd (omega arith)
ends_at view (y ∷ z ∷ zs) (suc n) x c long is = ends_at view (z ∷ zs) n x c (omega arith) is

pub last_is : {X : Type 0} (view : X → PlainChange) (xs : List X) (x : X) (c : PlainChange) → Some x ≡ slice_get xs (length xs - 1) → ends_with c (map view xs) ≡ same_change c (view x)
last_is view xs x c is = let within = slice_get_within xs (length xs - 1) x (sym is) in ends_at view xs (length xs - 1) x c (omega (arith, within)) (sym is)

-- of one on the same place, and of one on another
pub same_on_place : (p q : ℕ) (b : Bool) → p ≡ q → ((p == q) && b) ≡ b
same_on_place p q b same = ap (λ a. a && b) (eq-eqb p q same)

pub none_on_place : (p q : ℕ) (b : Bool) → (p ≡ q → ⊥) → (p == q) ≡ ((p == q) && b)
none_on_place p q b other = split (p == q) refl
  where
    split : (a : Bool) → (p == q) ≡ a → a ≡ (a && b)
    split true is = absurd (other (eqb-true p q is))
    split false is = refl
