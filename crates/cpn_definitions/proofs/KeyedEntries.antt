-- Entries in the order of their keys, seen by what their keys stand for: a change of the entries is the same change of what is
-- seen, and what is found at each key afterwards.
use Rattle.std.proofs.Common.{◌≡◌, Bool, true, false, cond, List, [], ◌∷◌, map, Option, Some, None, refl, sym, ap, subst, ◌∙◌, true≢false, Ordering, Less, Equal, Greater, is_eq}
use Rattle.std.specs.List.{AllByRecursion}
use Rattle.std.specs.List.Sorted.{IsStrictlySortedBy}
use Rattle.std.specs.Ordering.{match_ordering}
use Rattle.std.specs.Cmp.{IsTotalOrder}
use Rattle.std.specs.Map.{keys_of, lookup, remove_entry, set_value}
use Rattle.std.specs.BTreeMap.{insert_entry, is_at}
use Rattle.std.proofs.lemmas.Bool.{cond-true, cond-false}
use Rattle.std.proofs.lemmas.Cmp.{alike_right}
use Rattle.std.proofs.lemmas.Map.Keys.{sorted_head, sorted_tail}
use Rattle.cpn_definitions.specs.Lists.{Rises}

-- the entries, each key as what it stands for
abbrev pub seen : {K B X : Type 0} → (K → B) → List (K × X) → List (B × X)
seen f es = map (λ e. (f e.0, e.1)) es

-- entries of rising keys
abbrev pub KeysRise : {B X : Type 0} → (B → B → Ordering) → List (B × X) → Type 0
KeysRise C es = Rises (λ d e. C d.0 e.0) es

module _ {K B X : Type 0} (f : K → B) (C : B → B → Ordering) where
  pub seen_insert : (es : List (K × X)) (k : K) (x : X) → seen f (insert_entry (λ a b. C (f a) (f b)) es k x) ≡ insert_entry C (seen f es) (f k) x
  seen_insert [] k x = refl
  seen_insert (e ∷ es) k x = split (C (f k) (f e.0)) (seen_insert es k x)
    where
      split : (o : Ordering) → seen f (insert_entry (λ a b. C (f a) (f b)) es k x) ≡ insert_entry C (seen f es) (f k) x
          → seen f (match_ordering o ((k, x) ∷ e ∷ es) ((e.0, x) ∷ es) (e ∷ insert_entry (λ a b. C (f a) (f b)) es k x))
          ≡ match_ordering o ((f k, x) ∷ (f e.0, e.1) ∷ seen f es) ((f e.0, x) ∷ seen f es) ((f e.0, e.1) ∷ insert_entry C (seen f es) (f k) x)
      split Less rest = refl
      split Equal rest = refl
      split Greater rest = ap (λ fs. (f e.0, e.1) ∷ fs) rest

  pub seen_remove : (q : B) (es : List (K × X)) → seen f (remove_entry (is_at (λ k. C q (f k))) es) ≡ remove_entry (is_at (C q)) (seen f es)
  seen_remove q [] = refl
  seen_remove q (e ∷ es) = split (is_eq (C q (f e.0))) (seen_remove q es)
    where
      split : (b : Bool) → seen f (remove_entry (is_at (λ k. C q (f k))) es) ≡ remove_entry (is_at (C q)) (seen f es)
          → seen f (cond b es (e ∷ remove_entry (is_at (λ k. C q (f k))) es)) ≡ cond b (seen f es) ((f e.0, e.1) ∷ remove_entry (is_at (C q)) (seen f es))
      split true rest = refl
      split false rest = ap (λ fs. (f e.0, e.1) ∷ fs) rest

  pub seen_set : (q : B) (es : List (K × X)) (x : X) → seen f (set_value (is_at (λ k. C q (f k))) es x) ≡ set_value (is_at (C q)) (seen f es) x
  seen_set q [] x = refl
  seen_set q (e ∷ es) x = split (is_eq (C q (f e.0))) (seen_set q es x)
    where
      split : (b : Bool) → seen f (set_value (is_at (λ k. C q (f k))) es x) ≡ set_value (is_at (C q)) (seen f es) x
          → seen f (cond b ((e.0, x) ∷ es) (e ∷ set_value (is_at (λ k. C q (f k))) es x)) ≡ cond b ((f e.0, x) ∷ seen f es) ((f e.0, e.1) ∷ set_value (is_at (C q)) (seen f es) x)
      split true rest = refl
      split false rest = ap (λ fs. (f e.0, e.1) ∷ fs) rest

  pub seen_lookup : (q : B) (es : List (K × X)) → lookup (is_at (λ k. C q (f k))) es ≡ lookup (is_at (C q)) (seen f es)
  seen_lookup q [] = refl
  seen_lookup q (e ∷ es) = ap (λ o. cond (is_eq (C q (f e.0))) (Some e.1) o) (seen_lookup q es)

  -- keys in order rise
  pub seen_rises : (es : List (K × X)) → IsStrictlySortedBy (λ a b. C (f a) (f b)) (keys_of es) → KeysRise C (seen f es)
  seen_rises [] sorted = tt
  seen_rises (e ∷ es) sorted = (first es (sorted_head (λ a b. C (f a) (f b)) e.0 (keys_of es) sorted), seen_rises es (sorted_tail (λ a b. C (f a) (f b)) e.0 (keys_of es) sorted))
    where
      first : (fs : List (K × X)) → AllByRecursion (λ y. C (f e.0) (f y) ≡ Less) (keys_of fs) → AllByRecursion (λ d. C (f e.0) d.0 ≡ Less) (seen f fs)
      first [] all = tt
      first (g ∷ gs) all = (all.0, first gs all.1)

-- keys in order rise
pub rises_from : {B X : Type 0} (C : B → B → Ordering) (es : List (B × X)) → IsStrictlySortedBy C (keys_of es) → KeysRise C es
rises_from C [] sorted = tt
rises_from {B = B} {X = X} C (e ∷ es) sorted = (first es (sorted_head C e.0 (keys_of es) sorted), rises_from C es (sorted_tail C e.0 (keys_of es) sorted))
  where
    first : (fs : List (B × X)) → AllByRecursion (λ y. C e.0 y ≡ Less) (keys_of fs) → AllByRecursion (λ d. C e.0 d.0 ≡ Less) fs
    first [] all = tt
    first (g ∷ gs) all = (all.0, first gs all.1)

-- ---- what is found afterwards

pub equal_from : (o : Ordering) → is_eq o ≡ true → o ≡ Equal
equal_from Equal h = refl
equal_from o h = cc

module _ {B X : Type 0} (C : B → B → Ordering) (total : IsTotalOrder C) where
  -- nothing is found at a key below all of them
  pub none_below : (w : B) (e : B × X) (es : List (B × X)) → KeysRise C (e ∷ es) → C w e.0 ≡ Less → lookup (is_at (C w)) (e ∷ es) ≡ None
  none_below w e es rises h = cond-false (is_eq (C w e.0)) (Some e.1) (lookup (is_at (C w)) es) (ap is_eq h) ∙ none es rises.0
    where
      none : (fs : List (B × X)) → AllByRecursion (λ d. C e.0 d.0 ≡ Less) fs → lookup (is_at (C w)) fs ≡ None
      none [] all = refl
      none (g ∷ gs) all = cond-false (is_eq (C w g.0)) (Some g.1) (lookup (is_at (C w)) gs) (ap is_eq (total.trans w e.0 g.0 h all.0)) ∙ none gs all.1

  -- nor at the first key, among those behind it
  pub none_behind : (w : B) (e : B × X) (es : List (B × X)) → KeysRise C (e ∷ es) → C w e.0 ≡ Equal → lookup (is_at (C w)) es ≡ None
  none_behind w e es rises h = none es rises.0
    where
      none : (fs : List (B × X)) → AllByRecursion (λ d. C e.0 d.0 ≡ Less) fs → lookup (is_at (C w)) fs ≡ None
      none [] all = refl
      none (g ∷ gs) all = cond-false (is_eq (C w g.0)) (Some g.1) (lookup (is_at (C w)) gs) (ap is_eq (total.congr w e.0 g.0 h ∙ all.0)) ∙ none gs all.1

  pub after_insert : (w v : B) (x : X) (es : List (B × X)) → lookup (is_at (C w)) (insert_entry C es v x) ≡ cond (is_eq (C w v)) (Some x) (lookup (is_at (C w)) es)
  after_insert w v x [] = refl
  after_insert w v x (e ∷ es) = split (C v e.0) refl (after_insert w v x es)
    where
      at : Ordering → List (B × X)
      at o = match_ordering o ((v, x) ∷ e ∷ es) ((e.0, x) ∷ es) (e ∷ insert_entry C es v x)

      later : (b c : Bool) → (b ≡ true → c ≡ false) → lookup (is_at (C w)) (insert_entry C es v x) ≡ cond b (Some x) (lookup (is_at (C w)) es) → cond c (Some e.1) (lookup (is_at (C w)) (insert_entry C es v x)) ≡ cond b (Some x) (cond c (Some e.1) (lookup (is_at (C w)) es))
      later true true not rest = absurd (true≢false (not refl))
      later true false not rest = rest
      later false true not rest = refl
      later false false not rest = rest

      split : (o : Ordering) → C v e.0 ≡ o → lookup (is_at (C w)) (insert_entry C es v x) ≡ cond (is_eq (C w v)) (Some x) (lookup (is_at (C w)) es)
          → lookup (is_at (C w)) (at o) ≡ cond (is_eq (C w v)) (Some x) (lookup (is_at (C w)) (e ∷ es))
      split Less h rest = refl
      split Equal h rest =
          ap (λ o. cond (is_eq o) (Some x) (lookup (is_at (C w)) es)) (sym (alike_right total v e.0 w h))
          ∙ same (is_eq (C w v)) (ap is_eq (alike_right total v e.0 w h))
        where
          same : (b : Bool) → b ≡ is_eq (C w e.0) → cond b (Some x) (lookup (is_at (C w)) es) ≡ cond b (Some x) (cond (is_eq (C w e.0)) (Some e.1) (lookup (is_at (C w)) es))
          same true g = refl
          same false g = sym (cond-false (is_eq (C w e.0)) (Some e.1) (lookup (is_at (C w)) es) (sym g))
      split Greater h rest = later (is_eq (C w v)) (is_eq (C w e.0)) (λ g. ap is_eq (total.congr w v e.0 (equal_from (C w v) g) ∙ h)) rest

  pub after_set : (w v : B) (x y : X) (es : List (B × X)) → lookup (is_at (C v)) es ≡ Some y → lookup (is_at (C w)) (set_value (is_at (C v)) es x) ≡ cond (is_eq (C w v)) (Some x) (lookup (is_at (C w)) es)
  after_set w v x y [] found = cc
  after_set w v x y (e ∷ es) found = split (is_eq (C v e.0)) refl (after_set w v x y es)
    where
      later : (b c : Bool) → (b ≡ true → c ≡ false) → lookup (is_at (C w)) (set_value (is_at (C v)) es x) ≡ cond b (Some x) (lookup (is_at (C w)) es) → cond c (Some e.1) (lookup (is_at (C w)) (set_value (is_at (C v)) es x)) ≡ cond b (Some x) (cond c (Some e.1) (lookup (is_at (C w)) es))
      later true true not rest = absurd (true≢false (not refl))
      later true false not rest = rest
      later false true not rest = refl
      later false false not rest = rest

      same : (b c : Bool) → b ≡ c → cond c (Some x) (lookup (is_at (C w)) es) ≡ cond b (Some x) (cond c (Some e.1) (lookup (is_at (C w)) es))
      same true true g = refl
      same false false g = refl
      same b c g = cc

      split : (b : Bool) → is_eq (C v e.0) ≡ b → (lookup (is_at (C v)) es ≡ Some y → lookup (is_at (C w)) (set_value (is_at (C v)) es x) ≡ cond (is_eq (C w v)) (Some x) (lookup (is_at (C w)) es))
          → lookup (is_at (C w)) (cond b ((e.0, x) ∷ es) (e ∷ set_value (is_at (C v)) es x)) ≡ cond (is_eq (C w v)) (Some x) (lookup (is_at (C w)) (e ∷ es))
      split true h rest = same (is_eq (C w v)) (is_eq (C w e.0)) (ap is_eq (alike_right total v e.0 w (equal_from (C v e.0) h)))
      split false h rest =
          later (is_eq (C w v)) (is_eq (C w e.0)) (λ g. ap is_eq (total.congr w v e.0 (equal_from (C w v) g)) ∙ h)
          (rest (sym (cond-false (is_eq (C v e.0)) (Some e.1) (lookup (is_at (C v)) es) h) ∙ found))

  pub after_remove : (w v : B) (es : List (B × X)) → KeysRise C es → lookup (is_at (C w)) (remove_entry (is_at (C v)) es) ≡ cond (is_eq (C w v)) None (lookup (is_at (C w)) es)
  after_remove w v [] rises = none None (is_eq (C w v))
    where
      none : (o : Option X) (b : Bool) → o ≡ cond b o o
      none o true = refl
      none o false = refl
  after_remove w v (e ∷ es) rises = split (is_eq (C v e.0)) refl (after_remove w v es rises.1)
    where
      later : (b c : Bool) → (b ≡ true → c ≡ false) → lookup (is_at (C w)) (remove_entry (is_at (C v)) es) ≡ cond b None (lookup (is_at (C w)) es) → cond c (Some e.1) (lookup (is_at (C w)) (remove_entry (is_at (C v)) es)) ≡ cond b None (cond c (Some e.1) (lookup (is_at (C w)) es))
      later true true not rest = absurd (true≢false (not refl))
      later true false not rest = rest
      later false true not rest = refl
      later false false not rest = rest

      here : (b c : Bool) → b ≡ c → (c ≡ true → lookup (is_at (C w)) es ≡ None) → lookup (is_at (C w)) es ≡ cond b None (cond c (Some e.1) (lookup (is_at (C w)) es))
      here true true g gone = gone refl
      here false false g gone = refl
      here b c g gone = cc

      split : (b : Bool) → is_eq (C v e.0) ≡ b → lookup (is_at (C w)) (remove_entry (is_at (C v)) es) ≡ cond (is_eq (C w v)) None (lookup (is_at (C w)) es)
          → lookup (is_at (C w)) (cond b es (e ∷ remove_entry (is_at (C v)) es)) ≡ cond (is_eq (C w v)) None (lookup (is_at (C w)) (e ∷ es))
      split true h rest =
          here (is_eq (C w v)) (is_eq (C w e.0)) (ap is_eq (alike_right total v e.0 w (equal_from (C v e.0) h)))
          (λ g. none_behind w e es rises (equal_from (C w e.0) g))
      split false h rest = later (is_eq (C w v)) (is_eq (C w e.0)) (λ g. ap is_eq (total.congr w v e.0 (equal_from (C w v) g)) ∙ h) rest

-- ---- what holds of each value

module _ {B X : Type 0} (C : B → B → Ordering) (P : X → Type 0) where
  pub each_inserted : (v : B) (x : X) (es : List (B × X)) → P x → AllByRecursion (λ e. P e.1) es → AllByRecursion (λ e. P e.1) (insert_entry C es v x)
  each_inserted v x [] new all = (new, tt)
  each_inserted v x (e ∷ es) new all = split (C v e.0) (each_inserted v x es new all.1)
    where
      split : (o : Ordering) → AllByRecursion (λ e. P e.1) (insert_entry C es v x) → AllByRecursion (λ e. P e.1) (match_ordering o ((v, x) ∷ e ∷ es) ((e.0, x) ∷ es) (e ∷ insert_entry C es v x))
      split Less rest = (new, all)
      split Equal rest = (new, all.1)
      split Greater rest = (all.0, rest)

  pub each_set : (v : B) (x : X) (es : List (B × X)) → P x → AllByRecursion (λ e. P e.1) es → AllByRecursion (λ e. P e.1) (set_value (is_at (C v)) es x)
  each_set v x [] new all = tt
  each_set v x (e ∷ es) new all = split (is_eq (C v e.0)) (each_set v x es new all.1)
    where
      split : (b : Bool) → AllByRecursion (λ e. P e.1) (set_value (is_at (C v)) es x) → AllByRecursion (λ e. P e.1) (cond b ((e.0, x) ∷ es) (e ∷ set_value (is_at (C v)) es x))
      split true rest = (new, all.1)
      split false rest = (all.0, rest)

  pub each_left : (v : B) (es : List (B × X)) → AllByRecursion (λ e. P e.1) es → AllByRecursion (λ e. P e.1) (remove_entry (is_at (C v)) es)
  each_left v [] all = tt
  each_left v (e ∷ es) all = split (is_eq (C v e.0)) (each_left v es all.1)
    where
      split : (b : Bool) → AllByRecursion (λ e. P e.1) (remove_entry (is_at (C v)) es) → AllByRecursion (λ e. P e.1) (cond b es (e ∷ remove_entry (is_at (C v)) es))
      split true rest = all.1
      split false rest = (all.0, rest)

  -- and so of one that is found
  pub of_found : (v : B) (x : X) (es : List (B × X)) → AllByRecursion (λ e. P e.1) es → lookup (is_at (C v)) es ≡ Some x → P x
  of_found v x [] all found = cc
  of_found v x (e ∷ es) all found = split (is_eq (C v e.0)) refl (of_found v x es all.1)
    where
      split : (b : Bool) → is_eq (C v e.0) ≡ b → (lookup (is_at (C v)) es ≡ Some x → P x) → P x
      split true h rest = let same : e.1 ≡ x = (let g : Some e.1 ≡ Some x = sym (cond-true (is_eq (C v e.0)) (Some e.1) (lookup (is_at (C v)) es) h) ∙ found in cc) in subst P same all.0
      split false h rest = rest (sym (cond-false (is_eq (C v e.0)) (Some e.1) (lookup (is_at (C v)) es) h) ∙ found)
