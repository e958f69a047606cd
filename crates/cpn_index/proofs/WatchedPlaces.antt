-- The elements that wait on each place, after what waits on one place has changed; and after some of the needs of an element.
use Rattle.std.proofs.Common.{◌≡◌, ℕ, ◌+◌, ◌<◌, ◌==◌, not, Bool, true, false, ◌&&◌, ◌||◌, cond, List, [], ◌∷◌, ◌++◌, length, drop, get_or, Option, refl, sym, ap, ◌∙◌, slice_get, slice_set, option_map, eqb-true, eq-eqb, ⊎_elim}
use Rattle.std.specs.List.{AllByRecursion}
use Rattle.std.specs.Option.{unwrap_or}
use Rattle.std.proofs.lemmas.List.{drop_more}
use Rattle.std.proofs.lemmas.Bool.{cases_lt}
use Rattle.std.proofs.lemmas.Option.{slice_get_read, slice_get_past}
use Rattle.cpn_definitions.specs.Value.{PlainValue}
use Rattle.cpn_definitions.specs.Order.{same_value}
use Rattle.cpn_definitions.specs.Occurrence as plain
use Rattle.cpn_definitions.specs.Occurrence.{PlainElement}
use Rattle.cpn_definitions.proofs.ListItems.{set_there, set_elsewhere}
use Rattle.cpn_core.specs.declared.needed.Needed.{Needed}
use Rattle.cpn_core.specs.NeedsViews.{needed_view, needed_views}
use Rattle.cpn_index.specs.Waiting.{waiting_for, has_watcher}
use Rattle.cpn_index.specs.Watchers.{is_needed, waiting_on}
use Rattle.cpn_index.specs.declared.waiting.Waiting.{Waiting}

-- what waits on each place
abbrev pub Places : Type 0
Places = List Waiting

-- whether the element waits for the value on the place
abbrev pub waits : Places → ℕ → PlainValue → PlainElement → Bool
waits places p v e = has_watcher e (waiting_for v (waiting_on p places))

-- and on one place
abbrev pub waits_in : Waiting → PlainValue → PlainElement → Bool
waits_in place v e = has_watcher e (waiting_for v place.sets.entries)

-- one place has changed
changed_on : (places : Places) (i p : ℕ) (new : Waiting) (v : PlainValue) (e : PlainElement) → i < length places → waits (slice_set places i new) p v e ≡ cond (p == i) (waits_in new v e) (waits places p v e)
changed_on places i p new v e within = split (p == i) refl
  where
    at : Option Waiting → Bool
    at o = has_watcher e (waiting_for v (unwrap_or (option_map (λ place. place.sets.entries) o) []))

    split : (b : Bool) → (p == i) ≡ b → waits (slice_set places i new) p v e ≡ cond b (waits_in new v e) (waits places p v e)
    split true is = let same : p ≡ i = eqb-true p i is in ap at (ap (slice_get (slice_set places i new)) same ∙ set_there places i new within)
    split false is = ap at (set_elsewhere places i p new (λ (same : i ≡ p). let yes : (p == i) ≡ true = eq-eqb p i (sym same) in cc))

-- ---- tests

-- a test that adds to what was there
put_there : (s b x y : Bool) → x ≡ ((s && b) || y) → (at : Bool) → cond at x y ≡ ((s && (at && b)) || y)
put_there s b x y is true = is
put_there true b x y is false = refl
put_there false b x y is false = refl

-- and one that takes away
taken_there : (s b x y : Bool) → x ≡ (not (s && b) && y) → (at : Bool) → cond at x y ≡ (not (s && (at && b)) && y)
taken_there s b x y is true = is
taken_there true b x y is false = refl
taken_there false b x y is false = refl

put_next : (s first later x : Bool) → ((s && later) || ((s && first) || x)) ≡ ((s && (first || later)) || x)
put_next true true true x = refl
put_next true true false x = refl
put_next true false later x = refl
put_next false first later x = refl

taken_next : (s first later x : Bool) → (not (s && later) && (not (s && first) && x)) ≡ (not (s && (first || later)) && x)
taken_next true true true x = refl
taken_next true true false x = refl
taken_next true false later x = refl
taken_next false first later x = refl

-- ---- one place has changed

module _ (places : Places) (i : ℕ) (old new : Waiting) (within : i < length places) (was : old ≡ get_or places i old) (v w : PlainValue) (e : PlainElement) (s : Bool) (p : ℕ) where
  -- what waited there
  before : (p == i) ≡ true → waits places p v e ≡ waits_in old v e
  before here = ap at (ap (slice_get places) (eqb-true p i here) ∙ slice_get_read places (length places) i old refl within was)
    where
      at : Option Waiting → Bool
      at o = has_watcher e (waiting_for v (unwrap_or (option_map (λ place. place.sets.entries) o) []))

  pub put_on : waits_in new v e ≡ ((s && same_value v w) || waits_in old v e) → waits (slice_set places i new) p v e ≡ ((s && ((p == i) && same_value v w)) || waits places p v e)
  put_on put = changed_on places i p new v e within ∙ split (p == i) before
    where
      split : (b : Bool) → (b ≡ true → waits places p v e ≡ waits_in old v e) → cond b (waits_in new v e) (waits places p v e) ≡ ((s && (b && same_value v w)) || waits places p v e)
      split true was' = put_there s (same_value v w) (waits_in new v e) (waits places p v e) (put ∙ ap (λ x. (s && same_value v w) || x) (sym (was' refl))) true
      split false was' = put_there s (same_value v w) ((s && same_value v w) || waits places p v e) (waits places p v e) refl false

  pub taken_on : waits_in new v e ≡ (not (s && same_value v w) && waits_in old v e) → waits (slice_set places i new) p v e ≡ (not (s && ((p == i) && same_value v w)) && waits places p v e)
  taken_on taken = changed_on places i p new v e within ∙ split (p == i) before
    where
      split : (b : Bool) → (b ≡ true → waits places p v e ≡ waits_in old v e) → cond b (waits_in new v e) (waits places p v e) ≡ (not (s && (b && same_value v w)) && waits places p v e)
      split true was' = taken_there s (same_value v w) (waits_in new v e) (waits places p v e) (taken ∙ ap (λ x. not (s && same_value v w) && x) (sym (was' refl))) true
      split false was' = taken_there s (same_value v w) (not (s && same_value v w) && waits places p v e) (waits places p v e) refl false

-- nothing waits past the last place
pub taken_past : (places : Places) (i : ℕ) → (i < length places → ⊥) → (p : ℕ) (v w : PlainValue) (e : PlainElement) (s : Bool) → waits places p v e ≡ (not (s && ((p == i) && same_value v w)) && waits places p v e)
taken_past places i past p v w e s = split (p == i) here
  where
    at : Option Waiting → Bool
    at o = has_watcher e (waiting_for v (unwrap_or (option_map (λ place. place.sets.entries) o) []))

    here : (p == i) ≡ true → waits places p v e ≡ false
    here same = ap at (ap (slice_get places) (eqb-true p i same) ∙ slice_get_past places i (⊎_elim (λ lt. absurd (past lt)) (λ ge. ge) (cases_lt i (length places))))

    none : (b x : Bool) → x ≡ false → x ≡ (b && x)
    none true x is = refl
    none false x is = is

    split : (b : Bool) → (b ≡ true → waits places p v e ≡ false) → waits places p v e ≡ (not (s && (b && same_value v w)) && waits places p v e)
    split true gone = none (not (s && (true && same_value v w))) (waits places p v e) (gone refl)
    split false gone = taken_there s (same_value v w) (not (s && same_value v w) && waits places p v e) (waits places p v e) refl false

-- ---- one need more

module _ (needs : List Needed) (i : ℕ) (need : Needed) (within : i < length needs) (is : need ≡ get_or needs i need) where
  -- the needs that are left begin with it
  pub needs_next : needed_views (drop i needs) ≡ needed_view need ∷ needed_views (drop (i + 1) needs)
  needs_next = ap needed_views (drop_more needs i need within ∙ ap (λ (n : Needed). n ∷ drop (i + 1) needs) (sym is))

  pub put_step
      : (p : ℕ) (v : PlainValue) (s all : Bool) (old new : Bool)
      → new ≡ ((s && ((p == need.place) && same_value v (needed_view need).value)) || old)
      → ((s && is_needed p v (needed_views (drop i needs))) || old) ≡ all
      → ((s && is_needed p v (needed_views (drop (i + 1) needs))) || new) ≡ all
  put_step p v s all old new put so_far =
      ap (λ x. (s && is_needed p v (needed_views (drop (i + 1) needs))) || x) put
      ∙ put_next s ((p == need.place) && same_value v (needed_view need).value) (is_needed p v (needed_views (drop (i + 1) needs))) old
      ∙ ap (λ (ns : List plain.Needed). (s && is_needed p v ns) || old) (sym needs_next) ∙ so_far

  pub taken_step
      : (p : ℕ) (v : PlainValue) (s all : Bool) (old new : Bool)
      → new ≡ (not (s && ((p == need.place) && same_value v (needed_view need).value)) && old)
      → (not (s && is_needed p v (needed_views (drop i needs))) && old) ≡ all
      → (not (s && is_needed p v (needed_views (drop (i + 1) needs))) && new) ≡ all
  taken_step p v s all old new taken so_far =
      ap (λ x. not (s && is_needed p v (needed_views (drop (i + 1) needs))) && x) taken
      ∙ taken_next s ((p == need.place) && same_value v (needed_view need).value) (is_needed p v (needed_views (drop (i + 1) needs))) old
      ∙ ap (λ (ns : List plain.Needed). not (s && is_needed p v ns) && old) (sym needs_next) ∙ so_far

-- ---- places on which nothing waits

abbrev pub IsUnwatched : Waiting → Type 0
IsUnwatched place = place.sets.entries ≡ []

-- one place more
pub unwatched_more : (places : Places) (place : Waiting) → AllByRecursion IsUnwatched places → IsUnwatched place → AllByRecursion IsUnwatched (places ++ place ∷ [])
unwatched_more [] place all none = (none, tt)
unwatched_more (p ∷ ps) place all none = (all.0, unwatched_more ps place all.1 none)
