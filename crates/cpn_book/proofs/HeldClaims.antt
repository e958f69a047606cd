-- The open claim of a seat: whether it has one, and what becomes of it when claims are made, completed or cut.
use Rattle.std.proofs.Common.{◌≡◌, ℕ, zero, suc, ◌+◌, ◌≤◌, ◌||◌, Bool, true, false, cond, List, [], ◌∷◌, ◌++◌, length, take, Option, Some, None, refl, sym, ap, ◌∙◌, subst, arith, slice_get, slice_set, count_by}
use Rattle.std.specs.List.{list_any}
use Rattle.std.specs.Option.{option_map}
use Rattle.std.specs.Prelude.{nat_lt}
use Rattle.std.proofs.lemmas.Bool.{cond-false, cond-true, or_parts, le-ltb, lt-ltb}
use Rattle.std.proofs.lemmas.List.Sums.{sum_by-cons}
use Rattle.cpn_runs.specs.HoleRun.{PlainClaim}
use Rattle.cpn_runs.specs.State.{is_held_by}
use Rattle.cpn_runs.proofs.Cuts.{AreDone, done_is_not_open}
use Rattle.cpn_book.specs.Held.{held_from, held_below, AreHeld}

-- ---- whether a seat has one

none_in : (b : Bool) (o : Option ℕ) (c : Bool) (k : ℕ) → cond b (Some k) o ≡ None → (o ≡ None → c ≡ false) → (b || c) ≡ false
none_in true o c k none rest = cc
none_in false o c k none rest = rest none

pub none_held : (k seat : ℕ) (claims : List PlainClaim) → held_from k seat claims ≡ None → list_any (is_held_by seat) claims ≡ false
none_held k seat [] none = refl
none_held k seat (claim ∷ claims) none = none_in (is_held_by seat claim) (held_from (suc k) seat claims) (list_any (is_held_by seat) claims) k none (λ h. none_held (suc k) seat claims h)

pub held_none : (k seat : ℕ) (claims : List PlainClaim) → list_any (is_held_by seat) claims ≡ false → held_from k seat claims ≡ None
held_none k seat [] none = refl
held_none k seat (claim ∷ claims) none =
    let parts = or_parts (is_held_by seat claim) (list_any (is_held_by seat) claims) none in
    cond-false (is_held_by seat claim) (Some k) (held_from (suc k) seat claims) parts.0 ∙ held_none (suc k) seat claims parts.1

-- what a seat holds: an open claim of its own, at that number
pub record IsItsClaim (k seat : ℕ) (claims : List PlainClaim) (number : ℕ) : Type 0 where
  pub place : ℕ
  pub is : number ≡ k + place
  pub claim : PlainClaim
  pub stands : slice_get claims place ≡ Some claim
  pub held : is_held_by seat claim ≡ true

pub its_claim : (k seat : ℕ) (claims : List PlainClaim) (number : ℕ) → held_from k seat claims ≡ Some number → IsItsClaim k seat claims number
its_claim k seat [] number h = cc
its_claim k seat (claim ∷ claims) number h = split (is_held_by seat claim) refl (λ deeper. its_claim (suc k) seat claims number deeper)
  where
    first : (b : Bool) → b ≡ true → cond b (Some k) (held_from (suc k) seat claims) ≡ Some number → number ≡ k
    first true is e = let same : k ≡ number = cc in sym same
    first false is e = cc

    split : (b : Bool) → is_held_by seat claim ≡ b → (held_from (suc k) seat claims ≡ Some number → IsItsClaim (suc k) seat claims number) → IsItsClaim k seat (claim ∷ claims) number
    split true is later = record { place = 0; is = let e = first (is_held_by seat claim) is h in omega (arith, e); claim = claim; stands = refl; held = is }
    split false is later =
        let deeper = later (sym (cond-false (is_held_by seat claim) (Some k) (held_from (suc k) seat claims) is) ∙ h) in
        record { place = suc deeper.place; is = omega (arith, deeper.is); claim = deeper.claim; stands = deeper.stands; held = deeper.held }

-- ---- claims that are done

pub done_hold_none : (k seat : ℕ) (claims : List PlainClaim) → AreDone claims → held_from k seat claims ≡ None
done_hold_none k seat [] done = refl
done_hold_none k seat (claim ∷ claims) done =
    cond-false (is_held_by seat claim) (Some k) (held_from (suc k) seat claims) (rw (done_is_not_open claim.status done.0) refl) ∙ done_hold_none (suc k) seat claims done.1

-- ---- one claim more

pub held_more : (k seat : ℕ) (claims : List PlainClaim) (claim : PlainClaim) → list_any (is_held_by seat) claims ≡ false → held_from k seat (claims ++ claim ∷ []) ≡ cond (is_held_by seat claim) (Some (k + length claims)) None
held_more k seat [] claim none = let e : k + 0 ≡ k = omega arith in ap (λ n. cond (is_held_by seat claim) (Some n) None) (sym e)
held_more k seat (c ∷ claims) claim none =
    let parts = or_parts (is_held_by seat c) (list_any (is_held_by seat) claims) none in
    let later : suc k + length claims ≡ k + suc (length claims) = omega arith in
    cond-false (is_held_by seat c) (Some k) (held_from (suc k) seat (claims ++ claim ∷ [])) parts.0
    ∙ held_more (suc k) seat claims claim parts.1
    ∙ ap (λ n. cond (is_held_by seat claim) (Some n) None) later

-- of a seat that doesn't make it nothing changes
pub held_by_another : (k seat : ℕ) (claims : List PlainClaim) (claim : PlainClaim) → is_held_by seat claim ≡ false → held_from k seat (claims ++ claim ∷ []) ≡ held_from k seat claims
held_by_another k seat [] claim other = cond-false (is_held_by seat claim) (Some k) None other
held_by_another k seat (c ∷ claims) claim other = ap (cond (is_held_by seat c) (Some k)) (held_by_another (suc k) seat claims claim other)

-- ---- a claim changes

pub held_changed : (k seat i : ℕ) (claims : List PlainClaim) (old new : PlainClaim) → slice_get claims i ≡ Some old → is_held_by seat old ≡ false → is_held_by seat new ≡ false → held_from k seat (slice_set claims i new) ≡ held_from k seat claims
held_changed k seat i [] old new at was not = cc
held_changed k seat zero (c ∷ claims) old new at was not =
    let same : c ≡ old = cc in
    cond-false (is_held_by seat new) (Some k) (held_from (suc k) seat claims) not
    ∙ sym (cond-false (is_held_by seat c) (Some k) (held_from (suc k) seat claims) (ap (is_held_by seat) same ∙ was))
held_changed k seat (suc i) (c ∷ claims) old new at was not = ap (cond (is_held_by seat c) (Some k)) (held_changed (suc k) seat i claims old new at was not)

-- ---- how many claims are such

pub counted : (p : PlainClaim → Bool) (c : PlainClaim) (claims : List PlainClaim) → count_by p (c ∷ claims) ≡ cond (p c) 1 0 + count_by p claims
counted p c claims = sum_by-cons (λ y. cond (p y) 1 0) c claims

pub none_counted : (p : PlainClaim → Bool) (claims : List PlainClaim) → count_by p claims ≤ 0 → list_any p claims ≡ false
none_counted p [] few = refl
none_counted p (c ∷ claims) few = split (p c) (subst (λ n. n ≤ 0) (counted p c claims) few) (λ h. none_counted p claims h)
  where
    split : (b : Bool) → cond b 1 0 + count_by p claims ≤ 0 → (count_by p claims ≤ 0 → list_any p claims ≡ false) → (b || list_any p claims) ≡ false
    split true h rest = absurd (omega (arith, h))
    split false h rest = rest (omega (arith, h))

pub one_counted : (p : PlainClaim → Bool) (claims : List PlainClaim) (i : ℕ) (c : PlainClaim) → slice_get claims i ≡ Some c → p c ≡ true → 1 ≤ count_by p claims
one_counted p [] i c at is = cc
one_counted p (d ∷ claims) zero c at is =
    let same : d ≡ c = cc in
    let here : 1 ≤ cond (p d) 1 0 = rw (ap p same ∙ is) (omega arith) in
    omega (arith, counted p d claims, here)
one_counted p (d ∷ claims) (suc i) c at is = let deeper = one_counted p claims i c at is in omega (arith, counted p d claims, deeper)

-- a seat that has one open claim has none when that is completed
pub held_closed : (k seat i : ℕ) (claims : List PlainClaim) (old new : PlainClaim) → slice_get claims i ≡ Some old → is_held_by seat old ≡ true → is_held_by seat new ≡ false → count_by (is_held_by seat) claims ≤ 1 → held_from k seat (slice_set claims i new) ≡ None
held_closed k seat i [] old new at was not one = cc
held_closed k seat zero (c ∷ claims) old new at was not one =
    let same : c ≡ old = cc in
    let here : 1 ≤ cond (is_held_by seat c) 1 0 = rw (ap (is_held_by seat) same ∙ was) (omega arith) in
    cond-false (is_held_by seat new) (Some k) (held_from (suc k) seat claims) not
    ∙ held_none (suc k) seat claims (none_counted (is_held_by seat) claims (omega (arith, one, here, counted (is_held_by seat) c claims)))
held_closed k seat (suc i) (c ∷ claims) old new at was not one =
    let deeper = one_counted (is_held_by seat) claims i old at was in
    let all = counted (is_held_by seat) c claims in
    let no_other : is_held_by seat c ≡ false = not_here (is_held_by seat c) (omega (arith, all, deeper, one)) in
    cond-false (is_held_by seat c) (Some k) (held_from (suc k) seat (slice_set claims i new)) no_other
    ∙ held_closed (suc k) seat i claims old new at was not (omega (arith, all, one))
  where
    not_here : (b : Bool) → cond b 1 0 ≤ 0 → b ≡ false
    not_here true h = absurd (omega (arith, h))
    not_here false h = refl

-- ---- claims are cut off

ahead_of_none : (number : ℕ) (o : Option ℕ) → ((n : ℕ) → o ≡ Some n → number ≤ n) → held_below number o ≡ None
ahead_of_none number None behind = refl
ahead_of_none number (Some n) behind = cond-false (nat_lt n number) (Some n) None (le-ltb n number (behind n refl))

-- of the first claims a seat holds what it holds of all, if that is one of these
held_first : (k seat i : ℕ) (claims : List PlainClaim) → held_from k seat (take i claims) ≡ held_below (k + i) (held_from k seat claims)
held_first k seat zero claims = sym (ahead_of_none (k + 0) (held_from k seat claims) (λ n h. let its = its_claim k seat claims n h in let is = its.is in omega (arith, is)))
held_first k seat (suc i) [] = refl
held_first k seat (suc i) (c ∷ claims) = split (is_held_by seat c) refl (held_first (suc k) seat i claims)
  where
    later : suc k + i ≡ k + suc i
    later = omega arith

    here : nat_lt k (k + suc i) ≡ true
    here = lt-ltb k (k + suc i) (omega arith)

    split : (b : Bool) → is_held_by seat c ≡ b → held_from (suc k) seat (take i claims) ≡ held_below (suc k + i) (held_from (suc k) seat claims) → held_from k seat (c ∷ take i claims) ≡ held_below (k + suc i) (held_from k seat (c ∷ claims))
    split true is rest =
        cond-true (is_held_by seat c) (Some k) (held_from (suc k) seat (take i claims)) is
        ∙ sym (cond-true (nat_lt k (k + suc i)) (Some k) None here)
        ∙ ap (held_below (k + suc i)) (sym (cond-true (is_held_by seat c) (Some k) (held_from (suc k) seat claims) is))
    split false is rest =
        cond-false (is_held_by seat c) (Some k) (held_from (suc k) seat (take i claims)) is
        ∙ rest
        ∙ ap (λ n. held_below n (held_from (suc k) seat claims)) later
        ∙ ap (held_below (k + suc i)) (sym (cond-false (is_held_by seat c) (Some k) (held_from (suc k) seat claims) is))

pub held_ahead
    : (seats : ℕ) (claims : List PlainClaim) (held still : List (Option ℕ)) (number : ℕ)
    → AreHeld seats claims held
    → length still ≡ length held
    → ((s : ℕ) → slice_get still s ≡ option_map (held_below number) (slice_get held s))
    → AreHeld seats (take number claims) still
held_ahead seats claims held still number are long freed = record {
  each = long ∙ are.each;
  numbers = λ s lt. freed s ∙ ap (option_map (held_below number)) (are.numbers s lt) ∙ ap (λ k. Some (held_below k (held_from 0 s claims))) from_none ∙ ap Some (sym (held_first 0 s number claims));
}
  where
    from_none : number ≡ 0 + number
    from_none = omega arith
