-- Which seats hold claims: each claim is held by one.
use Rattle.std.proofs.Common.{◌≡◌, ℕ, zero, suc, ◌+◌, ◌==◌, Bool, true, false, cond, List, [], ◌∷◌, Option, Some, None, Result, Ok, Err, refl, sym, ap, ◌∙◌, arith, slice_get, slice_set, eqb-true}
use Rattle.std.proofs.lemmas.Bool.{and_parts, eqb-false}
use Rattle.std.proofs.lemmas.Option.{same_Some}
use Rattle.std.specs.List.{count_by}
use Rattle.std.proofs.lemmas.List.Sums.{sum_by-cons}
use Rattle.std.specs.Prelude.{OnOk, OnErr}
use Rattle.std.specs.Option.{is_some}
use Rattle.cpn_runs.specs.HoleRun.{PlainClaim, is_open}
use Rattle.cpn_book.specs.Held.{held_from, AreHeld}
use Rattle.cpn_book.proofs.HeldClaims.{IsItsClaim, its_claim}
use Rattle.cpn_definitions.proofs.ListItems.{place_known, set_there, set_elsewhere}

-- what follows where the answer is there
pub where_ok : {T E : Type 0} (r : Result T E) (P Q : Type 0) → (P → Q) → OnOk r P → OnOk r Q
where_ok (Ok x) P Q follows holds = follows holds
where_ok (Err e) P Q follows holds = holds

-- what follows from either answer
pub either : {T E : Type 0} (r : Result T E) (P Q G : Type 0) → OnOk r P → OnErr r Q → (P → G) → (Q → G) → G
either (Ok x) P Q G ok err so otherwise = so ok
either (Err e) P Q G ok err so otherwise = otherwise err

pub in_any_case : {T E : Type 0} (r : Result T E) (Q : Type 0) → Q → OnOk r Q
in_any_case (Ok x) Q holds = holds
in_any_case (Err e) Q holds = tt

module _ (seats : ℕ) (claims : List PlainClaim) (held : List (Option ℕ)) (are : AreHeld seats claims held) where
  -- the claim that a seat holds
  pub holds_from : (s k : ℕ) → slice_get held s ≡ Some (Some k) → held_from 0 s claims ≡ Some k
  holds_from s k holds =
      let within = place_known held s (Some k) holds in
      let long = are.each in
      let e : Some (held_from 0 s claims) ≡ Some (Some k) = sym (are.numbers s (omega (arith, within, long))) ∙ holds in cc

  pub one_holder : (s t k : ℕ) → slice_get held s ≡ Some (Some k) → slice_get held t ≡ Some (Some k) → s ≡ t
  one_holder s t k of_s of_t =
      let a : IsItsClaim 0 s claims k = its_claim 0 s claims k (holds_from s k of_s) in
      let b : IsItsClaim 0 t claims k = its_claim 0 t claims k (holds_from t k of_t) in
      let place : a.place ≡ b.place = (let x = a.is in let y = b.is in omega (arith, x, y)) in
      let same : a.claim ≡ b.claim = same_Some a.claim b.claim (sym a.stands ∙ ap (slice_get claims) place ∙ b.stands) in
      sym (eqb-true a.claim.seat s (and_parts (is_open a.claim.status) (a.claim.seat == s) a.held).1)
      ∙ ap (λ (c : PlainClaim). c.seat) same
      ∙ eqb-true b.claim.seat t (and_parts (is_open b.claim.status) (b.claim.seat == t) b.held).1

  -- when a seat holds its claim no more, no seat does
  pub freed : (seat number : ℕ) → slice_get held seat ≡ Some (Some number) → (s k : ℕ) → slice_get (slice_set held seat None) s ≡ Some (Some k) → (slice_get held s ≡ Some (Some k)) × ((k ≡ number) → ⊥)
  freed seat number own s k holds = split (seat == s) refl
    where
      split : (b : Bool) → (seat == s) ≡ b → (slice_get held s ≡ Some (Some k)) × ((k ≡ number) → ⊥)
      split true is =
          let there : slice_get (slice_set held seat None) s ≡ Some None = ap (slice_get (slice_set held seat None)) (sym (eqb-true seat s is)) ∙ set_there held seat None (place_known held seat (Some number) own) in
          let clash : Some (Some k) ≡ Some None = sym holds ∙ there in cc
      split false is =
          let other : seat ≡ s → ⊥ = eqb-false seat s is in
          let before : slice_get held s ≡ Some (Some k) = sym (set_elsewhere held seat s None other) ∙ holds in
          (before, λ same. other (one_holder seat s number own (before ∙ ap (λ i. Some (Some i)) same)))

-- where no seat holds a claim none is counted
pub none_counted_held : (held : List (Option ℕ)) → ((s k : ℕ) → slice_get held s ≡ Some (Some k) → ⊥) → count_by is_some held ≡ 0
none_counted_held [] none = refl
none_counted_held (None ∷ held) none = let first : count_by is_some (None ∷ held) ≡ 0 + count_by is_some held = sum_by-cons (λ (o : Option ℕ). cond (is_some o) 1 0) None held in let rest = none_counted_held held (λ s k holds. none (suc s) k holds) in omega (arith, first, rest)
none_counted_held (Some k ∷ held) none = absurd (none zero k refl)
