-- A claim of a run changes the tokens of no place that is at none of its transition's arcs.
use Rattle.std.proofs.Common.{◌≡◌, ◌∙◌, refl, sym, ap, subst, inl, inr, ◌⊎◌, ℕ, Bool, true, false, ◌||◌, List, [], ◌∷◌, Option, Some, None}
use Rattle.std.specs.List.{AllByRecursion}
use Rattle.cpn_definitions.specs.Marking.{Marking, tokens_at}
use Rattle.cpn_definitions.specs.Net.{transition_at}
use Rattle.cpn_definitions.specs.Occurrence.{Needed, Made, threshold, needs_of, outputs_of, subtract}
use Rattle.cpn_definitions.specs.Outcome.{Outcome, gives, faults, no_meaning}
use Rattle.cpn_monitor.specs.Looks.{are_at, is_beside}
use Rattle.cpn_runs.specs.HoleRun.{PlainClaim, Status, open_claim, done_with, faulted_with, after_claim, added, is_open}
use Rattle.cpn_runs.specs.State.{PlainSetup, given_needs, status_after}
use Rattle.cpn_runs.proofs.Elsewhere.{needs_at, outputs_at, subtract_elsewhere, made_elsewhere, all_weaker}
use Rattle.cpn_runs.proofs.States.{IsClaimOf}

module _ (setup : PlainSetup) (claim : PlainClaim) (is : IsClaimOf setup claim) (mid : Marking) (p : ℕ) (none : is_beside setup.net claim.element.transition p ≡ false) where
  neither : (a b : Bool) → (a || b) ≡ false → (a ≡ false) × (b ≡ false)
  neither false false e = (refl, refl)
  neither false true e = cc
  neither true b e = cc

  parts : (are_at p (transition_at setup.net claim.element.transition).inputs ≡ false) × (are_at p (transition_at setup.net claim.element.transition).outputs ≡ false)
  parts = neither (are_at p (transition_at setup.net claim.element.transition).inputs) (are_at p (transition_at setup.net claim.element.transition).outputs) none

  clash : (b : Bool) → b ≡ true → b ≡ false → ⊥
  clash true is_so is_not = cc
  clash false is_so is_not = cc

  needs_there : (o : Outcome (List Needed)) → needs_of setup.net claim.element ≡ o → AllByRecursion (λ (need : Needed). need.place ≡ p → ⊥) (given_needs o)
  needs_there (gives needs) e =
      all_weaker (λ (need : Needed). are_at need.place (transition_at setup.net claim.element.transition).inputs ≡ true) (λ (need : Needed). need.place ≡ p → ⊥)
      (λ need at same. clash (are_at need.place (transition_at setup.net claim.element.transition).inputs) at (ap (λ q. are_at q (transition_at setup.net claim.element.transition).inputs) same ∙ parts.0)) needs (needs_at setup.net claim.element needs e)
  needs_there (faults fault) e = tt
  needs_there no_meaning e = tt

  outputs_there : (o : Outcome (List Made)) (status : Status) → outputs_of setup.net claim.element claim.time ≡ o → status_after o ≡ Some status → AllByRecursion (λ (made : Made). made.place ≡ p → ⊥) (added status)
  outputs_there (gives outputs) status e s =
      let same : done_with outputs ≡ status = cc in
      subst (λ (t : Status). AllByRecursion (λ (made : Made). made.place ≡ p → ⊥) (added t)) same
      (all_weaker (λ (made : Made). are_at made.place (transition_at setup.net claim.element.transition).outputs ≡ true) (λ (made : Made). made.place ≡ p → ⊥)
      (λ made at there. clash (are_at made.place (transition_at setup.net claim.element.transition).outputs) at (ap (λ q. are_at q (transition_at setup.net claim.element.transition).outputs) there ∙ parts.1)) outputs (outputs_at setup.net claim.element claim.time outputs e))
  outputs_there (faults fault) status e s = let same : faulted_with fault ≡ status = cc in subst (λ (t : Status). AllByRecursion (λ (made : Made). made.place ≡ p → ⊥) (added t)) same tt
  outputs_there no_meaning status e s = cc

  made_there : (status : Status) → ((is_open status ≡ true) ⊎ (status_after (outputs_of setup.net claim.element claim.time) ≡ Some status)) → AllByRecursion (λ (made : Made). made.place ≡ p → ⊥) (added status)
  made_there status (inr said) = outputs_there (outputs_of setup.net claim.element claim.time) status refl said
  made_there open_claim (inl opened) = tt
  made_there (done_with outputs) (inl opened) = cc
  made_there (faulted_with fault) (inl opened) = tt

  pub claim_elsewhere : tokens_at (after_claim claim mid) p ≡ tokens_at mid p
  claim_elsewhere =
      made_elsewhere (added claim.status) (subtract (threshold claim.time) claim.needs mid) p (made_there claim.status is.status_is)
      ∙ subtract_elsewhere (threshold claim.time) claim.needs mid p (subst (AllByRecursion (λ (need : Needed). need.place ≡ p → ⊥)) (sym is.needs_are) (needs_there (needs_of setup.net claim.element) refl))
