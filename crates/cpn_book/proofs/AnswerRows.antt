-- Answers in worked states, computed: seats 0 and 2 have open claims, seat 1 has completed one, and nothing is enabled.
use Rattle.std.proofs.Common.{◌≡◌, ℕ, false, nat_lt, [], ◌∷◌, Some, None, refl, arith, ◌≤◌, true, List, sym, ap, ◌∙◌, subst, inr}
use Rattle.std.proofs.lemmas.Bool.Decides.{nat_tests}
use Rattle.std.proofs.lemmas.Option.{same_Some}
use Rattle.cpn_definitions.specs.Enabled.{Enabled}
use Rattle.cpn_definitions.specs.Marking.{Marking}
use Rattle.cpn_definitions.specs.Net.{PlainNet}
use Rattle.cpn_definitions.specs.Occurrence.{PlainElement, covered}
use Rattle.cpn_definitions.proofs.RisingLists.{in_from_contains}
use Rattle.cpn_definitions.proofs.TruthValues.{not_both}
use Rattle.cpn_runs.specs.HoleRun.{PlainClaim, Status, open_claim, done_with}
use Rattle.cpn_runs.specs.State.{PlainSetup, PlainState, dead, wants_memory, PlainCut, PlainEvent, cut_made, is_held_by, MayCut}
use Rattle.cpn_runs.proofs.States.{cut_is_unique}
use Rattle.cpn_book.specs.Answers.{AnswersClaim, AnswersAdvance, HasOpenClaim, IsGivingBack, AnswersGivingBack}
use Rattle.cpn_book.specs.States.{AreReady, open_claims}
use Rattle.cpn_book.specs.declared.answers.Claimed.TheVariants as claims
use Rattle.cpn_book.specs.declared.answers.GivenBack.TheVariants as returns
use Rattle.cpn_book.specs.declared.answers.Advanced.TheVariants as moves
use Rattle.cpn_book.specs.declared.tickets.Ticket.{Ticket}
use Rattle.cpn_book.specs.Tickets.{number_of, job_of}

-- a net without a transition, and a run of it of four seats that may make so many claims
abbrev still : PlainNet
still = record { places = []; transitions = []; variables = []; constants = []; constructors = []; functions = [] }

abbrev setup : ℕ → PlainSetup
setup steps = record { net = still; start = []; clock = 0; limits = record { steps = steps; until = 9; seats = 4 }; functions = []; monitors = []; seed = 0 }

abbrev claim_of : ℕ → Status → PlainClaim
claim_of seat status = record { seat = seat; element = record { transition = 0; binding = [] }; time = 0; needs = []; status = status }

abbrev two_open : PlainState
two_open = record { clock = 0; claims = claim_of 0 open_claim ∷ claim_of 1 (done_with []) ∷ claim_of 2 open_claim ∷ []; cut = None }

abbrev none_open : PlainState
none_open = record { clock = 0; claims = claim_of 1 (done_with []) ∷ []; cut = None }

two_are_open : open_claims two_open ≡ 2
two_are_open = refl

-- ---- nothing is enabled

no_transition : (k : ℕ) → nat_lt k 0 ≡ false
no_transition k = grind (arith, nat_tests)

nothing_covered : (m : Marking) (time : ℕ) (e : PlainElement) → covered still m time e ≡ false
unfolding covered
nothing_covered m time e = rw (no_transition e.transition) refl

none_enabled : Enabled still [] 0 []
none_enabled = record {
  rising = tt;
  exact = λ x. ((λ has. absurd (in_from_contains [] x has)), λ earliest. absurd (not_both (covered still [] x.earliest x.element) earliest.is_covered (nothing_covered [] x.earliest x.element)));
}

none_ready : (steps : ℕ) → AreReady (setup steps) two_open 0
none_ready steps = ([], record { marking = []; marking_is = refl; enabled = none_enabled }, refl)

-- ---- a claim

-- of seat 3: nothing, with the number of claims that are open, and with no other
nothing_for_three : AnswersClaim (setup 9) two_open 3 (claims.Nothing 2)
nothing_for_three = (refl, (λ all. absurd (omega (arith, all))), refl, none_ready 9, refl)

only_with_two : (held : ℕ) → AnswersClaim (setup 9) two_open 3 (claims.Nothing held) → held ≡ 2
only_with_two held is = is.4

-- of seat 2: it has claim 2 open; seat 1 has none
busy_with_two : AnswersClaim (setup 9) two_open 2 (claims.Busy 2)
busy_with_two = (refl, (λ all. absurd (omega (arith, all))), refl)

not_busy : (number : ℕ) → AnswersClaim (setup 9) two_open 1 (claims.Busy number) → ⊥
not_busy number is = let e : None ≡ Some number = is.2 in cc

-- at the limit of claims, and after a cut
at_the_limit : AnswersClaim (setup 3) two_open 3 claims.StepLimit
at_the_limit = (refl, refl)

after_a_cut : AnswersClaim (setup 9) (record none_open { cut = Some (record { number = 1; cause = dead }) }) 3 claims.Over
after_a_cut none = cc

-- ---- a move of the clock

two_are_waited_for : AnswersAdvance (setup 9) two_open (moves.Open 2)
two_are_waited_for = ((refl, λ all. absurd (omega (arith, all))), none_ready 9, refl, omega arith)

nothing_ever : AnswersAdvance (setup 9) none_open moves.Dead
nothing_ever =
    ((refl, λ all. absurd (omega (arith, all))), (([], record { marking = []; marking_is = refl; enabled = none_enabled }, refl), refl), ([], refl, λ time e. nothing_covered [] time e))

-- ---- a claim that is given back

-- that of seat 2: it is removed for want of memory, and the claims ahead of it stand, open and done; that is one event
third_is_back : MayCut (setup 9) two_open 2 (record { clock = 0; claims = claim_of 0 open_claim ∷ claim_of 1 (done_with []) ∷ []; cut = Some (record { number = 2; cause = wants_memory }) })
third_is_back = record {
  cut = record { number = 2; cause = wants_memory };
  due = inr (record { none_owed = refl; claim = claim_of 2 open_claim; claim_is = refl; opened = refl; cause_is = refl });
  number_is = refl;
  new_is = refl;
}

third_is_gone : (ticket : Ticket) (events : List PlainEvent) → number_of ticket ≡ 2 → (is : IsGivingBack (setup 9) two_open 2 ticket events) → (is.after.claims ≡ claim_of 0 open_claim ∷ claim_of 1 (done_with []) ∷ []) × (events ≡ cut_made 2 ∷ [])
third_is_gone ticket events number is =
    let may = subst (λ k. MayCut (setup 9) two_open k is.after) number is.may in
    let same = cut_is_unique (setup 9) two_open 2 is.after _ may third_is_back in
    (ap (λ (s : PlainState). s.claims) same, is.events_are ∙ ap (λ k. cut_made k ∷ []) number)

-- not that of seat 1, which is done, nor that of seat 0 by seat 2
done_stays : (ticket : Ticket) (events : List PlainEvent) → number_of ticket ≡ 1 → IsGivingBack (setup 9) two_open 1 ticket events → ⊥
done_stays ticket events number is =
    let there = subst (λ k. HasOpenClaim (setup 9) two_open 1 k (job_of ticket)) number is.open_claim in
    let claim : claim_of 1 (done_with []) ≡ there.0 = same_Some (claim_of 1 (done_with [])) there.0 there.1 in
    let held : is_held_by 1 (claim_of 1 (done_with [])) ≡ true = ap (is_held_by 1) claim ∙ there.2 in
    cc

not_by_another : (ticket : Ticket) (events : List PlainEvent) → number_of ticket ≡ 0 → IsGivingBack (setup 9) two_open 2 ticket events → ⊥
not_by_another ticket events number is =
    let there = subst (λ k. HasOpenClaim (setup 9) two_open 2 k (job_of ticket)) number is.open_claim in
    let claim : claim_of 0 open_claim ≡ there.0 = same_Some (claim_of 0 open_claim) there.0 there.1 in
    let held : is_held_by 2 (claim_of 0 open_claim) ≡ true = ap (is_held_by 2) claim ∙ there.2 in
    cc

-- after a cut at 1 a ticket of claim 2 is void, and one of claim 0 is not
void_behind : (ticket : Ticket) → number_of ticket ≡ 2 → AnswersGivingBack (setup 9) (record none_open { cut = Some (record { number = 1; cause = wants_memory }) }) 3 ticket [] (returns.Void 1)
void_behind ticket number = (refl, (record { number = 1; cause = wants_memory }, refl, refl, omega (arith, number)))

not_void_ahead : (ticket : Ticket) (at : ℕ) → number_of ticket ≡ 0 → AnswersGivingBack (setup 9) (record none_open { cut = Some (record { number = 1; cause = wants_memory }) }) 3 ticket [] (returns.Void at) → ⊥
not_void_ahead ticket at number is =
    let cut = same_Some (record { number = 1; cause = wants_memory }) is.1.0 is.1.1 in
    let below : 1 ≤ number_of ticket = subst (λ (k : PlainCut). k.number ≤ number_of ticket) (sym cut) is.1.3 in
    omega (arith, below, number)
