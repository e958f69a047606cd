-- Worked cases of claims that are given back for want of memory: what is left, what may follow, and how the run ends; in the worked net, from two
-- tokens on place 0, at the clock 3.
use Rattle.std.proofs.Common.{◌≡◌, ℕ, true, false, List, [], ◌∷◌, Some, None, refl, inl, inr, subst, sym, slice_get}
use Rattle.std.specs.List.{list_any}
use Rattle.cpn_definitions.specs.Marking.{token_at}
use Rattle.cpn_definitions.specs.Occurrence.{needs_of, outputs_of}
use Rattle.cpn_definitions.specs.Outcome.{not_in_colour}
use Rattle.cpn_monitor.specs.Monitors.{stops_by_count}
use Rattle.cpn_runs.specs.HoleRun.{PlainClaim, done_with, faulted_with, is_open}
use Rattle.cpn_runs.specs.State.{claim_made, claim_completed, cut_made, PlainEnd, stopped_by, wants_memory, PlainCut, PlainState, first_state, unclaimed_in, committed, committed_occurrences, owed_cut, GivesBack, MayComplete, MayCut, IsState, EndsBy}
use Rattle.cpn_runs.specs.GivingBack.{IsCutForMemory, NoneIsGivenBack}
use Rattle.cpn_runs.proofs.WorkedNet.{seven}
use Rattle.cpn_runs.proofs.StopRows.{by, stop_cut, stopped_with}
use Rattle.cpn_runs.proofs.TwoSeats.{setup, start, with_claims, opened, output, done, no_fault, one_claimed, both_claimed, second_done, both_done, first_claim}

-- a cut for want of memory, and the state that it leaves
abbrev back_at : ℕ → PlainCut
back_at number = record { number = number; cause = wants_memory }

abbrev left_at : List PlainClaim → ℕ → PlainState
left_at claims number = stopped_with claims (back_at number)

-- ---- the only claim is given back

only_claim_is_back : MayCut setup one_claimed 0 (left_at [] 0)
only_claim_is_back = record { cut = back_at 0; due = inr (record { none_owed = refl; claim = opened 0; claim_is = refl; opened = refl; cause_is = refl }); number_is = refl; new_is = refl }

-- no other cause gives it back
for_no_other_cause : GivesBack setup one_claimed (stop_cut 0 0) → ⊥
for_no_other_cause back = let e : stopped_by 0 ≡ wants_memory = back.cause_is in cc

-- a cut for want of memory stands then; none does where no cut stands, or one for another cause
cut_for_memory : IsCutForMemory (Some (back_at 0))
cut_for_memory = refl

none_without_a_cut : IsCutForMemory None → ⊥
none_without_a_cut none = none

none_for_another_cause : IsCutForMemory (Some (stop_cut 0 0)) → ⊥
none_for_another_cause is = let e : stopped_by 0 ≡ wants_memory = is in cc

-- the run ends for want of memory, nothing has occurred, and both tokens are back
leads_to_nothing : IsState setup (claim_made 0 0 ∷ cut_made 0 ∷ []) (left_at [] 0)
leads_to_nothing = (one_claimed, first_claim [], (left_at [] 0, only_claim_is_back, refl))

ends_for_memory : EndsBy setup (left_at [] 0) wants_memory
ends_for_memory = record { none_open = refl; none_owed = refl; has_cause = refl }

nothing_occurred : committed_occurrences setup (left_at [] 0) ≡ []
nothing_occurred = refl

tokens_are_back : unclaimed_in setup (left_at [] 0) ≡ Some start
tokens_are_back = refl

-- ---- the second of two open claims is given back

second_is_back : MayCut setup both_claimed 1 (left_at (opened 0 ∷ []) 1)
second_is_back = record { cut = back_at 1; due = inr (record { none_owed = refl; claim = opened 1; claim_is = refl; opened = refl; cause_is = refl }); number_is = refl; new_is = refl }

-- the first is still open, and took its token: the run has not ended
first_is_open : list_any (λ claim. is_open claim.status) (left_at (opened 0 ∷ []) 1).claims ≡ true
first_is_open = refl

one_token_is_back : unclaimed_in setup (left_at (opened 0 ∷ []) 1) ≡ Some ((token_at seven 0 ∷ []) ∷ [] ∷ [])
unfolding needs_of
one_token_is_back = refl

not_ended : (cause : PlainEnd) → EndsBy setup (left_at (opened 0 ∷ []) 1) cause → ⊥
not_ended cause ends = let e : true ≡ false = ends.none_open in cc

-- it is completed, and the run ends for want of memory after one occurrence
first_completes : MayComplete setup (left_at (opened 0 ∷ []) 1) 0 0 (left_at (done 0 ∷ []) 1)
unfolding outputs_of
first_completes = record { none_owed = refl; held_claim = opened 0; claim_is = refl; held = refl; status = done_with (output ∷ []); status_is = refl; new_is = refl }

one_is_committed : committed setup (left_at (done 0 ∷ []) 1) ≡ 1
one_is_committed = refl

ends_after_one : EndsBy setup (left_at (done 0 ∷ []) 1) wants_memory
ends_after_one = record { none_open = refl; none_owed = refl; has_cause = refl }

-- or it is given back, too: the last cut stands
first_is_back_too : MayCut setup (left_at (opened 0 ∷ []) 1) 0 (left_at [] 0)
first_is_back_too = record { cut = back_at 0; due = inr (record { none_owed = refl; claim = opened 0; claim_is = refl; opened = refl; cause_is = refl }); number_is = refl; new_is = refl }

-- or its outputs have a fault: the cut for that is owed, and gives the cause
abbrev faulty_first : PlainClaim
faulty_first = record (opened 0) { status = faulted_with not_in_colour }

fault_is_owed : owed_cut setup (left_at (faulty_first ∷ []) 1) ≡ Some (record { number = 0; cause = no_fault })
fault_is_owed = refl

fault_is_cut : MayCut setup (left_at (faulty_first ∷ []) 1) 0 (stopped_with [] (record { number = 0; cause = no_fault }))
fault_is_cut = record { cut = record { number = 0; cause = no_fault }; due = inl refl; number_is = refl; new_is = refl }

ends_by_the_fault : EndsBy setup (stopped_with [] (record { number = 0; cause = no_fault })) no_fault
ends_by_the_fault = record { none_open = refl; none_owed = refl; has_cause = refl }

-- or its occurrence stops the run: the monitor's cut is owed at the number where the other stands, and gives the cause
stop_is_owed : owed_cut (by (stops_by_count 0 1)) (left_at (done 0 ∷ []) 1) ≡ Some (stop_cut 1 0)
stop_is_owed = refl

stop_is_cut : MayCut (by (stops_by_count 0 1)) (left_at (done 0 ∷ []) 1) 1 (stopped_with (done 0 ∷ []) (stop_cut 1 0))
stop_is_cut = record { cut = stop_cut 1 0; due = inl refl; number_is = refl; new_is = refl }

-- then none is owed
none_is_owed_then : owed_cut (by (stops_by_count 0 1)) (stopped_with (done 0 ∷ []) (stop_cut 1 0)) ≡ None
none_is_owed_then = refl

-- ---- the first claim is given back while the second is done

-- the later claim goes too, though it was done
first_is_back : MayCut setup second_done 0 (left_at [] 0)
first_is_back = record { cut = back_at 0; due = inr (record { none_owed = refl; claim = opened 0; claim_is = refl; opened = refl; cause_is = refl }); number_is = refl; new_is = refl }

-- ---- what is not given back

-- a claim that is done
done_stays : (cut : PlainCut) → cut.number ≡ 1 → GivesBack setup second_done cut → ⊥
done_stays cut at back =
    let claim_is : Some (done 1) ≡ Some back.claim = subst (λ k. slice_get second_done.claims k ≡ Some back.claim) at back.claim_is in
    let P : PlainClaim → Type 0 = λ claim. is_open claim.status ≡ true in
    let same : done 1 ≡ back.claim = cc in
    let opened : is_open (done 1).status ≡ true = subst P (sym same) back.opened in
    cc

-- and any where a cut is owed
none_where_owed : (cut : PlainCut) → GivesBack (by (stops_by_count 0 1)) (with_claims (done 0 ∷ opened 1 ∷ [])) cut → ⊥
none_where_owed cut back = let e : Some (stop_cut 1 0) ≡ None = back.none_owed in cc

-- ---- journals in which none is given back

given_back_here : NoneIsGivenBack setup (first_state setup) (claim_made 0 0 ∷ cut_made 0 ∷ []) → ⊥
given_back_here none = (none.1 one_claimed (first_claim [])).0 refl

no_claim_is_given_back : NoneIsGivenBack setup (first_state setup) (claim_made 0 0 ∷ claim_made 1 1 ∷ claim_completed 1 1 ∷ [])
no_claim_is_given_back = (tt, λ first happens. (tt, λ second happens. (tt, λ third happens. tt)))

owed_is_not_given_back : NoneIsGivenBack (by (stops_by_count 0 1)) both_done (cut_made 1 ∷ [])
owed_is_not_given_back = ((λ none. let e : Some (stop_cut 1 0) ≡ None = none in cc), λ mid happens. tt)
