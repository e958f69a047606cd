-- Runs that end by a fault, in the worked net with an output that is no digit: which cut is owed, what it removes, what is
-- then left, and the run of one seat.
use Rattle.std.proofs.Common.{◌≡◌, ℕ, zero, suc, List, [], ◌∷◌, Some, None, refl, sym, inl, arith, pos, ◌∙◌}
use Rattle.cpn_definitions.specs.Value.{int}
use Rattle.cpn_definitions.specs.Marking.{Marking}
use Rattle.cpn_definitions.specs.Inscription.{literal, one}
use Rattle.cpn_definitions.specs.Net.{PlainNet}
use Rattle.cpn_definitions.specs.Outcome.{not_in_colour}
use Rattle.cpn_definitions.specs.Meaning.{PlainBinding}
use Rattle.cpn_definitions.specs.Occurrence.{PlainElement, covered, needs_of, outputs_of}
use Rattle.cpn_definitions.specs.Enabled.{PlainEntry, IsEarliest, Enabled}
use Rattle.cpn_runs.specs.HoleRun.{PlainClaim, faulted_with}
use Rattle.cpn_runs.specs.State.{PlainSetup, PlainEvent, claim_made, claim_completed, cut_made, PlainCut, PlainState, first_state, settled_in, owed_cut, new_claim, MayClaim, MayComplete, MayCut, Happens, EndsBy}
use Rattle.cpn_runs.specs.Run.{HasOutlook, IsRun}
use Rattle.cpn_runs.proofs.States.{cut_happens_where_owed}
use Rattle.cpn_runs.proofs.WorkedNet.{worked, move_transition, digits, move, entry}
use Rattle.cpn_runs.proofs.TwoSeats.{start, setup, with_claims, opened, done, drawn_alone, enabled_now, no_fault}

-- the net with an output that is no digit: the claim is done with the fault, which owes a cut from it on
abbrev faulty : PlainNet
faulty = record worked { transitions = record move_transition { outputs = record { place = 1; colour = digits; expr = one (literal (int (pos 12))); terms = [] } ∷ [] } ∷ [] }

abbrev faulty_setup : PlainSetup
faulty_setup = record setup { net = faulty }

abbrev faulty_claim : PlainClaim
faulty_claim = record (new_claim faulty 0 3 move) { status = faulted_with not_in_colour }

faulty_completion : MayComplete faulty_setup (with_claims (new_claim faulty 0 3 move ∷ [])) 0 0 (with_claims (faulty_claim ∷ []))
unfolding outputs_of
faulty_completion = record { none_owed = refl; held_claim = new_claim faulty 0 3 move; claim_is = refl; held = refl; status = faulted_with not_in_colour; status_is = refl; new_is = refl }

abbrev cut_for_it : PlainCut
cut_for_it = record { number = 0; cause = no_fault }

cut_is_owed : owed_cut faulty_setup (with_claims (faulty_claim ∷ [])) ≡ Some cut_for_it
cut_is_owed = refl

just_the_cut_happens : (event : PlainEvent) (new : PlainState) → Happens faulty_setup (with_claims (faulty_claim ∷ [])) event new → event ≡ cut_made 0
just_the_cut_happens event new happens = cut_happens_where_owed faulty_setup (with_claims (faulty_claim ∷ [])) cut_for_it event new refl happens

-- the cut removes the claim, whose tokens are back: nothing has occurred, and the marking is that of the start
abbrev faulted : PlainState
faulted = record { clock = 3; claims = []; cut = Some cut_for_it }

faulty_cut : MayCut faulty_setup (with_claims (faulty_claim ∷ [])) 0 faulted
faulty_cut = record { cut = cut_for_it; due = inl refl; number_is = refl; new_is = refl }

ends_by_the_fault : EndsBy faulty_setup faulted no_fault
ends_by_the_fault = record { none_open = refl; none_owed = refl; has_cause = refl }

tokens_are_back : settled_in faulty_setup faulted ≡ Some start
tokens_are_back = refl

-- Both seats have claimed, and the second claim is done with its fault first: it owes no cut while the first is open. Then the
-- first is done with its own, which owes the cut at 0 that removes both.
abbrev faulty_second : PlainClaim
faulty_second = record (new_claim faulty 1 3 move) { status = faulted_with not_in_colour }

none_owed_behind_a_hole : owed_cut faulty_setup (with_claims (new_claim faulty 0 3 move ∷ faulty_second ∷ [])) ≡ None
none_owed_behind_a_hole = refl

both_are_cut_off : MayCut faulty_setup (with_claims (faulty_claim ∷ faulty_second ∷ [])) 0 faulted
both_are_cut_off = record { cut = cut_for_it; due = inl refl; number_is = refl; new_is = refl }

-- a claim behind the fault goes too, though it is done with its outputs; one ahead of it stays
done_is_cut_off : MayCut setup (with_claims (done 0 ∷ record (opened 1) { status = faulted_with not_in_colour } ∷ done 0 ∷ [])) 1 (record { clock = 3; claims = done 0 ∷ []; cut = Some (record { number = 1; cause = no_fault }) })
done_is_cut_off = record { cut = record { number = 1; cause = no_fault }; due = inl refl; number_is = refl; new_is = refl }

-- ---- the run of one seat

abbrev one_seat : PlainSetup
one_seat = record faulty_setup { limits = record { steps = 2; until = 100; seats = 1 } }

-- outputs do not change what is covered, nor what is enabled
covered_alike : (m : Marking) (time k : ℕ) (b : PlainBinding) → covered faulty m time (record { transition = k; binding = b }) ≡ covered worked m time (record { transition = k; binding = b })
unfolding covered needs_of
covered_alike m time zero b = refl
covered_alike m time (suc k) b = refl

same_covered : (m : Marking) (time : ℕ) (e : PlainElement) → covered faulty m time e ≡ covered worked m time e
same_covered m time e = covered_alike m time e.transition e.binding

enabled_alike : (m : Marking) (clock : ℕ) (entries : List PlainEntry) → Enabled worked m clock entries → Enabled faulty m clock entries
enabled_alike m clock entries enabled = record {
  rising = enabled.rising;
  exact = λ x. ((λ has. there x ((enabled.exact x).0 has)), λ earliest. (enabled.exact x).1 (back x earliest));
}
  where
    there : (x : PlainEntry) → IsEarliest worked m clock x → IsEarliest faulty m clock x
    there x is = record { not_before = is.not_before; is_covered = same_covered m x.earliest x.element ∙ is.is_covered; not_earlier = λ s from below. same_covered m s x.element ∙ is.not_earlier s from below }

    back : (x : PlainEntry) → IsEarliest faulty m clock x → IsEarliest worked m clock x
    back x is = record {
      not_before = is.not_before;
      is_covered = sym (same_covered m x.earliest x.element) ∙ is.is_covered;
      not_earlier = λ s from below. sym (same_covered m s x.element) ∙ is.not_earlier s from below;
    }

enabled_at_start : Enabled faulty start 3 (entry 3 ∷ [])
unfolding covered needs_of
enabled_at_start = enabled_alike start 3 (entry 3 ∷ []) (enabled_now start refl)

faulty_claim_made : MayClaim one_seat (first_state one_seat) 0 0 (with_claims (new_claim faulty 0 3 move ∷ []))
faulty_claim_made = record {
  no_cut = refl;
  none_owed = refl;
  next_number = refl;
  below_limit = omega arith;
  seat_known = omega arith;
  seat_free = refl;
  marking = start;
  marking_is = refl;
  entries = entry 3 ∷ [];
  enabled = enabled_at_start;
  drawn = entry 3;
  drawn_is = drawn_alone 11 0 (entry 3);
  new_is = refl;
}

alone_completed : MayComplete one_seat (with_claims (new_claim faulty 0 3 move ∷ [])) 0 0 (with_claims (faulty_claim ∷ []))
unfolding outputs_of
alone_completed = record { none_owed = refl; held_claim = new_claim faulty 0 3 move; claim_is = refl; held = refl; status = faulted_with not_in_colour; status_is = refl; new_is = refl }

alone_cut : MayCut one_seat (with_claims (faulty_claim ∷ [])) 0 faulted
alone_cut = record { cut = cut_for_it; due = inl refl; number_is = refl; new_is = refl }

outlook_there : HasOutlook one_seat start 3 (record { ready_count = 1; next = Some 3 })
outlook_there = record { entries = entry 3 ∷ []; enabled = enabled_at_start; ready_count_is = refl; next_is = refl }

-- it makes the claim and ends by its fault: nothing occurred, the tokens are back, and the element is ready as before
faulty_run : IsRun one_seat (record {
  opening = record { ready_count = 1; next = Some 3 };
  journal = claim_made 0 0 ∷ claim_completed 0 0 ∷ cut_made 0 ∷ [];
  occurrences = [];
  marking = start;
  clock = 3;
  cause = no_fault;
  closing = record { ready_count = 1; next = Some 3 };
  values = [];
})
unfolding covered needs_of outputs_of
faulty_run = record {
  state = faulted;
  reached = (with_claims (new_claim faulty 0 3 move ∷ []), faulty_claim_made, (with_claims (faulty_claim ∷ []), alone_completed, (faulted, alone_cut, refl)));
  ends = record { none_open = refl; none_owed = refl; has_cause = refl };
  occurrences_are = refl;
  marking_is = refl;
  clock_is = refl;
  legal = (refl, inl refl);
  true_fault = (refl, refl);
  true_stop = tt;
  opening = outlook_there;
  closing = outlook_there;
  values_are = refl;
}
