-- What a completion does to a state that a journal led to: the claim was a hole among the state's claims, and is filled with its
-- outputs.
use Rattle.std.proofs.Common.{◌≡◌, ℕ, suc, ◌==◌, List, ◌∷◌, ◌++◌, drop, Some, sym, ap, ap₂, subst, ◌∙◌}
use Rattle.std.specs.List.{AllByRecursion}
use Rattle.std.specs.Option.{option_map}
use Rattle.std.proofs.lemmas.Bool.{and_parts}
use Rattle.std.proofs.lemmas.Option.{same_Some}
use Rattle.cpn_definitions.specs.Outcome.{Outcome, gives, faults, no_meaning}
use Rattle.cpn_definitions.specs.Occurrence.{Made, outputs_of}
use Rattle.cpn_definitions.proofs.ListItems.{split_at, all_parts, made_of}
use Rattle.cpn_runs.specs.HoleRun.{Status, done_with, faulted_with, added, PlainHoleRun, hole_run, is_open}
use Rattle.cpn_runs.specs.State.{PlainSetup, PlainState, PlainEvent, claim_completed, given_outputs, status_after, Happens, IsState}
use Rattle.cpn_runs.specs.Filling.{filled_run, IsFilled}
use Rattle.cpn_runs.proofs.States.{every_state}
use Rattle.cpn_runs.proofs.FilledRuns.{HasOrder, completed, filling_run}
use Rattle.cpn_runs.proofs.KeptPicks.{each_is_left, picks_kept}
use Rattle.cpn_runs.proofs.Journals.{have_order, open_adds_none, IsStart, every_journal_settles}

-- a claim that is completed adds the outputs of its element
adds_outputs : (o : Outcome (List Made)) (status : Status) → status_after o ≡ Some status → added status ≡ given_outputs o
adds_outputs (gives outputs) status is = let same : done_with outputs ≡ status = same_Some (done_with outputs) status is in ap added (sym same)
adds_outputs (faults fault) status is = let same : faulted_with fault ≡ status = same_Some (faulted_with fault) status is in ap added (sym same)
adds_outputs no_meaning status is = cc

-- Where a journal led to a state, and a claim is completed in it, the new state is the old one in which that claim is filled with
-- its outputs; with none, where they have a fault.
pub completion_fills
    : (setup : PlainSetup) (journal : List PlainEvent) (old : PlainState) (seat number : ℕ) (new : PlainState)
    → IsStart setup
    → IsState setup journal old
    → (c : Happens setup old (claim_completed seat number) new)
    → IsFilled setup old number (given_outputs (outputs_of setup.net c.held_claim.element c.held_claim.time)) new
completion_fills setup journal old seat number new start reached c =
    let claim = c.held_claim in
    let outputs = given_outputs (outputs_of setup.net claim.element claim.time) in
    let settles = every_journal_settles setup journal old start reached in
    let run = made_of (λ (r : PlainHoleRun). r.marking) (hole_run setup.start old.claims) settles.last settles.leaves in
    let parts = split_at old.claims number claim c.claim_is in
    let ordered = all_parts HasOrder parts.before (claim ∷ parts.later) (subst (AllByRecursion HasOrder) parts.is (have_order setup old.claims (every_state setup journal old reached).claims_are)) in
    let none = open_adds_none claim.status (and_parts (is_open claim.status) (claim.seat == seat) c.held).0 in
    let was : hole_run setup.start (parts.before ++ claim ∷ parts.later) ≡ Some run.0 = ap (hole_run setup.start) (sym parts.is) ∙ run.1 in
    let filled = filling_run setup.start parts.before claim parts.later c.status run.0 start.sorted ordered.1.1 none was in
    let is : hole_run setup.start new.claims ≡ Some (filled_run number outputs run.0) =
    ap (λ (s : PlainState). hole_run setup.start s.claims) c.new_is
    ∙ ap (hole_run setup.start) (parts.changed (completed c.status claim))
    ∙ filled
    ∙ ap₂ (λ (k : ℕ) made. Some (filled_run k made run.0)) parts.place (adds_outputs (outputs_of setup.net claim.element claim.time) c.status c.status_is) in
    record {
      run = run.0;
      run_was = run.1;
      run_is = is;
      unclaimed_was = ap (option_map (λ (r : PlainHoleRun). r.marking)) run.1;
      unclaimed_is = ap (option_map (λ (r : PlainHoleRun). r.marking)) is;
      left = each_is_left outputs (drop (suc number) run.0.picks);
      kept = picks_kept number outputs run.0;
    }
