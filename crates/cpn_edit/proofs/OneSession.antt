-- The runs of a session with one seat are determined.
use Rattle.std.proofs.Common.{◌≡◌, ◌≢◌, ℕ, List, [], ◌∷◌, refl, sym, ap, ◌∙◌, subst, ⊎_elim}
use Rattle.std.proofs.Math.Path.{ap₂}
use Rattle.cpn_definitions.specs.Marking.{Marking}
use Rattle.cpn_document.specs.declared.document.Start.{Start}
use Rattle.cpn_document.specs.declared.document.Start.TheVariants as starts
use Rattle.cpn_edit_texts.specs.Edits.{EditedPhase}
use Rattle.cpn_runs.specs.Phases.{PlainPhase, IsWhereLatestEnded}
use Rattle.cpn_runs.specs.Run.{PlainFinished, IsRun}
use Rattle.cpn_runs.specs.State.{PlainSetup, wants_memory}
use Rattle.cpn_runs.proofs.OneRun.{one_run}
use Rattle.cpn_edit.specs.Sessions.{PlainSession, setup_of, StartsAt, IsNextRun, EndedByFault, AreRuns, after_phase, after_run}
use Rattle.cpn_edit.specs.Standing.{IsValid}
use Rattle.cpn_edit.proofs.EditedSessions.{head_or, tail_of, phase_valid}
use Rattle.cpn_edit.proofs.RunSessions.{setup_playable, run_valid}

-- ---- one run

-- two markings and clocks are the same
record AreSame (m m' : Marking) (clock clock' : ℕ) : Type 0 where
  pub markings : m ≡ m'
  pub clocks : clock ≡ clock'

one_latest : (earlier : List PlainPhase) (m m' : Marking) (clock clock' : ℕ) → IsWhereLatestEnded earlier m clock → IsWhereLatestEnded earlier m' clock' → AreSame m m' clock clock'
one_latest [] m m' clock clock' at at' = absurd at
one_latest (latest ∷ earlier) m m' clock clock' at at' = record { markings = at.0 ∙ sym at'.0; clocks = at.1 ∙ sym at'.1 }

one_start : (s : PlainSession) (from : Start) (m m' : Marking) (clock clock' : ℕ) → StartsAt s from m clock → StartsAt s from m' clock' → AreSame m m' clock clock'
one_start s starts.Initial m m' clock clock' at at' = record { markings = at.0 ∙ sym at'.0; clocks = at.1 ∙ sym at'.1 }
one_start s starts.Here m m' clock clock' at at' = one_latest s.earlier m m' clock clock' at at'

-- a session with one seat has one next run, but for want of memory
one_next : (s : PlainSession) → IsValid s → s.limits.seats ≡ 1 → (from : Start) (run other : PlainPhase) → IsNextRun s from run → run.run.cause ≢ wants_memory → IsNextRun s from other → other.run.cause ≢ wants_memory → run ≡ other
one_next s valid one from run other is ends is' ends' =
    let same = one_start s from is.start is'.start is.clock is'.clock is.starts_at is'.starts_at in
    let setups : run.setup ≡ other.setup = is.setup_is ∙ ap₂ (setup_of s) same.markings same.clocks ∙ sym is'.setup_is in
    let setup : PlainSetup = setup_of s is.start is.clock in
    let here : IsRun setup run.run = subst (λ (x : PlainSetup). IsRun x run.run) is.setup_is is.is_run in
    let there : IsRun setup other.run = subst (λ (x : PlainSetup). IsRun x other.run) (sym setups ∙ is.setup_is) is'.is_run in
    let in_time = (setup_playable s valid from is.start is.clock is.starts_at).clock in
    let runs : run.run ≡ other.run = one_run setup run.run other.run one in_time here ends there ends' in
    ap₂ (λ (x : PlainSetup) (r : PlainFinished). record { setup = x; run = r }) setups runs

-- ---- the others

-- The first run is that of this phase, and the others are those of the phases left after it.
record AreRunsFrom (s : PlainSession) (run : PlainPhase) (runs : List PlainPhase) (phase : EditedPhase) (left : List EditedPhase) : Type 0 where
  pub next : IsNextRun (after_phase s phase left) phase.start run
  pub ends_otherwise : run.run.cause ≢ wants_memory
  pub others : AreRuns (after_run (after_phase s phase left) run) runs

-- where the phases that are left are none, or the latest run ended by a fault, there is no run
none_left : (s : PlainSession) (phase : EditedPhase) (left : List EditedPhase) → s.phases ≡ phase ∷ left → (EndedByFault s.earlier → ⊥) → AreRuns s [] → ⊥
unfolding AreRuns
none_left s phase left are no_fault ends = ⊎_elim (λ (none : s.phases ≡ []). let e : phase ∷ left ≡ [] = sym are ∙ none in cc) no_fault ends

-- The law: a valid session with one seat has one list of runs.
pub one_session : (s : PlainSession) → IsValid s → s.limits.seats ≡ 1 → (runs others : List PlainPhase) → AreRuns s runs → AreRuns s others → runs ≡ others
unfolding AreRuns
one_session s valid one [] [] are are' = refl
one_session s valid one [] (other ∷ others) are are' = absurd (none_left s are'.0 are'.1 are'.2 are'.3 are)
one_session s valid one (run ∷ runs) [] are are' = absurd (none_left s are.0 are.1 are.2 are.3 are')
one_session s valid one (run ∷ runs) (other ∷ others) are are' =
    let phase = are.0 in
    let left = are.1 in
    let phases : are'.0 ∷ are'.1 ≡ phase ∷ left = sym are'.2 ∙ are.2 in
    let first : AreRunsFrom s other others are'.0 are'.1 = record { next = are'.4; ends_otherwise = are'.5; others = are'.6 } in
    let second : AreRunsFrom s other others phase are'.1 = subst (λ (p : EditedPhase). AreRunsFrom s other others p are'.1) (ap (head_or phase) phases) first in
    let third : AreRunsFrom s other others phase left = subst (AreRunsFrom s other others phase) (ap tail_of phases) second in
    let taken : PlainSession = after_phase s phase left in
    let is_valid = phase_valid s valid phase left are.2 in
    let same : run ≡ other = one_next taken is_valid one phase.start run other are.4 are.5 third.next third.ends_otherwise in
    let rest : AreRuns (after_run taken run) others = subst (λ (r : PlainPhase). AreRuns (after_run taken r) others) (sym same) third.others in
    ap₂ (λ (r : PlainPhase) (rs : List PlainPhase). r ∷ rs) same (one_session (after_run taken run) (run_valid taken is_valid phase.start run are.4) one runs others are.6 rest)
