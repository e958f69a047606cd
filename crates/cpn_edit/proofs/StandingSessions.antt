-- Where a session of the program stands after an edit, after its next phase is taken, and after a run.
use Rattle.std.proofs.Common.{◌≡◌, ℕ, suc, ◌+◌, ◌*◌, ◌-◌, ◌/◌, ◌^◌, ◌%◌, List, [], ◌∷◌, length, Option, Some, None, refl, sym, ap, ◌∙◌, subst, arith}
use Rattle.std.specs.Prelude.{slice_get}
use Rattle.std.specs.List.{AllByRecursion}
use Rattle.std.proofs.Math.Nat.{mod-add-div, add-mul-mod_self_left}
use Rattle.std.proofs.lemmas.List.{length-map}
use Rattle.std.proofs.lemmas.Option.{same_Some}
use Rattle.std.proofs.lemmas.List.Sums.{sum_by-cons}
use Rattle.cpn_core.specs.Inscriptions.{funs_view}
use Rattle.cpn_core.specs.Nets.{transition_view, net_view}
use Rattle.cpn_core.specs.declared.nets.Net.{Net}
use Rattle.cpn_declared.specs.DeclsViews.{decls_view}
use Rattle.cpn_definitions.specs.Marking.{Marking}
use Rattle.cpn_definitions.specs.Net.{PlainNet}
use Rattle.cpn_definitions.proofs.Markings.{marking_length}
use Rattle.cpn_document.specs.declared.document.Start.{Start}
use Rattle.cpn_document.specs.declared.document.Start.TheVariants as starts
use Rattle.cpn_edit_texts.specs.Edits.{PlainEdit, edits_guard, edits_initial, EditedPhase, net_after, net_after_all, initial_after_all}
use Rattle.cpn_document.specs.Phases.{RawEdit}
use Rattle.cpn_document.specs.declared.pointers.Pointer.{Pointer}
use Rattle.cpn_edit_texts.specs.Checked.{edit_so}
use Rattle.cpn_edit_texts.specs.Reading.{Reading}
use Rattle.cpn_edit_texts.specs.Ready.{IsThere}
use Rattle.cpn_edit_texts.specs.Views.{phases_view}
use Rattle.cpn_monitor.specs.Monitors.{PlainMonitor}
use Rattle.cpn_monitor.specs.Views.{monitors_view}
use Rattle.cpn_monitor.specs.declared.monitors.Monitors.{Monitors}
use Rattle.cpn_runs.specs.FinishedViews.{setup_view}
use Rattle.cpn_runs.specs.Phases.{PlainPhase, occurrences_of, IsWhereLatestEnded}
use Rattle.cpn_runs.specs.declared.runs.Setup.{Setup}
use Rattle.cpn_typing.specs.Names.{Declared}
use Rattle.cpn_edit.specs.Sessions.{PlainSession, after_run, setup_of, StartsAt, IsNextRun}
use Rattle.cpn_edit.specs.Standing.{IsValid, IsLatest, StandsBetween, Stands}
use Rattle.cpn_edit.specs.declared.sessions.Session.{Session}
use Rattle.cpn_edit.specs.declared.sessions.Latest.{Latest}
use Rattle.cpn_edit.proofs.RunSessions.{run_valid}

-- the first of a list that has one
pub head_is : {A : Type 0} (xs : List A) (x : A) → Some x ≡ slice_get xs 0 → (rest : List A) × (xs ≡ x ∷ rest)
head_is [] x h = cc
head_is (y ∷ ys) x h = (ys, ap (λ z. z ∷ ys) (sym (same_Some x y h)))

-- ---- edits

-- what is there in the plain session is there in that of the program
pub there_in : (s : PlainSession) (session : Session) → Stands s session → (edits : List PlainEdit) → AllByRecursion (IsThere (length s.net.transitions) (length s.net.places)) edits
    → AllByRecursion (IsThere (length session.net.value.transitions.items) (length session.initial)) edits
there_in s session stands edits there =
    let b = stands.but_latest in
    let transitions : length s.net.transitions ≡ length session.net.value.transitions.items = ap (λ (n : PlainNet). length n.transitions) (sym b.net) ∙ length-map session.net.value.transitions.items transition_view in
    let places : length s.net.places ≡ length session.initial = sym (marking_length s.net.places s.initial b.valid.ready.marking) ∙ ap (λ (m : Marking). length m) (sym b.initial) in
    subst (λ (k : ℕ). AllByRecursion (IsThere k (length session.initial)) edits) transitions (subst (λ (k : ℕ). AllByRecursion (IsThere (length s.net.transitions) k) edits) places there)

-- what is read in the session of the program is read in the plain one
pub read_in : (s : PlainSession) (session : Session) → Stands s session → (net : Net) (monitors : Monitors) → net ≡ session.net.value → monitors ≡ session.monitors.value → (whole at : Pointer) (raw : RawEdit) (r : Reading PlainEdit)
    → edit_so (decls_view session.decls) (net_view net) (monitors_view monitors) whole at raw r → edit_so s.declared s.net s.monitors whole at raw r
read_in s session stands net monitors same_net same_monitors whole at raw r h =
    let b = stands.but_latest in
    subst (λ (ds : Declared). edit_so ds s.net s.monitors whole at raw r) b.declared
    (subst (λ (n : PlainNet). edit_so (decls_view session.decls) n s.monitors whole at raw r) (ap net_view same_net ∙ b.net)
    (subst (λ (ms : List PlainMonitor). edit_so (decls_view session.decls) (net_view net) ms whole at raw r) (ap monitors_view same_monitors ∙ b.monitors) h))

-- edits leave the functions
functions_after : (n : PlainNet) (edit : PlainEdit) → (net_after n edit).functions ≡ n.functions
functions_after n (edits_guard t edited) = refl
functions_after n (edits_initial p tokens) = refl

functions_after_all : (n : PlainNet) (edits : List PlainEdit) → (net_after_all n edits).functions ≡ n.functions
functions_after_all n [] = refl
functions_after_all n (edit ∷ edits) = functions_after_all (net_after n edit) edits ∙ functions_after n edit

-- what a call leaves of a session, but for its net, its initial marking and its phases
pub record LeavesRest (old new : Session) : Type 0 where
  pub decls : new.decls ≡ old.decls
  pub monitors : new.monitors ≡ old.monitors
  pub limits : new.limits ≡ old.limits
  pub seed : new.seed ≡ old.seed
  pub latest : new.latest ≡ old.latest

-- it stands for another plain session, whose runs are the same, after edits
module _ (s : PlainSession) (old new : Session) (stands : Stands s old) (rest : LeavesRest old new) (edits : List PlainEdit) (left : List EditedPhase)
    (net : net_view new.net.value ≡ net_after_all (net_view old.net.value) edits) (initial : new.initial ≡ initial_after_all old.initial edits) (phases : phases_view new.phases.items ≡ left)
    (valid : IsValid (record s { net = net_after_all s.net edits; initial = initial_after_all s.initial edits; phases = left })) where
  pub edited_stands : Stands (record s { net = net_after_all s.net edits; initial = initial_after_all s.initial edits; phases = left }) new
  edited_stands =
      let b = stands.but_latest in
      record {
        but_latest = record {
          valid = valid;
          declared = ap decls_view rest.decls ∙ b.declared;
          net = net ∙ ap (λ (n : PlainNet). net_after_all n edits) b.net;
          initial = initial ∙ ap (λ m. initial_after_all m edits) b.initial;
          functions = ap (λ monitors. funs_view monitors.value.funs.value) rest.monitors ∙ b.functions ∙ sym (functions_after_all s.net edits);
          monitors = ap (λ monitors. monitors_view monitors.value) rest.monitors ∙ b.monitors;
          phases = phases;
          steps = ap (λ limits. limits.steps) rest.limits ∙ b.steps;
          until = ap (λ limits. limits.until) rest.limits ∙ b.until;
          seats = ap (λ limits. limits.seats) rest.limits ∙ b.seats;
          seed = rest.seed ∙ b.seed;
        };
        latest = subst (IsLatest s.earlier) (sym rest.latest) stands.latest;
      }

-- ---- where a run begins

pub starts_at : (s : PlainSession) (session : Session) → Stands s session → (start : Start) (from : Latest) → (start ≡ starts.Initial → (from.marking ≡ session.initial) × (from.clock ≡ 0)) → (start ≡ starts.Here → session.latest ≡ Some from)
    → StartsAt s start from.marking from.clock
starts_at s session stands starts.Initial from initial here = let is = initial refl in (is.0 ∙ stands.but_latest.initial, is.1)
starts_at s session stands starts.Here from initial here = by s.earlier (subst (IsLatest s.earlier) (here refl) stands.latest)
  where
    by : (earlier : List PlainPhase) → IsLatest earlier (Some from) → IsWhereLatestEnded earlier from.marking from.clock
    by [] is = is
    by (latest ∷ earlier) is = is

-- the setup of the next run
pub setup_is : (s : PlainSession) (setup : Setup) → net_view setup.net.value ≡ s.net → funs_view setup.monitors.value.funs.value ≡ s.net.functions → monitors_view setup.monitors.value ≡ s.monitors
    → setup.limits.steps ≡ s.limits.steps - occurrences_of s.earlier → setup.limits.until ≡ s.limits.until → setup.limits.seats ≡ s.limits.seats → setup.seed ≡ (s.limits.seed + length s.earlier) % 2 ^ 64
    → setup_view setup ≡ setup_of s setup.start setup.clock
setup_is s setup net functions monitors steps until seats seed = rw (net, functions, monitors, steps, until, seats, seed) refl

-- while the run is on, it stands but for where its latest run ended
pub between_stands : (s : PlainSession) (old : Session) (latest : Option Latest) → StandsBetween s old → StandsBetween s (record old { latest = latest })
between_stands s old latest b = record {
  valid = b.valid;
  declared = b.declared;
  net = b.net;
  initial = b.initial;
  functions = b.functions;
  monitors = b.monitors;
  phases = b.phases;
  steps = b.steps;
  until = b.until;
  seats = b.seats;
  seed = b.seed;
}

-- ---- after a run

swap : (a b : ℕ) → a + 1 + b ≡ a + b + 1
swap a b = omega arith

-- the number after a remainder
next_remainder : (k m : ℕ) → (k % m + 1) % m ≡ (k + 1) % m
next_remainder k m =
    sym (add-mul-mod_self_left (k % m + 1) m (k / m)) ∙ ap (λ j. j % m) (swap (k % m) (m * (k / m)) ∙ ap (λ j. j + 1) (mod-add-div k m))

-- what the end of a run makes of a session
pub record CountsRun (run : PlainPhase) (old new : Session) : Type 0 where
  pub decls : new.decls ≡ old.decls
  pub net : new.net ≡ old.net
  pub initial : new.initial ≡ old.initial
  pub monitors : new.monitors ≡ old.monitors
  pub phases : new.phases ≡ old.phases
  pub until : new.limits.until ≡ old.limits.until
  pub seats : new.limits.seats ≡ old.limits.seats
  pub steps : new.limits.steps ≡ old.limits.steps - length run.run.occurrences
  pub seed : new.seed ≡ (old.seed + 1) % 2 ^ 64
  pub latest : IsLatest (run ∷ []) new.latest

module _ (s : PlainSession) (start : Start) (run : PlainPhase) (old new : Session) (b : StandsBetween s old) (next : IsNextRun s start run) (counts : CountsRun run old new) where
  fewer : new.limits.steps ≡ s.limits.steps - occurrences_of (run ∷ s.earlier)
  fewer =
      let here = counts.steps in
      let before = b.steps in
      let all = sum_by-cons (λ (phase : PlainPhase). length phase.run.occurrences) run s.earlier in
      omega (arith, here, before, all)

  raised : new.seed ≡ (s.limits.seed + length (run ∷ s.earlier)) % 2 ^ 64
  raised =
      counts.seed ∙ ap (λ k. (k + 1) % 2 ^ 64) b.seed ∙ next_remainder (s.limits.seed + length s.earlier) (2 ^ 64) ∙ ap (λ k. k % 2 ^ 64) (one_more s.limits.seed (length s.earlier))
    where
      one_more : (a n : ℕ) → a + n + 1 ≡ a + suc n
      one_more a n = omega arith

  latest_is : (latest : Option Latest) → IsLatest (run ∷ []) latest → IsLatest (run ∷ s.earlier) latest
  latest_is None is = is
  latest_is (Some latest) is = is

  pub run_stands : Stands (after_run s run) new
  run_stands = record {
    but_latest = record {
      valid = run_valid s b.valid start run next;
      declared = ap decls_view counts.decls ∙ b.declared;
      net = ap (λ net. net_view net.value) counts.net ∙ b.net;
      initial = counts.initial ∙ b.initial;
      functions = ap (λ monitors. funs_view monitors.value.funs.value) counts.monitors ∙ b.functions;
      monitors = ap (λ monitors. monitors_view monitors.value) counts.monitors ∙ b.monitors;
      phases = ap (λ phases. phases_view phases.items) counts.phases ∙ b.phases;
      steps = fewer;
      until = counts.until ∙ b.until;
      seats = counts.seats ∙ b.seats;
      seed = raised;
    };
    latest = latest_is new.latest counts.latest;
  }
