-- The runs of a session so far, what is told of them, and one run more.
use Rattle.std.proofs.Common.{◌≡◌, ◌≢◌, ℕ, suc, ◌+◌, ◌<◌, ◌≤◌, ◌^◌, ◌⊎◌, inl, inr, List, [], ◌∷◌, ◌++◌, length, Option, Some, None, refl, sym, ap, ◌∙◌, subst, arith}
use Rattle.std.proofs.lemmas.Grind.{flat_map-append}
use Rattle.std.proofs.lemmas.List.{append_assoc, append-nil, length-append}
use Rattle.std.proofs.lemmas.List.Sums.{sum_by-append, sum_by-cons}
use Rattle.cpn_definitions.specs.Legal.{PlainOccurrence}
use Rattle.cpn_document.specs.declared.document.Start.{Start}
use Rattle.cpn_document.specs.declared.document.Start.TheVariants as starts
use Rattle.cpn_edit.specs.Answers.{TakesPhase}
use Rattle.cpn_edit.specs.Sessions.{PlainSession, StartInitially, after_phase, after_run, IsNextRun, IsFault, EndedByFault, AreRuns}
use Rattle.cpn_edit.specs.Standing.{Stands, IsLatest, HasRun, MayStart}
use Rattle.cpn_edit.specs.declared.sessions.Latest.{Latest}
use Rattle.cpn_edit.specs.declared.sessions.Session.{Session}
use Rattle.cpn_edit_texts.specs.Edits.{EditedPhase}
use Rattle.cpn_probe.specs.Told.{AreTold}
use Rattle.cpn_probe.proofs.Tellings.{probes_told_append}
use Rattle.cpn_report.specs.Report.{ToldRun, occurrences_told}
use Rattle.cpn_report.specs.Tells.{runs_in, occurrences_in, Tells}
use Rattle.cpn_report.specs.declared.reports.Report.{Report}
use Rattle.cpn_report.specs.declared.traces.Trace.{Trace}
use Rattle.cpn_runs.specs.Bounds.{most_steps}
use Rattle.cpn_runs.specs.Phases.{PlainPhase, occurrences_of}
use Rattle.cpn_runs.specs.State.{PlainEnd, dead, steps_made, until_passed, fault_end, stopped_by, wants_memory}
use Rattle.cpn_simulation.specs.Reported.{told_runs, occurrences_in_all, status_after, status_after_all}
use Rattle.cpn_simulation.specs.Telling.{told_one, HasTold}
use Rattle.cpn_simulation.specs.declared.statuses.Status.{Status}
use Rattle.cpn_simulation.specs.declared.statuses.Status.TheVariants as statuses

-- ---- lists of runs

-- one run more is told after those before it
told_more : (phases : List EditedPhase) (runs : List PlainPhase) (phase : EditedPhase) (run : PlainPhase) → length phases ≡ length runs → told_runs (phases ++ phase ∷ []) (runs ++ run ∷ []) ≡ told_runs phases runs ++ told_one phase.start run ∷ []
told_more [] [] phase run same = refl
told_more [] (r ∷ runs) phase run same = cc
told_more (p ∷ phases) [] phase run same = cc
told_more (p ∷ phases) (r ∷ runs) phase run same = ap (λ tolds. told_one p.start r ∷ tolds) (told_more phases runs phase run (omega (arith, same)))

-- phases without a run are not told
told_alike : (phases more : List EditedPhase) (runs : List PlainPhase) → length phases ≡ length runs → told_runs (phases ++ more) runs ≡ told_runs phases runs
told_alike [] [] [] same = refl
told_alike [] (p ∷ more) [] same = refl
told_alike [] more (r ∷ runs) same = cc
told_alike (p ∷ phases) more [] same = cc
told_alike (p ∷ phases) more (r ∷ runs) same = ap (λ tolds. told_one p.start r ∷ tolds) (told_alike phases more runs (omega (arith, same)))

occurrences_more : (runs : List PlainPhase) (run : PlainPhase) → occurrences_in_all (runs ++ run ∷ []) ≡ occurrences_in_all runs ++ run.run.occurrences
occurrences_more runs run =
    flat_map-append (λ (r : PlainPhase). r.run.occurrences) runs (run ∷ []) ∙ ap (λ os. occurrences_in_all runs ++ os) (append-nil run.run.occurrences)

status_more : (runs : List PlainPhase) (run : PlainPhase) → status_after_all (runs ++ run ∷ []) ≡ status_after run.run.cause
status_more [] run = refl
status_more (r ∷ []) run = refl
status_more (r ∷ next ∷ runs) run = status_more (next ∷ runs) run

as_many_more : {A B : Type 0} (xs : List A) (ys : List B) (x : A) (y : B) → length xs ≡ length ys → length (xs ++ x ∷ []) ≡ length (ys ++ y ∷ [])
as_many_more [] [] x y same = refl
as_many_more [] (z ∷ ys) x y same = cc
as_many_more (w ∷ xs) [] x y same = cc
as_many_more (w ∷ xs) (z ∷ ys) x y same = ap (λ (n : ℕ). suc n) (as_many_more xs ys x y (omega (arith, same)))

counted_more : (tolds : List ToldRun) (start : Start) (run : PlainPhase) (earlier : List PlainPhase) → occurrences_told tolds ≡ occurrences_of earlier → occurrences_told (tolds ++ told_one start run ∷ []) ≡ occurrences_of (run ∷ earlier)
counted_more tolds start run earlier same =
    let count : ToldRun → ℕ = λ told. length told.run.occurrences in
    let here = sum_by-append count tolds (told_one start run ∷ []) in
    let one = sum_by-cons count (told_one start run) [] in
    let there = sum_by-cons (λ (phase : PlainPhase). length phase.run.occurrences) run earlier in
    omega (arith, here, one, there, same)

told_as_many : (phases : List EditedPhase) (runs : List PlainPhase) → length (told_runs phases runs) ≤ length phases
told_as_many [] runs = omega arith
told_as_many (p ∷ phases) [] = omega arith
told_as_many (p ∷ phases) (r ∷ runs) = let rest = told_as_many phases runs in omega (arith, rest)

-- probes that are told nothing are as they were
told_none : {State : Type 0} (notes : State → PlainOccurrence → State → Type 0) (ss : List State) → AreTold notes ss [] ss
told_none notes [] = tt
told_none notes (s ∷ ss) = (refl, told_none notes ss)

-- ---- ends

fault_of : (cause : PlainEnd) → status_after cause ≡ statuses.RunFault → IsFault cause
fault_of dead is = absurd cc
fault_of steps_made is = absurd cc
fault_of (until_passed time) is = absurd cc
fault_of (stopped_by monitor) is = absurd cc
fault_of (fault_end e fault) is = tt
fault_of wants_memory is = absurd cc

no_fault_of : (cause : PlainEnd) → status_after cause ≢ statuses.RunFault → IsFault cause → ⊥
no_fault_of dead other is = is
no_fault_of steps_made other is = is
no_fault_of (until_passed time) other is = is
no_fault_of (stopped_by monitor) other is = is
no_fault_of (fault_end e fault) other is = other refl
no_fault_of wants_memory other is = is

-- after a run one has ended
has_run : (run : PlainPhase) (earlier : List PlainPhase) (session : Session) → IsLatest (run ∷ earlier) session.latest → HasRun session
has_run run earlier session is = by session.latest refl is
  where
    by : (latest : _) → session.latest ≡ latest → IsLatest (run ∷ earlier) latest → HasRun session
    by None e is = absurd is
    by (Some latest) e is = (latest, e)

still_has : (earlier : List PlainPhase) (old new : Option Latest) → IsLatest earlier old → IsLatest earlier new → ((latest : Latest) × (old ≡ Some latest)) → (latest : Latest) × (new ≡ Some latest)
still_has [] None new is now some = let e : None ≡ Some some.0 = some.1 in cc
still_has [] (Some l) new is now some = absurd is
still_has (run ∷ earlier) old None is now some = absurd now
still_has (run ∷ earlier) old (Some l) is now some = (l, refl)

-- the next run may start as its phase says
may_start : (s : PlainSession) (old new : Session) (phase : EditedPhase) (left : List EditedPhase) (start : Start) → start ≡ phase.start → IsLatest s.earlier old.latest → IsLatest s.earlier new.latest → HasRun old ⊎ StartInitially s.phases
    → s.phases ≡ phase ∷ left → MayStart start new
may_start s old new phase left starts.Initial same was now starts are = tt
may_start s old new phase left starts.Here same was now (inl has) are = still_has s.earlier old.latest new.latest was now has
may_start s old new phase left starts.Here same was now (inr initially) are = let first : phase.start ≡ starts.Initial = subst StartInitially are initially in let e : starts.Here ≡ starts.Initial = same ∙ first in cc

-- ---- the runs so far

module _ {State : Type 0} (notes : State → PlainOccurrence → State → Type 0) (first : PlainSession) (trace : Trace) (before : List State) where
  -- Some runs of the session were made, one of each of the first phases: it stands after them, whatever runs it goes on by are those of the
  -- first session after these, the report has told these, and the probes their occurrences.
  pub record WereMade (session : Session) (report : Report) (now : List State) (status : Status) : Type 0 where
    pub s : PlainSession
    pub stands : Stands s session
    pub runs : List PlainPhase
    pub goes_on : (more : List PlainPhase) → AreRuns s more → AreRuns first (runs ++ more)
    pub taken : List EditedPhase
    pub phases : first.phases ≡ taken ++ s.phases
    pub as_many : length taken ≡ length runs
    pub tells : Tells trace (told_runs taken runs) report
    pub probes : AreTold notes before (occurrences_in_all runs) now
    pub status_is : status ≡ status_after_all runs
    pub counted : occurrences_told (told_runs taken runs) ≡ occurrences_of s.earlier
    pub few : length first.phases < 2 ^ 63

  -- None of them ended by a fault, and the next may start as its phase says.
  pub record SoFar (session : Session) (report : Report) (now : List State) (status : Status) : Type 0 where
    pub made : WereMade session report now status
    pub no_fault : EndedByFault made.s.earlier → ⊥
    pub starts : HasRun session ⊎ StartInitially made.s.phases

  -- what the runs give, where they are all
  pub record AreAll (report : Report) (now : List State) (status : Status) : Type 0 where
    pub runs : List PlainPhase
    pub are : AreRuns first runs
    pub status_is : status ≡ status_after_all runs
    pub tells : Tells trace (told_runs first.phases runs) report
    pub probes : AreTold notes before (occurrences_in_all runs) now

  pub none_made : (session : Session) (report : Report) → Stands first session → first.earlier ≡ [] → StartInitially first.phases → Tells trace [] report → length first.phases < 2 ^ 63 → SoFar session report before statuses.Done
  none_made session report stands none starts tells few = record {
    made = record {
      s = first;
      stands = stands;
      runs = [];
      goes_on = λ more are. are;
      taken = [];
      phases = refl;
      as_many = refl;
      tells = tells;
      probes = told_none notes before;
      status_is = refl;
      counted = sym (ap (λ (earlier : List PlainPhase). occurrences_of earlier) none);
      few = few;
    };
    no_fault = λ ended. subst EndedByFault none ended;
    starts = inr starts;
  }

  module _ (session : Session) (report : Report) (now : List State) (status : Status) (so_far : SoFar session report now status) where
    abbrev made : WereMade session report now status
    made = so_far.made

    -- no phase is left
    pub no_more : made.s.phases ≡ [] → AreAll report now status
    unfolding AreRuns
    no_more none =
        let same : first.phases ≡ made.taken = made.phases ∙ ap (λ left. made.taken ++ left) none ∙ append-nil made.taken in
        record {
          runs = made.runs;
          are = subst (AreRuns first) (append-nil made.runs) (made.goes_on [] (inl none));
          status_is = made.status_is;
          tells = subst (λ phases. Tells trace (told_runs phases made.runs) report) (sym same) made.tells;
          probes = made.probes;
        }

    module _ (phase : EditedPhase) (left : List EditedPhase) (are : made.s.phases ≡ phase ∷ left) (run : PlainPhase) (next : IsNextRun (after_phase made.s phase left) phase.start run) (ends : run.run.cause ≢ wants_memory)
        (after : Session) (stands : Stands (after_run (after_phase made.s phase left) run) after) (report_now : Report) (told : HasTold phase.start run report report_now)
        (then : List State) (probes : AreTold notes now run.run.occurrences then) (status_now : Status) (status_is : status_now ≡ status_after run.run.cause) where
      abbrev its_runs : List PlainPhase
      its_runs = made.runs ++ run ∷ []

      abbrev its_phases : List EditedPhase
      its_phases = made.taken ++ phase ∷ []

      its_told : told_runs its_phases its_runs ≡ told_runs made.taken made.runs ++ told_one phase.start run ∷ []
      its_told = told_more made.taken made.runs phase run made.as_many

      goes_on_by : (more : List PlainPhase) → AreRuns (after_run (after_phase made.s phase left) run) more → AreRuns first (its_runs ++ more)
      unfolding AreRuns
      goes_on_by more are_more = subst (AreRuns first) (sym (append_assoc made.runs (run ∷ []) more)) (made.goes_on (run ∷ more) (phase, left, are, so_far.no_fault, next, ends, are_more))

      pub one_more : WereMade after report_now then status_now
      one_more = record {
        s = after_run (after_phase made.s phase left) run;
        stands = stands;
        runs = its_runs;
        goes_on = goes_on_by;
        taken = its_phases;
        phases = made.phases ∙ ap (λ rest. made.taken ++ rest) are ∙ sym (append_assoc made.taken (phase ∷ []) left);
        as_many = as_many_more made.taken made.runs phase run made.as_many;
        tells = subst (λ tolds. Tells trace tolds report_now) (sym its_told) (told trace (told_runs made.taken made.runs) made.tells);
        probes = subst (λ os. AreTold notes before os then) (sym (occurrences_more made.runs run)) (probes_told_append notes (occurrences_in_all made.runs) run.run.occurrences before now then made.probes probes);
        status_is = status_is ∙ sym (status_more made.runs run);
        counted = ap (λ tolds. occurrences_told tolds) its_told ∙ counted_more (told_runs made.taken made.runs) phase.start run made.s.earlier made.counted;
        few = made.few;
      }

      -- it ended by a fault, and is the last
      pub fault_last : status_now ≡ statuses.RunFault → AreAll report_now then status_now
      unfolding AreRuns one_more
      fault_last fault =
          let m = one_more in
          let same : first.phases ≡ its_phases ++ left = m.phases in
          record {
            runs = its_runs;
            are = subst (AreRuns first) (append-nil its_runs) (goes_on_by [] (inr (fault_of run.run.cause (sym status_is ∙ fault))));
            status_is = m.status_is;
            tells = subst (λ tolds. Tells trace tolds report_now) (sym (ap (λ phases. told_runs phases its_runs) same ∙ told_alike its_phases left its_runs m.as_many)) m.tells;
            probes = m.probes;
          }

      -- it did not
      pub still_so_far : status_now ≢ statuses.RunFault → SoFar after report_now then status_now
      unfolding one_more
      still_so_far other = record {
        made = one_more;
        no_fault = no_fault_of run.run.cause (λ is. other (status_is ∙ is));
        starts = inl (has_run run made.s.earlier after stands.latest);
      }

    -- the next phase was taken, and its run was made
    module _ (start : Start) (between : Session) (takes : TakesPhase made.s (Some start) between) (after : Session) (report_now : Report) (then : List State) (status_now : Status) where
      abbrev taken_from : PlainSession
      taken_from = after_phase made.s takes.0 takes.1

      abbrev Ran : Start → Type 0
      Ran from = (run : PlainPhase) × IsNextRun taken_from from run × (run.run.cause ≢ wants_memory) × Stands (after_run taken_from run) after × (status_now ≡ status_after run.run.cause) × HasTold from run report report_now × AreTold notes now run.run.occurrences then

      pub turn_last : Ran start → status_now ≡ statuses.RunFault → AreAll report_now then status_now
      turn_last ran fault =
          let r = subst Ran takes.3 ran in
          fault_last takes.0 takes.1 takes.2 r.0 r.1 r.2 after r.3 report_now r.5 then r.6 status_now r.4 fault

      pub turn_on : Ran start → status_now ≢ statuses.RunFault → SoFar after report_now then status_now
      turn_on ran other =
          let r = subst Ran takes.3 ran in
          still_so_far takes.0 takes.1 takes.2 r.0 r.1 r.2 after r.3 report_now r.5 then r.6 status_now r.4 other

      pub turn_may_start : MayStart start between
      turn_may_start = subst (λ from. MayStart from between) (sym takes.3) (may_start made.s session between takes.0 takes.1 takes.0.start refl made.stands.latest takes.4.latest so_far.starts takes.2)

    -- there is room for one run more
    pub room_for_run : runs_in report + 1 < 2 ^ 64
    room_for_run =
        let few = made.few in
        let told = told_as_many made.taken made.runs in
        let all = ap (λ (ps : List EditedPhase). length ps) made.phases ∙ length-append made.taken made.s.phases in
        let runs = made.tells.runs_are in
        omega (arith, few, told, all, runs)

    pub room_for_occurrences : occurrences_in report + most_steps < 2 ^ 64
    room_for_occurrences =
        let count = made.tells.occurrences_are in
        let counted = made.counted in
        let few = made.stands.but_latest.valid.few in
        let steps = made.stands.but_latest.valid.steps in
        omega (arith, count, counted, few, steps)
