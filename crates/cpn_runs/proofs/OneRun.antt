-- A journal is that of one run; and with one seat a setup has one run that ends otherwise than for want of memory.
use Rattle.std.proofs.Common.{◌≡◌, ◌≢◌, ℕ, ◌≤◌, true, false, List, length, Some, None, Option, refl, sym, ap, ◌∙◌, subst, inl}
use Rattle.std.specs.Option.{MatchOption}
use Rattle.std.proofs.Math.Path.{ap₂}
use Rattle.std.proofs.lemmas.Option.{same_Some}
use Rattle.cpn_definitions.specs.Marking.{Marking}
use Rattle.cpn_definitions.specs.Legal.{LeastTime}
use Rattle.cpn_definitions.specs.Enabled.{ready, next_time, IsDead}
use Rattle.cpn_runs.specs.State.{PlainSetup, PlainEvent, PlainEnd, dead, steps_made, until_passed, fault_end, stopped_by, wants_memory, PlainCut, PlainState, first_state, IsState, HasCause, EndsBy, committed_occurrences, settled_in}
use Rattle.cpn_runs.specs.MeasuredStates.{values_in}
use Rattle.cpn_runs.specs.Run.{PlainFinished, IsRun, Outlook, HasOutlook}
use Rattle.cpn_definitions.proofs.OneEnabledList.{enabled_is_unique}
use Rattle.cpn_runs.proofs.States.{one_state, least_is_unique}
use Rattle.cpn_runs.proofs.OneJournal.{IsSameEnd, same_journal}

-- with one seat there is at most one journal that has an end, unless for want of memory, and it leads to one state
pub one_journal : (setup : PlainSetup) (J J' : List PlainEvent) (s s' : PlainState) (cause cause' : PlainEnd) → setup.limits.seats ≡ 1 → setup.clock ≤ setup.limits.until → IsState setup J s → EndsBy setup s cause → cause ≢ wants_memory → IsState setup J' s' → EndsBy setup s' cause' → cause' ≢ wants_memory → IsSameEnd J J' s s'
one_journal setup J J' s s' cause cause' one in_time a ends other b ends' other' =
    same_journal setup (first_state setup) J J' s s' cause cause' one (inl (record { no_cut = refl; closed = refl; in_time = in_time })) a ends other b ends' other'

-- where something is covered at some time the marking is not dead
dead_or_later : (setup : PlainSetup) (s : PlainState) (time : ℕ) → HasCause setup s dead → HasCause setup s (until_passed time) → ⊥
dead_or_later setup s time over later =
    let P : Marking → Type 0 = λ m. IsDead setup.net m in
    let none = (subst P (same_Some over.1.0 later.2.0 (sym over.1.1 ∙ later.2.1)) over.1.2) time later.2.2.some.0 in
    let e : true ≡ false = sym later.2.2.some.1 ∙ none in
    cc

-- a run without a cut has one cause
one_cause : (setup : PlainSetup) (s : PlainState) (c c' : PlainEnd) → HasCause setup s c → HasCause setup s c' → c ≡ c'
one_cause setup s steps_made steps_made has has' = refl
one_cause setup s steps_made dead has has' = absurd (has'.0 has)
one_cause setup s steps_made (until_passed time) has has' = absurd (has'.0 has)
one_cause setup s dead steps_made has has' = absurd (has.0 has')
one_cause setup s dead dead has has' = refl
one_cause setup s dead (until_passed time) has has' = absurd (dead_or_later setup s time has has')
one_cause setup s (until_passed time) steps_made has has' = absurd (has.0 has')
one_cause setup s (until_passed time) dead has has' = absurd (dead_or_later setup s time has' has)
one_cause setup s (until_passed time) (until_passed time') has has' =
    let P : Marking → Type 0 = λ m. LeastTime setup.net m s.clock time in
    ap until_passed (least_is_unique setup.net has'.2.0 s.clock time time' (subst P (same_Some has.2.0 has'.2.0 (sym has.2.1 ∙ has'.2.1)) has.2.2) has'.2.2)
one_cause setup s (fault_end e f) c' has has' = absurd has
one_cause setup s (stopped_by monitor) c' has has' = absurd has
one_cause setup s wants_memory c' has has' = absurd has
one_cause setup s steps_made (fault_end e f) has has' = absurd has'
one_cause setup s dead (fault_end e f) has has' = absurd has'
one_cause setup s (until_passed time) (fault_end e f) has has' = absurd has'
one_cause setup s steps_made (stopped_by monitor) has has' = absurd has'
one_cause setup s dead (stopped_by monitor) has has' = absurd has'
one_cause setup s (until_passed time) (stopped_by monitor) has has' = absurd has'
one_cause setup s steps_made wants_memory has has' = absurd has'
one_cause setup s dead wants_memory has has' = absurd has'
one_cause setup s (until_passed time) wants_memory has has' = absurd has'

-- and so has each run, with a cut or without
one_end : (setup : PlainSetup) (s : PlainState) (c c' : PlainEnd) → EndsBy setup s c → EndsBy setup s c' → c ≡ c'
one_end setup s c c' ends ends' = by s.cut ends.has_cause ends'.has_cause
  where
    by : (cut : Option PlainCut) → MatchOption cut (HasCause setup s c) (λ k. c ≡ k.cause) → MatchOption cut (HasCause setup s c') (λ k. c' ≡ k.cause) → c ≡ c'
    by None has has' = one_cause setup s c c' has has'
    by (Some cut) is is' = is ∙ sym is'

-- a marking at a clock has one outlook
pub one_outlook : (setup : PlainSetup) (m : Marking) (clock : ℕ) (o o' : Outlook) → HasOutlook setup m clock o → HasOutlook setup m clock o' → o ≡ o'
one_outlook setup m clock o o' a b =
    let same : a.entries ≡ b.entries = enabled_is_unique setup.net m clock a.entries b.entries a.enabled b.enabled in
    ap₂ (λ count next. record { ready_count = count; next = next }) (a.ready_count_is ∙ ap (λ xs. length (ready clock xs)) same ∙ sym b.ready_count_is) (a.next_is ∙ ap next_time same ∙ sym b.next_is)

same_finished
    : (r r' : PlainFinished) → r.opening ≡ r'.opening → r.journal ≡ r'.journal → r.occurrences ≡ r'.occurrences → r.marking ≡ r'.marking → r.clock ≡ r'.clock → r.cause ≡ r'.cause → r.closing ≡ r'.closing → r.values ≡ r'.values → r ≡ r'
same_finished r r' a j o m c e z v =
    ap₂ (λ opening journal. record r { opening = opening; journal = journal }) a j
    ∙ ap₂ (λ occurrences marking. record { opening = r'.opening; journal = r'.journal; occurrences = occurrences; marking = marking; clock = r.clock; cause = r.cause; closing = r.closing; values = r.values }) o m
    ∙ ap₂ (λ clock cause. record { opening = r'.opening; journal = r'.journal; occurrences = r'.occurrences; marking = r'.marking; clock = clock; cause = cause; closing = r.closing; values = r.values }) c e
    ∙ ap₂ (λ closing values. record r' { closing = closing; values = values }) z v

-- a journal is that of one run
pub run_of_journal : (setup : PlainSetup) (r r' : PlainFinished) → r.journal ≡ r'.journal → IsRun setup r → IsRun setup r' → r ≡ r'
run_of_journal setup r r' journals a b =
    let J : List PlainEvent → Type 0 = λ events. IsState setup events a.state in
    let states : a.state ≡ b.state = one_state setup r'.journal a.state b.state (subst J journals a.reached) b.reached in
    let P : PlainState → Type 0 = λ s. EndsBy setup s r.cause in
    let ends : EndsBy setup b.state r.cause = subst P states a.ends in
    let causes : r.cause ≡ r'.cause = one_end setup b.state r.cause r'.cause ends b.ends in
    let Q : PlainState → Type 0 = λ s. settled_in setup s ≡ Some r.marking in
    let markings : r.marking ≡ r'.marking = same_Some r.marking r'.marking (sym (subst Q states a.marking_is) ∙ b.marking_is) in
    let clocks : r.clock ≡ r'.clock = a.clock_is ∙ ap (λ (s : PlainState). s.clock) states ∙ sym b.clock_is in
    let R : Marking → ℕ → Type 0 = λ m clock. HasOutlook setup m clock r.closing in
    let closing : HasOutlook setup r'.marking r'.clock r.closing = subst (λ clock. R r'.marking clock) clocks (subst (λ m. R m r.clock) markings a.closing) in
    same_finished r r' (one_outlook setup setup.start setup.clock r.opening r'.opening a.opening b.opening) journals (a.occurrences_are ∙ ap (committed_occurrences setup) states ∙ sym b.occurrences_are) markings clocks causes
    (one_outlook setup r'.marking r'.clock r.closing r'.closing closing b.closing) (a.values_are ∙ ap (values_in setup) states ∙ sym b.values_are)

-- with one seat a setup whose clock is one that the run may reach has one run that ends otherwise than for want of memory
pub one_run : (setup : PlainSetup) (r r' : PlainFinished) → setup.limits.seats ≡ 1 → setup.clock ≤ setup.limits.until → IsRun setup r → r.cause ≢ wants_memory → IsRun setup r' → r'.cause ≢ wants_memory → r ≡ r'
one_run setup r r' one in_time a other b other' = run_of_journal setup r r' (one_journal setup r.journal r'.journal a.state b.state r.cause r'.cause one in_time a.reached a.ends other b.reached b.ends other').journals a b
