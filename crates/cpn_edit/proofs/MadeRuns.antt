-- The runs of a valid session are runs of setups that a run may start from, in a net that differs from that of the session in guards and
-- variables alone, with its monitors.
use Rattle.std.proofs.Common.{◌≡◌, ◌≢◌, ℕ, suc, true, List, [], ◌∷◌, map, refl, sym, ap, ◌∙◌, subst}
use Rattle.std.specs.List.{AllByRecursion, list_all}
use Rattle.std.proofs.lemmas.Simd.{map-map}
use Rattle.cpn_definitions.specs.DistinctNames.{is_path, HasWellSpelledNames}
use Rattle.cpn_definitions.specs.Named.{IsNamed}
use Rattle.cpn_definitions.specs.Net.{PlainTransition, PlainNet}
use Rattle.cpn_document.specs.Phases.{RawEdit, at_edit}
use Rattle.cpn_document.specs.declared.document.Start.{Start}
use Rattle.cpn_document.specs.declared.pointers.EditPart.TheVariants as of_edit
use Rattle.cpn_edit_texts.specs.Checked.{edit_so, edits_so}
use Rattle.cpn_edit_texts.specs.Edits.{PlainEdit, EditedPhase, net_after, net_after_all, but_guard, but_guards, AreAlikeButGuards}
use Rattle.cpn_edit_texts.specs.Reading.{read}
use Rattle.cpn_edit_texts.proofs.KeptNets.{edit_keeps}
use Rattle.cpn_monitor.specs.Monitors.{PlainMonitor}
use Rattle.cpn_readings.proofs.Readings.{same_read}
use Rattle.cpn_readings.proofs.RelatedReadings.{step_parts}
use Rattle.cpn_runs.specs.Phases.{PlainPhase}
use Rattle.cpn_runs.specs.Playable.{IsPlayable}
use Rattle.cpn_runs.specs.Run.{IsRun}
use Rattle.cpn_runs.specs.State.{PlainSetup, wants_memory}
use Rattle.cpn_typing.specs.Names.{Declared}
use Rattle.cpn_edit.specs.Sessions.{PlainSession, setup_of, IsNextRun, AreRuns, after_phase, after_run}
use Rattle.cpn_edit.specs.Standing.{IsValid}
use Rattle.cpn_edit.proofs.EditedSessions.{next, phase_valid}
use Rattle.cpn_edit.proofs.RunSessions.{setup_playable, run_valid}

-- ---- alike nets

-- edits that are read change guards and variables alone
edits_alike : (ds : Declared) (monitors : List PlainMonitor) (p e : ℕ) (n : PlainNet) (raws : List RawEdit) (edits : List PlainEdit) → edits_so ds monitors p e n raws (read edits) → AreAlikeButGuards (net_after_all n edits) n
unfolding edits_so
edits_alike ds monitors p e n [] edits h = subst (λ (es : List PlainEdit). AreAlikeButGuards (net_after_all n es) n) (sym (same_read edits [] h)) refl
edits_alike ds monitors p e n (raw ∷ raws) edits h =
    let first = step_parts (edit_so ds n monitors (at_edit p e of_edit.Whole) (at_edit p e of_edit.Text) raw) _ edits h in
    let rest = step_parts (edits_so ds monitors p (suc e) (net_after n first.0) raws) _ edits first.2 in
    subst (λ (es : List PlainEdit). AreAlikeButGuards (net_after_all n es) n) (sym (same_read edits (first.0 ∷ rest.0) rest.2))
    (edits_alike ds monitors p (suc e) (net_after n first.0) raws rest.0 rest.1 ∙ edit_keeps ds n monitors (at_edit p e of_edit.Whole) (at_edit p e of_edit.Text) raw first.0 first.1)

-- so do those of the next phase
phase_alike : (s : PlainSession) → IsValid s → (phase : EditedPhase) (left : List EditedPhase) → s.phases ≡ phase ∷ left → AreAlikeButGuards (net_after_all s.net phase.edits) s.net
phase_alike s valid phase left are =
    let accepted = next s valid phase left are in
    edits_alike s.declared s.monitors accepted.number 0 s.net accepted.written phase.edits accepted.edits

-- ---- names

spelled_but_guards : (n : PlainNet) → HasWellSpelledNames n → HasWellSpelledNames (but_guards n)
spelled_but_guards n spelled = record {
  places = spelled.places;
  transitions = subst (λ (names : List (List ℕ)). list_all is_path names ≡ true) (sym (map-map (λ (t : PlainTransition). t.name) but_guard n.transitions)) spelled.transitions;
  variables = spelled.variables;
  constants = spelled.constants;
  constructors = spelled.constructors;
}

of_but_guards : (n : PlainNet) → HasWellSpelledNames (but_guards n) → HasWellSpelledNames n
of_but_guards n spelled = record {
  places = spelled.places;
  transitions = subst (λ (names : List (List ℕ)). list_all is_path names ≡ true) (map-map (λ (t : PlainTransition). t.name) but_guard n.transitions) spelled.transitions;
  variables = spelled.variables;
  constants = spelled.constants;
  constructors = spelled.constructors;
}

-- Names stay well spelled where guards and variables alone are others.
pub spelled_alike : (n m : PlainNet) → AreAlikeButGuards n m → HasWellSpelledNames m → HasWellSpelledNames n
spelled_alike n m alike spelled = of_but_guards n (subst HasWellSpelledNames (sym alike) (spelled_but_guards m spelled))

-- ---- runs

-- A run that was made in a net like this one: it is one of its setup, from which a run may start, and did not end for want of memory.
pub record IsMadeIn (n : PlainNet) (monitors : List PlainMonitor) (run : PlainPhase) : Type 0 where
  pub playable : IsPlayable run.setup
  pub named : IsNamed run.setup.net
  pub alike : AreAlikeButGuards run.setup.net n
  pub monitors_are : run.setup.monitors ≡ monitors
  pub is_run : IsRun run.setup run.run
  pub ends_otherwise : run.run.cause ≢ wants_memory

made_next : (n : PlainNet) (s : PlainSession) → IsValid s → AreAlikeButGuards s.net n → (from : Start) (run : PlainPhase) → IsNextRun s from run → run.run.cause ≢ wants_memory → IsMadeIn n s.monitors run
made_next n s valid alike from run is ends =
    let same : run.setup ≡ setup_of s is.start is.clock = is.setup_is in
    record {
      playable = subst IsPlayable (sym same) (setup_playable s valid from is.start is.clock is.starts_at);
      named = subst (λ (x : PlainSetup). IsNamed x.net) (sym same) valid.ready.named;
      alike = subst (λ (x : PlainSetup). AreAlikeButGuards x.net n) (sym same) alike;
      monitors_are = ap (λ (x : PlainSetup). x.monitors) same;
      is_run = is.is_run;
      ends_otherwise = ends;
    }

made_all : (n : PlainNet) (s : PlainSession) → IsValid s → AreAlikeButGuards s.net n → (runs : List PlainPhase) → AreRuns s runs → AllByRecursion (IsMadeIn n s.monitors) runs
unfolding AreRuns
made_all n s valid alike [] are = tt
made_all n s valid alike (run ∷ runs) are =
    let taken : PlainSession = after_phase s are.0 are.1 in
    let is_valid = phase_valid s valid are.0 are.1 are.2 in
    let alike_taken : AreAlikeButGuards taken.net n = phase_alike s valid are.0 are.1 are.2 ∙ alike in
    (made_next n taken is_valid alike_taken are.0.start run are.4 are.5, made_all n (after_run taken run) (run_valid taken is_valid are.0.start run are.4) alike_taken runs are.6)

-- The law.
pub runs_are_made : (s : PlainSession) → IsValid s → (runs : List PlainPhase) → AreRuns s runs → AllByRecursion (IsMadeIn s.net s.monitors) runs
runs_are_made s valid runs are = made_all s.net s valid refl runs are
