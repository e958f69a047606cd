-- Each turn makes one run more, of whatever session the first one stands for.
use Rattle.std.proofs.Common.{◌≡◌, ℕ, suc, ◌≤◌, ◌<◌, ◌^◌, List, ◌∷◌, Some, None, length, inl, refl, sym, ap, ◌∙◌, subst, arith, rules}
use Rattle.std.proofs.lemmas.List.{length-map}
use Rattle.cpn_edit.specs.Answers.{TakesPhase}
use Rattle.cpn_edit.specs.Sessions.{PlainSession, StartInitially, after_phase}
use Rattle.cpn_edit.specs.Standing.{Stands}
use Rattle.cpn_edit.specs.declared.sessions.Session.{Session}
use Rattle.cpn_edit_texts.specs.Edits.{EditedPhase}
use Rattle.cpn_edit_texts.specs.Views.{phase_view, phases_view}
use Rattle.cpn_simulation.proofs.SessionRuns.{AreAll, none_made, no_more, turn_last, turn_on, turn_may_start, room_for_run, room_for_occurrences}
use Rattle.cpn_simulation.proofs.phases.run_phases.Goals as goal

-- as many phases as the session has
few_phases : (s : PlainSession) (session : Session) → Stands s session → length session.phases.items < 2 ^ 63 → length s.phases < 2 ^ 63
few_phases s session stands few = subst (λ (n : ℕ). n < 2 ^ 63) (sym (length-map session.phases.items phase_view) ∙ ap (λ (ps : List EditedPhase). length ps) stands.but_latest.phases) few

-- whatever a session stands for, its phases are the same
same_starts : (s t : PlainSession) (session : Session) → Stands s session → Stands t session → StartInitially s.phases → StartInitially t.phases
same_starts s t session of_s of_t starts = subst StartInitially (sym of_s.but_latest.phases ∙ of_t.but_latest.phases) starts

-- fewer are left after a turn
fewer_phases : (s : PlainSession) (old new : Session) → Stands s old → (phase : EditedPhase) (left : List EditedPhase) → s.phases ≡ phase ∷ left → phases_view new.phases.items ≡ left → suc (length new.phases.items) ≤ length old.phases.items
fewer_phases s old new stands phase left are is =
    let before = ap (λ (ps : List EditedPhase). length ps) (stands.but_latest.phases ∙ are) in
    let after = ap (λ (ps : List EditedPhase). length ps) is in
    let of_old = length-map old.phases.items phase_view in
    let of_new = length-map new.phases.items phase_view in
    omega (arith, before, after, of_old, of_new)

pub loop-session-init : goal.loop-session-init
loop-session-init g c = record {
  so_far = λ first trace stands none starts tells few. none_made g.P.Probe.Notes first trace c.args.probes.now.items c.args.session c.args.told.now stands none starts tells few;
  reported = inl refl;
}

pub next_phase-requires : goal.next_phase-requires
next_phase-requires g c =
    let w = c.requires.may_begin in
    let few = few_phases w.s c.args.session w.stands (omega (arith, c.args.session.phases.ok.0, c.args.session.phases.ok.1, c.args.session.phases.small)) in
    let so = c.loop-session.invariant.so_far w.s w.trace w.stands w.none w.starts w.tells few in
    record { stands = (so.made.s, so.made.stands) }

pub run_phase-requires-clause-stands : goal.run_phase-requires-clause-stands
run_phase-requires-clause-stands g c κs within =
    let w = c.requires.may_begin in
    let few = few_phases w.s c.args.session w.stands (omega (arith, c.args.session.phases.ok.0, c.args.session.phases.ok.1, c.args.session.phases.small)) in
    let so = c.loop-session.invariant.so_far w.s w.trace w.stands w.none w.starts w.tells few in
    let takes : TakesPhase so.made.s (Some c.in-Some.start) c.next_phase.new.self = subst (λ o. TakesPhase so.made.s o c.next_phase.new.self) c.in-Some.is (c.in_ok-start.ensures.takes so.made.s so.made.stands) in
    (after_phase so.made.s takes.0 takes.1, takes.4)

pub run_phase-requires-clause-may_start : goal.run_phase-requires-clause-may_start
run_phase-requires-clause-may_start g c κs within =
    let w = c.requires.may_begin in
    let few = few_phases w.s c.args.session w.stands (omega (arith, c.args.session.phases.ok.0, c.args.session.phases.ok.1, c.args.session.phases.small)) in
    let so = c.loop-session.invariant.so_far w.s w.trace w.stands w.none w.starts w.tells few in
    let takes : TakesPhase so.made.s (Some c.in-Some.start) c.next_phase.new.self = subst (λ o. TakesPhase so.made.s o c.next_phase.new.self) c.in-Some.is (c.in_ok-start.ensures.takes so.made.s so.made.stands) in
    turn_may_start g.P.Probe.Notes w.s w.trace c.args.probes.now.items c.loop-session.session c.loop-session.told c.loop-session.probes.items c.loop-session.status so c.in-Some.start c.next_phase.new.self takes c.loop-session.session c.loop-session.told c.loop-session.probes.items c.loop-session.status

pub run_phase-requires-clause-few_runs : goal.run_phase-requires-clause-few_runs
run_phase-requires-clause-few_runs g c κs within =
    let w = c.requires.may_begin in
    let few = few_phases w.s c.args.session w.stands (omega (arith, c.args.session.phases.ok.0, c.args.session.phases.ok.1, c.args.session.phases.small)) in
    let so = c.loop-session.invariant.so_far w.s w.trace w.stands w.none w.starts w.tells few in
    room_for_run g.P.Probe.Notes w.s w.trace c.args.probes.now.items c.loop-session.session c.loop-session.told c.loop-session.probes.items c.loop-session.status so

pub run_phase-requires-clause-few_occurrences : goal.run_phase-requires-clause-few_occurrences
run_phase-requires-clause-few_occurrences g c κs within =
    let w = c.requires.may_begin in
    let few = few_phases w.s c.args.session w.stands (omega (arith, c.args.session.phases.ok.0, c.args.session.phases.ok.1, c.args.session.phases.small)) in
    let so = c.loop-session.invariant.so_far w.s w.trace w.stands w.none w.starts w.tells few in
    room_for_occurrences g.P.Probe.Notes w.s w.trace c.args.probes.now.items c.loop-session.session c.loop-session.told c.loop-session.probes.items c.loop-session.status so

pub returns-in-RunFault-clause-runs : goal.returns-in-RunFault-clause-runs
returns-in-RunFault-clause-runs g c = λ s stands none trace tells.
    let w = c.requires.may_begin in
    let few = few_phases s c.args.session stands (omega (arith, c.args.session.phases.ok.0, c.args.session.phases.ok.1, c.args.session.phases.small)) in
    let so = c.loop-session.invariant.so_far s trace stands none (same_starts w.s s c.args.session w.stands stands w.starts) tells few in
    let takes : TakesPhase so.made.s (Some c.in-Some.start) c.next_phase.new.self = subst (λ o. TakesPhase so.made.s o c.next_phase.new.self) c.in-Some.is (c.in_ok-start.ensures.takes so.made.s so.made.stands) in
    let all : AreAll g.P.Probe.Notes s trace c.args.probes.now.items c.run_phase.new.told c.run_phase.new.probes.items c.in_ok-session.field-0-1 =
    turn_last g.P.Probe.Notes s trace c.args.probes.now.items c.loop-session.session c.loop-session.told c.loop-session.probes.items c.loop-session.status so c.in-Some.start c.next_phase.new.self takes c.in_ok-session.field-0-0 c.run_phase.new.told c.run_phase.new.probes.items c.in_ok-session.field-0-1
    (c.in_ok-session.ensures.run (after_phase so.made.s takes.0 takes.1) takes.4) c.in-RunFault.is in
    (all.runs, all.are, all.status_is, all.tells, all.probes)

pub loop-session-preserved : goal.loop-session-preserved
loop-session-preserved g c = record {
  so_far = λ first trace stands none starts tells few.
      let so = c.loop-session.invariant.so_far first trace stands none starts tells few in
      let takes : TakesPhase so.made.s (Some c.in-Some.start) c.next_phase.new.self = subst (λ o. TakesPhase so.made.s o c.next_phase.new.self) c.in-Some.is (c.in_ok-start.ensures.takes so.made.s so.made.stands) in
      turn_on g.P.Probe.Notes first trace c.args.probes.now.items c.loop-session.session c.loop-session.told c.loop-session.probes.items c.loop-session.status so c.in-Some.start c.next_phase.new.self takes c.in_ok-session.field-0-0 c.run_phase.new.told c.run_phase.new.probes.items c.in_ok-session.field-0-1
      (c.in_ok-session.ensures.run (after_phase so.made.s takes.0 takes.1) takes.4) c.in_default-status.not-RunFault;
  reported = c.in_ok-session.ensures.reported;
}

pub returns-clause-runs : goal.returns-clause-runs
returns-clause-runs g c = λ s stands none trace tells.
    let w = c.requires.may_begin in
    let few = few_phases s c.args.session stands (omega (arith, c.args.session.phases.ok.0, c.args.session.phases.ok.1, c.args.session.phases.small)) in
    let so = c.loop-session.invariant.so_far s trace stands none (same_starts w.s s c.args.session w.stands stands w.starts) tells few in
    let left : c.in_ok-start.field-0 ≡ None = search rules in
    let takes : TakesPhase so.made.s None c.next_phase.new.self = subst (λ o. TakesPhase so.made.s o c.next_phase.new.self) left (c.in_ok-start.ensures.takes so.made.s so.made.stands) in
    let all = no_more g.P.Probe.Notes s trace c.args.probes.now.items c.loop-session.session c.loop-session.told c.loop-session.probes.items c.loop-session.status so takes.0 in
    (all.runs, all.are, all.status_is, all.tells, all.probes)

pub returns-clause-reported : goal.returns-clause-reported
returns-clause-reported g c = c.loop-session.invariant.reported

pub loop-session-smaller : goal.loop-session-smaller
loop-session-smaller g c =
    let w = c.requires.may_begin in
    let few = few_phases w.s c.args.session w.stands (omega (arith, c.args.session.phases.ok.0, c.args.session.phases.ok.1, c.args.session.phases.small)) in
    let so = c.loop-session.invariant.so_far w.s w.trace w.stands w.none w.starts w.tells few in
    let takes : TakesPhase so.made.s (Some c.in-Some.start) c.next_phase.new.self = subst (λ o. TakesPhase so.made.s o c.next_phase.new.self) c.in-Some.is (c.in_ok-start.ensures.takes so.made.s so.made.stands) in
    let ran = c.in_ok-session.ensures.run (after_phase so.made.s takes.0 takes.1) takes.4 in
    fewer_phases so.made.s c.loop-session.session c.in_ok-session.field-0-0 so.made.stands takes.0 takes.1 takes.2 ran.3.but_latest.phases
