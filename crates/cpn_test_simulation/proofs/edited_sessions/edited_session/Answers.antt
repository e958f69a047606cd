-- The session stands for some session after each call.
use Rattle.cpn_edit.specs.Sessions.{PlainSession, session_of, after_edit}
use Rattle.cpn_model.specs.Reading.{PlainModel}
use Rattle.cpn_test_simulation.proofs.TakenPhases.{taken}
use Rattle.cpn_test_simulation.proofs.edited_sessions.edited_session.Goals as goal

-- the session of a model, under the limits of the tests
abbrev begun : PlainModel → PlainSession
begun model = session_of (record { seed = 1; steps = 10; until = 100; seats = 1 }) model

pub next_phase-requires : goal.next_phase-requires
next_phase-requires c = let is = c.in_ok-session.ensures.stands in record { stands = (begun is.0, is.2) }

pub edit-requires : goal.edit-requires
edit-requires c =
    let is = c.in_ok-session.ensures.stands in
    record { stands = taken (begun is.0) c.in_ok-_start._start c.next_phase.new.self (c.in_ok-_start.ensures.takes (begun is.0) is.2) }

pub returns : goal.returns
returns c =
    let is = c.in_ok-session.ensures.stands in
    let after = taken (begun is.0) c.in_ok-_start._start c.next_phase.new.self (c.in_ok-_start.ensures.takes (begun is.0) is.2) in
    let edited = c.in_ok-edit.ensures.made after.0 after.1 in
    record { stands = (after_edit after.0 edited.0, edited.2) }
