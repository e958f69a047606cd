-- The run begins from the next setup.
use Rattle.std.proofs.Common.{sym, ◌∙◌, subst}
use Rattle.cpn_runs.specs.Playable.{IsPlayable}
use Rattle.cpn_edit.specs.Standing.{StandsBetween, Stands}
use Rattle.cpn_edit.proofs.RunSessions.{setup_playable}
use Rattle.cpn_edit.proofs.StandingSessions.{between_stands}
use Rattle.cpn_edit.proofs.sessions.Session.start_run.Goals as goal

pub start-requires : goal.start-requires
start-requires c =
    let s = c.requires.stands.0 in
    let stands : Stands s c.args.self.now = c.requires.stands.1 in
    let setup = c.in_ok-setup.setup in
    let next = c.in_ok-setup.ensures.setup s stands in
    record { playable = subst IsPlayable (sym next.1) (setup_playable s stands.but_latest.valid c.args.start setup.start setup.clock next.0) }

pub returns-clause-begins : goal.returns-clause-begins
returns-clause-begins c = λ s stands.
    let setup = c.in_ok-setup.setup in
    let next = c.in_ok-setup.ensures.setup s stands in
    record {
      start = setup.start;
      clock = setup.clock;
      starts_at = next.0;
      setup_is = c.in_ok-book.ensures.setup ∙ next.1;
      stands = subst (StandsBetween s) (sym c.in_ok-setup.ensures.rest) (between_stands s c.args.self.now c.take_setup.new.self.latest stands.but_latest);
    }
