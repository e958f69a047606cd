-- The setup is that of the next run.
use Rattle.std.proofs.Common.{◌≡◌, ap, ◌∙◌}
use Rattle.cpn_core.specs.Inscriptions.{funs_view}
use Rattle.cpn_core.specs.Nets.{net_view}
use Rattle.cpn_monitor.specs.Views.{monitors_view}
use Rattle.cpn_runs.specs.FinishedViews.{setup_view}
use Rattle.cpn_runs.specs.declared.runs.Setup.{Setup}
use Rattle.cpn_edit.specs.Sessions.{setup_of}
use Rattle.cpn_edit.specs.Standing.{StandsBetween}
use Rattle.cpn_edit.proofs.StandingSessions.{starts_at, setup_is}
use Rattle.cpn_edit.proofs.sessions.Session.take_setup.Goals as goal

pub returns-clause-setup : goal.returns-clause-setup
returns-clause-setup c = λ s stands.
    let from = c.in_ok-from.from in
    let old = c.args.self.now in
    let new = c.take_start.new.self in
    let rest = c.take_start.ensures.rest in
    let b : StandsBetween s old = stands.but_latest in
    let setup : Setup = record { net = c.in_ok-net.net; start = from.marking; clock = from.clock; limits = new.limits; monitors = c.in_ok-monitors.monitors; seed = new.seed } in
    let net : c.in_ok-net.net.value ≡ old.net.value = c.in_ok-net.ensures.cases in
    let monitors : c.in_ok-monitors.monitors.value ≡ old.monitors.value = c.in_ok-monitors.ensures.cases in
    let limits : new.limits ≡ old.limits = ap (λ session. session.limits) rest in
    let is : setup_view setup ≡ setup_of s from.marking from.clock =
    setup_is s setup (ap net_view net ∙ b.net) (ap (λ m. funs_view m.funs.value) monitors ∙ b.functions) (ap monitors_view monitors ∙ b.monitors)
    (ap (λ l. l.steps) limits ∙ b.steps) (ap (λ l. l.until) limits ∙ b.until) (ap (λ l. l.seats) limits ∙ b.seats) (ap (λ session. session.seed) rest ∙ b.seed) in
    (starts_at s old stands c.args.start from c.in_ok-from.ensures.initial c.in_ok-from.ensures.here, is)
