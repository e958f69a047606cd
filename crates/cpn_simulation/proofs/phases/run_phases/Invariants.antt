-- The runs so far were made, of whatever session the first one stands for; and fewer phases are left with each turn.
use Rattle.std.proofs.Common.{◌≡◌, ◌<◌, ◌^◌, [], length}
use Rattle.cpn_edit.specs.Sessions.{PlainSession, StartInitially}
use Rattle.cpn_edit.specs.Standing.{Stands}
use Rattle.cpn_report.specs.Tells.{Tells}
use Rattle.cpn_report.specs.declared.traces.Trace.{Trace}
use Rattle.cpn_simulation.specs.Reported.{IsReported}
use Rattle.cpn_simulation.proofs.SessionRuns.{SoFar}
use Rattle.cpn_simulation.proofs.phases.run_phases.Given as goal

abbrev pub invariant-loop-session : goal.invariant-loop-session
invariant-loop-session g l =
    record {
      so_far : (first : PlainSession) → (trace : Trace) → Stands first l.initial.session → first.earlier ≡ [] → StartInitially first.phases → Tells trace [] l.initial.told → length first.phases < 2 ^ 63
          → SoFar g.P.Probe.Notes first trace l.initial.probes.items l.session l.told l.probes.items l.status;
      reported : IsReported l.status;
    }

abbrev pub decreases-loop-session : goal.decreases-loop-session
decreases-loop-session g l = length l.session.phases.items
