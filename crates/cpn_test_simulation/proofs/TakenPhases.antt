-- A session stands for some session after its next phase was taken, or where none is left.
use Rattle.std.specs.Prelude.{Option, Some, None}
use Rattle.cpn_document.specs.declared.document.Start.{Start}
use Rattle.cpn_edit.specs.Answers.{TakesPhase}
use Rattle.cpn_edit.specs.Sessions.{PlainSession, after_phase}
use Rattle.cpn_edit.specs.Standing.{IsSession}
use Rattle.cpn_edit.specs.declared.sessions.Session.{Session}

pub taken : (s : PlainSession) (start : Option Start) (session : Session) → TakesPhase s start session → IsSession session
taken s None session takes = (s, takes.1)
taken s (Some start) session takes = (after_phase s takes.0 takes.1, takes.4)
