-- The marking that is behind may make its exchange.
use Rattle.std.proofs.Common.{sym, ◌∙◌}
use Rattle.cpn_log.proofs.settled.Settled.second.Goals as goal

pub caught_up-requires-clause-in_time : goal.caught_up-requires-clause-in_time
caught_up-requires-clause-in_time c = (c.self.invariant c.in-Some.behind (sym c.take.ensures.value ∙ c.in-Some.is)).in_time

pub caught_up-requires-clause-room : goal.caught_up-requires-clause-room
caught_up-requires-clause-room c = (c.self.invariant c.in-Some.behind (sym c.take.ensures.value ∙ c.in-Some.is)).room
