-- The marking that is behind may make its exchange.
use Rattle.std.proofs.Common.{sym, ap, ◌∙◌}
use Rattle.cpn_log.specs.declared.markings.SettledAs.TheVariants as places
use Rattle.cpn_log.proofs.markings.Markings.set_apart.Goals as goal

pub caught_up-requires-clause-in_time : goal.caught_up-requires-clause-in_time
caught_up-requires-clause-in_time c = (c.args.self.now.catches_up c.in-Some.behind (c.in-Unclaimed.is ∙ ap places.Unclaimed (sym c.take-second.ensures.value ∙ c.in-Some.is))).in_time

pub caught_up-requires-clause-room : goal.caught_up-requires-clause-room
caught_up-requires-clause-room c = (c.args.self.now.catches_up c.in-Some.behind (c.in-Unclaimed.is ∙ ap places.Unclaimed (sym c.take-second.ensures.value ∙ c.in-Some.is))).room
