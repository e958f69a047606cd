-- A token has the value where the value has an entry.
use Rattle.std.proofs.Common.{◌∙◌}
use Rattle.cpn_core.specs.Views.{value_view}
use Rattle.cpn_tmset.proofs.KeptTokens.{held_where_kept}
use Rattle.cpn_tmset.proofs.tmsets.TMSet.holds.Goals as goal

pub returns : goal.returns
returns c = record { held = rw (← c.self.view_is) (c.contains_key.ensures ∙ held_where_kept (value_view c.args.value.now) c.self.inside.entries.entries c.self.invariant.0.some) }
