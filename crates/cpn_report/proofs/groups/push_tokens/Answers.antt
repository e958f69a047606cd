-- Each group is one of tokens that the place may hold, and tokens that are there are printed by their groups.
use Rattle.cpn_definitions.specs.Sound.{may_hold}
use Rattle.cpn_core.specs.Colours.{colour_view}
use Rattle.cpn_report.proofs.GroupedTokens.{groups_pass}
use Rattle.cpn_report.proofs.groups.push_tokens.Goals as goal

pub push_groups-requires-clause-held : goal.push_groups-requires-clause-held
push_groups-requires-clause-held c = rw (c.as_slice.ensures.value, c.in_ok-groups.ensures.groups) (groups_pass (may_hold (colour_view c.args.colour.now)) c.args.tokens.now c.requires.held)
