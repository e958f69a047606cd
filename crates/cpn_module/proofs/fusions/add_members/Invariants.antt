-- The members so far are among the places.
use Rattle.std.proofs.Common.{◌≡◌, ◌||◌, take, map}
use Rattle.std.specs.List.{list_any}
use Rattle.cpn_module.specs.Hierarchy.{PlainMember}
use Rattle.cpn_module.specs.Views.{fused_view}
use Rattle.cpn_module.specs.ModuleRules.{is_same_member}
use Rattle.cpn_module.specs.Pairs.{has_pair}
use Rattle.cpn_module.proofs.fusions.add_members.Given as goal

abbrev pub invariant-loop-member : goal.invariant-loop-member
invariant-loop-member l = (member : PlainMember) → has_pair member.of_module member.place l.places ≡ (has_pair member.of_module member.place l.initial.places || list_any (is_same_member member) (map fused_view (take l.member-index l.members)))
