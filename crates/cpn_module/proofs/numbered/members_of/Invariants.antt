-- What was seen is there by its numbers.
use Rattle.std.proofs.Common.{◌≡◌, take, map}
use Rattle.cpn_document.specs.Views.{member_view}
use Rattle.cpn_module.specs.Names.{member_among}
use Rattle.cpn_module.specs.Views.{fused_view}
use Rattle.cpn_module.proofs.numbered.members_of.Given as goal

abbrev pub invariant-loop-member : goal.invariant-loop-member
invariant-loop-member l = map fused_view l.fused.items ≡ map (member_among l.names.modules l.names.places.items) (map member_view (take l.member-index l.members))
