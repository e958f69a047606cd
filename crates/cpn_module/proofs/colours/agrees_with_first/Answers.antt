-- The first of the members is one of them.
use Rattle.cpn_document.specs.Views.{document_view}
use Rattle.cpn_module.specs.PlacesAt.{IsMemberAt}
use Rattle.cpn_module.proofs.NumberedPlaces.{first_at}
use Rattle.cpn_module.proofs.colours.agrees_with_first.Goals as goal

pub colour_name-name-requires : goal.colour_name-name-requires
colour_name-name-requires c = record { there = first_at (IsMemberAt (document_view c.args.document.now)) c.args.members.now c.in-Some.first.now c.in-Some.ensures.value c.requires.there }
