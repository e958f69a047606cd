-- The names are those of the document, and the rules that are kept are that each is known.
use Rattle.cpn_document.specs.Views.{document_view}
use Rattle.cpn_module.proofs.KnownNames.{are_known}
use Rattle.cpn_module.proofs.KnownNumbers.{known_numbered}
use Rattle.cpn_module.proofs.names.named_among.Goals as goal

pub hierarchy_of-requires-clause-known : goal.hierarchy_of-requires-clause-known
hierarchy_of-requires-clause-known c =
    let d = document_view c.args.document.now in
    rw (c.requires.names.modules_are, c.requires.names.places_are) (are_known d c.in_ok-check_names.ensures.checks)

pub returns-clause-numbers : goal.returns-clause-numbers
returns-clause-numbers c =
    let d = document_view c.args.document.now in
    rw c.in_ok-hierarchy.ensures.named (known_numbered d (are_known d c.in_ok-check_names.ensures.checks))
