-- The hierarchy of a document has its numbers, where all that is named in the document is there.
use Rattle.std.proofs.Common.{◌≡◌}
use Rattle.std.specs.Prelude.{None}
use Rattle.cpn_readings.specs.Rules.{first_broken}
use Rattle.cpn_document.specs.Document.{RawDocument}
use Rattle.cpn_module.specs.ModuleRules.{name_rules}
use Rattle.cpn_module.specs.Named.{hierarchy_in}
use Rattle.cpn_module.specs.Ranges.{HasItsNumbers}
use Rattle.cpn_module.proofs.KnownNames.{are_known}
use Rattle.cpn_module.proofs.KnownNumbers.{known_numbered}

pub hierarchy_is_numbered : (d : RawDocument) → first_broken (name_rules d) ≡ None → HasItsNumbers (hierarchy_in d)
hierarchy_is_numbered d kept = known_numbered d (are_known d kept)
