-- What holds of each document that bytes are read as: no transition has too many arcs, its names are well spelled and distinct, it has few
-- declarations, and its first phase starts from the initial marking.
use Rattle.std.proofs.Common.{◌≡◌, ℕ, List, refl, subst}
use Rattle.std.specs.Prelude.{Option, Some, None}
use Rattle.cpn_readings.specs.Rules.{unless_broken}
use Rattle.cpn_document.specs.Document.{RawDocument, version_in, document_in, document_rules}
use Rattle.cpn_document.specs.FewArcs.{HaveFewArcs}
use Rattle.cpn_document.specs.Reading.{Reading, read, IsDocument, of_json, of_none}
use Rattle.cpn_document.specs.Refusals.{FormRefusal}
use Rattle.cpn_document.specs.Rules.{first_broken}
use Rattle.cpn_document.specs.Phases.{StartInitially}
use Rattle.cpn_document.specs.WellNamed.{AreWellNamed, HasFewDeclarations}
use Rattle.cpn_document.proofs.FewArcs.{document_few}
use Rattle.cpn_document.proofs.StartedPhases.{document_starts}
use Rattle.cpn_document.proofs.WellNamed.{document_named, document_declares_few}

pub record IsWellFormed (document : RawDocument) : Type 0 where
  pub few_arcs : HaveFewArcs document
  pub well_named : AreWellNamed document
  pub few_declarations : HasFewDeclarations document
  pub starts : StartInitially document.phases

-- what a value is read as keeps the rules
kept_rules : (made document : RawDocument) (broken : Option FormRefusal) → unless_broken made broken ≡ read document → (broken ≡ None) × (made ≡ document)
kept_rules made document None is = (refl, cc)
kept_rules made document (Some refusal) is = cc

well_formed : (bytes : List ℕ) (reading : Reading RawDocument) (document : RawDocument) → IsDocument bytes reading → reading ≡ read document → IsWellFormed document
well_formed bytes reading document (of_json d json) is =
    let kept = kept_rules (document_in d) document (first_broken (document_rules (version_in d) d)) is in
    subst IsWellFormed kept.1 (record { few_arcs = document_few (version_in d) d kept.0; well_named = document_named (version_in d) d kept.0; few_declarations = document_declares_few (version_in d) d kept.0; starts = document_starts (version_in d) d kept.0 })
well_formed bytes reading document (of_none none) is = cc

-- The law: each document that bytes are read as is well formed.
pub documents_are_well_formed : (bytes : List ℕ) (document : RawDocument) → IsDocument bytes (read document) → IsWellFormed document
documents_are_well_formed bytes document is = well_formed bytes (read document) document is refl
