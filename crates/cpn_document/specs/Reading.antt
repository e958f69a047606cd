-- What a JSON value, and what bytes, are read as: a document, or the first refusal. Source: own choice.
use Rattle.std.specs.Prelude.{ℕ, List, None}
use Rattle.cpn_readings.specs.Reading as readings
pub use Rattle.cpn_readings.specs.Reading.{read, refused}
use Rattle.serde_json.specs.Data.{Data}
use Rattle.cpn_document.specs.Document.{RawDocument, version_in, document_in, document_rules}
use Rattle.cpn_document.specs.Json.{IsJson, HasJson}
use Rattle.cpn_document.specs.Refusals.{FormRefusal, not_json}
use Rattle.cpn_readings.specs.Rules.{unless_broken}
use Rattle.cpn_document.specs.Rules.{first_broken}

-- A reading: a value, or such a refusal.
abbrev pub Reading : Type 0 → Type 0
Reading = readings.Reading FormRefusal

-- a JSON value is read as the document that it is, where it keeps all the rules of documents of the version that it states; else
-- the first that it breaks is the refusal
abbrev pub document_of : Data → Reading RawDocument
document_of d = unless_broken (document_in d) (first_broken (document_rules (version_in d) d))

-- Read as: what bytes are read as. They are the JSON value that is read so; or none, and are refused as that.
pub data IsDocument (bytes : List ℕ) : Reading RawDocument → Type 0 where
  of_json : (d : Data) → IsJson bytes d → IsDocument bytes (document_of d)
  of_none : HasJson bytes None → IsDocument bytes (refused not_json)
