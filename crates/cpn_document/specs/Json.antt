-- The JSON value that bytes are.
use Rattle.std.specs.Prelude.{◌≡◌, ℕ, List, Option, Some, None}
use Rattle.std.specs.Str.{IsUtf8}
use Rattle.serde_json.specs.Data.{Data}
use Rattle.serde_json.specs.Read as json

-- the bytes are text, and as JSON they are the value
abbrev pub IsJson : List ℕ → Data → Type 0
IsJson bytes d = IsUtf8 bytes × (json.read bytes ≡ Some d)

-- the JSON value of the bytes, or none where they are none
abbrev pub HasJson : List ℕ → Option Data → Type 0
HasJson bytes None = (d : Data) → IsJson bytes d → ⊥
HasJson bytes (Some d) = IsJson bytes d
