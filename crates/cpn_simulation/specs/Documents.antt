-- The document: in mode large the generated net of the seed, and otherwise what the source gives. Source: own choice.
use Rattle.std.specs.Prelude.{◌≡◌, ℕ, List, Option, Some, None}
use Rattle.cpn_gen.specs.GeneratedNets.{generated}
use Rattle.cpn_simulation.specs.Options.{PlainOptions, options_from}
use Rattle.cpn_simulation.specs.declared.options.Mode.{Mode}
use Rattle.cpn_simulation.specs.declared.options.Mode.TheVariants as modes

-- the bytes of the document in a mode, by the seed and by the bytes that are left in the source, where these are told
abbrev pub bytes_in : Mode → ℕ → Option (List ℕ) → Option (List ℕ)
bytes_in modes.Run seed left = left
bytes_in modes.Large seed left = Some (generated seed)

-- the same under options; where there are none it is what the source gives
abbrev pub bytes_under : Option PlainOptions → Option (List ℕ) → Option (List ℕ)
bytes_under None left = left
bytes_under (Some options) left = bytes_in options.mode options.seed left

-- Document: its bytes under the options that the words give, where these are told.
unfoldable pub document_of : List (List ℕ) → Option (List ℕ) → Option (List ℕ)
document_of words left = bytes_under (options_from words) left

-- the words give options in this mode
abbrev pub GiveMode : Mode → List (List ℕ) → Type 0
GiveMode mode words = (options : PlainOptions) × (options_from words ≡ Some options) × (options.mode ≡ mode)

-- the document is what the source gives
abbrev pub ReadsSource : List (List ℕ) → Type 0
ReadsSource words = GiveMode modes.Run words

-- the document is a generated net
abbrev pub GeneratesNet : List (List ℕ) → Type 0
GeneratesNet words = GiveMode modes.Large words
