-- Things in order, each under a name. Source: own choice.
use Rattle.std.specs.Prelude.{◌≡◌, ℕ, List, map, String, string_bytes}
use Rattle.std.specs.BTreeMap.{BTreeMap, get_by_text}
use Rattle.std.specs.declared.alloc.Global.{Global}
use Rattle.cpn_names.specs.Names.{number_of}

-- what the program keeps under names, each name as a list of bytes
abbrev pub entries_of : {X : Type 0} → List (String Global × X) → List (List ℕ × X)
entries_of es = map (λ e. (string_bytes e.0, e.1)) es

-- The names of things, in their order.
abbrev pub names_of : {X : Type 0} → List (List ℕ × X) → List (List ℕ)
names_of es = map (λ e. e.0) es

-- a map of its own texts that has the number of each name of a list, and no other names
abbrev pub AreNumbered : List (List ℕ) → BTreeMap (String Global) ℕ → Type 0
AreNumbered names numbers = (name : List ℕ) → get_by_text numbers name ≡ number_of name names
