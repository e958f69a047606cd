-- The submodules of modules, by their numbers. Source: own choice.
use Rattle.std.specs.Prelude.{ℕ, Bool, nat_eq, List, [], ◌∷◌, ◌++◌, if◌then◌else◌, map}
use Rattle.std.specs.List.{fold, list_any}
use Rattle.cpn_module.specs.Hierarchy.{PlainStructure}

-- the submodules of the substitution transitions of a module
abbrev pub submodules_of : PlainStructure → List ℕ
submodules_of s = map (λ sub. sub.submodule) s.substitutions

-- whether a number is in a list
abbrev pub is_among : ℕ → List ℕ → Bool
is_among number numbers = list_any (nat_eq number) numbers

-- numbers with one more at the end, unless it is there already
abbrev pub with_number : List ℕ → ℕ → List ℕ
with_number numbers number = if is_among number numbers then numbers else numbers ++ number ∷ []

-- numbers with each of some more at the end, unless it is there already
abbrev pub with_numbers : List ℕ → List ℕ → List ℕ
with_numbers numbers more = fold with_number numbers more

-- numbers, each once, in the order in which they first come
abbrev pub each_once : List ℕ → List ℕ
each_once numbers = with_numbers [] numbers

-- the submodules of each module, each once
abbrev pub submodule_lists : List PlainStructure → List (List ℕ)
submodule_lists structures = map (λ s. each_once (submodules_of s)) structures
