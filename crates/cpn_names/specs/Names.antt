-- The numbers of names. Source: own choice.
use Rattle.std.specs.Prelude.{◌≡◌, ℕ, List, map, Option}
use Rattle.std.specs.Borrow.{Bor}
use Rattle.std.specs.BTreeMap.{BTreeMap, get_by}
use Rattle.std.specs.Cmp.Lexicographic.{slice_cmp}
use Rattle.std.specs.List.{position_from}
use Rattle.std.specs.Ordering.{nat_cmp}
use Rattle.std.specs.Str.{bytes_eq}

-- The number of a name among names: that of the first that is the same, where one is.
abbrev pub number_of : List ℕ → List (List ℕ) → Option ℕ
number_of name names = position_from (bytes_eq name) 0 names

-- the texts that the program refers to, as lists of bytes
abbrev pub texts_of : List (Bor (List ℕ)) → List (List ℕ)
texts_of names = map (λ name. name.now) names

-- a map that has the number of each name of a list, and no other names
abbrev pub Numbers : List (List ℕ) → BTreeMap (Bor (List ℕ)) ℕ → Type 0
Numbers names numbers = (name : List ℕ) → get_by (λ k. slice_cmp nat_cmp name k.now) numbers ≡ number_of name names
