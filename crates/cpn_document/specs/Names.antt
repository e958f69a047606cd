-- The texts that the program refers to, as lists of bytes, and the set of them.
use Rattle.std.specs.Prelude.{◌≡◌, ℕ, List, map}
use Rattle.std.specs.Borrow.{Bor}
use Rattle.std.specs.BTreeSet.{BTreeSet, contains_by}
use Rattle.std.specs.Cmp.Lexicographic.{slice_cmp}
use Rattle.std.specs.Ordering.{nat_cmp}
use Rattle.cpn_document.specs.Parts.{is_one_of}

abbrev pub texts_of : List (Bor (List ℕ)) → List (List ℕ)
texts_of names = map (λ name. name.now) names

-- a set that has the names of a list, and no others
abbrev pub HasNames : List (List ℕ) → BTreeSet (Bor (List ℕ)) → Type 0
HasNames names set = (name : List ℕ) → contains_by (λ k. slice_cmp nat_cmp name k.now) set ≡ is_one_of name names
