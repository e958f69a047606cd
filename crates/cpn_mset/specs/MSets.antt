-- Finite multisets of values.
-- Source: multisets of Jensen and Kristensen, chapter 4: a multiset maps each value to its number of appearances.
use Rattle.std.specs.Prelude.{ℕ, ◌<◌, if◌then◌else◌, List, [], ◌∷◌}
use Rattle.std.specs.List.{AllByRecursion}
use Rattle.std.specs.Coded.{Coded, coded×, coded_ℕ, coded_list}
use Rattle.cpn_definitions.specs.Value.{PlainValue}
use Rattle.cpn_definitions.specs.Order.{value_cmp, same_value}
use Rattle.cpn_definitions.specs.Lists.{Rises}
use Rattle.cpn_core.specs.Code.{value_code}

-- A finite multiset: each value that appears in it, with its number of appearances.
abbrev pub PlainMSet : Type 0
PlainMSet = List (PlainValue × ℕ)

-- how many times a value appears; a value that is not listed does not
abbrev pub appearances : PlainValue → PlainMSet → ℕ
appearances v [] = 0
appearances v (e ∷ es) = if same_value v e.0 then e.1 else appearances v es

-- a multiset's one list: its values rise, and each appears
abbrev pub IsMSet : PlainMSet → Type 0
IsMSet m = Rises (λ d e. value_cmp d.0 e.0) m × AllByRecursion (λ e. 0 < e.1) m

abbrev pub mset_code : Coded PlainMSet
mset_code = coded_list (coded× value_code coded_ℕ)
