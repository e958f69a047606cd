-- The tokens of a place kept value by value: each value that there is, with the sorted stamps of its tokens.
-- Source: timed multisets of Jensen and Kristensen, chapter 11.
use Rattle.std.specs.Prelude.{ℕ, ◌<◌, if◌then◌else◌, List, [], ◌∷◌, ◌++◌, map, length}
use Rattle.std.specs.List.{AllByRecursion}
use Rattle.std.specs.Ordering.{nat_cmp}
use Rattle.cpn_definitions.specs.Value.{PlainValue}
use Rattle.cpn_definitions.specs.Order.{value_cmp, same_value}
use Rattle.cpn_definitions.specs.Lists.{Rises, IsInOrder}
use Rattle.cpn_definitions.specs.Marking.{Tokens, token_at}

-- values, each with stamps
abbrev pub Entries : Type 0
Entries = List (PlainValue × List ℕ)

-- the tokens of the entries, value by value
abbrev pub tokens_in : Entries → Tokens
tokens_in [] = []
tokens_in (e ∷ es) = map (token_at e.0) e.1 ++ tokens_in es

-- the stamps of a value; one that has no entry has none
abbrev pub stamps_in : PlainValue → Entries → List ℕ
stamps_in v [] = []
stamps_in v (e ∷ es) = if same_value v e.0 then e.1 else stamps_in v es

-- entries as a place keeps them
pub record AreKept (es : Entries) : Type 0 where
  -- the values rise
  pub rise : Rises (λ d e. value_cmp d.0 e.0) es
  -- the stamps of each are in order
  pub sorted : AllByRecursion (λ e. IsInOrder nat_cmp e.1) es
  -- and there are some
  pub some : AllByRecursion (λ e. 0 < length e.1) es
