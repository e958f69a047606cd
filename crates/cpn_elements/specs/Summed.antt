-- Tokens that are added to others in order.
use Rattle.std.specs.Prelude.{List, replicate}
use Rattle.std.specs.List.{flat_map}
use Rattle.std.specs.declared.cmp.Ordering.{Ordering}
use Rattle.cpn_definitions.specs.Lists.{with_items}
use Rattle.cpn_definitions.specs.Outcome.{Outcome, gives, ◌>>=◌}
use Rattle.cpn_definitions.specs.Terms.{PlainTerm}

-- a list in order with all the items of an outcome more, or its fault
abbrev pub and_these : {X : Type 0} → (X → X → Ordering) → List X → Outcome (List X) → Outcome (List X)
and_these c xs these = do
  ys ← these
  gives (with_items c ys xs)

-- the tokens of terms, each as many times as its count says
abbrev pub tokens_of : {X : Type 0} → (PlainTerm → X) → List PlainTerm → List X
tokens_of token terms = flat_map (λ term. replicate term.count (token term)) terms
