-- Which elements a change of a marking touches. Source: own choice.
use Rattle.std.specs.Prelude.{◌≡◌, ℕ, Bool, true, List}
use Rattle.std.specs.List.{list_any}
use Rattle.cpn_definitions.specs.Value.{PlainValue}
use Rattle.cpn_definitions.specs.Outcome.{gives_and}
use Rattle.cpn_definitions.specs.Net.{PlainTransition, PlainNet}
use Rattle.cpn_definitions.specs.Occurrence.{PlainElement, Needed, needs_of}
use Rattle.cpn_tmset.specs.Changed.{PlainChange, is_told}
use Rattle.cpn_stages.specs.Reading.{ReadsOtherwise}

-- whether one of the needs is for a value that is told on its place
abbrev pub touches : List PlainChange → List Needed → Bool
touches told needs = list_any (λ need. is_told need.place need.value told) needs

-- Touched: the element needs a token of a value that is told on its place.
abbrev pub is_touched : PlainNet → List PlainChange → PlainElement → Bool
is_touched n told e = gives_and (needs_of n e) (touches told)

-- The transition reads a place otherwise on which a value is told.
pub record ReadsToldOtherwise (t : PlainTransition) (told : List PlainChange) : Type 0 where
  pub place : ℕ
  pub value : PlainValue
  pub is_told_there : is_told place value told ≡ true
  pub reads : ReadsOtherwise t place
