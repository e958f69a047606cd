-- When the tokens of a place cover a multiset.
-- Source: the timed order of Jensen and Kristensen, chapter 11.
use Rattle.std.specs.Prelude.{ℕ, Bool, replicate}
use Rattle.std.specs.List.{list_all}
use Rattle.cpn_definitions.specs.Marking.{Tokens, stamps, covers}
use Rattle.cpn_mset.specs.MSets.{PlainMSet}

-- whether tokens cover a multiset at a time: the stamps of each of its values cover the time as often as the value appears
abbrev pub covers_need : Tokens → PlainMSet → ℕ → Bool
covers_need ks need time = list_all (λ e. covers (stamps e.0 ks) (replicate e.1 time)) need
