-- A net, a marking of it, and an index that keeps what is enabled there. Source: own choice.
use Rattle.std.specs.Prelude.{◌≡◌, ℕ}
use Rattle.cpn_definitions.specs.Marking.{Marking}
use Rattle.cpn_definitions.specs.Net.{PlainNet}
use Rattle.cpn_definitions.specs.Sound.{IsSound, IsMarking}
use Rattle.cpn_index.specs.Index.{clock_in, IsIndexOf}
use Rattle.cpn_index.specs.declared.index.Index.{Index}

-- Held: a sound net, one of its markings, and the index of both at the clock.
pub record IsHeld (n : PlainNet) (m : Marking) (index : Index) (clock : ℕ) : Type 0 where
  pub sound : IsSound n
  pub marking : IsMarking n.places m
  pub enabled : IsIndexOf n m index
  pub at : clock_in index ≡ clock
