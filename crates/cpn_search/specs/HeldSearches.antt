-- How far a search with a value on a place has come.
use Rattle.std.specs.Prelude.{◌≡◌, ℕ, true, ◌⊎◌, ◌↔◌, List, ◌++◌, map, Contains}
use Rattle.std.specs.List.{AllByRecursion}
use Rattle.cpn_definitions.specs.Marking.{Marking}
use Rattle.cpn_definitions.specs.Net.{PlainNet, transition_at}
use Rattle.cpn_definitions.specs.Meaning.{PlainBinding}
use Rattle.cpn_definitions.specs.Occurrence.{binds}
use Rattle.cpn_definitions.specs.Enabled.{PlainFound}
use Rattle.cpn_stages.specs.Partial.{unbound, bound_in}
use Rattle.cpn_stages.specs.Trials.{Trial, ends_of_each}
use Rattle.cpn_search.specs.Found.{element_of, IsLeastTime}

-- the bindings that lists of trials make
abbrev pub bindings_of : PlainNet → ℕ → List (List Trial) → List PlainBinding
bindings_of n t lists = map bound_in (ends_of_each n lists (unbound (transition_at n t).vars))

-- one of the bindings with its least time
abbrev pub IsFoundAmong : PlainNet → Marking → ℕ → List PlainBinding → PlainFound → Type 0
IsFoundAmong n m t bindings x = Contains bindings x.binding × IsLeastTime n m (element_of t x.binding) x.earliest

-- lists of trials add what is found among the bindings that they make
pub record AddsFound (n : PlainNet) (m : Marking) (t : ℕ) (lists : List (List Trial)) (old new : List PlainFound) : Type 0 where
  pub bound : AllByRecursion (λ b. binds n (transition_at n t).vars b ≡ true) (bindings_of n t lists)
  pub exact : (x : PlainFound) → Contains new x ↔ (Contains old x ⊎ IsFoundAmong n m t (bindings_of n t lists) x)

-- What has been found is what is found among the bindings that some of the lists of trials made; and these are left.
pub record AreFoundSoFar (n : PlainNet) (m : Marking) (t : ℕ) (all left : List (List Trial)) (found : List PlainFound) : Type 0 where
  pub done : List (List Trial)
  pub all_are : all ≡ done ++ left
  pub bound : AllByRecursion (λ b. binds n (transition_at n t).vars b ≡ true) (bindings_of n t done)
  pub exact : (x : PlainFound) → Contains found x ↔ IsFoundAmong n m t (bindings_of n t done) x
