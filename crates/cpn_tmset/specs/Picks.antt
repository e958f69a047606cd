-- The tokens that a multiset takes from a place at a time, one after another.
-- Source: the timed subtraction of Jensen and Kristensen, chapter 11; which stamp is taken is our own choice.
use Rattle.std.specs.Prelude.{ℕ, List, [], ◌∷◌, ◌++◌, replicate}
use Rattle.std.specs.Option.{unwrap_or}
use Rattle.std.specs.Coded.{Coded, code_by, coded×, coded_ℕ, coded_list}
use Rattle.std.proofs.Common.{refl}
use Rattle.cpn_definitions.specs.Value.{PlainValue}
use Rattle.cpn_definitions.specs.Marking.{Tokens, stamps, without_token}
use Rattle.cpn_core.specs.Code.{value_code}
use Rattle.cpn_mset.specs.MSets.{PlainMSet}
use Rattle.cpn_tmset.specs.Stamps.{latest_of}

-- A demand: a value, and the latest stamp that a token of it may have.
pub record Demand : Type 0 where
  pub value : PlainValue
  pub threshold : ℕ

-- A pick: a demand, and the stamp of the token that was taken for it.
pub record PlainPick : Type 0 where
  pub value : PlainValue
  pub threshold : ℕ
  pub stamp : ℕ

-- the demands of a multiset at a time: each of its values as often as it appears, with the time
abbrev pub demands_at : ℕ → PlainMSet → List Demand
demands_at time [] = []
demands_at time (e ∷ es) = replicate e.1 (record { value = e.0; threshold = time }) ++ demands_at time es

-- the tokens that are left when for each demand in turn the latest token of its value is taken that is not above its
-- threshold
abbrev pub left_after : List Demand → Tokens → Tokens
left_after [] ks = ks
left_after (d ∷ ds) ks = left_after ds (without_token d.value d.threshold ks)

-- the pick for a demand; where there is no token to take, its stamp is 0
abbrev pub pick_for : Demand → Tokens → PlainPick
pick_for d ks = record { value = d.value; threshold = d.threshold; stamp = unwrap_or (latest_of d.threshold (stamps d.value ks)) 0 }

-- the picks for demands, one after another
abbrev pub picked : List Demand → Tokens → List PlainPick
picked [] ks = []
picked (d ∷ ds) ks = pick_for d ks ∷ picked ds (without_token d.value d.threshold ks)

abbrev pub PlainPicks : Type 0
PlainPicks = List PlainPick

abbrev pub picks_code : Coded PlainPicks
picks_code = coded_list (code_by (PlainValue × (ℕ × ℕ)) (coded× value_code (coded× coded_ℕ coded_ℕ)) (λ p. (p.value, (p.threshold, p.stamp))) (λ p. record { value = p.0; threshold = p.1.0; stamp = p.1.1 }) (λ _. refl))
