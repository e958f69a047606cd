-- What a claim that is done takes from a marking and puts in, and what several claims leave where each finds its needs.
use Rattle.std.specs.Prelude.{◌≡◌, ℕ, ◌+◌, ◌≤◌, List, [], ◌∷◌, length}
use Rattle.cpn_definitions.specs.Marking.{Marking}
use Rattle.cpn_definitions.specs.Occurrence.{Needed, Made, threshold, subtract, add_made}
use Rattle.cpn_definitions.specs.Times.{last_time}
use Rattle.cpn_tmset.specs.Limits.{HaveRoomFor}
use Rattle.cpn_runs.specs.HoleRun.{PlainClaim, added, after_claim}

-- a marking less needs at a time, plus outputs
abbrev pub exchanged : List Needed → ℕ → List Made → Marking → Marking
exchanged needs time outputs m = add_made outputs (subtract (threshold time) needs m)

-- An exchange that may be made in a marking, and what it leads to.
pub record LeadsTo (needs : List Needed) (time : ℕ) (outputs : List Made) (before after : Marking) : Type 0 where
  pub in_time : time ≤ last_time
  pub room : HaveRoomFor (length outputs) before
  pub is : after ≡ exchanged needs time outputs before

-- the marking after claims, one after another
abbrev pub after_claims : List PlainClaim → Marking → Marking
after_claims [] m = m
after_claims (claim ∷ claims) m = after_claims claims (after_claim claim m)

-- how many tokens claims add
abbrev pub number_added : List PlainClaim → ℕ
number_added [] = 0
number_added (claim ∷ claims) = length (added claim.status) + number_added claims
