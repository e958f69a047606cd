-- An occurrence keeps a marking bounded, in its tokens and in their stamps.
use Rattle.std.proofs.Common.{◌≡◌, ℕ, ◌+◌, ◌≤◌, nat_le, List, arith}
use Rattle.cpn_definitions.specs.Bounds.{most_made, last_stamp, IsBounded, IsInTime}
use Rattle.cpn_definitions.specs.Marking.{PlainToken, Marking}
use Rattle.cpn_definitions.specs.Net.{PlainNet, transition_at}
use Rattle.cpn_definitions.specs.Occurrence.{PlainElement, Needed, Made, outputs_of, subtract, add_made}
use Rattle.cpn_definitions.specs.Outcome.{gives}
use Rattle.cpn_definitions.specs.Sound.{IsSoundTransition}
use Rattle.cpn_definitions.specs.Times.{last_time}
use Rattle.cpn_definitions.proofs.PlaceCounts.{outputs_are_few, added_up_to}
use Rattle.cpn_definitions.proofs.PlaceStamps.{outputs_in_range, taken_pass, added_pass}

-- more tokens may stand there
pub bounded_by : (few more : ℕ) (m : Marking) → few ≤ more → IsBounded few m → IsBounded more m
bounded_by few more m le is p = let own = is p in omega (arith, own, le)

-- what is taken leaves no later stamp
pub taken_in_time : (latest : Needed → ℕ) (needs : List Needed) (m : Marking) → IsInTime m → IsInTime (subtract latest needs m)
taken_in_time latest needs m is = taken_pass (λ (k : PlainToken). nat_le k.stamp last_stamp) latest needs m is

-- what an element makes is at most 64 times 65,536 tokens, none with a later stamp than the latest
module _ (n : PlainNet) (e : PlainElement) (time : ℕ) (outputs : List Made) (are : outputs_of n e time ≡ gives outputs) where
  pub made_bounded : IsSoundTransition n (transition_at n e.transition) → (m : Marking) (number : ℕ) → IsBounded number m → IsBounded (number + most_made) (add_made outputs m)
  made_bounded sound m number is p =
      let all = added_up_to outputs m number is p in
      let most = outputs_are_few n e time outputs sound are in
      omega (arith, all, most)

  pub made_in_time : time ≤ last_time → (m : Marking) → IsInTime m → IsInTime (add_made outputs m)
  made_in_time early m is = added_pass (λ (k : PlainToken). nat_le k.stamp last_stamp) outputs m (outputs_in_range n e time outputs early are) is
