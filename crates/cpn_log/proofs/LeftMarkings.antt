-- The marking that the claims of a log leave: its tokens stand in order, are few, and are what is left claim by claim.
use Rattle.std.proofs.Common.{◌≡◌, ℕ, ◌+◌, ◌-◌, ◌*◌, ◌<◌, ◌≤◌, ◌^◌, List, [], ◌∷◌, ◌++◌, length, Some, refl, ap, arith}
use Rattle.std.specs.List.{AllByRecursion}
use Rattle.std.specs.Option.{option_map}
use Rattle.std.proofs.lemmas.Option.{same_Some}
use Rattle.cpn_definitions.specs.Bounds.{most_made, IsBounded}
use Rattle.cpn_definitions.specs.Marking.{Marking}
use Rattle.cpn_definitions.specs.Occurrence.{threshold, subtract}
use Rattle.cpn_definitions.proofs.PlaceCounts.{taken_up_to, added_up_to}
use Rattle.cpn_definitions.proofs.Subtraction.{AllAreSorted}
use Rattle.cpn_runs.specs.HoleRun.{PlainClaim, PlainHoleRun, added, after_claim, marking_left}
use Rattle.cpn_runs.proofs.Sequences.{left_parts}
use Rattle.cpn_runs.proofs.FilledRuns.{sorted_after}
use Rattle.cpn_tmset.specs.Limits.{HaveRoomFor}
use Rattle.cpn_log.specs.Logs.{PlainLog}
use Rattle.cpn_log.specs.Kept.{IsInRange, IsKept}
use Rattle.cpn_log.specs.Exchanges.{after_claims, number_added}

-- ---- of a log that is kept

-- each claim finds its needs where it stands, so they leave the unclaimed marking
pub leaves : (log : PlainLog) → IsKept log → marking_left log.settled log.claims ≡ Some log.unclaimed
leaves log kept = ap (option_map (λ (run : PlainHoleRun). run.marking)) kept.run

-- ---- claim by claim

pub left_is_after : (m : Marking) (claims : List PlainClaim) (last : Marking) → marking_left m claims ≡ Some last → after_claims claims m ≡ last
left_is_after m [] last is = same_Some m last is
left_is_after m (claim ∷ claims) last is = left_is_after (after_claim claim m) claims last (left_parts m claim claims last is).1

pub left_sorted : (m : Marking) (claims : List PlainClaim) → AllAreSorted m → AllAreSorted (after_claims claims m)
left_sorted m [] sorted = sorted
left_sorted m (claim ∷ claims) sorted = left_sorted (after_claim claim m) claims (sorted_after claim m sorted)

pub after_joined : (first more : List PlainClaim) (m : Marking) → after_claims (first ++ more) m ≡ after_claims more (after_claims first m)
after_joined [] more m = refl
after_joined (claim ∷ first) more m = after_joined first more (after_claim claim m)

-- ---- how many tokens

after_up_to : (claim : PlainClaim) (m : Marking) (number : ℕ) → IsBounded number m → IsBounded (number + length (added claim.status)) (after_claim claim m)
after_up_to claim m number few = added_up_to (added claim.status) (subtract (threshold claim.time) claim.needs m) number (taken_up_to (threshold claim.time) claim.needs m number few)

pub left_up_to : (claims : List PlainClaim) (m : Marking) (number : ℕ) → IsBounded number m → IsBounded (number + number_added claims) (after_claims claims m)
left_up_to [] m number few p = let own = few p in omega (arith, own)
left_up_to (claim ∷ claims) m number few p = let rest = left_up_to claims (after_claim claim m) (number + length (added claim.status)) (after_up_to claim m number few) p in omega (arith, rest)

pub few_added : (claims : List PlainClaim) → AllByRecursion IsInRange claims → number_added claims ≤ length claims * most_made
few_added [] each = omega arith
few_added (claim ∷ claims) each = let own = each.0.few in let rest = few_added claims each.1 in omega (arith, own, rest)

-- there is room for a number of tokens where there are few
pub room_for : (m : Marking) (few number : ℕ) → IsBounded few m → few + number < 2 ^ 48 → HaveRoomFor number m
room_for m few number up_to room = λ p. (let own = up_to p in omega (arith, own, room))

-- after a claim there is room for what those behind it add
pub room_behind : (claim : PlainClaim) (claims : List PlainClaim) (m : Marking) → HaveRoomFor (number_added (claim ∷ claims)) m → HaveRoomFor (number_added claims) (after_claim claim m)
room_behind claim claims m room =
    let number = number_added (claim ∷ claims) in
    let few = after_up_to claim m (2 ^ 48 - 1 - number) (λ p. (let own = room p in omega (arith, own))) in
    λ p. (let own = few p in let any = room p in omega (arith, own, any))

-- and for what it adds itself
pub room_within : (claim : PlainClaim) (claims : List PlainClaim) (m : Marking) → HaveRoomFor (number_added (claim ∷ claims)) m → HaveRoomFor (length (added claim.status)) m
room_within claim claims m room = λ p. (let all = room p in omega (arith, all))
