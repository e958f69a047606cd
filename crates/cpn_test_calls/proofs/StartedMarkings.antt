-- A marking that is made of a few tokens is sorted, and has few tokens on each place.
use Rattle.std.proofs.Common.{◌≡◌, ℕ, zero, suc, ◌+◌, ◌≤◌, List, [], ◌∷◌, length, replicate, refl, sym, ap, ◌∙◌, subst, arith}
use Rattle.cpn_definitions.specs.Bounds.{IsBounded}
use Rattle.cpn_definitions.specs.Marking.{Marking, Tokens, tokens_at, AreSorted}
use Rattle.cpn_definitions.specs.Occurrence.{Made, add_made}
use Rattle.cpn_definitions.proofs.Addition.{sorted_added}
use Rattle.cpn_definitions.proofs.PlaceCounts.{added_up_to}
use Rattle.cpn_definitions.proofs.Subtraction.{AllAreSorted}
use Rattle.cpn_tmset.specs.Limits.{HaveRoomFor}

-- no place of the empty marking has a token
no_tokens : (p : ℕ) → tokens_at (replicate 3 []) p ≡ []
no_tokens zero = refl
no_tokens (suc zero) = refl
no_tokens (suc (suc zero)) = refl
no_tokens (suc (suc (suc p))) = refl

pub room_in_none : (outputs : List Made) (empty : Marking) → empty ≡ replicate 3 [] → length outputs ≤ 3 → HaveRoomFor (length outputs) empty
room_in_none outputs empty none few p =
    let nothing : length (tokens_at empty p) ≡ 0 = ap (λ (m : Marking). length (tokens_at m p)) none ∙ ap (λ (ks : Tokens). length ks) (no_tokens p) in
    omega (arith, nothing, few)

pub sorted_from_none : (outputs : List Made) (empty m : Marking) → empty ≡ replicate 3 [] → m ≡ add_made outputs empty → AllAreSorted m
sorted_from_none outputs empty m none made =
    let sorted : AllAreSorted (add_made outputs (replicate 3 [])) = sorted_added outputs (replicate 3 []) (λ p. subst AreSorted (sym (no_tokens p)) tt) in
    subst AllAreSorted (sym (subst (λ e. m ≡ add_made outputs e) none made)) sorted

pub few_from_none : (outputs : List Made) (empty m : Marking) → empty ≡ replicate 3 [] → m ≡ add_made outputs empty → length outputs ≤ 3 → IsBounded 3 m
few_from_none outputs empty m none made few p =
    let up_to : IsBounded (0 + length outputs) (add_made outputs (replicate 3 [])) = added_up_to outputs (replicate 3 []) 0 (λ q. subst (λ (ks : Tokens). length ks ≤ 0) (sym (no_tokens q)) (omega arith)) in
    let all = up_to p in
    let here : length (tokens_at m p) ≡ length (tokens_at (add_made outputs (replicate 3 [])) p) = ap (λ (n : Marking). length (tokens_at n p)) (subst (λ e. m ≡ add_made outputs e) none made) in
    omega (arith, all, here, few)
