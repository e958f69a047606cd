-- Laws of joined numbers: what joins as much, and what all joined numbers have alike.
use Rattle.std.proofs.Common.{◌≡◌, ℕ, List, [], ◌∷◌, ◌++◌, refl, sym, ap, ◌∙◌, inl, inr, arith}
use Rattle.std.specs.Prelude.{Contains}
use Rattle.std.proofs.lemmas.List.Elements.{Contains-append_left, Contains-append_right, Contains-append_cases, Contains-push, Contains-push_cases}
use Rattle.cpn_classes.specs.Joined.{IsJoined, paired, itself, turned, through}
use Rattle.cpn_classes.specs.Trees.{JoinTheSame}

-- where each pair is joined by others, so is what the pairs join
pub joined_by : (pairs others : List (ℕ × ℕ)) → ((a b : ℕ) → Contains pairs (a, b) → IsJoined others a b) → (a b : ℕ) → IsJoined pairs a b → IsJoined others a b
joined_by pairs others each a b (paired _ _ h) = each a b h
joined_by pairs others each a b (itself _) = itself a
joined_by pairs others each a b (turned _ _ h) = turned b a (joined_by pairs others each b a h)
joined_by pairs others each a b (through _ c _ h k) = through a c b (joined_by pairs others each a c h) (joined_by pairs others each c b k)

-- what the members of each pair have alike, joined numbers have alike
pub alike : (pairs : List (ℕ × ℕ)) (f : ℕ → ℕ) → ((a b : ℕ) → Contains pairs (a, b) → f a ≡ f b) → (a b : ℕ) → IsJoined pairs a b → f a ≡ f b
alike pairs f each a b (paired _ _ h) = each a b h
alike pairs f each a b (itself _) = refl
alike pairs f each a b (turned _ _ h) = sym (alike pairs f each b a h)
alike pairs f each a b (through _ c _ h k) = alike pairs f each a c h ∙ alike pairs f each c b k

-- more pairs join more
pub joined_more : (pairs : List (ℕ × ℕ)) (p : ℕ × ℕ) (a b : ℕ) → IsJoined pairs a b → IsJoined (p ∷ pairs) a b
joined_more pairs p = joined_by pairs (p ∷ pairs) (λ a b h. paired a b (Contains-append_right (p ∷ []) pairs (a, b) h))

-- the first pair is joined
pub first_joined : (pairs : List (ℕ × ℕ)) (a b : ℕ) → IsJoined ((a, b) ∷ pairs) a b
first_joined pairs a b = paired a b (Contains-append_left ((a, b) ∷ []) pairs (a, b) (Contains-push [] (a, b)))

-- where the first pair and each further one is joined, so is what all of them join
pub joined_first_and_rest : (pairs others : List (ℕ × ℕ)) (a b : ℕ) → IsJoined others a b → ((c d : ℕ) → IsJoined pairs c d → IsJoined others c d) → (c d : ℕ) → IsJoined ((a, b) ∷ pairs) c d → IsJoined others c d
joined_first_and_rest pairs others a b first rest = joined_by ((a, b) ∷ pairs) others each
  where
    each : (c d : ℕ) → Contains ((a, b) ∷ pairs) (c, d) → IsJoined others c d
    each c d h =
        elim (Contains-append_cases ((a, b) ∷ []) pairs (c, d) h) [
          | inl is_first ↦ elim (Contains-push_cases [] (a, b) (c, d) is_first) [
            | inl none ↦ absurd (omega (arith, none.1))
            | inr e ↦ let left : a ≡ c = ap (λ (p : ℕ × ℕ). p.0) e in let right : b ≡ d = ap (λ (p : ℕ × ℕ). p.1) e in rw (← left, ← right) first
          ]
          | inr later ↦ rest c d (paired c d later)
        ]

-- one more pair, before the others or after them
pub same_with_more : (pairs front : List (ℕ × ℕ)) (p : ℕ × ℕ) → JoinTheSame pairs front → JoinTheSame (p ∷ pairs) (front ++ p ∷ [])
same_with_more pairs front p same a b = (
  joined_first_and_rest pairs (front ++ p ∷ []) p.0 p.1 (paired p.0 p.1 (Contains-push front p)) (λ c d h. joined_by front (front ++ p ∷ []) (λ e f k. paired e f (Contains-append_left front (p ∷ []) (e, f) k)) c d ((same c d).0 h)) a b,
  joined_by (front ++ p ∷ []) (p ∷ pairs) each a b,
)
  where
    each : (c d : ℕ) → Contains (front ++ p ∷ []) (c, d) → IsJoined (p ∷ pairs) c d
    each c d h =
        elim (Contains-push_cases front p (c, d) h) [
          | inl before ↦ joined_more pairs p c d ((same c d).1 (paired c d before))
          | inr e ↦ let left : p.0 ≡ c = ap (λ (q : ℕ × ℕ). q.0) e in let right : p.1 ≡ d = ap (λ (q : ℕ × ℕ). q.1) e in rw (← left, ← right) (first_joined pairs p.0 p.1)
        ]

pub same_through : (pairs others further : List (ℕ × ℕ)) → JoinTheSame pairs others → JoinTheSame others further → JoinTheSame pairs further
same_through pairs others further h k a b = (λ j. (k a b).0 ((h a b).0 j), λ j. (h a b).1 ((k a b).1 j))

pub same_itself : (pairs : List (ℕ × ℕ)) → JoinTheSame pairs pairs
same_itself pairs a b = (λ j. j, λ j. j)
