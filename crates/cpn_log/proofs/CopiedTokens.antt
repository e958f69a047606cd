-- Items that are gone through one after another: tokens that are put in, claims that happen; and the room that is left.
use Rattle.std.proofs.Common.{◌≡◌, ℕ, ◌+◌, ◌-◌, ◌<◌, ◌^◌, List, ◌∷◌, map, drop, length, get_or, sym, ap, subst, ◌∙◌, arith}
use Rattle.std.specs.List.{AllByRecursion}
use Rattle.cpn_definitions.specs.Marking.{Tokens, Marking, tokens_at, token_at, on_place, add_token}
use Rattle.cpn_definitions.specs.Occurrence.{Needed, Made, threshold, subtract, add_made}
use Rattle.cpn_definitions.proofs.ChangedPlaces.{tokens_on_place}
use Rattle.cpn_definitions.proofs.PlaceCounts.{length-add_token, taken_up_to}
use Rattle.cpn_definitions.proofs.ListItems.{next_left}
use Rattle.cpn_tmset.specs.Limits.{HaveRoomFor}
use Rattle.cpn_runs.specs.HoleRun.{PlainClaim, after_claim}
use Rattle.cpn_log.specs.Kept.{IsInRange}
use Rattle.cpn_log.specs.Exchanges.{after_claims, number_added}
use Rattle.cpn_log.proofs.LeftMarkings.{room_behind}

-- ---- tokens that are put in

pub room_after_one : (n : ℕ) (made : Made) (m : Marking) → HaveRoomFor (n + 1) m → HaveRoomFor n (on_place made.place (add_token (token_at made.value made.stamp)) m)
room_after_one n made m room =
    tokens_on_place (λ q (ks : Tokens). length ks + n < 2 ^ 48) made.place (add_token (token_at made.value made.stamp)) m (λ q. let all = room q in omega (arith, all))
    (λ at. let all = room made.place in let more = length-add_token (token_at made.value made.stamp) (tokens_at m made.place) in omega (arith, all, more))

-- What is left to be put in, and the room for it.
pub record AreLeft (outputs : List Made) (m last : Marking) : Type 0 where
  pub room : HaveRoomFor (length outputs) m
  pub added : add_made outputs m ≡ last

pub one_put : {X : Type 0} (f : X → Made) (xs : List X) (i : ℕ) (x : X) (m next last : Marking) → i < length xs → x ≡ get_or xs i x → AreLeft (map f (drop i xs)) m last → next ≡ on_place (f x).place (add_token (token_at (f x).value (f x).stamp)) m → AreLeft (map f (drop (i + 1) xs)) next last
one_put f xs i x m next last within is left now =
    let here : AreLeft (f x ∷ map f (drop (i + 1) xs)) m last = subst (λ outputs. AreLeft outputs m last) (next_left f xs i x within is) left in
    record {
      room = subst (HaveRoomFor (length (map f (drop (i + 1) xs)))) (sym now) (room_after_one (length (map f (drop (i + 1) xs))) (f x) m (λ p. (let all = here.room p in omega (arith, all))));
      added = ap (add_made (map f (drop (i + 1) xs))) now ∙ here.added;
    }

-- ---- claims that happen

-- What is left of claims that happen one after another.
pub record HaveLeft (claims : List PlainClaim) (m last : Marking) : Type 0 where
  pub in_range : AllByRecursion IsInRange claims
  pub room : HaveRoomFor (number_added claims) m
  pub left : after_claims claims m ≡ last

pub one_happened : {X : Type 0} (f : X → PlainClaim) (xs : List X) (i : ℕ) (x : X) (m next last : Marking) → i < length xs → x ≡ get_or xs i x → HaveLeft (map f (drop i xs)) m last → next ≡ after_claim (f x) m → HaveLeft (map f (drop (i + 1) xs)) next last
one_happened f xs i x m next last within is left now =
    let here : HaveLeft (f x ∷ map f (drop (i + 1) xs)) m last = subst (λ claims. HaveLeft claims m last) (next_left f xs i x within is) left in
    record {
      in_range = here.in_range.1;
      room = subst (HaveRoomFor (number_added (map f (drop (i + 1) xs)))) (sym now) (room_behind (f x) (map f (drop (i + 1) xs)) m here.room);
      left = ap (after_claims (map f (drop (i + 1) xs))) now ∙ here.left;
    }

-- the first of them
pub first_left : {X : Type 0} (f : X → PlainClaim) (xs : List X) (i : ℕ) (x : X) (m last : Marking) → i < length xs → x ≡ get_or xs i x → HaveLeft (map f (drop i xs)) m last → HaveLeft (f x ∷ map f (drop (i + 1) xs)) m last
first_left f xs i x m last within is left = subst (λ claims. HaveLeft claims m last) (next_left f xs i x within is) left

-- ---- the room that is left

pub room_subtracted : (time : ℕ) (needs : List Needed) (n : ℕ) (m : Marking) → HaveRoomFor n m → HaveRoomFor n (subtract (threshold time) needs m)
room_subtracted time needs n m room p =
    let few = taken_up_to (threshold time) needs m (2 ^ 48 - 1 - n) (λ q. (let own = room q in omega (arith, own))) p in
    let any = room p in omega (arith, few, any)
