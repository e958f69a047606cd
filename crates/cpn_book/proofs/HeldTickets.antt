-- A ticket whose claim its seat holds is no stranger's while others act.
use Rattle.std.proofs.Common.{◌≡◌, ℕ, ◌&&◌, Bool, true, false, [], ⊎_elim, refl, sym, subst, arith}
use Rattle.cpn_runs.specs.HeldClaims.{IsOpenAt, IsCutAt}
use Rattle.cpn_runs.specs.HoleRun.{PlainClaim, is_open}
use Rattle.cpn_runs.specs.SeatEvents.{events_by}
use Rattle.cpn_runs.specs.State.{is_held_by}
use Rattle.cpn_runs.proofs.HeldClaims.{held_claims_stay, held_seat}
use Rattle.cpn_book.specs.HeldTickets.{HeldAreNoStrangers}

both_left : (a b : Bool) → (a && b) ≡ true → a ≡ true
both_left true b h = refl
both_left false b h = absurd (cc)

held_open : (seat : ℕ) (claim : PlainClaim) → is_held_by seat claim ≡ true → is_open claim.status ≡ true
held_open seat claim h = both_left (is_open claim.status) _ h

pub held_are_no_strangers : HeldAreNoStrangers
held_are_no_strangers setup old new others seat number job kept has apart leads stranger =
    ⊎_elim
    (λ (o : IsOpenAt new number has.0). stranger.1 (has.0, o.claim_is, has.2, has.3))
    (λ (c : IsCutAt new number). let below = stranger.0 c.cut c.cut_is in let at = c.at_or_below in absurd (omega (arith, below, at)))
    (held_claims_stay setup old new others number has.0
    (record { claim_is = has.1; still_open = held_open seat has.0 has.2 })
    (subst (λ s. events_by s others ≡ []) (sym (held_seat seat has.0 has.2)) apart)
    leads)
