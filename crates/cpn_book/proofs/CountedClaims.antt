-- The claims of a state, as its log has them: how many they are, which are committed, and what each says.
use Rattle.std.proofs.Common.{◌≡◌, ◌+◌, true, List, [], ◌∷◌, ◌++◌, length, map, take, refl, sym, ap, ◌∙◌, length-append}
use Rattle.std.proofs.lemmas.List.{map-append, length-map}
use Rattle.std.proofs.Math.Seq.{take-append_seam}
use Rattle.std.specs.List.{AllByRecursion}
use Rattle.cpn_definitions.specs.Marking.{Marking}
use Rattle.cpn_runs.specs.HoleRun.{PlainClaim, Status, open_claim, done_with, faulted_with, is_done}
use Rattle.cpn_log.specs.Logs.{PlainLog, PlainHead, stands_done, standing_of, standings, head_of, heads, claims_made}
use Rattle.cpn_book.specs.Logged.{HasClaims}

-- a claim that is done stands so
done_stands : (status : Status) → is_done status ≡ true → stands_done ≡ standing_of status
done_stands (done_with outputs) is = refl
done_stands open_claim is = cc
done_stands (faulted_with fault) is = cc

done_stand : (claims : List PlainClaim) → AllByRecursion (λ claim. is_done claim.status ≡ true) claims → map (λ (head : PlainHead). stands_done) (map head_of claims) ≡ map (λ claim. standing_of claim.status) claims
done_stand [] done = refl
done_stand (claim ∷ claims) done =
    ap (λ s. s ∷ map (λ (head : PlainHead). stands_done) (map head_of claims)) (done_stands claim.status done.0)
    ∙ ap (λ ss. standing_of claim.status ∷ ss) (done_stand claims done.1)

-- each claim that the log counts says something
pub heads_counted : (log : PlainLog) → length (heads log) ≡ claims_made log
heads_counted log = length-append log.committed (map head_of log.claims) ∙ ap (λ k. length log.committed + k) (length-map log.claims head_of)

module _ (start : Marking) (claims : List PlainClaim) (log : PlainLog) (has : HasClaims start claims log) where
  pub as_many : length has.committed ≡ length log.committed
  as_many = sym (length-map has.committed head_of) ∙ ap length has.heads

  -- they are as many as the log counts
  pub claims_counted : length claims ≡ claims_made log
  claims_counted = ap length has.claims_are ∙ length-append has.committed log.claims ∙ ap (λ k. k + length log.claims) as_many

  -- the first of them are committed
  pub first_are : take (length log.committed) claims ≡ has.committed
  first_are = ap (λ k. take k claims) (sym as_many) ∙ ap (take (length has.committed)) has.claims_are ∙ take-append_seam has.committed log.claims

  -- what each says
  pub heads_are : heads log ≡ map head_of claims
  heads_are = sym (ap (map head_of) has.claims_are ∙ map-append head_of has.committed log.claims ∙ ap (λ hs. hs ++ map head_of log.claims) has.heads)

  -- how each stands
  pub standings_are : standings log ≡ map (λ claim. standing_of claim.status) claims
  standings_are =
      ap (λ hs. map (λ (head : PlainHead). stands_done) hs ++ map (λ claim. standing_of claim.status) log.claims) (sym has.heads)
      ∙ ap (λ ss. ss ++ map (λ claim. standing_of claim.status) log.claims) (done_stand has.committed has.done)
      ∙ sym (map-append (λ (claim : PlainClaim). standing_of claim.status) has.committed log.claims)
      ∙ ap (map (λ claim. standing_of claim.status)) (sym has.claims_are)
