-- What becomes of the claims of a run, as a log keeps them, by each call on the log.
use Rattle.std.proofs.Common.{◌≡◌, ℕ, suc, ◌+◌, true, List, [], ◌∷◌, ◌++◌, length, take, Some, refl, sym, ap, ◌∙◌, arith, append_assoc, slice_get, slice_set}
use Rattle.std.proofs.lemmas.List.{map-append, length-map}
use Rattle.cpn_definitions.specs.Marking.{Marking}
use Rattle.cpn_definitions.specs.Occurrence.{are_covered, threshold}
use Rattle.cpn_definitions.proofs.RisingLists.{each_appended}
use Rattle.cpn_runs.specs.HoleRun.{PlainClaim, Status, is_done, marking_left}
use Rattle.cpn_runs.proofs.Sequences.{left_joined, marking_left_more}
use Rattle.cpn_log.specs.Logs.{PlainLog, head_of, started, with_status, changed_to, with_committed}
use Rattle.cpn_log.specs.Kept.{IsKept}
use Rattle.cpn_log.proofs.LeftMarkings.{leaves}
use Rattle.cpn_book.specs.Logged.{HasClaims}

-- ---- two parts

pub behind : {A : Type 0} (xs ys : List A) (i : ℕ) → slice_get (xs ++ ys) (length xs + i) ≡ slice_get ys i
behind [] ys i = ap (slice_get ys) (let e : 0 + i ≡ i = omega arith in e)
behind (x ∷ xs) ys i = let e : suc (length xs) + i ≡ suc (length xs + i) = omega arith in ap (slice_get (x ∷ xs ++ ys)) e ∙ behind xs ys i

pub changed_behind : {A : Type 0} (xs ys : List A) (i : ℕ) (y : A) → slice_set (xs ++ ys) (length xs + i) y ≡ xs ++ slice_set ys i y
changed_behind [] ys i y = ap (λ k. slice_set ys k y) (let e : 0 + i ≡ i = omega arith in e)
changed_behind (x ∷ xs) ys i y = let e : suc (length xs) + i ≡ suc (length xs + i) = omega arith in ap (λ k. slice_set (x ∷ xs ++ ys) k y) e ∙ ap (λ zs. x ∷ zs) (changed_behind xs ys i y)

taken_behind : {A : Type 0} (xs ys : List A) (i : ℕ) → take (length xs + i) (xs ++ ys) ≡ xs ++ take i ys
taken_behind [] ys i = ap (λ k. take k ys) (let e : 0 + i ≡ i = omega arith in e)
taken_behind (x ∷ xs) ys i = let e : suc (length xs) + i ≡ suc (length xs + i) = omega arith in ap (λ k. take k (x ∷ xs ++ ys)) e ∙ ap (λ zs. x ∷ zs) (taken_behind xs ys i)

-- ---- the calls on a log

-- a log of no claim
pub has_none : (m : Marking) → HasClaims m [] (started m)
has_none m = record { committed = []; claims_are = refl; done = tt; heads = refl; left = refl }

module _ (start : Marking) (claims : List PlainClaim) (old new : PlainLog) (has : HasClaims start claims old) where
  -- the unclaimed marking is what the claims leave
  pub unclaimed_left : IsKept old → marking_left start claims ≡ Some old.unclaimed
  unclaimed_left kept = ap (marking_left start) has.claims_are ∙ left_joined start has.committed old.claims old.settled has.left ∙ leaves old kept

  as_many : length has.committed ≡ length old.committed
  as_many = sym (length-map has.committed head_of) ∙ ap length has.heads

  module _ (heads_same : new.committed ≡ old.committed) (settled_same : new.settled ≡ old.settled) where
    -- one claim more
    pub has_one_more : (claim : PlainClaim) → new.claims ≡ old.claims ++ claim ∷ [] → HasClaims start (claims ++ claim ∷ []) new
    has_one_more claim is = record {
      committed = has.committed;
      claims_are = ap (λ cs. cs ++ claim ∷ []) has.claims_are ∙ append_assoc has.committed old.claims (claim ∷ []) ∙ ap (λ cs. has.committed ++ cs) (sym is);
      done = has.done;
      heads = has.heads ∙ sym heads_same;
      left = has.left ∙ ap Some (sym settled_same);
    }

    changed_at : (status : Status) (place : ℕ) (claim : PlainClaim) → slice_get old.claims place ≡ Some claim → with_status status place old.claims ≡ slice_set old.claims place (record claim { status = status })
    changed_at status place claim at = ap (changed_to status place old.claims) at

    -- the claim of a number, which is not committed, has another status
    pub has_changed : (status : Status) (number place : ℕ) (claim : PlainClaim) → number ≡ length old.committed + place → slice_get claims number ≡ Some claim → new.claims ≡ with_status status place old.claims → HasClaims start (slice_set claims number (record claim { status = status })) new
    has_changed status number place claim where_is at is =
        let k : number ≡ length has.committed + place = omega (arith, where_is, as_many) in
        let there : slice_get old.claims place ≡ Some claim = sym (behind has.committed old.claims place) ∙ ap (slice_get (has.committed ++ old.claims)) (sym k) ∙ ap (λ cs. slice_get cs number) (sym has.claims_are) ∙ at in
        let y = record claim { status = status } in
        record {
          committed = has.committed;
          claims_are = ap (λ cs. slice_set cs number y) has.claims_are ∙ ap (λ i. slice_set (has.committed ++ old.claims) i y) k ∙ changed_behind has.committed old.claims place y ∙ ap (λ cs. has.committed ++ cs) (sym (is ∙ changed_at status place claim there));
          done = has.done;
          heads = has.heads ∙ sym heads_same;
          left = has.left ∙ ap Some (sym settled_same);
        }

    -- the claims from a number on are cut off
    pub has_first : (number place : ℕ) → number ≡ length old.committed + place → new.claims ≡ take place old.claims → HasClaims start (take number claims) new
    has_first number place where_is is =
        let k : number ≡ length has.committed + place = omega (arith, where_is, as_many) in
        record {
          committed = has.committed;
          claims_are = ap (take number) has.claims_are ∙ ap (λ i. take i (has.committed ++ old.claims)) k ∙ taken_behind has.committed old.claims place ∙ ap (λ cs. has.committed ++ cs) (sym is);
          done = has.done;
          heads = has.heads ∙ sym heads_same;
          left = has.left ∙ ap Some (sym settled_same);
        }

-- the next claim, which is done and finds its needs, joins the committed ones
pub has_committed : (start : Marking) (claims : List PlainClaim) (log : PlainLog) (claim : PlainClaim) (rest : List PlainClaim) → HasClaims start claims log → log.claims ≡ claim ∷ rest → is_done claim.status ≡ true → are_covered (threshold claim.time) log.settled claim.needs ≡ true → HasClaims start claims (with_committed log claim rest)
has_committed start claims log claim rest has is done covers = record {
  committed = has.committed ++ claim ∷ [];
  claims_are = has.claims_are ∙ ap (λ cs. has.committed ++ cs) is ∙ sym (append_assoc has.committed (claim ∷ []) rest);
  done = each_appended (λ (c : PlainClaim). is_done c.status ≡ true) has.committed (claim ∷ []) has.done (done, tt);
  heads = map-append head_of has.committed (claim ∷ []) ∙ ap (λ hs. hs ++ head_of claim ∷ []) has.heads;
  left = marking_left_more start has.committed claim log.settled has.left covers;
}
