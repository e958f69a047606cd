-- What the calls of a log do to the plain log that it stands for.
use Rattle.std.proofs.Common.{◌≡◌, ℕ, ◌+◌, ◌-◌, ◌<◌, ◌≤◌, true, cond, List, [], ◌∷◌, ◌++◌, map, length, take, drop, refl, sym, ap, subst, ◌∙◌, arith}
use Rattle.std.proofs.Math.Path.{ap₂}
use Rattle.std.proofs.Math.Seq.{take-length}
use Rattle.std.proofs.lemmas.List.{map-append, length-append, length-map, length-take-le, take-append-le, take-map, length-drop}
use Rattle.std.proofs.lemmas.Option.{slice_get_within}
use Rattle.std.proofs.lemmas.Slice.{take-put_mid}
use borrow.Rule.Slice.PartMut.{put_mid}
use Rattle.cpn_definitions.specs.Marking.{Marking}
use Rattle.cpn_definitions.specs.Lists.{IsInOrder}
use Rattle.cpn_definitions.specs.Occurrence.{PlainElement, Needed, Made, needed_cmp, threshold, are_covered, subtract}
use Rattle.cpn_definitions.specs.Times.{last_time}
use Rattle.cpn_definitions.proofs.ListItems.{map_more}
use Rattle.cpn_runs.specs.Bounds.{most_steps}
use Rattle.cpn_runs.specs.HoleRun.{PlainClaim, PlainPick, done_with, added, after_claim, picks_of, is_done}
use Rattle.cpn_log.specs.Logs.{PlainHead, PlainLog, claims_made, head_of, opened, with_committed, with_occurred, next_committed, next_committed_of}
use Rattle.cpn_log.specs.Kept.{IsKept}
use Rattle.cpn_log.specs.Exchanges.{exchanged, after_claims}
use Rattle.cpn_log.specs.ClaimViews.{claim_view, head_view, taken_view}
use Rattle.cpn_log.specs.LogViews.{log_view}
use Rattle.cpn_log.specs.declared.claims.Claim.{Claim}
use Rattle.cpn_log.specs.declared.claims.Head.{Head}
use Rattle.cpn_log.specs.declared.logs.Log.{Log}
use Rattle.cpn_log.proofs.KeptLogs.{with_one_more, kept_with_one_more, with_cut, kept_with_cut}
use Rattle.cpn_log.proofs.LogParts.{IsOpen}

-- logs with the same parts are the same
pub same_log : (a b : PlainLog) → a.committed ≡ b.committed → a.settled ≡ b.settled → a.claims ≡ b.claims → a.picks ≡ b.picks → a.unclaimed ≡ b.unclaimed → a ≡ b
same_log a b committed settled claims picks unclaimed =
    let e : record { committed = a.committed; settled = a.settled; claims = a.claims; picks = a.picks; unclaimed = a.unclaimed } ≡ b
    = ap₂ (λ (h : List PlainHead) (m : Marking). record { committed = h; settled = m; claims = a.claims; picks = a.picks; unclaimed = a.unclaimed }) committed settled
    ∙ ap₂ (λ (cs : List PlainClaim) (ps : List (List PlainPick)). record { committed = b.committed; settled = b.settled; claims = cs; picks = ps; unclaimed = a.unclaimed }) claims picks
    ∙ ap (λ (u : Marking). record { committed = b.committed; settled = b.settled; claims = b.claims; picks = b.picks; unclaimed = u }) unclaimed in e

-- so what is kept of one is kept of the other
pub kept_alike : (a b : PlainLog) → a.committed ≡ b.committed → a.settled ≡ b.settled → a.claims ≡ b.claims → a.picks ≡ b.picks → a.unclaimed ≡ b.unclaimed → IsKept b → IsKept a
kept_alike a b committed settled claims picks unclaimed kept = subst IsKept (sym (same_log a b committed settled claims picks unclaimed)) kept

-- the plain log of committed claims and of those behind them
abbrev pub seen : List Head → List Claim → Marking → Marking → PlainLog
seen hs cs settled unclaimed = record { committed = map head_view hs; settled = settled; claims = map claim_view cs; picks = map taken_view cs; unclaimed = unclaimed }

-- ---- the next claim is committed

-- What a claim that is done hands out.
pub record HandsOut (claim : Claim) (head : Head) (needs : List Needed) (time : ℕ) (outputs : List Made) : Type 0 where
  pub head_is : head ≡ claim.head
  pub needs_are : needs ≡ claim.needs
  pub time_is : time ≡ claim.head.time
  pub status_is : (claim_view claim).status ≡ done_with outputs

pub next_is
    : (hs : List Head) (cs : List Claim) (claim : Claim) (rest : List Claim) (head : Head) (settled later unclaimed left : Marking) (needs : List Needed) (time : ℕ) (outputs : List Made)
    → cs ≡ claim ∷ rest
    → HandsOut claim head needs time outputs
    → later ≡ exchanged needs time outputs settled
    → left ≡ unclaimed
    → seen (hs ++ head ∷ []) rest later left ≡ next_committed (seen hs cs settled unclaimed)
next_is hs cs claim rest head settled later unclaimed left needs time outputs is out leads same =
    same_log (seen (hs ++ head ∷ []) rest later left) next
    (map_more head_view hs head ∙ ap (λ h. map head_view hs ++ head_view h ∷ []) out.head_is)
    (leads ∙ ap₂ (λ ns t. exchanged ns t outputs settled) out.needs_are out.time_is ∙ ap (λ s. exchanged claim.needs claim.head.time (added s) settled) (sym out.status_is))
    refl
    (sym (ap (λ xs. drop 1 (map taken_view xs)) is))
    same
    ∙ sym (ap (λ s. cond (is_done s) next log) out.status_is)
    ∙ sym (ap (λ xs. next_committed_of log (map claim_view xs)) is)
  where
    log : PlainLog
    log = seen hs cs settled unclaimed

    next : PlainLog
    next = with_committed log (claim_view claim) (map claim_view rest)

-- ---- one more claim, done and committed

-- where all claims are committed, none stands behind them
pub none_behind : (cs : List Claim) → map claim_view cs ≡ [] → cs ≡ []
none_behind [] all = refl
none_behind (c ∷ cs) all = cc

pub occurred_is
    : (log : Log) (head : Head) (items : List Head) (left settled : Marking) (done : PlainClaim)
    → (log_view log).claims ≡ []
    → items ≡ log.heads.items ++ head ∷ []
    → head_view head ≡ head_of done
    → left ≡ after_claim done (log_view log).settled
    → settled ≡ after_claim done (log_view log).settled
    → seen items log.claims.items settled left ≡ with_occurred (log_view log) done
occurred_is log head items left settled done all is head_is left_is settled_is =
    same_log (seen items log.claims.items settled left) (with_occurred (log_view log) done)
    (ap (map head_view) is ∙ map_more head_view log.heads.items head ∙ ap (λ h. (log_view log).committed ++ h ∷ []) head_is)
    settled_is all (ap (map taken_view) (none_behind log.claims.items all)) left_is

-- ---- an open claim

-- it is one of those behind the committed part
pub open_within : (log : PlainLog) (number : ℕ) → IsOpen log number → number - length log.committed < length log.claims
open_within log number o = slice_get_within log.claims (number - length log.committed) o.claim o.is

-- ---- one more claim keeps the log

pub kept_pushed
    : (log : Log) (hs : List Head) (claim : Claim) (items : List Claim) (settled left : Marking) (seat : ℕ) (element : PlainElement) (time : ℕ) (needs : List Needed)
    → hs ≡ log.heads.items
    → claim_view claim ≡ opened seat element time needs
    → items ≡ log.claims.items ++ claim ∷ []
    → settled ≡ (log_view log).settled
    → taken_view claim ≡ picks_of time needs (log_view log).unclaimed
    → left ≡ subtract (threshold time) needs (log_view log).unclaimed
    → IsKept (log_view log)
    → claims_made (log_view log) < most_steps
    → time ≤ last_time
    → IsInOrder needed_cmp needs
    → are_covered (threshold time) (log_view log).unclaimed needs ≡ true
    → IsKept (seen hs items settled left)
kept_pushed log hs claim items settled left seat element time needs same made is settled_is taken_is left_is kept room early ordered all =
    kept_alike (seen hs items settled left) (with_one_more (log_view log) (opened seat element time needs))
    (ap (map head_view) same) settled_is
    (ap (map claim_view) is ∙ map_more claim_view log.claims.items claim ∙ ap (λ k. (log_view log).claims ++ k ∷ []) made)
    (ap (map taken_view) is ∙ map_more taken_view log.claims.items claim ∙ ap (λ ps. (log_view log).picks ++ ps ∷ []) taken_is)
    left_is
    (kept_with_one_more (log_view log) seat element time needs kept room early ordered all)

-- ---- a cut keeps the log

pub kept_cut : (log : Log) (position : ℕ) (items : List Claim) (settled left : Marking) → position ≤ length (log_view log).claims → items ≡ take position log.claims.items
    → settled ≡ (log_view log).settled → left ≡ after_claims (take position (log_view log).claims) (log_view log).settled → IsKept (log_view log) → IsKept (seen log.heads.items items settled left)
kept_cut log position items settled left within is settled_is left_is kept =
    kept_alike (seen log.heads.items items settled left) (with_cut (log_view log) position)
    refl settled_is
    (ap (map claim_view) is ∙ sym (take-map claim_view position log.claims.items))
    (ap (map taken_view) is ∙ sym (take-map taken_view position log.claims.items))
    left_is
    (kept_with_cut (log_view log) position kept within)

-- the whole rest of a list
pub whole_rest : {X : Type 0} (n : ℕ) (cs : List X) → take (length cs - n) (drop n cs) ≡ drop n cs
whole_rest n cs = ap (λ (k : ℕ). take k (drop n cs)) (sym (length-drop n cs)) ∙ take-length (drop n cs)

-- ---- claims that are changed behind a position

-- the claims with those behind a position changed
pub behind_put : (n len : ℕ) (xs ys : List Claim) → n ≤ length xs → length ys ≡ length xs - n → len ≡ length xs → take len (put_mid n (length xs - n) xs ys ++ drop (length (put_mid n (length xs - n) xs ys)) xs) ≡ take n xs ++ ys
behind_put n len xs ys within long is =
    let put : List Claim = put_mid n (length xs - n) xs ys in
    let first : length (take n xs) ≡ n = length-take-le n xs within in
    let all : length (take n xs) + (length ys + length (drop (length xs - n) (drop n xs))) ≡ length put
    = sym (length-append (take n xs) (ys ++ drop (length xs - n) (drop n xs)) ∙ ap (λ (k : ℕ). length (take n xs) + k) (length-append ys (drop (length xs - n) (drop n xs)))) in
    take-append-le len put (drop (length put) xs) (omega (arith, first, all, long, is, within)) ∙ take-put_mid n (length xs - n) xs ys len (omega (arith, long, is, within)) within

-- the claims behind the committed ones, of which those behind a position are others that say the same
module _
    (items : List Claim) (position len : ℕ) (held ys : List Claim) (is : held ≡ items) (within : position < length items) (all : len ≡ length items)
    (same : map claim_view ys ≡ map claim_view (take (length held - (position + 1)) (drop (position + 1) held))) where
  abbrev n : ℕ
  n = position + 1

  pub rest_held : take (length held - n) (drop n held) ≡ drop n items
  rest_held = whole_rest n held ∙ ap (drop n) is

  same_too : map claim_view ys ≡ map claim_view (drop n items)
  same_too = same ∙ ap (map claim_view) rest_held

  long : length ys ≡ length items - n
  long = sym (length-map ys claim_view) ∙ ap (λ (cs : List PlainClaim). length cs) same_too ∙ length-map (drop n items) claim_view ∙ length-drop n items

  abbrev pub now : List Claim → List Claim
  now xs = take len (put_mid n (length xs - n) xs ys ++ drop (length (put_mid n (length xs - n) xs ys)) items)

  pub items_now : now held ≡ take n items ++ ys
  items_now = ap now is ∙ behind_put n len items ys (omega (arith, within)) long all

  pub picks_now : (later : List (List PlainPick)) → map taken_view ys ≡ later → map taken_view (now held) ≡ take n (map taken_view items) ++ later
  picks_now later taken = ap (map taken_view) items_now ∙ map-append taken_view (take n items) ys ∙ ap₂ (λ (ps qs : List (List PlainPick)). ps ++ qs) (sym (take-map taken_view n items)) taken
