-- What a log keeps true stays true: at its start, with one more claim, when a claim is completed, cut or committed.
use Rattle.std.proofs.Common.{◌≡◌, ℕ, zero, suc, ◌+◌, ◌*◌, ◌<◌, ◌≤◌, Bool, true, false, cond, List, [], ◌∷◌, ◌++◌, length, take, drop, Some, refl, sym, ap, subst, ◌∙◌, slice_get, arith}
use Rattle.std.specs.List.{AllByRecursion}
use Rattle.std.proofs.lemmas.List.{length-append, take-append-drop}
use Rattle.std.proofs.lemmas.Option.{same_Some}
use Rattle.cpn_definitions.specs.Bounds.{most_made, IsBounded}
use Rattle.cpn_definitions.specs.Lists.{IsInOrder}
use Rattle.cpn_definitions.specs.Marking.{Marking, tokens_at, stamps}
use Rattle.cpn_definitions.specs.Value.{PlainValue}
use Rattle.cpn_definitions.specs.Occurrence.{PlainElement, Needed, Made, needed_cmp, threshold, are_covered, subtract}
use Rattle.cpn_definitions.specs.Times.{last_time}
use Rattle.cpn_definitions.proofs.Subtraction.{AllAreSorted}
use Rattle.cpn_definitions.proofs.RisingLists.{each_implied, each_appended}
use Rattle.cpn_definitions.proofs.ListItems.{split_at, all_parts}
use Rattle.cpn_tmset.specs.Limits.{HaveRoomFor}
use Rattle.cpn_runs.specs.Bounds.{most_steps, most_after}
use Rattle.cpn_runs.specs.Filling.{filled_run}
use Rattle.cpn_runs.specs.HoleRun.{PlainClaim, Status, PlainHoleRun, open_claim, added, after_claim, picks_of, hole_run, marking_left, is_done}
use Rattle.cpn_runs.proofs.Sequences.{run_on, run_from, hole_run_more}
use Rattle.cpn_runs.proofs.FilledRuns.{filling_run, completed, sorted_after}
use Rattle.cpn_log.specs.Logs.{PlainLog, run_behind, claims_made, head_of, with_status, changed_to, opened, with_committed, with_occurred, next_committed_of, next_committed}
use Rattle.cpn_log.specs.Kept.{IsInRange, IsKept}
use Rattle.cpn_tmset.specs.Changed.{is_told}
use Rattle.cpn_log.specs.Gathered.{touched}
use Rattle.cpn_log.specs.Exchanges.{after_claims, number_added}
use Rattle.cpn_log.proofs.TouchedStamps.{untouched_after}
use Rattle.cpn_log.proofs.LeftMarkings.{leaves, left_is_after, left_sorted, after_joined, left_up_to, few_added, room_for}

-- ---- what the claims leave

-- the unclaimed marking stands in order
pub unclaimed_sorted : (log : PlainLog) → IsKept log → AllAreSorted log.unclaimed
unclaimed_sorted log kept = subst AllAreSorted (left_is_after log.settled log.claims log.unclaimed (leaves log kept)) (left_sorted log.settled log.claims kept.sorted)

-- there is room for what claims in range add, as many as may be made
pub room_for_all : (m : Marking) (k : ℕ) (claims : List PlainClaim) → IsBounded (most_after k) m → k + length claims ≤ most_steps → AllByRecursion IsInRange claims → HaveRoomFor (number_added claims) m
room_for_all m k claims few number each =
    let all = few_added claims each in room_for m (most_after k) (number_added claims) few (omega (arith, all, number))

-- ---- one more claim

-- the log with an open claim more, which takes its needs out of what all leave
abbrev pub with_one_more : PlainLog → PlainClaim → PlainLog
with_one_more log claim = record log {
  claims = log.claims ++ claim ∷ [];
  picks = log.picks ++ picks_of claim.time claim.needs log.unclaimed ∷ [];
  unclaimed = subtract (threshold claim.time) claim.needs log.unclaimed;
}

pub kept_with_one_more
    : (log : PlainLog) (seat : ℕ) (element : PlainElement) (time : ℕ) (needs : List Needed)
    → IsKept log
    → claims_made log < most_steps
    → time ≤ last_time
    → IsInOrder needed_cmp needs
    → are_covered (threshold time) log.unclaimed needs ≡ true
    → IsKept (with_one_more log (opened seat element time needs))
kept_with_one_more log seat element time needs kept room early ordered all = record {
  run = hole_run_more log.settled log.claims (opened seat element time needs) (run_behind log) kept.run all;
  sorted = kept.sorted;
  few = kept.few;
  number = (let longer = length-append log.claims (opened seat element time needs ∷ []) in omega (arith, longer, room));
  each = each_appended IsInRange log.claims (opened seat element time needs ∷ []) kept.each (record { in_time = early; in_order = ordered; few = omega arith }, tt);
}

-- ---- a claim is completed

-- An open claim among those of a log, with those ahead of it and behind it.
pub record IsAmong (log : PlainLog) (place : ℕ) (claim : PlainClaim) : Type 0 where
  pub before : List PlainClaim
  pub later : List PlainClaim
  pub is : log.claims ≡ before ++ claim ∷ later
  pub place_is : length before ≡ place
  pub changed : (status : Status) → with_status status place log.claims ≡ before ++ completed status claim ∷ later

pub among_at : (log : PlainLog) (place : ℕ) (claim : PlainClaim) → slice_get log.claims place ≡ Some claim → IsAmong log place claim
among_at log place claim is =
    let parts = split_at log.claims place claim is in
    record { before = parts.before; later = parts.later; is = parts.is; place_is = parts.place; changed = λ status. ap (changed_to status place log.claims) is ∙ parts.changed (completed status claim) }

-- the claims with one completed are in range
completed_in_range : (before : List PlainClaim) (claim : PlainClaim) (later : List PlainClaim) (status : Status) → length (added status) ≤ most_made → AllByRecursion IsInRange (before ++ claim ∷ later) → AllByRecursion IsInRange (before ++ completed status claim ∷ later)
completed_in_range before claim later status few each =
    let parts = all_parts IsInRange before (claim ∷ later) each in
    let own = parts.1.0 in
    each_appended IsInRange before (completed status claim ∷ later) parts.0 (record { in_time = own.in_time; in_order = own.in_order; few = few }, parts.1.1)

have_order : (claims : List PlainClaim) → AllByRecursion IsInRange claims → AllByRecursion (λ (claim : PlainClaim). IsInOrder needed_cmp claim.needs) claims
have_order claims each = each_implied IsInRange (λ (claim : PlainClaim). IsInOrder needed_cmp claim.needs) claims (λ claim own. own.in_order) each

-- the log with a claim completed, which added nothing: the run of its claims is filled
abbrev pub with_completed : PlainLog → ℕ → Status → PlainLog
with_completed log place status = record log {
  claims = with_status status place log.claims;
  picks = (filled_run place (added status) (run_behind log)).picks;
  unclaimed = (filled_run place (added status) (run_behind log)).marking;
}

pub kept_with_completed : (log : PlainLog) (place : ℕ) (claim : PlainClaim) (status : Status) → IsKept log → slice_get log.claims place ≡ Some claim → claim.status ≡ open_claim → length (added status) ≤ most_made → IsKept (with_completed log place status)
kept_with_completed log place claim status kept is is_open few = record {
  run = ap (hole_run log.settled) (parts.changed status) ∙ filled ∙ ap (λ (n : ℕ). Some (filled_run n (added status) (run_behind log))) parts.place_is;
  sorted = kept.sorted;
  few = kept.few;
  number = (let number = kept.number in omega (arith, number, lengths));
  each = subst (AllByRecursion IsInRange) (sym (parts.changed status)) (completed_in_range parts.before claim parts.later status few each);
}
  where
    parts : IsAmong log place claim
    parts = among_at log place claim is

    each : AllByRecursion IsInRange (parts.before ++ claim ∷ parts.later)
    each = subst (AllByRecursion IsInRange) parts.is kept.each

    filled : hole_run log.settled (parts.before ++ completed status claim ∷ parts.later) ≡ Some (filled_run (length parts.before) (added status) (run_behind log))
    filled =
        filling_run log.settled parts.before claim parts.later status (run_behind log) kept.sorted (have_order parts.later (all_parts IsInRange parts.before (claim ∷ parts.later) each).1.1) (ap added is_open)
        (ap (hole_run log.settled) (sym parts.is) ∙ kept.run)

    lengths : length (with_status status place log.claims) ≡ length log.claims
    lengths =
        ap (λ (cs : List PlainClaim). length cs) (parts.changed status) ∙ length-append parts.before (completed status claim ∷ parts.later)
        ∙ sym (length-append parts.before (claim ∷ parts.later)) ∙ ap (λ (cs : List PlainClaim). length cs) (sym parts.is)

-- there is room for the outputs of a claim that adds nothing yet
few_with_none : (before : List PlainClaim) (claim : PlainClaim) (later : List PlainClaim) → added claim.status ≡ [] → AllByRecursion IsInRange (before ++ claim ∷ later) → number_added (before ++ claim ∷ later) + most_made ≤ length (before ++ claim ∷ later) * most_made
few_with_none [] claim later none each =
    let rest = few_added later each.1 in
    let own : length (added claim.status) ≡ 0 = ap (λ (made : List Made). length made) none in
    omega (arith, rest, own)
few_with_none (c ∷ before) claim later none each =
    let rest = few_with_none before claim later none each.1 in
    let own = each.0.few in
    omega (arith, rest, own)

pub room_for_outputs : (log : PlainLog) (place : ℕ) (claim : PlainClaim) (outputs : List Made) → IsKept log → slice_get log.claims place ≡ Some claim → claim.status ≡ open_claim → length outputs ≤ most_made → HaveRoomFor (length outputs) log.unclaimed
room_for_outputs log place claim outputs kept is is_open few =
    let parts = among_at log place claim is in
    let Fewer : List PlainClaim → Type 0 = λ cs. number_added cs + most_made ≤ length cs * most_made in
    let all : number_added log.claims + most_made ≤ length log.claims * most_made = subst Fewer (sym parts.is) (few_with_none parts.before claim parts.later (ap added is_open) (subst (AllByRecursion IsInRange) parts.is kept.each)) in
    let up_to : IsBounded (most_after (length log.committed) + number_added log.claims) log.unclaimed =
    subst (IsBounded (most_after (length log.committed) + number_added log.claims)) (left_is_after log.settled log.claims log.unclaimed (leaves log kept)) (left_up_to log.claims log.settled (most_after (length log.committed)) kept.few) in
    let number = kept.number in
    room_for log.unclaimed (most_after (length log.committed) + number_added log.claims) (length outputs) up_to (omega (arith, all, number, few))

-- ---- claims are cut off

-- the log of the first of its claims
abbrev pub with_cut : PlainLog → ℕ → PlainLog
with_cut log k = record log { claims = take k log.claims; picks = take k log.picks; unclaimed = after_claims (take k log.claims) log.settled }

-- the first of the claims of a run have their own run
run_of_first : (m : Marking) (claims : List PlainClaim) (run : PlainHoleRun) (k : ℕ) → hole_run m claims ≡ Some run → hole_run m (take k claims) ≡ Some (record { marking = after_claims (take k claims) m; picks = take k run.picks })
run_of_first m claims run zero is = refl
run_of_first m [] run (suc k) is =
    let same : record { marking = m; picks = [] } ≡ run = same_Some (record { marking = m; picks = [] }) run is in
    ap (λ (r : PlainHoleRun). Some (record { marking = m; picks = take (suc k) r.picks })) same
run_of_first m (claim ∷ claims) run (suc k) is =
    let first = run_on m claim claims run is in
    let rest = run_of_first (after_claim claim m) claims first.rest k first.goes_on in
    run_from m claim (take k claims) (record { marking = after_claims (take k claims) (after_claim claim m); picks = take k first.rest.picks }) first.is_covered rest
    ∙ ap (λ (r : PlainHoleRun). Some (record { marking = after_claims (take k claims) (after_claim claim m); picks = take (suc k) r.picks })) first.run_is

pub kept_with_cut : (log : PlainLog) (k : ℕ) → IsKept log → k ≤ length log.claims → IsKept (with_cut log k)
kept_with_cut log k kept within = record {
  run = run_of_first log.settled log.claims (run_behind log) k kept.run;
  sorted = kept.sorted;
  few = kept.few;
  number = (let number = kept.number in let fewer = fewer_taken k log.claims in omega (arith, number, fewer));
  each = (all_parts IsInRange (take k log.claims) (drop k log.claims) (subst (AllByRecursion IsInRange) (sym (take-append-drop k log.claims)) kept.each)).0;
}
  where
    fewer_taken : (n : ℕ) (cs : List PlainClaim) → length (take n cs) ≤ length cs
    fewer_taken zero cs = omega arith
    fewer_taken (suc n) [] = omega arith
    fewer_taken (suc n) (c ∷ cs) = let rest = fewer_taken n cs in omega (arith, rest)

-- of a value on a place that the claims behind don't touch the stamps stay
pub cut_stays : (log : PlainLog) (k : ℕ) (p : ℕ) (v : PlainValue) → IsKept log → is_told p v (touched (drop k log.claims)) ≡ false → stamps v (tokens_at (after_claims (take k log.claims) log.settled) p) ≡ stamps v (tokens_at log.unclaimed p)
cut_stays log k p v kept none =
    let mid = after_claims (take k log.claims) log.settled in
    sym (untouched_after (drop k log.claims) mid p v (left_sorted log.settled (take k log.claims) kept.sorted) none)
    ∙ ap (λ m. stamps v (tokens_at m p)) (sym (after_joined (take k log.claims) (drop k log.claims) log.settled) ∙ ap (λ cs. after_claims cs log.settled) (take-append-drop k log.claims) ∙ left_is_after log.settled log.claims log.unclaimed (leaves log kept))

-- ---- the next claim is committed

pub kept_with_committed : (log : PlainLog) (claim : PlainClaim) (claims : List PlainClaim) → log.claims ≡ claim ∷ claims → IsKept log → IsKept (with_committed log claim claims)
kept_with_committed log claim claims is kept =
    let first = run_on log.settled claim claims (run_behind log) (ap (hole_run log.settled) (sym is) ∙ kept.run) in
    let each = subst (AllByRecursion IsInRange) is kept.each in
    record {
      run = first.goes_on ∙ ap (λ (r : PlainHoleRun). Some (record { marking = r.marking; picks = drop 1 r.picks })) first.run_is;
      sorted = sorted_after claim log.settled kept.sorted;
      few = λ p. (let up_to = left_up_to (claim ∷ []) log.settled (most_after (length log.committed)) kept.few p in let own = each.0.few in let longer = length-append log.committed (head_of claim ∷ []) in omega (arith, up_to, own, longer));
      number = (let number = kept.number in let longer = length-append log.committed (head_of claim ∷ []) in let lengths = ap (λ (cs : List PlainClaim). length cs) is in omega (arith, number, longer, lengths));
      each = each.1;
    }

pub kept_next : (log : PlainLog) → IsKept log → IsKept (next_committed log)
kept_next log kept = split log.claims refl
  where
    split : (claims : List PlainClaim) → log.claims ≡ claims → IsKept (next_committed_of log claims)
    split [] is = kept
    split (claim ∷ claims) is = choose (is_done claim.status)
      where
        choose : (b : Bool) → IsKept (cond b (with_committed log claim claims) log)
        choose true = kept_with_committed log claim claims is kept
        choose false = kept

-- ---- a claim is made, done and committed where none stands behind the committed ones

-- it is what a claim leaves that stands behind them, done, when it is committed
pub occurred_is_committed : (log : PlainLog) (claim : PlainClaim) → with_occurred log claim ≡ with_committed (record log { claims = claim ∷ []; picks = picks_of claim.time claim.needs log.settled ∷ []; unclaimed = after_claim claim log.settled }) claim []
occurred_is_committed log claim = refl

pub kept_with_occurred : (log : PlainLog) (claim : PlainClaim) → IsKept log → log.claims ≡ [] → claims_made log < most_steps → length (added claim.status) ≤ most_made → IsKept (with_occurred log claim)
kept_with_occurred log claim kept all room few = record {
  run = refl;
  sorted = sorted_after claim log.settled kept.sorted;
  few = λ p. (let up_to = left_up_to (claim ∷ []) log.settled (most_after (length log.committed)) kept.few p in let longer = length-append log.committed (head_of claim ∷ []) in omega (arith, up_to, few, longer));
  number = (let longer = length-append log.committed (head_of claim ∷ []) in omega (arith, longer, room));
  each = tt;
}

-- the two markings are one then
pub settled_where_all : (log : PlainLog) → IsKept log → log.claims ≡ [] → log.settled ≡ log.unclaimed
settled_where_all log kept all = same_Some log.settled log.unclaimed (ap (marking_left log.settled) (sym all) ∙ leaves log kept)

-- and there is room for the outputs of a claim
pub room_for_one : (log : PlainLog) (outputs : List Made) → IsKept log → claims_made log < most_steps → length outputs ≤ most_made → HaveRoomFor (length outputs) log.settled
room_for_one log outputs kept room few = room_for log.settled (most_after (length log.committed)) (length outputs) kept.few (omega (arith, room, few))
