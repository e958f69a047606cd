-- The cut that claims make owed: which claim it is for, and what stands before it.
use Rattle.std.proofs.Common.{◌≡◌, ℕ, zero, suc, ◌+◌, ◌≤◌, ◌⊎◌, inl, inr, eq-eqb, Bool, true, false, ◌&&◌, ◌||◌, ◌==◌, append_assoc, cond, List, [], ◌∷◌, ◌++◌, length, take, drop, Some, None, Option, refl, sym, ap, ◌∙◌, subst, arith, slice_get, count_by}
use Rattle.std.specs.List.{AllByRecursion, list_any}
use Rattle.std.specs.Option.{is_some, option_or}
use Rattle.std.proofs.Math.Bool.{and-false}
use Rattle.std.proofs.Math.Path.{ap₂}
use Rattle.std.proofs.lemmas.Bool.{cond_both}
use Rattle.std.proofs.lemmas.List.{take-append-drop}
use Rattle.std.proofs.lemmas.List.Sums.{sum_by-append}
use Rattle.std.proofs.lemmas.Option.{same_Some}
use Rattle.cpn_definitions.specs.Outcome.{Fault}
use Rattle.cpn_definitions.specs.Marking.{Marking}
use Rattle.cpn_monitor.specs.MeasuredRuns.{MarkedOccurrence}
use Rattle.cpn_monitor.specs.Monitors.{PlainMonitor}
use Rattle.cpn_runs.specs.Commits.{marked_claim, marked_from, stop_at_last, committed_from}
use Rattle.cpn_runs.specs.HoleRun.{PlainClaim, Status, open_claim, done_with, faulted_with, is_open, is_done, after_claim}
use Rattle.cpn_runs.specs.State.{PlainSetup, PlainState, fault_end, stopped_by, wants_memory, PlainCut, cut_by, cut_at, is_cause, is_cut_by_stop, cut_by_stop, PlainEnd, committed, committed_claims, stop_in, owed_cut}
use Rattle.cpn_runs.specs.GivingBack.{OnlyGivenBack}

-- whether a claim makes a cut owed doesn't depend on its number
pub no_cut_at_any : (j k : ℕ) (claim : Option PlainClaim) → cut_at j claim ≡ None → cut_at k claim ≡ None
no_cut_at_any j k None none = refl
no_cut_at_any j k (Some claim) none = by_status claim.status none
  where
    by_status : (status : Status) → cut_by j claim.element status ≡ None → cut_by k claim.element status ≡ None
    by_status open_claim is = refl
    by_status (done_with outputs) is = refl
    by_status (faulted_with fault) is = cc

-- each claim is done without fault
abbrev pub AreDone : List PlainClaim → Type 0
AreDone claims = AllByRecursion (λ claim. is_done claim.status ≡ true) claims

-- ---- the claims that are committed

-- what holds of none of some claims, and of one more that is done, holds of those that are committed
module _ (monitors : List PlainMonitor) (P : ℕ → List PlainClaim → Type 0) (none : (claims : List PlainClaim) → P 0 claims) (one_more : (k : ℕ) (claim : PlainClaim) (claims : List PlainClaim) → is_done claim.status ≡ true → P k claims → P (suc k) (claim ∷ claims)) where
  of_committed : (before : List MarkedOccurrence) (m : Marking) (claims : List PlainClaim) → P (committed_from monitors before m claims) claims
  of_committed before m [] = none []
  of_committed before m (claim ∷ claims) =
      let marked = before ++ marked_claim m claim ∷ [] in
      let more = committed_from monitors marked (after_claim claim m) claims in
      cond_both (is_done claim.status) (suc (cond (is_some (stop_at_last monitors marked)) 0 more)) 0 (λ k. P k (claim ∷ claims))
      (λ h. one_more (cond (is_some (stop_at_last monitors marked)) 0 more) claim claims h
      (cond_both (is_some (stop_at_last monitors marked)) 0 more (λ k. P k claims) (λ _. none claims) (λ _. of_committed marked (after_claim claim m) claims)))
      (λ _. none (claim ∷ claims))

pub committed_are_done : (monitors : List PlainMonitor) (before : List MarkedOccurrence) (m : Marking) (claims : List PlainClaim) → AreDone (take (committed_from monitors before m claims) claims)
committed_are_done monitors = of_committed monitors (λ k claims. AreDone (take k claims)) (λ claims. tt) (λ k claim claims h rest. (h, rest))

pub as_many_are_committed : (monitors : List PlainMonitor) (before : List MarkedOccurrence) (m : Marking) (claims : List PlainClaim) → length (take (committed_from monitors before m claims) claims) ≡ committed_from monitors before m claims
as_many_are_committed monitors = of_committed monitors (λ k claims. length (take k claims) ≡ k) (λ claims. refl) (λ k claim claims h rest. ap (λ (n : ℕ). suc n) rest)

-- no more are committed than there are
pub no_more_committed : (monitors : List PlainMonitor) (before : List MarkedOccurrence) (m : Marking) (claims : List PlainClaim) → committed_from monitors before m claims ≤ length claims
no_more_committed monitors = of_committed monitors (λ k claims. k ≤ length claims) (λ claims. omega arith) (λ k claim claims h rest. omega (arith, rest))

-- ---- one claim by one

module _ (monitors : List PlainMonitor) (before : List MarkedOccurrence) (m : Marking) (claim : PlainClaim) (claims : List PlainClaim) where
  -- the occurrences with that of the claim
  abbrev marked : List MarkedOccurrence
  marked = before ++ marked_claim m claim ∷ []

  -- one that is not done ends what is committed; and so does one after which a monitor stops the run
  pub not_done : is_done claim.status ≡ false → committed_from monitors before m (claim ∷ claims) ≡ 0
  not_done h = ap (λ b. cond b (suc (cond (is_some (stop_at_last monitors marked)) 0 (committed_from monitors marked (after_claim claim m) claims))) 0) h

  done_so : is_done claim.status ≡ true → committed_from monitors before m (claim ∷ claims) ≡ suc (cond (is_some (stop_at_last monitors marked)) 0 (committed_from monitors marked (after_claim claim m) claims))
  done_so h = ap (λ b. cond b (suc (cond (is_some (stop_at_last monitors marked)) 0 (committed_from monitors marked (after_claim claim m) claims))) 0) h

  pub done_last : is_done claim.status ≡ true → is_some (stop_at_last monitors marked) ≡ true → committed_from monitors before m (claim ∷ claims) ≡ 1
  done_last h stops = done_so h ∙ ap (λ b. suc (cond b 0 (committed_from monitors marked (after_claim claim m) claims))) stops

  -- and after another one it goes on
  pub done_goes_on : is_done claim.status ≡ true → is_some (stop_at_last monitors marked) ≡ false → committed_from monitors before m (claim ∷ claims) ≡ suc (committed_from monitors marked (after_claim claim m) claims)
  done_goes_on h goes_on = done_so h ∙ ap (λ b. suc (cond b 0 (committed_from monitors marked (after_claim claim m) claims))) goes_on

-- claims that are all committed are so ahead of others, too
pub committed_ahead
    : (monitors : List PlainMonitor) (before : List MarkedOccurrence) (m : Marking) (first more : List PlainClaim)
    → committed_from monitors before m first ≡ length first
    → (j : ℕ) × (committed_from monitors before m (first ++ more) ≡ length first + j)
committed_ahead monitors before m [] more all = (committed_from monitors before m more, omega arith)
committed_ahead monitors before m (claim ∷ first) more all = split (is_done claim.status) refl (committed_ahead monitors (before ++ marked_claim m claim ∷ []) (after_claim claim m) first more)
  where
    those : List MarkedOccurrence
    those = before ++ marked_claim m claim ∷ []

    Ahead : Type 0
    Ahead = (j : ℕ) × (committed_from monitors before m (claim ∷ first ++ more) ≡ suc (length first) + j)

    Later : Type 0
    Later = committed_from monitors those (after_claim claim m) first ≡ length first → (j : ℕ) × (committed_from monitors those (after_claim claim m) (first ++ more) ≡ length first + j)

    by_stop : is_done claim.status ≡ true → Later → (stop : Bool) → is_some (stop_at_last monitors those) ≡ stop → Ahead
    by_stop h later true is =
        let one = done_last monitors before m claim first h is in
        let one_more = done_last monitors before m claim (first ++ more) h is in
        (0, omega (arith, one, one_more, all))
    by_stop h later false is =
        let some = done_goes_on monitors before m claim first h is in
        let some_more = done_goes_on monitors before m claim (first ++ more) h is in
        let rest = later (omega (arith, some, all)) in
        let is_rest = rest.1 in
        (rest.0, omega (arith, some_more, is_rest))

    split : (b : Bool) → is_done claim.status ≡ b → Later → Ahead
    split true h later = by_stop h later (is_some (stop_at_last monitors those)) refl
    split false h later = let none = not_done monitors before m claim first h in absurd (omega (arith, none, all))

-- so the committed ones are those, and some of the others
pub taken_ahead : {A : Type 0} (first more : List A) (j : ℕ) → take (length first + j) (first ++ more) ≡ first ++ take j more
taken_ahead [] more j = ap (λ k. take k more) (let e : 0 + j ≡ j = omega arith in e)
taken_ahead (x ∷ first) more j = ap (λ k. take k (x ∷ first ++ more)) (let e : suc (length first) + j ≡ suc (length first + j) = omega arith in e) ∙ ap (λ ys. x ∷ ys) (taken_ahead first more j)

some_stop : (stop : Option ℕ) → is_some stop ≡ true → stop ≡ None → ⊥
some_stop None is none = cc
some_stop (Some monitor) is none = cc

-- where no claim is open, no monitor stops the run after the last committed claim, and the next has no fault, all are committed
pub all_in
    : (monitors : List PlainMonitor) (before : List MarkedOccurrence) (m : Marking) (claims : List PlainClaim)
    → list_any (λ claim. is_open claim.status) claims ≡ false
    → stop_at_last monitors (before ++ marked_from m (take (committed_from monitors before m claims) claims)) ≡ None
    → cut_at (committed_from monitors before m claims) (slice_get claims (committed_from monitors before m claims)) ≡ None
    → committed_from monitors before m claims ≡ length claims
all_in monitors before m [] none_open goes_on no_fault = refl
all_in monitors before m (claim ∷ claims) none_open goes_on no_fault = by_status (all_in monitors (before ++ marked_claim m claim ∷ []) (after_claim claim m) claims) claim.status refl
  where
    those : List MarkedOccurrence
    those = before ++ marked_claim m claim ∷ []

    many : ℕ
    many = committed_from monitors before m (claim ∷ claims)

    more : ℕ
    more = committed_from monitors those (after_claim claim m) claims

    Later : Type 0
    Later =
        list_any (λ c. is_open c.status) claims ≡ false
        → stop_at_last monitors (those ++ marked_from (after_claim claim m) (take more claims)) ≡ None
        → cut_at more (slice_get claims more) ≡ None
        → more ≡ length claims

    by_stop : Later → is_done claim.status ≡ true → is_open claim.status ≡ false → (stop : Bool) → is_some (stop_at_last monitors those) ≡ stop → many ≡ suc (length claims)
    by_stop later h closed true is =
        let one : many ≡ 1 = done_last monitors before m claim claims h is in
        absurd (some_stop (stop_at_last monitors those) is (subst (λ (k : ℕ). stop_at_last monitors (before ++ marked_from m (take k (claim ∷ claims))) ≡ None) one goes_on))
    by_stop later h closed false is =
        let some : many ≡ suc more = done_goes_on monitors before m claim claims h is in
        let rest_open : list_any (λ c. is_open c.status) claims ≡ false = ap (λ b. b || list_any (λ c. is_open c.status) claims) (sym closed) ∙ none_open in
        let stop_next : stop_at_last monitors (before ++ marked_claim m claim ∷ marked_from (after_claim claim m) (take more claims)) ≡ None = subst (λ (k : ℕ). stop_at_last monitors (before ++ marked_from m (take k (claim ∷ claims))) ≡ None) some goes_on in
        let stop_rest : stop_at_last monitors (those ++ marked_from (after_claim claim m) (take more claims)) ≡ None =
        ap (stop_at_last monitors) (append_assoc before (marked_claim m claim ∷ []) (marked_from (after_claim claim m) (take more claims))) ∙ stop_next in
        let fault_next : cut_at (suc more) (slice_get claims more) ≡ None = subst (λ (k : ℕ). cut_at k (slice_get (claim ∷ claims) k) ≡ None) some no_fault in
        some ∙ ap (λ (k : ℕ). suc k) (later rest_open stop_rest (no_cut_at_any (suc more) more (slice_get claims more) fault_next))

    by_status : Later → (status : Status) → claim.status ≡ status → many ≡ suc (length claims)
    by_status later open_claim is = let e : true ≡ false = ap (λ s. is_open s || list_any (λ c. is_open c.status) claims) (sym is) ∙ none_open in cc
    by_status later (done_with outputs) is = by_stop later (ap is_done is) (ap is_open is) (is_some (stop_at_last monitors those)) refl
    by_status later (faulted_with fault) is =
        let none : many ≡ 0 = not_done monitors before m claim claims (ap is_done is) in
        let owed : cut_by 0 claim.element claim.status ≡ None = subst (λ (k : ℕ). cut_at k (slice_get (claim ∷ claims) k) ≡ None) none no_fault in
        let made : cut_by 0 claim.element (faulted_with fault) ≡ None = ap (cut_by 0 claim.element) (sym is) ∙ owed in
        cc

-- those that are committed are all committed by themselves
pub committed_again : (monitors : List PlainMonitor) (before : List MarkedOccurrence) (m : Marking) (claims : List PlainClaim)
    → committed_from monitors before m (take (committed_from monitors before m claims) claims) ≡ committed_from monitors before m claims
committed_again monitors before m [] = refl
committed_again monitors before m (claim ∷ claims) = split (committed_again monitors (before ++ marked_claim m claim ∷ []) (after_claim claim m) claims) (is_done claim.status) refl
  where
    marked : List MarkedOccurrence
    marked = before ++ marked_claim m claim ∷ []

    more : ℕ
    more = committed_from monitors marked (after_claim claim m) claims

    P : ℕ → Type 0
    P k = committed_from monitors before m (take k (claim ∷ claims)) ≡ k

    Later : Type 0
    Later = committed_from monitors marked (after_claim claim m) (take more claims) ≡ more

    of_done : Later → is_done claim.status ≡ true → (stop : Bool) → is_some (stop_at_last monitors marked) ≡ stop → P (suc (cond stop 0 more))
    of_done later h true is = ap (λ b. cond b (suc (cond (is_some (stop_at_last monitors marked)) 0 0)) 0) h ∙ ap (λ b. suc (cond b 0 0)) is
    of_done later h false is =
        ap (λ b. cond b (suc (cond (is_some (stop_at_last monitors marked)) 0 (committed_from monitors marked (after_claim claim m) (take more claims)))) 0) h
        ∙ ap (λ b. suc (cond b 0 (committed_from monitors marked (after_claim claim m) (take more claims)))) is
        ∙ ap (λ (k : ℕ). suc k) later

    split : Later → (b : Bool) → is_done claim.status ≡ b → P (cond (is_done claim.status) (suc (cond (is_some (stop_at_last monitors marked)) 0 more)) 0)
    split later true h = subst (λ b. P (cond b (suc (cond (is_some (stop_at_last monitors marked)) 0 more)) 0)) (sym h) (by_stop (is_some (stop_at_last monitors marked)) refl)
      where
        by_stop : (stop : Bool) → is_some (stop_at_last monitors marked) ≡ stop → P (suc (cond (is_some (stop_at_last monitors marked)) 0 more))
        by_stop stop is = subst (λ b. P (suc (cond b 0 more))) (sym is) (of_done later h stop is)
    split later false h = subst (λ b. P (cond b (suc (cond (is_some (stop_at_last monitors marked)) 0 more)) 0)) (sym h) refl

past_the_last : {A : Type 0} (xs : List A) → slice_get xs (length xs) ≡ None
past_the_last [] = refl
past_the_last (x ∷ xs) = past_the_last xs

-- behind all claims none makes a cut owed
pub no_cut_behind : (k : ℕ) (claims : List PlainClaim) → k ≡ length claims → cut_at k (slice_get claims k) ≡ None
no_cut_behind k claims all = ap (λ (n : ℕ). cut_at n (slice_get claims n)) all ∙ ap (cut_at (length claims)) (past_the_last claims)

pub done_is_not_open : (status : Status) → is_done status ≡ true → is_open status ≡ false
done_is_not_open open_claim is = cc
done_is_not_open (done_with outputs) is = refl
done_is_not_open (faulted_with fault) is = cc

pub open_is_not_done : (status : Status) → is_open status ≡ true → is_done status ≡ false
open_is_not_done open_claim is = refl
open_is_not_done (done_with outputs) is = cc
open_is_not_done (faulted_with fault) is = refl

pub done_are_closed : (claims : List PlainClaim) → AreDone claims → list_any (λ claim. is_open claim.status) claims ≡ false
done_are_closed [] done = refl
done_are_closed (claim ∷ claims) done = rw (done_is_not_open claim.status done.0) (done_are_closed claims done.1)

-- the claim at an index among them is done
pub done_at : (claims : List PlainClaim) (i : ℕ) (claim : PlainClaim) → AreDone claims → slice_get claims i ≡ Some claim → is_done claim.status ≡ true
done_at [] zero claim done is = cc
done_at [] (suc i) claim done is = cc
done_at (k ∷ ks) zero claim done is = let same : k ≡ claim = cc in subst (λ (c : PlainClaim). is_done c.status ≡ true) same done.0
done_at (k ∷ ks) (suc i) claim done is = done_at ks i claim done.1 is

-- of the first claims no more pass a test than of all
pub fewer_first : (p : PlainClaim → Bool) (k : ℕ) (claims : List PlainClaim) → count_by p (take k claims) ≤ count_by p claims
fewer_first p k claims =
    let all : count_by p (take k claims ++ drop k claims) ≡ count_by p (take k claims) + count_by p (drop k claims) = sum_by-append (λ c. cond (p c) 1 0) (take k claims) (drop k claims) in
    let same : count_by p (take k claims ++ drop k claims) ≡ count_by p claims = ap (count_by p) (take-append-drop k claims) in
    omega (arith, all, same)

-- ---- the claim that a cut is for

-- A cut for a fault: the claim of its number is done with the fault, which is its cause.
pub record IsForFault (claims : List PlainClaim) (k : ℕ) (cut : PlainCut) : Type 0 where
  pub number_is : cut.number ≡ k
  pub faulted : PlainClaim
  pub claim_is : slice_get claims k ≡ Some faulted
  pub fault : Fault
  pub fault_is : faulted.status ≡ faulted_with fault
  pub cause_is : cut.cause ≡ fault_end faulted.element fault

pub for_fault : (claims : List PlainClaim) (k : ℕ) (cut : PlainCut) → cut_at k (slice_get claims k) ≡ Some cut → IsForFault claims k cut
for_fault claims k cut owed = by_claim (slice_get claims k) refl owed
  where
    by_claim : (claim : Option PlainClaim) → slice_get claims k ≡ claim → cut_at k claim ≡ Some cut → IsForFault claims k cut
    by_claim None at is = cc
    by_claim (Some claim) at is = by_status claim.status refl is
      where
        by_status : (status : Status) → claim.status ≡ status → cut_by k claim.element status ≡ Some cut → IsForFault claims k cut
        by_status open_claim is_status made = cc
        by_status (done_with outputs) is_status made = cc
        by_status (faulted_with fault) is_status made =
            let same = same_Some (record { number = k; cause = fault_end claim.element fault }) cut made in
            record {
              number_is = ap (λ (c : PlainCut). c.number) (sym same);
              faulted = claim;
              claim_is = at;
              fault = fault;
              fault_is = is_status;
              cause_is = ap (λ (c : PlainCut). c.cause) (sym same);
            }

-- A cut that is owed is at the first claim that is not committed: it is a stop's, where a monitor stops the run after the last committed claim; or
-- else no monitor does, and it is for that claim's fault.
pub record IsOwed (setup : PlainSetup) (state : PlainState) (cut : PlainCut) : Type 0 where
  pub number_is : cut.number ≡ committed setup state
  pub cause : ((monitor : ℕ) × (stop_in setup state ≡ Some monitor) × (cut.cause ≡ stopped_by monitor)) ⊎ ((stop_in setup state ≡ None) × IsForFault state.claims (committed setup state) cut)

-- no cut is owed where none is by a stop, nor by a fault
owed_parts : (first second : Option PlainCut) → option_or first second ≡ None → (first ≡ None) × (second ≡ None)
owed_parts None second none = (refl, none)
owed_parts (Some cut) second none = cc

-- where no cut stands, unless for want of memory, none that stands is that of a monitor
not_by_stop : (k monitor : ℕ) (stands : Option PlainCut) → OnlyGivenBack stands → is_cut_by_stop k monitor stands ≡ false
not_by_stop k monitor None given_back = refl
not_by_stop k monitor (Some cut) given_back = ap (λ cause. (k == cut.number) && is_cause monitor cause) given_back ∙ and-false (k == cut.number)

-- so a monitor that stops the run makes a cut owed
pub stop_owes : (k monitor : ℕ) (stands : Option PlainCut) → OnlyGivenBack stands → cut_by_stop k (Some monitor) stands ≡ Some (record { number = k; cause = stopped_by monitor })
stop_owes k monitor stands given_back = ap (λ b. cond b None (Some (record { number = k; cause = stopped_by monitor }))) (not_by_stop k monitor stands given_back)

made_or_none : (o : Option PlainCut) (cut : PlainCut) → o ≡ Some cut → o ≡ None → ⊥
made_or_none o cut some none = cc

-- so it is where no cut stands
pub uncut_so : (stands : Option PlainCut) → stands ≡ None → OnlyGivenBack stands
uncut_so stands none = subst OnlyGivenBack (sym none) tt

-- where no cut stands, unless for want of memory, and none is owed, no monitor stops the run after the last committed claim
pub owes_none : (setup : PlainSetup) (state : PlainState) → OnlyGivenBack state.cut → owed_cut setup state ≡ None → (stop_in setup state ≡ None) × (cut_at (committed setup state) (slice_get state.claims (committed setup state)) ≡ None)
owes_none setup state given_back none =
    let parts = owed_parts (cut_by_stop (committed setup state) (stop_in setup state) state.cut) (cut_at (committed setup state) (slice_get state.claims (committed setup state))) none in
    (by (stop_in setup state) parts.0, parts.1)
  where
    by : (stop : Option ℕ) → cut_by_stop (committed setup state) stop state.cut ≡ None → stop ≡ None
    by None is = refl
    by (Some monitor) is = absurd (made_or_none _ _ (stop_owes (committed setup state) monitor state.cut given_back) is)

-- and the other way
pub owes_none_so : (setup : PlainSetup) (state : PlainState) → stop_in setup state ≡ None → cut_at (committed setup state) (slice_get state.claims (committed setup state)) ≡ None → owed_cut setup state ≡ None
owes_none_so setup state goes_on no_fault = ap (λ stop. option_or (cut_by_stop (committed setup state) stop state.cut) (cut_at (committed setup state) (slice_get state.claims (committed setup state)))) goes_on ∙ no_fault

-- what is owed where no cut stands, unless for want of memory
pub owed_is : (setup : PlainSetup) (state : PlainState) (cut : PlainCut) → OnlyGivenBack state.cut → owed_cut setup state ≡ Some cut → IsOwed setup state cut
owed_is setup state cut given_back owed = by (stop_in setup state) refl
  where
    k : ℕ
    k = committed setup state

    owed_by : (stop : Option ℕ) → stop_in setup state ≡ stop → option_or (cut_by_stop k stop state.cut) (cut_at k (slice_get state.claims k)) ≡ Some cut
    owed_by stop is = ap (λ s. option_or (cut_by_stop k s state.cut) (cut_at k (slice_get state.claims k))) (sym is) ∙ owed

    by : (stop : Option ℕ) → stop_in setup state ≡ stop → IsOwed setup state cut
    by None is = let fault = for_fault state.claims k cut (owed_by None is) in record { number_is = fault.number_is; cause = inr (is, fault) }
    by (Some monitor) is =
        let made = ap (λ c. option_or c (cut_at k (slice_get state.claims k))) (sym (stop_owes k monitor state.cut given_back)) ∙ owed_by (Some monitor) is in
        let same : record { number = k; cause = stopped_by monitor } ≡ cut = same_Some (record { number = k; cause = stopped_by monitor }) cut made in
        record { number_is = ap (λ (c : PlainCut). c.number) (sym same); cause = inl (monitor, is, ap (λ (c : PlainCut). c.cause) (sym same)) }

-- a stop's cut that stands owes nothing more, nor does a fault's
stands_so : (k monitor : ℕ) → cut_by_stop k (Some monitor) (Some (record { number = k; cause = stopped_by monitor })) ≡ None
stands_so k monitor = rw (eq-eqb k k refl) (rw (eq-eqb monitor monitor refl) refl)

-- whatever stands, a cut that is owed is that of a monitor after the committed claims, or for a fault of the next
pub owed_for : (setup : PlainSetup) (state : PlainState) (cut : PlainCut) → owed_cut setup state ≡ Some cut
    → ((monitor : ℕ) × (record { number = committed setup state; cause = stopped_by monitor } ≡ cut)) ⊎ IsForFault state.claims (committed setup state) cut
owed_for setup state cut owed = by (stop_in setup state) owed
  where
    k : ℕ
    k = committed setup state

    second : Option PlainCut
    second = cut_at k (slice_get state.claims k)

    Cause : Type 0
    Cause = ((monitor : ℕ) × (record { number = k; cause = stopped_by monitor } ≡ cut)) ⊎ IsForFault state.claims k cut

    by_cut : (monitor : ℕ) (stands : Bool) → option_or (cond stands None (Some (record { number = k; cause = stopped_by monitor }))) second ≡ Some cut → Cause
    by_cut monitor true is = inr (for_fault state.claims k cut is)
    by_cut monitor false is = inl (monitor, same_Some (record { number = k; cause = stopped_by monitor }) cut is)

    by : (stop : Option ℕ) → option_or (cut_by_stop k stop state.cut) second ≡ Some cut → Cause
    by None is = inr (for_fault state.claims k cut is)
    by (Some monitor) is = by_cut monitor (is_cut_by_stop k monitor state.cut) is

-- so its number is that of the first claim that is not committed
pub owed_number : (setup : PlainSetup) (state : PlainState) (cut : PlainCut) → owed_cut setup state ≡ Some cut → cut.number ≡ committed setup state
owed_number setup state cut owed = by (owed_for setup state cut owed)
  where
    by : ((monitor : ℕ) × (record { number = committed setup state; cause = stopped_by monitor } ≡ cut)) ⊎ IsForFault state.claims (committed setup state) cut → cut.number ≡ committed setup state
    by (inl (monitor, is)) = ap (λ (c : PlainCut). c.number) (sym is)
    by (inr fault) = fault.number_is

-- and it is not for want of memory
pub owed_is_not_for_memory : (setup : PlainSetup) (state : PlainState) (cut : PlainCut) → owed_cut setup state ≡ Some cut → cut.cause ≡ wants_memory → ⊥
owed_is_not_for_memory setup state cut owed memory = by (owed_for setup state cut owed)
  where
    by : ((monitor : ℕ) × (record { number = committed setup state; cause = stopped_by monitor } ≡ cut)) ⊎ IsForFault state.claims (committed setup state) cut → ⊥
    by (inl (monitor, is)) = let e : stopped_by monitor ≡ wants_memory = ap (λ (c : PlainCut). c.cause) is ∙ memory in cc
    by (inr fault) = let e : fault_end fault.faulted.element fault.fault ≡ wants_memory = sym fault.cause_is ∙ memory in cc

-- where all claims are committed, and a stop is cut
pub cut_owes_none : (setup : PlainSetup) (state : PlainState) (monitor : ℕ) → stop_in setup state ≡ Some monitor → committed setup state ≡ length state.claims → state.cut ≡ Some (record { number = committed setup state; cause = stopped_by monitor }) → owed_cut setup state ≡ None
cut_owes_none setup state monitor stop all stands =
    ap (λ c. option_or c (cut_at (committed setup state) (slice_get state.claims (committed setup state))))
    (ap (λ s. cut_by_stop (committed setup state) s state.cut) stop ∙ ap (cut_by_stop (committed setup state) (Some monitor)) stands ∙ stands_so (committed setup state) monitor)
    ∙ no_cut_behind (committed setup state) state.claims all

-- ---- what a cut leaves

-- the state that a cut leaves which is owed: with the committed claims alone
abbrev pub left_by : PlainSetup → PlainState → PlainCut → PlainState
left_by setup old cut = record old { claims = committed_claims setup old; cut = Some cut }

module _ (setup : PlainSetup) (old : PlainState) (cut : PlainCut) where
  again : committed setup (left_by setup old cut) ≡ committed setup old
  again = committed_again setup.monitors [] setup.start old.claims

  -- all of them are committed still
  pub left_all : committed setup (left_by setup old cut) ≡ length (committed_claims setup old)
  left_all = again ∙ sym (as_many_are_committed setup.monitors [] setup.start old.claims)

  -- and the same monitor stops the run, or none
  pub left_stop : stop_in setup (left_by setup old cut) ≡ stop_in setup old
  left_stop =
      ap (λ k. stop_at_last setup.monitors (marked_from setup.start (take k (committed_claims setup old)))) again
      ∙ ap (λ cs. stop_at_last setup.monitors (marked_from setup.start cs)) (taken_again (committed setup old) old.claims)
    where
      taken_again : (k : ℕ) (claims : List PlainClaim) → take k (take k claims) ≡ take k claims
      taken_again zero claims = refl
      taken_again (suc k) [] = refl
      taken_again (suc k) (claim ∷ claims) = ap (λ cs. claim ∷ cs) (taken_again k claims)

  -- no other cut is owed then
  pub left_owes_none : IsOwed setup old cut → owed_cut setup (left_by setup old cut) ≡ None
  left_owes_none owed = by owed.cause
    where
      by : ((monitor : ℕ) × (stop_in setup old ≡ Some monitor) × (cut.cause ≡ stopped_by monitor)) ⊎ ((stop_in setup old ≡ None) × IsForFault old.claims (committed setup old) cut) → owed_cut setup (left_by setup old cut) ≡ None
      by (inl (monitor, stop, cause)) =
          cut_owes_none setup (left_by setup old cut) monitor (left_stop ∙ stop) left_all (ap Some (ap₂ (λ (n : ℕ) (c : PlainEnd). record { number = n; cause = c }) (owed.number_is ∙ sym again) cause))
      by (inr (goes_on, fault)) = owes_none_so setup (left_by setup old cut) (left_stop ∙ goes_on) (no_cut_behind (committed setup (left_by setup old cut)) (committed_claims setup old) left_all)
