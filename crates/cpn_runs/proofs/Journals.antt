-- Every journal, whatever the order in which claims are made and completed, and for any number of seats: the claims leave a
-- marking, and those that are committed are a legal occurrence sequence.
use Rattle.std.proofs.Common.{◌≡◌, ℕ, suc, ◌+◌, ◌-◌, ◌≤◌, ◌==◌, ◌⊎◌, true, false, arith, List, [], ◌∷◌, ◌++◌, map, length, take, drop, append_assoc, Some, None, Option, refl, sym, ap, subst, ◌∙◌, inl, inr}
use Rattle.std.specs.List.{AllByRecursion, list_any}
use Rattle.std.specs.Option.{MatchOption}
use Rattle.std.proofs.Math.Path.{ap₂}
use Rattle.std.proofs.Math.Seq.{take-append_seam}
use Rattle.std.proofs.lemmas.Bool.{and_parts}
use Rattle.std.proofs.lemmas.List.{take-append-drop}
use Rattle.std.proofs.lemmas.Option.{same_Some}
use Rattle.cpn_definitions.specs.Lists.{IsInOrder}
use Rattle.cpn_definitions.specs.Marking.{Marking}
use Rattle.cpn_definitions.specs.Net.{PlainNet}
use Rattle.cpn_definitions.specs.Outcome.{Fault, Outcome, gives, faults, no_meaning}
use Rattle.cpn_definitions.specs.Occurrence.{PlainElement, Needed, Made, needed_cmp, threshold, are_covered, covered, after, needs_of, outputs_of, subtract, add_made}
use Rattle.cpn_definitions.specs.Legal.{LeastTime, Legal, timed}
use Rattle.cpn_definitions.specs.Sound.{IsStamped, IsMarking}
use Rattle.cpn_definitions.proofs.UntimedPlaces.{MadeStamped, stamped_subtracted, stamped_added, outputs_stamped, marking_stamped}
use Rattle.cpn_definitions.proofs.Markings.{held_at}
use Rattle.cpn_definitions.proofs.Needs.{needs_in_order}
use Rattle.cpn_definitions.proofs.Subtraction.{AllAreSorted}
use Rattle.cpn_definitions.proofs.ListItems.{split_at, all_parts}
use Rattle.cpn_definitions.proofs.RisingLists.{each_appended}
use Rattle.cpn_runs.specs.HoleRun.{PlainClaim, Status, open_claim, done_with, faulted_with, added, after_claim, marking_left, is_open, is_done}
use Rattle.cpn_runs.specs.State.{PlainSetup, PlainState, PlainEvent, claim_made, claim_completed, clock_moved, cut_made, PlainEnd, dead, steps_made, until_passed, fault_end, stopped_by, wants_memory, PlainCut, IsDue, first_state, unclaimed_in, settled_in, committed, committed_claims, stop_in, owed_cut, given_needs, new_claim, status_after, MayClaim, MayComplete, MayMove, MayCut, Happens, Leads, IsState, numbered, committed_occurrences, HasCause, EndsBy}
use Rattle.cpn_runs.specs.GivingBack.{OnlyGivenBack}
use Rattle.cpn_runs.specs.Commits.{timed_claim, committed_from}
use Rattle.cpn_runs.specs.MeasuredStates.{values_in}
use Rattle.cpn_runs.specs.Run.{Outlook, HasOutlook, IsTrueFault, IsTrueStop, IsRun}
use Rattle.cpn_runs.proofs.Sequences.{legal_joined, legal_moved, left_parts, left_from, left_split, marking_left_more}
use Rattle.cpn_runs.proofs.CoveredElements.{covered_needs, covered_too, after_is, least_now}
use Rattle.cpn_runs.proofs.FilledRuns.{HasOrder, completed, filled_leaves}
use Rattle.cpn_runs.proofs.Cuts.{AreDone, committed_are_done, committed_ahead, taken_ahead, all_in, open_is_not_done, IsForFault, owed_is, owes_none, uncut_so}
use Rattle.cpn_runs.proofs.States.{IsClaimOf, drawn_now, IsCutFor, IsReached, given_back_where_owed, cut_leaves_committed, event_reaches, every_state, completes_after, is_for_memory}

-- ---- the needs of claims stand in their order

given_in_order : (n : PlainNet) (e : PlainElement) (o : Outcome (List Needed)) → needs_of n e ≡ o → IsInOrder needed_cmp (given_needs o)
given_in_order n e (gives needs) is = needs_in_order n e needs is
given_in_order n e (faults fault) is = tt
given_in_order n e no_meaning is = tt

has_order : (setup : PlainSetup) (claim : PlainClaim) → IsClaimOf setup claim → HasOrder claim
has_order setup claim is = subst (IsInOrder needed_cmp) (sym is.needs_are) (given_in_order setup.net claim.element (needs_of setup.net claim.element) refl)

pub have_order : (setup : PlainSetup) (claims : List PlainClaim) → AllByRecursion (IsClaimOf setup) claims → AllByRecursion HasOrder claims
have_order setup [] all = tt
have_order setup (claim ∷ claims) all = (has_order setup claim all.0, have_order setup claims all.1)

-- ---- what claims add

done_with_outputs : (o : Outcome (List Made)) (status : Status) (made : List Made) → (is_open status ≡ true) ⊎ (status_after o ≡ Some status) → status ≡ done_with made → o ≡ gives made
done_with_outputs (gives outputs) status made (inl h) done = let e : is_open (done_with made) ≡ true = ap is_open (sym done) ∙ h in cc
done_with_outputs (gives outputs) status made (inr is) done = cc
done_with_outputs (faults fault) status made (inl h) done = let e : is_open (done_with made) ≡ true = ap is_open (sym done) ∙ h in cc
done_with_outputs (faults fault) status made (inr is) done = cc
done_with_outputs no_meaning status made (inl h) done = let e : is_open (done_with made) ≡ true = ap is_open (sym done) ∙ h in cc
done_with_outputs no_meaning status made (inr is) done = cc

-- what a claim is done with are its outputs
pub outputs_are : (setup : PlainSetup) (claim : PlainClaim) (made : List Made) → IsClaimOf setup claim → claim.status ≡ done_with made → outputs_of setup.net claim.element claim.time ≡ gives made
outputs_are setup claim made is done = done_with_outputs (outputs_of setup.net claim.element claim.time) claim.status made is.status_is done

added_stamped : (setup : PlainSetup) (claim : PlainClaim) → IsClaimOf setup claim → MadeStamped setup.net (added claim.status)
added_stamped setup claim is = split claim.status refl
  where
    split : (status : Status) → claim.status ≡ status → MadeStamped setup.net (added status)
    split open_claim e = tt
    split (done_with made) e = outputs_stamped setup.net claim.element claim.time made (outputs_are setup claim made is e)
    split (faulted_with fault) e = tt

pub stamped_after : (setup : PlainSetup) (claim : PlainClaim) (m : Marking) → IsClaimOf setup claim → IsStamped setup.net m → IsStamped setup.net (after_claim claim m)
stamped_after setup claim m is stamped =
    stamped_added setup.net (added claim.status) (subtract (threshold claim.time) claim.needs m) (added_stamped setup claim is) (stamped_subtracted setup.net (threshold claim.time) claim.needs m stamped)

-- claims of a run leave a marking of the net
stamped_left : (setup : PlainSetup) (m : Marking) (claims : List PlainClaim) (last : Marking) → AllByRecursion (IsClaimOf setup) claims → IsStamped setup.net m → marking_left m claims ≡ Some last → IsStamped setup.net last
stamped_left setup m [] last each stamped is = subst (IsStamped setup.net) (same_Some m last is) stamped
stamped_left setup m (claim ∷ claims) last each stamped is =
    stamped_left setup (after_claim claim m) claims last each.1 (stamped_after setup claim m each.0 stamped) (left_parts m claim claims last is).1

-- ---- the unclaimed marking is there in each state

pub timed_numbered : (k : ℕ) (claims : List PlainClaim) → map timed (numbered k claims) ≡ map timed_claim claims
timed_numbered k [] = refl
timed_numbered k (claim ∷ claims) = ap (λ os. timed_claim claim ∷ os) (timed_numbered (suc k) claims)

-- the claims were made at a time
abbrev pub WereMadeAt : ℕ → List PlainClaim → Type 0
WereMadeAt time claims = AllByRecursion (λ claim. claim.time ≡ time) claims

-- Of the claims that stand those that were made before the last move of the clock are done and committed, and are a legal occurrence sequence
-- up to the clock; the others were made at the clock.
pub record SinceMove (setup : PlainSetup) (clock : ℕ) (claims : List PlainClaim) : Type 0 where
  pub before : List PlainClaim
  pub since : List PlainClaim
  pub claims_are : claims ≡ before ++ since
  pub before_done : AreDone before
  pub before_in : committed_from setup.monitors [] setup.start before ≡ length before
  pub mid : Marking
  pub mid_is : marking_left setup.start before ≡ Some mid
  pub legal : Legal setup.net setup.start setup.clock (map timed_claim before) mid clock
  pub made_now : WereMadeAt clock since

-- The claims leave a marking, where the element of the fault that a cut is for is covered.
pub record LeavesMarking (setup : PlainSetup) (state : PlainState) : Type 0 where
  pub last : Marking
  pub is : unclaimed_in setup state ≡ Some last
  pub moved : SinceMove setup state.clock state.claims
  pub true_cut : (cut : PlainCut) → state.cut ≡ Some cut → IsTrueFault setup.net last state.clock cut.cause

-- a claim that is not done stands behind those that are
record IsBehind (done since before : List PlainClaim) (claim : PlainClaim) (later : List PlainClaim) : Type 0 where
  ahead : List PlainClaim
  before_is : before ≡ done ++ ahead
  since_is : since ≡ ahead ++ claim ∷ later

is_behind : (done since before : List PlainClaim) (claim : PlainClaim) (later : List PlainClaim) → AreDone done → is_done claim.status ≡ false → done ++ since ≡ before ++ claim ∷ later → IsBehind done since before claim later
is_behind [] since before claim later all not_done same = record { ahead = before; before_is = refl; since_is = same }
is_behind (d ∷ done) since [] claim later all not_done same =
    let first : d ≡ claim = cc in
    let P : PlainClaim → Type 0 = λ c. is_done c.status ≡ true in
    let yes : is_done claim.status ≡ true = subst P first all.0 in
    let e : true ≡ false = sym yes ∙ not_done in
    cc
is_behind (d ∷ done) since (b ∷ before) claim later all not_done same =
    let first : d ≡ b = cc in
    let others : done ++ since ≡ before ++ claim ∷ later = cc in
    let rest = is_behind done since before claim later all.1 not_done others in
    record { ahead = rest.ahead; before_is = ap₂ (λ c cs. c ∷ cs) (sym first) rest.before_is; since_is = rest.since_is }

pub open_adds_none : (status : Status) → is_open status ≡ true → added status ≡ []
open_adds_none open_claim h = refl
open_adds_none (done_with outputs) h = cc
open_adds_none (faulted_with fault) h = refl

not_none : (o : Option PlainCut) (cut : PlainCut) → o ≡ Some cut → o ≡ None → ⊥
not_none o cut some none = cc

claim_leaves : (setup : PlainSetup) (old : PlainState) (seat number : ℕ) (new : PlainState) → (c : MayClaim setup old seat number new) → IsStamped setup.net c.marking → SinceMove setup old.clock old.claims → LeavesMarking setup new
claim_leaves setup old seat number new c stamped moved =
    let claim = new_claim setup.net seat old.clock c.drawn.element in
    subst (LeavesMarking setup) (sym c.new_is) (record {
      last = after_claim claim c.marking;
      is = marking_left_more setup.start old.claims claim c.marking c.marking_is (covered_needs setup.net c.marking old.clock c.drawn.element stamped (drawn_now setup old seat number new c));
      moved = record {
        before = moved.before;
        since = moved.since ++ claim ∷ [];
        claims_are = ap (λ cs. cs ++ claim ∷ []) moved.claims_are ∙ append_assoc moved.before moved.since (claim ∷ []);
        before_done = moved.before_done;
        before_in = moved.before_in;
        mid = moved.mid;
        mid_is = moved.mid_is;
        legal = moved.legal;
        made_now = each_appended (λ k. k.time ≡ old.clock) moved.since (claim ∷ []) moved.made_now (refl, tt);
      };
      true_cut = λ cut stands. absurd (not_none old.cut cut stands c.no_cut);
    })

-- a cut for want of memory is for no fault
true_for_memory : (setup : PlainSetup) (m : Marking) (clock : ℕ) (cause : PlainEnd) → cause ≡ wants_memory → IsTrueFault setup.net m clock cause
true_for_memory setup m clock cause is = subst (IsTrueFault setup.net m clock) (sym is) tt

completion_leaves : (setup : PlainSetup) (journal : List PlainEvent) (old : PlainState) (seat number : ℕ) (new : PlainState) → AllAreSorted setup.start → IsReached setup journal old → LeavesMarking setup old → MayComplete setup old seat number new → LeavesMarking setup new
completion_leaves setup journal old seat number new sorted reached leaves c =
    let claim = c.held_claim in
    let parts = split_at old.claims number claim c.claim_is in
    let none = open_adds_none claim.status (and_parts (is_open claim.status) (claim.seat == seat) c.held).0 in
    let ordered = all_parts HasOrder parts.before (claim ∷ parts.later) (subst (AllByRecursion HasOrder) parts.is (have_order setup old.claims reached.claims_are)) in
    let opened = (and_parts (is_open claim.status) (claim.seat == seat) c.held).0 in
    let moved = leaves.moved in
    let behind = is_behind moved.before moved.since parts.before claim parts.later moved.before_done (open_is_not_done claim.status opened) (sym moved.claims_are ∙ parts.is) in
    let now = all_parts (λ k. k.time ≡ old.clock) behind.ahead (claim ∷ parts.later) (subst (WereMadeAt old.clock) behind.since_is moved.made_now) in
    let filled = filled_leaves setup.start parts.before claim parts.later c.status leaves.last sorted ordered.1.1 none (subst (λ cs. marking_left setup.start cs ≡ Some leaves.last) parts.is leaves.is) in
    subst (LeavesMarking setup) (sym (c.new_is ∙ ap (λ cs. record old { claims = cs }) (parts.changed (completed c.status claim)))) (record {
      last = filled.0;
      is = filled.1;
      moved = record {
        before = moved.before;
        since = behind.ahead ++ completed c.status claim ∷ parts.later;
        claims_are = ap (λ cs. cs ++ completed c.status claim ∷ parts.later) behind.before_is ∙ append_assoc moved.before behind.ahead (completed c.status claim ∷ parts.later);
        before_done = moved.before_done;
        before_in = moved.before_in;
        mid = moved.mid;
        mid_is = moved.mid_is;
        legal = moved.legal;
        made_now = each_appended (λ k. k.time ≡ old.clock) behind.ahead (completed c.status claim ∷ parts.later) now.0 (now.1.0, now.1.1);
      };
      true_cut = λ cut stands. true_for_memory setup filled.0 old.clock cut.cause (is_for_memory old.cut cut (completes_after setup journal old seat number new reached c) stands);
    })

-- of claims that leave a marking those ahead of one leave one too, and it covers the needs of that one
record LeavesFor (m : Marking) (before : List PlainClaim) (claim : PlainClaim) : Type 0 where
  mid : Marking
  is : marking_left m before ≡ Some mid
  covers : are_covered (threshold claim.time) mid claim.needs ≡ true

leaves_for : (m : Marking) (before : List PlainClaim) (claim : PlainClaim) (later : List PlainClaim) (last : Marking) → marking_left m (before ++ claim ∷ later) ≡ Some last → LeavesFor m before claim
leaves_for m [] claim later last is = record { mid = m; is = refl; covers = (left_parts m claim later last is).0 }
leaves_for m (first ∷ before) claim later last is =
    let parts = left_parts m first (before ++ claim ∷ later) last is in
    let rest = leaves_for (after_claim first m) before claim later last parts.1 in
    record { mid = rest.mid; is = left_from m first before rest.mid parts.0 rest.is; covers = rest.covers }

-- the outputs of a claim that is done with a fault have it
faulted_with_fault : (o : Outcome (List Made)) (status : Status) (fault : Fault) → (is_open status ≡ true) ⊎ (status_after o ≡ Some status) → status ≡ faulted_with fault → o ≡ faults fault
faulted_with_fault (gives outputs) status fault (inl h) is = let e : is_open (faulted_with fault) ≡ true = ap is_open (sym is) ∙ h in cc
faulted_with_fault (gives outputs) status fault (inr h) is = cc
faulted_with_fault (faults other) status fault (inl h) is = let e : is_open (faulted_with fault) ≡ true = ap is_open (sym is) ∙ h in cc
faulted_with_fault (faults other) status fault (inr h) is = cc
faulted_with_fault no_meaning status fault (inl h) is = let e : is_open (faulted_with fault) ≡ true = ap is_open (sym is) ∙ h in cc
faulted_with_fault no_meaning status fault (inr h) is = cc

-- The element of the fault that a cut is for is covered in the marking of the claims ahead of it.
fault_is_true
    : (setup : PlainSetup) (old : PlainState) (cut : PlainCut) (mid : Marking)
    → IsStamped setup.net setup.start
    → AllByRecursion (IsClaimOf setup) old.claims
    → LeavesMarking setup old
    → IsForFault old.claims (committed setup old) cut
    → marking_left setup.start (committed_claims setup old) ≡ Some mid
    → IsTrueFault setup.net mid old.clock cut.cause
fault_is_true setup old cut mid stamped claims leaves fault mid_is =
    let claim = fault.faulted in
    let parts = split_at old.claims (committed setup old) claim fault.claim_is in
    let each = all_parts (IsClaimOf setup) parts.before (claim ∷ parts.later) (subst (AllByRecursion (IsClaimOf setup)) parts.is claims) in
    let one : IsClaimOf setup claim = each.1.0 in
    let left = leaves_for setup.start parts.before claim parts.later leaves.last (subst (λ cs. marking_left setup.start cs ≡ Some leaves.last) parts.is leaves.is) in
    let first : committed_claims setup old ≡ parts.before = ap₂ take (sym parts.place) parts.is ∙ take-append_seam parts.before (claim ∷ parts.later) in
    let same : left.mid ≡ mid = same_Some left.mid mid (sym left.is ∙ ap (marking_left setup.start) (sym first) ∙ mid_is) in
    let needs_covered = subst (λ needs. are_covered (threshold claim.time) left.mid needs ≡ true) one.needs_are left.covers in
    let is_covered : covered setup.net left.mid claim.time claim.element ≡ true = covered_too setup.net one.marking left.mid claim.time claim.element (stamped_left setup setup.start parts.before left.mid each.0 stamped left.is) one.was_covered needs_covered in
    let has_fault : outputs_of setup.net claim.element claim.time ≡ faults fault.fault = faulted_with_fault (outputs_of setup.net claim.element claim.time) claim.status fault.fault one.status_is fault.fault_is in
    let moved = leaves.moved in
    let behind = is_behind moved.before moved.since parts.before claim parts.later moved.before_done (ap is_done fault.fault_is) (sym moved.claims_are ∙ parts.is) in
    let now = all_parts (λ k. k.time ≡ old.clock) behind.ahead (claim ∷ parts.later) (subst (WereMadeAt old.clock) behind.since_is moved.made_now) in
    let is_true : IsTrueFault setup.net left.mid old.clock (fault_end claim.element fault.fault) =
    subst (λ (t : ℕ). (covered setup.net left.mid t claim.element ≡ true) × (outputs_of setup.net claim.element t ≡ faults fault.fault)) now.1.0 (is_covered, has_fault) in
    subst (λ m. IsTrueFault setup.net m old.clock cut.cause) same (subst (IsTrueFault setup.net left.mid old.clock) (sym fault.cause_is) is_true)

-- the committed claims are those before the last move, and some of those at the clock
pub committed_since : (setup : PlainSetup) (state : PlainState) (moved : SinceMove setup state.clock state.claims) → (j : ℕ) × (committed_claims setup state ≡ moved.before ++ take j moved.since)
committed_since setup state moved =
    let ahead = committed_ahead setup.monitors [] setup.start moved.before moved.since moved.before_in in
    (ahead.0, ap (λ cs. take (committed_from setup.monitors [] setup.start cs) cs) moved.claims_are ∙ ap (λ k. take k (moved.before ++ moved.since)) ahead.1 ∙ taken_ahead moved.before moved.since ahead.0)

-- the first claims, of at least those that are committed, are those before the last move, and some of those at the clock
first_since : (setup : PlainSetup) (state : PlainState) (i : ℕ) → committed setup state ≤ i → (moved : SinceMove setup state.clock state.claims) → (j : ℕ) × (take i state.claims ≡ moved.before ++ take j moved.since)
first_since setup state i within moved =
    let ahead = committed_ahead setup.monitors [] setup.start moved.before moved.since moved.before_in in
    let rest : (j : ℕ) × (i ≡ length moved.before + j) = beyond (length moved.before) i (more ahead.0 ahead.1) in
    (rest.0, ap₂ take rest.1 moved.claims_are ∙ taken_ahead moved.before moved.since rest.0)
  where
    more : (j : ℕ) → committed_from setup.monitors [] setup.start (moved.before ++ moved.since) ≡ length moved.before + j → length moved.before ≤ i
    more j is =
        let many : committed setup state ≡ length moved.before + j = ap (committed_from setup.monitors [] setup.start) moved.claims_are ∙ is in
        omega (arith, many, within)

    beyond : (n k : ℕ) → n ≤ k → (j : ℕ) × (k ≡ n + j)
    beyond n k le = (k - n, omega (arith, le))

-- A cut leaves the marking of the claims ahead of it.
cut_leaves : (setup : PlainSetup) (journal : List PlainEvent) (old : PlainState) (number : ℕ) (new : PlainState) → IsStamped setup.net setup.start → IsReached setup journal old → LeavesMarking setup old → MayCut setup old number new → LeavesMarking setup new
cut_leaves setup journal old number new stamped reached leaves c =
    let least = (cut_leaves_committed setup journal old c.cut reached c.due).least in
    let moved = leaves.moved in
    let since = first_since setup old number (let is = c.number_is in omega (arith, least, is)) moved in
    let whole = take-append-drop number old.claims in
    let left = left_split setup.start (take number old.claims) (drop number old.claims) leaves.last (subst (λ cs. marking_left setup.start cs ≡ Some leaves.last) (sym whole) leaves.is) in
    let now = all_parts (λ k. k.time ≡ old.clock) (take since.0 moved.since) (drop since.0 moved.since) (subst (WereMadeAt old.clock) (sym (take-append-drop since.0 moved.since)) moved.made_now) in
    subst (LeavesMarking setup) (sym c.new_is) (record {
      last = left.0;
      is = left.1;
      moved = record {
        before = moved.before;
        since = take since.0 moved.since;
        claims_are = since.1;
        before_done = moved.before_done;
        before_in = moved.before_in;
        mid = moved.mid;
        mid_is = moved.mid_is;
        legal = moved.legal;
        made_now = now.0;
      };
      true_cut = λ cut stands. subst (IsTrueFault setup.net left.0 old.clock) (ap (λ (k : PlainCut). k.cause) (same_Some c.cut cut stands)) (is_true c.due left.0 left.1);
    })
  where
    by_owed
        : ((monitor : ℕ) × (stop_in setup old ≡ Some monitor) × (c.cut.cause ≡ stopped_by monitor)) ⊎ ((stop_in setup old ≡ None) × IsForFault old.claims (committed setup old) c.cut)
        → (mid : Marking) → marking_left setup.start (committed_claims setup old) ≡ Some mid → IsTrueFault setup.net mid old.clock c.cut.cause
    by_owed (inl (monitor, stop, cause)) mid mid_is = subst (IsTrueFault setup.net mid old.clock) (sym cause) tt
    by_owed (inr (goes_on, fault)) mid mid_is = fault_is_true setup old c.cut mid stamped reached.claims_are leaves fault mid_is

    is_true : IsDue setup old c.cut → (mid : Marking) → marking_left setup.start (take number old.claims) ≡ Some mid → IsTrueFault setup.net mid old.clock c.cut.cause
    is_true (inl is) mid mid_is =
        let owed = owed_is setup old c.cut (given_back_where_owed setup journal old c.cut reached is) is in
        by_owed owed.cause mid (ap (λ k. marking_left setup.start (take k old.claims)) (sym (c.number_is ∙ owed.number_is)) ∙ mid_is)
    is_true (inr back) mid mid_is = true_for_memory setup mid old.clock c.cut.cause back.cause_is

-- ---- the committed claims

is_done_with : (status : Status) → is_done status ≡ true → (made : List Made) × (status ≡ done_with made)
is_done_with open_claim h = cc
is_done_with (done_with outputs) h = (outputs, refl)
is_done_with (faulted_with fault) h = cc

-- the needs of a claim are covered: so is its element
covers_its_element
    : (setup : PlainSetup) (m : Marking) (claim : PlainClaim)
    → IsStamped setup.net m
    → IsClaimOf setup claim
    → are_covered (threshold claim.time) m claim.needs ≡ true
    → covered setup.net m claim.time claim.element ≡ true
covers_its_element setup m claim stamped is_of covers =
    covered_too setup.net is_of.marking m claim.time claim.element stamped is_of.was_covered (subst (λ needs. are_covered (threshold claim.time) m needs ≡ true) is_of.needs_are covers)

-- a claim that is done and finds its needs leaves the marking that its element leaves
pub leaves_its_marking
    : (setup : PlainSetup) (m : Marking) (claim : PlainClaim)
    → IsStamped setup.net m
    → IsClaimOf setup claim
    → is_done claim.status ≡ true
    → are_covered (threshold claim.time) m claim.needs ≡ true
    → after setup.net m claim.time claim.element ≡ Some (after_claim claim m)
leaves_its_marking setup m claim stamped is_of done covers =
    let made = is_done_with claim.status done in
    after_is setup.net m claim.time claim.element made.0 stamped (covers_its_element setup m claim stamped is_of covers) (outputs_are setup claim made.0 is_of made.1)
    ∙ ap (λ needs. Some (add_made made.0 (subtract (threshold claim.time) needs m))) (sym is_of.needs_are)
    ∙ ap (λ status. Some (add_made (added status) (subtract (threshold claim.time) claim.needs m))) (sym made.1)

-- claims that are all done, from a marking whose clock is theirs, are a legal sequence
done_are_legal
    : (setup : PlainSetup) (m : Marking) (clock : ℕ) (claims : List PlainClaim) (last : Marking)
    → IsStamped setup.net m
    → WereMadeAt clock claims
    → AllByRecursion (IsClaimOf setup) claims
    → AllByRecursion (λ claim. is_done claim.status ≡ true) claims
    → marking_left m claims ≡ Some last
    → Legal setup.net m clock (map timed_claim claims) last clock
done_are_legal setup m clock [] last stamped now each done is = (sym (same_Some m last is), inl refl)
done_are_legal setup m clock (claim ∷ claims) last stamped now each done is =
    let n = setup.net in
    let parts = left_parts m claim claims last is in
    let is_covered = covers_its_element setup m claim stamped each.0 parts.0 in (
      subst (λ t. LeastTime n m t claim.time) now.0 (least_now n m claim.time claim.element is_covered),
      is_covered,
      (
        after_claim claim m,
        leaves_its_marking setup m claim stamped each.0 done.0 parts.0,
        subst (λ t. Legal n (after_claim claim m) t (map timed_claim claims) last clock) (sym now.0)
            (done_are_legal setup (after_claim claim m) clock claims last (stamped_after setup claim m each.0 stamped) now.1 each.1 done.1 parts.1),
      ),
    )

-- With no claim open, no cut standing, unless for want of memory, and no cut owed, all claims are committed.
pub all_are_committed : (setup : PlainSetup) (state : PlainState) → list_any (λ claim. is_open claim.status) state.claims ≡ false → OnlyGivenBack state.cut → owed_cut setup state ≡ None → committed setup state ≡ length state.claims
all_are_committed setup state none_open given_back none_owed =
    let none = owes_none setup state given_back none_owed in
    all_in setup.monitors [] setup.start state.claims none_open none.0 none.1

-- so the committed claims are all claims
pub all_taken : (setup : PlainSetup) (state : PlainState) → committed setup state ≡ length state.claims → committed_claims setup state ≡ state.claims
all_taken setup state all = ap (λ k. take k state.claims) all ∙ whole state.claims
  where
    whole : (cs : List PlainClaim) → take (length cs) cs ≡ cs
    whole [] = refl
    whole (c ∷ cs) = ap (λ ds. c ∷ ds) (whole cs)

joined_timed : (xs ys : List PlainClaim) → map timed_claim xs ++ map timed_claim ys ≡ map timed_claim (xs ++ ys)
joined_timed [] ys = refl
joined_timed (x ∷ xs) ys = ap (λ os. timed_claim x ∷ os) (joined_timed xs ys)

-- claims that were made before the last move, and further ones at the clock, all done, are a legal sequence up to the clock
all_legal
    : (setup : PlainSetup) (clock : ℕ) (before since : List PlainClaim) (mid last : Marking)
    → IsStamped setup.net setup.start
    → Legal setup.net setup.start setup.clock (map timed_claim before) mid clock
    → marking_left setup.start before ≡ Some mid
    → WereMadeAt clock since
    → AllByRecursion (IsClaimOf setup) (before ++ since)
    → AreDone since
    → marking_left setup.start (before ++ since) ≡ Some last
    → Legal setup.net setup.start setup.clock (map timed_claim (before ++ since)) last clock
all_legal setup clock before since mid last stamped legal mid_is now each done is =
    let parts = left_split setup.start before since last is in
    let same : parts.0 ≡ mid = same_Some parts.0 mid (sym parts.1 ∙ mid_is) in
    let P : Marking → Type 0 = λ m. marking_left m since ≡ Some last in
    let two = all_parts (IsClaimOf setup) before since each in
    subst (λ os. Legal setup.net setup.start setup.clock os last clock) (joined_timed before since)
    (legal_joined setup.net setup.start setup.clock (map timed_claim before) mid clock (map timed_claim since) last clock legal
    (done_are_legal setup mid clock since last (stamped_left setup setup.start before mid two.0 stamped mid_is) now two.1 done (subst P same parts.2)))

-- ---- a move of the clock

no_more_claims : (cs : List PlainClaim) → cs ++ [] ≡ cs
no_more_claims [] = refl
no_more_claims (c ∷ cs) = ap (λ ds. c ∷ ds) (no_more_claims cs)

-- At a move all claims are committed, and they are a legal sequence up to the new clock.
move_leaves : (setup : PlainSetup) (old : PlainState) (time : ℕ) (new : PlainState) → IsStamped setup.net setup.start → AllByRecursion (IsClaimOf setup) old.claims → LeavesMarking setup old → MayMove setup old time new → LeavesMarking setup new
move_leaves setup old time new stamped claims leaves c =
    let moved = leaves.moved in
    let all = all_are_committed setup old c.none_open (uncut_so old.cut c.no_cut) c.none_owed in
    let done : AreDone old.claims = subst AreDone (all_taken setup old all) (committed_are_done setup.monitors [] setup.start old.claims) in
    let same : leaves.last ≡ c.marking = same_Some leaves.last c.marking (sym leaves.is ∙ c.marking_is) in
    let two = all_parts (λ claim. is_done claim.status ≡ true) moved.before moved.since (subst AreDone moved.claims_are done) in
    let up_to_now =
    all_legal setup old.clock moved.before moved.since moved.mid leaves.last stamped moved.legal moved.mid_is moved.made_now (subst (AllByRecursion (IsClaimOf setup)) moved.claims_are claims) two.1
    (subst (λ cs. marking_left setup.start cs ≡ Some leaves.last) moved.claims_are leaves.is) in
    let legal = subst (λ cs. Legal setup.net setup.start setup.clock (map timed_claim cs) leaves.last old.clock) (sym moved.claims_are) up_to_now in
    let P : Marking → Type 0 = λ m. LeastTime setup.net m old.clock time in
    subst (LeavesMarking setup) (sym c.new_is) (record {
      last = leaves.last;
      is = leaves.is;
      moved = record {
        before = old.claims;
        since = [];
        claims_are = sym (no_more_claims old.claims);
        before_done = done;
        before_in = all;
        mid = leaves.last;
        mid_is = leaves.is;
        legal = legal_moved setup.net setup.start setup.clock (map timed_claim old.claims) leaves.last old.clock time legal (subst P (sym same) c.least);
        made_now = tt;
      };
      true_cut = λ cut stands. absurd (not_none old.cut cut stands c.no_cut);
    })

-- ---- every journal

-- What is kept from the start of a run on: its first marking is sorted, and stamped as the net is timed.
pub record IsStart (setup : PlainSetup) : Type 0 where
  pub sorted : AllAreSorted setup.start
  pub stamped : IsStamped setup.net setup.start

-- a marking of the net's places is such a start
pub marking_is_start : (setup : PlainSetup) → IsMarking setup.net.places setup.start → IsStart setup
marking_is_start setup is = record { sorted = λ p. (held_at setup.net.places setup.start is p).0; stamped = marking_stamped setup.net setup.start is }

event_leaves : (setup : PlainSetup) (journal : List PlainEvent) (old : PlainState) (event : PlainEvent) (new : PlainState) → IsStart setup → IsReached setup journal old → LeavesMarking setup old → Happens setup old event new → LeavesMarking setup new
event_leaves setup journal old (claim_made seat number) new start reached leaves c =
    claim_leaves setup old seat number new c (stamped_left setup setup.start old.claims c.marking reached.claims_are start.stamped c.marking_is) leaves.moved
event_leaves setup journal old (claim_completed seat number) new start reached leaves c = completion_leaves setup journal old seat number new start.sorted reached leaves c
event_leaves setup journal old (clock_moved time) new start reached leaves c = move_leaves setup old time new start.stamped reached.claims_are leaves c
event_leaves setup journal old (cut_made number) new start reached leaves c = cut_leaves setup journal old number new start.stamped reached leaves c

events_leave
    : (setup : PlainSetup) (journal : List PlainEvent) (old : PlainState) (events : List PlainEvent) (state : PlainState)
    → IsStart setup
    → IsReached setup journal old
    → LeavesMarking setup old
    → Leads setup old events state
    → LeavesMarking setup state
events_leave setup journal old [] state start reached leaves leads = subst (LeavesMarking setup) (sym leads) leaves
events_leave setup journal old (event ∷ events) state start reached leaves leads =
    events_leave setup (journal ++ event ∷ []) leads.0 events state start (event_reaches setup journal old event leads.0 reached leads.1) (event_leaves setup journal old event leads.0 start reached leaves leads.1) leads.2

-- What holds of every journal: the claims leave a marking; the committed ones leave one, and are a legal occurrence
-- sequence from the start to it and the clock; where no claim is open and no cut is owed, all claims are committed and
-- both markings are the same; and the element of the fault that a cut is for is covered in the settled marking at the clock,
-- and its outputs have the fault; and the
-- monitor that a cut is for is the first that stops the run after the last committed claim.
pub record Settles (setup : PlainSetup) (state : PlainState) : Type 0 where
  pub last : Marking
  pub leaves : unclaimed_in setup state ≡ Some last
  pub marking : Marking
  pub settled_is : settled_in setup state ≡ Some marking
  pub legal : Legal setup.net setup.start setup.clock (map timed (committed_occurrences setup state)) marking state.clock
  pub all_committed : list_any (λ claim. is_open claim.status) state.claims ≡ false → owed_cut setup state ≡ None → committed_claims setup state ≡ state.claims
  pub all_settled : list_any (λ claim. is_open claim.status) state.claims ≡ false → owed_cut setup state ≡ None → marking ≡ last
  pub true_cut : (cut : PlainCut) → state.cut ≡ Some cut → IsTrueFault setup.net marking state.clock cut.cause
  pub stop : (cut : PlainCut) → state.cut ≡ Some cut → IsTrueStop setup state cut.cause

committed_legal
    : (setup : PlainSetup) (state : PlainState) (last : Marking)
    → IsStamped setup.net setup.start
    → SinceMove setup state.clock state.claims
    → AllByRecursion (IsClaimOf setup) (committed_claims setup state)
    → marking_left setup.start (committed_claims setup state) ≡ Some last
    → Legal setup.net setup.start setup.clock (map timed_claim (committed_claims setup state)) last state.clock
committed_legal setup state last stamped moved each is =
    let since = committed_since setup state moved in
    let j = since.0 in
    let at = since.1 in
    let done = all_parts (λ claim. is_done claim.status ≡ true) moved.before (take j moved.since) (subst AreDone at (committed_are_done setup.monitors [] setup.start state.claims)) in
    let now = all_parts (λ k. k.time ≡ state.clock) (take j moved.since) (drop j moved.since) (subst (WereMadeAt state.clock) (sym (take-append-drop j moved.since)) moved.made_now) in
    subst (λ cs. Legal setup.net setup.start setup.clock (map timed_claim cs) last state.clock) (sym at)
    (all_legal setup state.clock moved.before (take j moved.since) moved.mid last stamped moved.legal moved.mid_is now.0 (subst (AllByRecursion (IsClaimOf setup)) at each) done.1
    (subst (λ cs. marking_left setup.start cs ≡ Some last) at is))

at_start : (setup : PlainSetup) → LeavesMarking setup (first_state setup)
at_start setup = record {
  last = setup.start;
  is = refl;
  moved = record { before = []; since = []; claims_are = refl; before_done = tt; before_in = refl; mid = setup.start; mid_is = refl; legal = (refl, inl refl); made_now = tt };
  true_cut = λ cut stands. absurd (not_none None cut stands refl);
}

-- where no claim is open and no cut is owed, all claims are committed
pub no_claim_left
    : (setup : PlainSetup) (journal : List PlainEvent) (state : PlainState)
    → IsState setup journal state
    → list_any (λ claim. is_open claim.status) state.claims ≡ false
    → owed_cut setup state ≡ None
    → committed setup state ≡ length state.claims
no_claim_left setup journal state reached none_open none_owed = by state.cut refl
  where
    r : IsReached setup journal state
    r = every_state setup journal state reached

    by_cause : (cause : PlainEnd) → IsCutFor setup state cause → (cause ≡ wants_memory → OnlyGivenBack state.cut) → committed setup state ≡ length state.claims
    by_cause dead made_for only = absurd made_for
    by_cause steps_made made_for only = absurd made_for
    by_cause (until_passed time) made_for only = absurd made_for
    by_cause (fault_end e fault) made_for only = made_for.0.all_committed
    by_cause (stopped_by monitor) made_for only = made_for.0.all_committed
    by_cause wants_memory made_for only = all_are_committed setup state none_open (only refl) none_owed

    by : (cut : Option PlainCut) → state.cut ≡ cut → committed setup state ≡ length state.claims
    by None uncut = all_are_committed setup state none_open (uncut_so state.cut uncut) none_owed
    by (Some cut) stands = by_cause cut.cause (r.cut_off cut stands).made_for (λ memory. subst OnlyGivenBack (sym stands) memory)

-- every journal settles, for any number of seats
pub every_journal_settles : (setup : PlainSetup) (journal : List PlainEvent) (state : PlainState) → IsStart setup → IsState setup journal state → Settles setup state
every_journal_settles setup journal state start reached =
    let r = every_state setup journal state reached in
    let leaves = events_leave setup [] (first_state setup) journal state start (every_state setup [] (first_state setup) refl) (at_start setup) reached in
    let k = committed setup state in
    let whole : take k state.claims ++ drop k state.claims ≡ state.claims = take-append-drop k state.claims in
    let front = left_split setup.start (take k state.claims) (drop k state.claims) leaves.last (subst (λ cs. marking_left setup.start cs ≡ Some leaves.last) (sym whole) leaves.is) in
    let each = all_parts (IsClaimOf setup) (take k state.claims) (drop k state.claims) (subst (AllByRecursion (IsClaimOf setup)) (sym whole) r.claims_are) in
    record {
      last = leaves.last;
      leaves = leaves.is;
      marking = front.0;
      settled_is = front.1;
      legal = subst (λ os. Legal setup.net setup.start setup.clock os front.0 state.clock) (sym (timed_numbered 0 (take k state.claims))) (committed_legal setup state front.0 start.stamped leaves.moved each.0 front.1);
      all_committed = λ none_open none_owed. all_taken setup state (all none_open none_owed);
      all_settled = λ none_open none_owed. same_Some front.0 leaves.last (sym front.1 ∙ ap (marking_left setup.start) (all_taken setup state (all none_open none_owed)) ∙ leaves.is);
      true_cut = λ cut stands.
          true_cut front.0 leaves.last cut.cause (r.cut_off cut stands).made_for (leaves.true_cut cut stands) (λ all. same_Some front.0 leaves.last (sym front.1 ∙ ap (marking_left setup.start) (all_taken setup state all) ∙ leaves.is));
      stop = λ cut stands. true_stop cut.cause (r.cut_off cut stands).made_for;
    }
  where
    all : list_any (λ claim. is_open claim.status) state.claims ≡ false → owed_cut setup state ≡ None → committed setup state ≡ length state.claims
    all = no_claim_left setup journal state reached

    -- where the cut was owed both markings are the same
    true_cut : (marking last : Marking) (cause : PlainEnd) → IsCutFor setup state cause → IsTrueFault setup.net last state.clock cause → (committed setup state ≡ length state.claims → marking ≡ last) → IsTrueFault setup.net marking state.clock cause
    true_cut marking last dead made_for is_true same = tt
    true_cut marking last steps_made made_for is_true same = tt
    true_cut marking last (until_passed time) made_for is_true same = tt
    true_cut marking last (fault_end e fault) made_for is_true same = subst (λ m. IsTrueFault setup.net m state.clock (fault_end e fault)) (sym (same made_for.0.all_committed)) is_true
    true_cut marking last (stopped_by monitor) made_for is_true same = tt
    true_cut marking last wants_memory made_for is_true same = tt

    true_stop : (cause : PlainEnd) → IsCutFor setup state cause → IsTrueStop setup state cause
    true_stop dead made_for = tt
    true_stop steps_made made_for = tt
    true_stop (until_passed time) made_for = tt
    true_stop (fault_end e fault) made_for = tt
    true_stop (stopped_by monitor) made_for = made_for.1
    true_stop wants_memory made_for = tt

-- where a run ends, all that it claimed has occurred: its last marking is the one that all its claims leave
pub ended_is_settled : (setup : PlainSetup) (journal : List PlainEvent) (state : PlainState) (cause : PlainEnd) → IsStart setup → IsState setup journal state → EndsBy setup state cause → settled_in setup state ≡ unclaimed_in setup state
ended_is_settled setup journal state cause start reached ends =
    let s = every_journal_settles setup journal state start reached in
    s.settled_is ∙ ap (λ m. Some m) (s.all_settled ends.none_open ends.none_owed) ∙ sym s.leaves

-- a run ends by a true fault, or by none
ends_truly : (setup : PlainSetup) (state : PlainState) (cause : PlainEnd) (m : Marking) → ((cut : PlainCut) → state.cut ≡ Some cut → IsTrueFault setup.net m state.clock cut.cause) → EndsBy setup state cause → IsTrueFault setup.net m state.clock cause
ends_truly setup state cause m is_true ends = by state.cut refl ends.has_cause
  where
    without : (c : PlainEnd) → HasCause setup state c → IsTrueFault setup.net m state.clock c
    without dead has = tt
    without steps_made has = tt
    without (until_passed time) has = tt
    without (fault_end e fault) has = absurd has
    without (stopped_by monitor) has = tt
    without wants_memory has = tt

    by : (cut : Option PlainCut) → state.cut ≡ cut → MatchOption cut (HasCause setup state cause) (λ k. cause ≡ k.cause) → IsTrueFault setup.net m state.clock cause
    by None stands has = without cause has
    by (Some cut) stands is = subst (IsTrueFault setup.net m state.clock) (sym is) (is_true cut stands)

-- and by a monitor that stops it, or by none
stops_truly : (setup : PlainSetup) (state : PlainState) (cause : PlainEnd) → ((cut : PlainCut) → state.cut ≡ Some cut → IsTrueStop setup state cut.cause) → EndsBy setup state cause → IsTrueStop setup state cause
stops_truly setup state cause is_true ends = by state.cut refl ends.has_cause
  where
    without : (c : PlainEnd) → HasCause setup state c → IsTrueStop setup state c
    without dead has = tt
    without steps_made has = tt
    without (until_passed time) has = tt
    without (fault_end e fault) has = tt
    without (stopped_by monitor) has = absurd has
    without wants_memory has = tt

    by : (cut : Option PlainCut) → state.cut ≡ cut → MatchOption cut (HasCause setup state cause) (λ k. cause ≡ k.cause) → IsTrueStop setup state cause
    by None stands has = without cause has
    by (Some cut) stands is = subst (IsTrueStop setup state) (sym is) (is_true cut stands)

-- a journal with an end is that of a run, for any number of seats: that its occurrences are legal follows
pub ended_is_run
    : (setup : PlainSetup) (journal : List PlainEvent) (state : PlainState) (cause : PlainEnd) (marking : Marking) (opening closing : Outlook)
    → IsStart setup
    → IsState setup journal state
    → EndsBy setup state cause
    → settled_in setup state ≡ Some marking
    → HasOutlook setup setup.start setup.clock opening
    → HasOutlook setup marking state.clock closing
    → IsRun setup (record { opening = opening; journal = journal; occurrences = committed_occurrences setup state; marking = marking; clock = state.clock; cause = cause; closing = closing; values = values_in setup state })
ended_is_run setup journal state cause marking opening closing start reached ends is at_start at_end =
    let s = every_journal_settles setup journal state start reached in
    let same : s.marking ≡ marking = same_Some s.marking marking (sym s.settled_is ∙ is) in
    record {
      state = state;
      reached = reached;
      ends = ends;
      occurrences_are = refl;
      marking_is = is;
      clock_is = refl;
      legal = subst (λ m. Legal setup.net setup.start setup.clock (map timed (committed_occurrences setup state)) m state.clock) same s.legal;
      true_fault = subst (λ m. IsTrueFault setup.net m state.clock cause) same (ends_truly setup state cause s.marking s.true_cut ends);
      true_stop = stops_truly setup state cause s.stop ends;
      opening = at_start;
      closing = at_end;
      values_are = refl;
    }
