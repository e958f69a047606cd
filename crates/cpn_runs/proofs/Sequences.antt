-- Legal sequences and runs of claims: what they are joined of, and with one claim more.
use Rattle.std.proofs.Common.{◌≡◌, ℕ, ◌≤◌, ◌⊎◌, Bool, true, false, cond, List, [], ◌∷◌, ◌++◌, Some, None, Option, refl, sym, ap, subst, ◌∙◌, inl, inr, arith, ⊎_elim}
use Rattle.std.specs.Option.{option_map}
use Rattle.std.proofs.lemmas.Bool.{cases_lt}
use Rattle.cpn_definitions.specs.Marking.{Marking}
use Rattle.cpn_definitions.specs.Net.{PlainNet}
use Rattle.cpn_definitions.specs.Occurrence.{threshold, are_covered}
use Rattle.cpn_definitions.specs.Legal.{LeastTime, TimedElement, Legal}
use Rattle.cpn_definitions.proofs.ListItems.{made_of}
use Rattle.cpn_runs.specs.HoleRun.{PlainClaim, PlainHoleRun, picks_of, begun_with, after_claim, hole_run, marking_left}

-- ---- legal sequences

-- a time that is the least from the least one from a clock is the least from that clock
pub least_from_least : (n : PlainNet) (m : Marking) (c d t : ℕ) → LeastTime n m c d → LeastTime n m d t → LeastTime n m c t
least_from_least n m c d t first second = record {
  not_before = omega (arith, first.not_before, second.not_before);
  some = second.some;
  none_earlier = λ s e from below. ⊎_elim (λ lt. first.none_earlier s e from lt) (λ ge. second.none_earlier s e ge below) (cases_lt s d);
}

-- the least time from a clock, or from a least time from it
pub least_from_either : (n : PlainNet) (m : Marking) (c d t : ℕ) → ((d ≡ c) ⊎ LeastTime n m c d) → LeastTime n m d t → LeastTime n m c t
least_from_either n m c d t either second =
    let P : ℕ → Type 0 = λ k. LeastTime n m k t in
    ⊎_elim (λ same. subst P same second) (λ first. least_from_least n m c d t first second) either

-- the end of a legal sequence may be at the least time from its last clock
pub legal_moved : (n : PlainNet) (m : Marking) (c : ℕ) (os : List TimedElement) (last : Marking) (d t : ℕ) → Legal n m c os last d → LeastTime n last d t → Legal n m c os last t
legal_moved n m c [] last d t legal least =
    let P : Marking → Type 0 = λ k. LeastTime n k d t in
    (legal.0, inr (least_from_either n m c d t legal.1 (subst P legal.0 least)))
legal_moved n m c (o ∷ os) last d t legal least = (legal.0, legal.1, (legal.2.0, legal.2.1, legal_moved n legal.2.0 o.time os last d t legal.2.2 least))

-- a legal sequence from a clock, or from the least time from it, is one from that clock
legal_from_either : (n : PlainNet) (m : Marking) (c d : ℕ) (os : List TimedElement) (last : Marking) (end : ℕ) → ((d ≡ c) ⊎ LeastTime n m c d) → Legal n m d os last end → Legal n m c os last end
legal_from_either n m c d os last end (inl same) legal = let P : ℕ → Type 0 = λ k. Legal n m k os last end in subst P same legal
legal_from_either n m c d [] last end (inr first) legal =
    (legal.0, ⊎_elim (λ (same : end ≡ d). let P : ℕ → Type 0 = λ k. LeastTime n m c k in inr (subst P (sym same) first)) (λ least. inr (least_from_least n m c d end first least)) legal.1)
legal_from_either n m c d (o ∷ os) last end (inr first) legal = (least_from_least n m c d o.time first legal.0, legal.1, legal.2)

-- two legal sequences, the second from where the first ends, are one
pub legal_joined
    : (n : PlainNet) (m : Marking) (c : ℕ) (os : List TimedElement) (mid : Marking) (d : ℕ) (more : List TimedElement) (last : Marking) (end : ℕ)
    → Legal n m c os mid d
    → Legal n mid d more last end
    → Legal n m c (os ++ more) last end
legal_joined n m c [] mid d more last end first second =
    let P : Marking → Type 0 = λ k. Legal n k d more last end in
    legal_from_either n m c d more last end first.1 (subst P first.0 second)
legal_joined n m c (o ∷ os) mid d more last end first second = (first.0, first.1, (first.2.0, first.2.1, legal_joined n first.2.0 o.time os mid d more last end first.2.2 second))

-- the times of occurrences don't go back, from a clock on to a last one
abbrev pub GoOn : ℕ → List TimedElement → ℕ → Type 0
GoOn clock [] end = clock ≤ end
GoOn clock (o ∷ os) end = (clock ≤ o.time) × GoOn o.time os end

-- those of a legal sequence don't
pub legal_goes_on : (n : PlainNet) (m : Marking) (clock : ℕ) (os : List TimedElement) (last : Marking) (end : ℕ) → Legal n m clock os last end → GoOn clock os end
legal_goes_on n m clock [] last end legal = ⊎_elim (λ same. omega arith) (λ least. least.not_before) legal.1
legal_goes_on n m clock (o ∷ os) last end legal = (legal.0.not_before, legal_goes_on n legal.2.0 o.time os last end legal.2.2)

-- ---- runs of claims

-- where an answer is there only if a test passes, and is there, the test passed
pub passed : {A : Type 0} (b : Bool) (o : Option A) (y : A) → cond b o None ≡ Some y → (b ≡ true) × (o ≡ Some y)
passed true o y is = (refl, is)
passed false o y is = cc

-- A run of claims is there where the first finds its needs, and the rest goes on from there.
pub record RunsOn (m : Marking) (claim : PlainClaim) (claims : List PlainClaim) (run : PlainHoleRun) : Type 0 where
  pub is_covered : are_covered (threshold claim.time) m claim.needs ≡ true
  pub rest : PlainHoleRun
  pub goes_on : hole_run (after_claim claim m) claims ≡ Some rest
  pub run_is : begun_with (picks_of claim.time claim.needs m) rest ≡ run

pub run_on : (m : Marking) (claim : PlainClaim) (claims : List PlainClaim) (run : PlainHoleRun) → hole_run m (claim ∷ claims) ≡ Some run → RunsOn m claim claims run
run_on m claim claims run is =
    let first = passed (are_covered (threshold claim.time) m claim.needs) (option_map (begun_with (picks_of claim.time claim.needs m)) (hole_run (after_claim claim m) claims)) run is in
    let rest = made_of (begun_with (picks_of claim.time claim.needs m)) (hole_run (after_claim claim m) claims) run first.1 in
    record { is_covered = first.0; rest = rest.0; goes_on = rest.1; run_is = rest.2 }

-- and where the first finds its needs, the run that the rest makes from there begins with its picks
pub run_from
    : (m : Marking) (claim : PlainClaim) (claims : List PlainClaim) (rest : PlainHoleRun)
    → are_covered (threshold claim.time) m claim.needs ≡ true
    → hole_run (after_claim claim m) claims ≡ Some rest
    → hole_run m (claim ∷ claims) ≡ Some (begun_with (picks_of claim.time claim.needs m) rest)
run_from m claim claims rest covers goes_on = rw covers (ap (option_map (begun_with (picks_of claim.time claim.needs m))) goes_on)

-- a run of claims goes on by one more claim whose needs are covered where it stands: the claim takes its needs and adds its
-- outputs, and what it takes stands last
pub hole_run_more
    : (m : Marking) (claims : List PlainClaim) (claim : PlainClaim) (run : PlainHoleRun)
    → hole_run m claims ≡ Some run
    → are_covered (threshold claim.time) run.marking claim.needs ≡ true
    → hole_run m (claims ++ claim ∷ []) ≡ Some (record { marking = after_claim claim run.marking; picks = run.picks ++ picks_of claim.time claim.needs run.marking ∷ [] })
hole_run_more m [] claim run is covers =
    let same : record { marking = m; picks = [] } ≡ run = cc in
    let P : PlainHoleRun → Type 0 = λ r. are_covered (threshold claim.time) r.marking claim.needs ≡ true → hole_run m (claim ∷ []) ≡ Some (record { marking = after_claim claim r.marking; picks = r.picks ++ picks_of claim.time claim.needs r.marking ∷ [] }) in
    subst P same (λ h. rw h refl) covers
hole_run_more m (k ∷ claims) claim run is covers =
    let first = run_on m k claims run is in
    let picks = picks_of k.time k.needs m in
    let P : PlainHoleRun → Type 0 = λ r. are_covered (threshold claim.time) r.marking claim.needs ≡ true → hole_run m ((k ∷ claims) ++ claim ∷ []) ≡ Some (record { marking = after_claim claim r.marking; picks = r.picks ++ picks_of claim.time claim.needs r.marking ∷ [] }) in
    subst P first.run_is (λ h. rw first.is_covered (ap (option_map (begun_with picks)) (hole_run_more (after_claim k m) claims claim first.rest first.goes_on h))) covers

-- the marking that a run of claims leaves, claim by claim
pub left_on : (m : Marking) (claim : PlainClaim) (claims : List PlainClaim) → marking_left m (claim ∷ claims) ≡ cond (are_covered (threshold claim.time) m claim.needs) (marking_left (after_claim claim m) claims) None
left_on m claim claims = split (are_covered (threshold claim.time) m claim.needs) (hole_run (after_claim claim m) claims)
  where
    split
        : (b : Bool) (o : Option PlainHoleRun)
        → option_map (λ (run : PlainHoleRun). run.marking) (cond b (option_map (begun_with (picks_of claim.time claim.needs m)) o) None)
        ≡ cond b (option_map (λ (run : PlainHoleRun). run.marking) o) None
    split true None = refl
    split true (Some run) = refl
    split false o = refl

-- the marking that claims leave is there where the first is covered, and is that which the others leave from there
pub left_parts : (m : Marking) (claim : PlainClaim) (claims : List PlainClaim) (last : Marking) → marking_left m (claim ∷ claims) ≡ Some last
    → (are_covered (threshold claim.time) m claim.needs ≡ true) × (marking_left (after_claim claim m) claims ≡ Some last)
left_parts m claim claims last is = passed (are_covered (threshold claim.time) m claim.needs) (marking_left (after_claim claim m) claims) last (sym (left_on m claim claims) ∙ is)

pub left_from : (m : Marking) (claim : PlainClaim) (claims : List PlainClaim) (last : Marking) → are_covered (threshold claim.time) m claim.needs ≡ true → marking_left (after_claim claim m) claims ≡ Some last → marking_left m (claim ∷ claims) ≡ Some last
left_from m claim claims last is rest = left_on m claim claims ∙ ap (λ b. cond b (marking_left (after_claim claim m) claims) None) is ∙ rest

-- what claims leave, the first of which leave a marking, is what the others leave from there
pub left_joined : (m : Marking) (first more : List PlainClaim) (mid : Marking) → marking_left m first ≡ Some mid → marking_left m (first ++ more) ≡ marking_left mid more
left_joined m [] more mid is = let same : m ≡ mid = cc in ap (λ k. marking_left k more) same
left_joined m (claim ∷ first) more mid is =
    let parts = left_parts m claim first mid is in
    left_on m claim (first ++ more) ∙ ap (λ b. cond b (marking_left (after_claim claim m) (first ++ more)) None) parts.0 ∙ left_joined (after_claim claim m) first more mid parts.1

-- of claims that leave a marking the first leave one, and the others leave the last from there
pub left_split : (m : Marking) (first more : List PlainClaim) (last : Marking) → marking_left m (first ++ more) ≡ Some last → (mid : Marking) × (marking_left m first ≡ Some mid) × (marking_left mid more ≡ Some last)
left_split m [] more last is = (m, refl, is)
left_split m (claim ∷ first) more last is =
    let parts = left_parts m claim (first ++ more) last is in
    let rest = left_split (after_claim claim m) first more last parts.1 in
    (rest.0, left_from m claim first rest.0 parts.0 rest.1, rest.2)

-- the marking that claims leave, with one more claim whose needs are covered there
pub marking_left_more
    : (m : Marking) (claims : List PlainClaim) (claim : PlainClaim) (last : Marking)
    → marking_left m claims ≡ Some last
    → are_covered (threshold claim.time) last claim.needs ≡ true
    → marking_left m (claims ++ claim ∷ []) ≡ Some (after_claim claim last)
marking_left_more m claims claim last is covers =
    let run = made_of (λ (r : PlainHoleRun). r.marking) (hole_run m claims) last is in
    let P : Marking → Type 0 = λ k. are_covered (threshold claim.time) k claim.needs ≡ true in
    ap (option_map (λ (r : PlainHoleRun). r.marking)) (hole_run_more m claims claim run.0 run.1 (subst P (sym run.2) covers)) ∙ ap (λ k. Some (after_claim claim k)) run.2
