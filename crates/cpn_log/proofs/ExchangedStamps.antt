-- What an exchange changes: the values on places of which it puts in other stamps than it takes, and no others.
use Rattle.std.proofs.Common.{◌≡◌, ℕ, ◌<◌, ◌≤◌, Bool, true, false, cond, nat_le, List, [], ◌∷◌, ◌++◌, length, append-nil, refl, sym, ap, subst, ◌∙◌, ⊎_elim, nat_cmp, is_lt, is_gt, arith}
use Rattle.std.specs.List.{AllByRecursion}
use Rattle.std.proofs.lemmas.Bool.{cond_both, le-leb, lt-leb, cases_lt}
use Rattle.std.proofs.lemmas.Bool.Decides.{nat_tests}
use Rattle.std.proofs.lemmas.Cmp.{nat_cmp_total}
use Rattle.cpn_definitions.specs.Value.{PlainValue}
use Rattle.cpn_definitions.specs.Lists.{IsInOrder, in_order}
use Rattle.cpn_definitions.specs.Marking.{Marking, tokens_at, stamps, begins_by, without_latest}
use Rattle.cpn_definitions.specs.Occurrence.{Needed, Made, needed_cmp, made_cmp, threshold, are_covered, subtract, add_made}
use Rattle.cpn_definitions.proofs.NumberTests.{earlier, not_earlier, same_number}
use Rattle.cpn_definitions.proofs.OrderedLists.{in_order_is, in_order_same, with_items_append, exchanged_in_order, each_with_items}
use Rattle.cpn_definitions.proofs.RicherMarkings.{covered_in_turn, past_the_last, places_subtracted, sorted_subtracted}
use Rattle.cpn_definitions.proofs.Stamps.{AreRising, IsAtMostEach, stamps_rise}
use Rattle.cpn_definitions.proofs.Subtraction.{AllAreSorted}
use Rattle.cpn_definitions.proofs.Addition.{with_stamp, with_stamps, stamps_for, places_added, add_made_is_more}
use Rattle.cpn_definitions.proofs.TokenOrder.{made_cmp_total}
use Rattle.cpn_tmset.specs.Changed.{PlainChange, AreChanges}
use Rattle.cpn_tmset.specs.StampsTaken.{stamps_taken}
use Rattle.cpn_log.specs.Exchanges.{exchanged}
use Rattle.cpn_log.specs.Gathered.{differing, each_once, tokens_taken}
use Rattle.cpn_log.proofs.DifferingTokens.{stamps_in_order, same_where_not_told, differ_where_told, differing_in_order, each_differing}
use Rattle.cpn_log.proofs.EachOnce.{told_once, rises_once}
use Rattle.cpn_log.proofs.PutBackTokens.{all_back, each_within}
use Rattle.cpn_log.proofs.TouchedStamps.{told_within}

-- ---- stamps that are put among others

-- a stamp that is put in, taken out again
stamp_out : (s : ℕ) (ss : List ℕ) → without_latest s (with_stamp s ss) ≡ ss
stamp_out s [] = ap (λ b. cond b [] (s ∷ [])) (le-leb s s (omega arith))
stamp_out s (r ∷ rs) = split (is_lt (nat_cmp s r)) refl (stamp_out s rs)
  where
    stands : (rs : List ℕ) → begins_by s (with_stamp s rs) ≡ true
    stands [] = le-leb s s (omega arith)
    stands (q ∷ qs) =
        cond_both (is_lt (nat_cmp s q)) (s ∷ q ∷ qs) (q ∷ with_stamp s qs) (λ xs. begins_by s xs ≡ true) (λ _. le-leb s s (omega arith)) (λ h. le-leb q s (not_earlier s q h))

    split : (b : Bool) → is_lt (nat_cmp s r) ≡ b → without_latest s (with_stamp s rs) ≡ rs → without_latest s (cond b (s ∷ r ∷ rs) (r ∷ with_stamp s rs)) ≡ r ∷ rs
    split true h rest =
        ap (λ b. cond b (s ∷ without_latest s (r ∷ rs)) (cond (nat_le s s) (r ∷ rs) (s ∷ r ∷ rs))) (lt-leb r s (earlier s r h)) ∙ ap (λ b. cond b (r ∷ rs) (s ∷ r ∷ rs)) (le-leb s s (omega arith))
    split false h rest = ap (λ b. cond b (r ∷ without_latest s (with_stamp s rs)) (cond (nat_le r s) (with_stamp s rs) (r ∷ with_stamp s rs))) (stands rs) ∙ ap (λ xs. r ∷ xs) rest

same_without_one : (s : ℕ) (ss ts : List ℕ) → with_stamp s ss ≡ with_stamp s ts → ss ≡ ts
same_without_one s ss ts same = sym (stamp_out s ss) ∙ ap (without_latest s) same ∙ stamp_out s ts

same_without : (rs ss ts : List ℕ) → with_stamps rs ss ≡ with_stamps rs ts → ss ≡ ts
same_without [] ss ts same = same
same_without (r ∷ rs) ss ts same = same_without_one r ss ts (same_without rs (with_stamp r ss) (with_stamp r ts) same)

either_way : (ss rs : List ℕ) → with_stamps ss (in_order nat_cmp rs) ≡ with_stamps rs (in_order nat_cmp ss)
either_way ss rs =
    sym (with_items_append nat_cmp rs ss []) ∙ ap (λ xs. in_order nat_cmp (rs ++ xs)) (sym (append-nil ss)) ∙ exchanged_in_order nat_cmp nat_cmp_total same_number [] rs ss []
    ∙ ap (λ xs. in_order nat_cmp (ss ++ xs)) (append-nil rs) ∙ with_items_append nat_cmp ss rs []

-- sorted stamps that leave the same among others are the same
same_among : (rs ss ts : List ℕ) → IsInOrder nat_cmp rs → IsInOrder nat_cmp ss → IsInOrder nat_cmp ts → with_stamps ss rs ≡ with_stamps ts rs → ss ≡ ts
same_among rs ss ts others first second same = same_without rs ss ts (sym (turned ss first) ∙ same ∙ turned ts second)
  where
    turned : (xs : List ℕ) → IsInOrder nat_cmp xs → with_stamps xs rs ≡ with_stamps rs xs
    turned xs ordered = ap (with_stamps xs) (sym (in_order_same nat_cmp nat_cmp_total rs others)) ∙ either_way xs rs ∙ ap (with_stamps rs) (in_order_same nat_cmp nat_cmp_total xs ordered)

at_most_each : (s : ℕ) (ss : List ℕ) → IsAtMostEach s ss → AllByRecursion (λ r. is_gt (nat_cmp s r) ≡ false) ss
at_most_each s [] all = tt
at_most_each s (r ∷ rs) all = (not_above s r all.0, at_most_each s rs all.1)
  where
    not_above : (s r : ℕ) → s ≤ r → is_gt (nat_cmp s r) ≡ false
    not_above s r le = grind (arith, nat_tests)

rising_in_order : (ss : List ℕ) → AreRising ss → IsInOrder nat_cmp ss
rising_in_order [] rising = tt
rising_in_order (s ∷ ss) rising = (at_most_each s ss rising.0, rising_in_order ss rising.1)

-- ---- the stamps of a value on a place after an exchange

-- Needs that are covered in a sorted marking, and outputs in order on its places.
record MayBeExchanged (time : ℕ) (needs : List Needed) (outputs : List Made) (m : Marking) : Type 0 where
  sorted : AllAreSorted m
  ordered : IsInOrder needed_cmp needs
  covered : are_covered (threshold time) m needs ≡ true
  outputs_ordered : IsInOrder made_cmp outputs
  in_range : AllByRecursion (λ made. made.place < length m) outputs

module _ (time : ℕ) (needs : List Needed) (outputs : List Made) (m : Marking) (may : MayBeExchanged time needs outputs m) where
  abbrev taken : List Made
  taken = in_order made_cmp (tokens_taken needs (stamps_taken time needs m))

  abbrev left : Marking
  left = subtract (threshold time) needs m

  left_sorted : AllAreSorted left
  left_sorted = sorted_subtracted (threshold time) needs m may.sorted

  taken_ordered : IsInOrder made_cmp taken
  taken_ordered = in_order_is made_cmp made_cmp_total (tokens_taken needs (stamps_taken time needs m))

  taken_back : add_made taken left ≡ m
  taken_back = all_back time needs m may.sorted (λ p v. covered_in_turn time m needs p v may.ordered may.covered)

  taken_in_range : AllByRecursion (λ token. token.place < length m) taken
  taken_in_range =
      each_with_items made_cmp (λ token. token.place < length m) (tokens_taken needs (stamps_taken time needs m)) [] (each_within time needs m may.sorted (λ p v. covered_in_turn time m needs p v may.ordered may.covered)) tt

  abbrev changes : List PlainChange
  changes = differing taken outputs

  within : (p : ℕ) → p < length m → p < length left
  within p lt = subst (λ (n : ℕ). p < n) (sym (places_subtracted (threshold time) needs m)) lt

  before : (p : ℕ) (v : PlainValue) → p < length m → stamps v (tokens_at m p) ≡ with_stamps (stamps_for p v taken) (stamps v (tokens_at left p))
  before p v lt = ap (λ (k : Marking). stamps v (tokens_at k p)) (sym taken_back) ∙ add_made_is_more taken left p v left_sorted (within p lt)

  after : (p : ℕ) (v : PlainValue) → p < length m → stamps v (tokens_at (add_made outputs left) p) ≡ with_stamps (stamps_for p v outputs) (stamps v (tokens_at left p))
  after p v lt = add_made_is_more outputs left p v left_sorted (within p lt)

  -- a value on a place of which the same is put in as was taken keeps its stamps
  kept : (p : ℕ) (v : PlainValue) → stamps_for p v taken ≡ stamps_for p v outputs → stamps v (tokens_at (add_made outputs left) p) ≡ stamps v (tokens_at m p)
  kept p v same = ⊎_elim (λ lt. after p v lt ∙ ap (λ ss. with_stamps ss (stamps v (tokens_at left p))) (sym same) ∙ sym (before p v lt)) (λ ge. past ge) (cases_lt p (length m))
    where
      past : length m ≤ p → stamps v (tokens_at (add_made outputs left) p) ≡ stamps v (tokens_at m p)
      past ge =
          ap (stamps v) (past_the_last (add_made outputs left) p (subst (λ (n : ℕ). n ≤ p) (sym (places_added outputs left ∙ places_subtracted (threshold time) needs m)) ge)) ∙ sym (ap (stamps v) (past_the_last m p ge))

  -- one that keeps them has the same put in as was taken
  same_put_in : (p : ℕ) (v : PlainValue) → p < length m → stamps v (tokens_at (add_made outputs left) p) ≡ stamps v (tokens_at m p) → stamps_for p v taken ≡ stamps_for p v outputs
  same_put_in p v lt same =
      same_among (stamps v (tokens_at left p)) (stamps_for p v taken) (stamps_for p v outputs) (rising_in_order (stamps v (tokens_at left p)) (stamps_rise v (tokens_at left p) (left_sorted p)))
      (stamps_in_order p v taken taken_ordered) (stamps_in_order p v outputs may.outputs_ordered) (sym (before p v lt) ∙ sym same ∙ after p v lt)

  changes_in_range : AllByRecursion (λ c. c.place < length m) changes
  changes_in_range = each_differing (λ c. c.place < length m) taken outputs taken_in_range may.in_range

  exchanged_changes : AreChanges m (exchanged needs time outputs m) (each_once changes)
  exchanged_changes = record {
    rise = rises_once changes (differing_in_order taken outputs taken_ordered may.outputs_ordered);
    told = λ p v h same.
        let one = sym (told_once p v changes) ∙ h in
        differ_where_told p v taken outputs taken_ordered may.outputs_ordered one (same_put_in p v (told_within p v changes (length m) changes_in_range one) same);
    others = λ p v h. kept p v (same_where_not_told p v taken outputs (sym (told_once p v changes) ∙ h));
  }

-- needs that are covered and outputs change each value on a place of which other tokens are put in than are taken, and nothing else
pub changes_by_exchange
    : (time : ℕ) (needs : List Needed) (outputs : List Made) (m : Marking)
    → AllAreSorted m
    → IsInOrder needed_cmp needs
    → are_covered (threshold time) m needs ≡ true
    → IsInOrder made_cmp outputs
    → AllByRecursion (λ made. made.place < length m) outputs
    → AreChanges m (exchanged needs time outputs m) (each_once (differing (in_order made_cmp (tokens_taken needs (stamps_taken time needs m))) outputs))
changes_by_exchange time needs outputs m sorted ordered covered outputs_ordered in_range =
    exchanged_changes time needs outputs m (record { sorted = sorted; ordered = ordered; covered = covered; outputs_ordered = outputs_ordered; in_range = in_range })
