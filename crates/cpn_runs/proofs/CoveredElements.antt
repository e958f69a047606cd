-- What is covered in a marking of a net finds its needs there, and After takes them and adds the outputs, without a look at
-- the net. The clock is the least time at which something is covered where something is covered at the clock.
use Rattle.std.proofs.Common.{◌≡◌, ℕ, Bool, true, List, Some, refl, sym, ap, ◌∙◌, arith}
use Rattle.std.proofs.lemmas.Bool.{and_parts, and_from}
use Rattle.cpn_definitions.specs.Marking.{Marking}
use Rattle.cpn_definitions.specs.Net.{PlainNet}
use Rattle.cpn_definitions.specs.Outcome.{Outcome, gives, faults, no_meaning, gives_and}
use Rattle.cpn_definitions.specs.Occurrence.{PlainElement, Needed, Made, may_occur, threshold, threshold_in, are_covered, covered, needs_of, outputs_of, after, exchanged, subtract, add_made}
use Rattle.cpn_definitions.specs.Legal.{LeastTime}
use Rattle.cpn_definitions.specs.Sound.{IsStamped}
use Rattle.cpn_definitions.proofs.UntimedPlaces.{covered_alike, subtracted_alike}
use Rattle.cpn_runs.specs.State.{given_needs}

-- the needs of what is covered pass
needs_pass : (n : PlainNet) (m : Marking) (time : ℕ) (e : PlainElement) → covered n m time e ≡ true → gives_and (needs_of n e) (are_covered (threshold_in n time) m) ≡ true
unfolding covered
needs_pass n m time e is = (and_parts (may_occur n e) (gives_and (needs_of n e) (are_covered (threshold_in n time) m)) is).1

given_pass : (test : List Needed → Bool) (o : Outcome (List Needed)) → gives_and o test ≡ true → test (given_needs o) ≡ true
given_pass test (gives needs) h = h
given_pass test (faults fault) h = cc
given_pass test no_meaning h = cc

pub covered_needs : (n : PlainNet) (m : Marking) (time : ℕ) (e : PlainElement) → IsStamped n m → covered n m time e ≡ true → are_covered (threshold time) m (given_needs (needs_of n e)) ≡ true
covered_needs n m time e stamped is =
    covered_alike n m time (given_needs (needs_of n e)) stamped ∙ given_pass (are_covered (threshold_in n time) m) (needs_of n e) (needs_pass n m time e is)

-- what was covered in one marking is covered in another that covers its needs: the guard, the binding and the needs read no
-- marking
pub covered_too
    : (n : PlainNet) (m k : Marking) (time : ℕ) (e : PlainElement)
    → IsStamped n k
    → covered n m time e ≡ true
    → are_covered (threshold time) k (given_needs (needs_of n e)) ≡ true
    → covered n k time e ≡ true
unfolding covered
covered_too n m k time e stamped is all =
    let parts = and_parts (may_occur n e) (gives_and (needs_of n e) (are_covered (threshold_in n time) m)) is in
    and_from (may_occur n e) (gives_and (needs_of n e) (are_covered (threshold_in n time) k)) parts.0
    (given (needs_of n e) parts.1 (sym (covered_alike n k time (given_needs (needs_of n e)) stamped) ∙ all))
  where
    given : (o : Outcome (List Needed)) → gives_and o (are_covered (threshold_in n time) m) ≡ true → are_covered (threshold_in n time) k (given_needs o) ≡ true → gives_and o (are_covered (threshold_in n time) k) ≡ true
    given (gives needs) h all = all
    given (faults fault) h all = cc
    given no_meaning h all = cc

-- the marking after an element that is covered and whose outputs are given
exchanged_is : (latest : Needed → ℕ) (m : Marking) (o : Outcome (List Needed)) (outputs : List Made) → gives_and o (are_covered latest m) ≡ true → exchanged latest m o (gives outputs) ≡ Some (add_made outputs (subtract latest (given_needs o) m))
exchanged_is latest m (gives needs) outputs h = refl
exchanged_is latest m (faults fault) outputs h = cc
exchanged_is latest m no_meaning outputs h = cc

pub after_is
    : (n : PlainNet) (m : Marking) (time : ℕ) (e : PlainElement) (outputs : List Made)
    → IsStamped n m
    → covered n m time e ≡ true
    → outputs_of n e time ≡ gives outputs
    → after n m time e ≡ Some (add_made outputs (subtract (threshold time) (given_needs (needs_of n e)) m))
unfolding after
after_is n m time e outputs stamped is made =
    rw is (rw made (exchanged_is (threshold_in n time) m (needs_of n e) outputs (needs_pass n m time e is)))
    ∙ ap (λ (k : Marking). Some (add_made outputs k)) (sym (subtracted_alike n time (given_needs (needs_of n e)) m stamped))

-- the clock is the least time, where an element is covered at it
pub least_now : (n : PlainNet) (m : Marking) (clock : ℕ) (e : PlainElement) → covered n m clock e ≡ true → LeastTime n m clock clock
least_now n m clock e is = record { not_before = omega arith; some = (e, is); none_earlier = λ s x from below. absurd (omega arith) }
