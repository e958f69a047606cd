-- A worked net: a transition takes a 7 from place 0 and puts a 7 on place 1 that may be used 2 later; both places are timed.
-- What is enabled and dead in it, and which sequences are legal and which are not.
use Rattle.std.proofs.Common.{◌≡◌, ℕ, zero, suc, ◌<◌, ◌≤◌, pos, Bool, true, false, [], ◌∷◌, Some, None, refl, sym, ap, ap₂, subst, ◌∙◌, inl, inr, ⊎_elim, arith, ltb-true, Less, Equal}
use Rattle.std.proofs.lemmas.Bool.{and_parts, cases_lt}
use Rattle.std.proofs.lemmas.Option.{same_Some}
use Rattle.cpn_definitions.specs.Value.{PlainValue, int}
use Rattle.cpn_definitions.specs.Colour.{PlainColour, int_shape}
use Rattle.cpn_definitions.specs.Marking.{Marking, token_at}
use Rattle.cpn_definitions.specs.Inscription.{literal, literal_pattern, one}
use Rattle.cpn_definitions.specs.Net.{PlainNet, PlainTransition, transition_at}
use Rattle.cpn_definitions.specs.Meaning.{PlainBinding}
use Rattle.cpn_definitions.specs.Occurrence.{PlainElement, binds, guard_holds, may_occur, covered, needs_of, outputs_of, after}
use Rattle.cpn_definitions.specs.Enabled.{PlainEntry, IsEarliest, Enabled, IsDead}
use Rattle.cpn_definitions.specs.Legal.{LeastTime, TimedElement, Legal}
use Rattle.cpn_definitions.proofs.RisingLists.{IsIn, in_from_contains, contains_from_in}
use Rattle.cpn_definitions.proofs.TruthValues.{not_both}

abbrev pub seven : PlainValue
seven = int (pos 7)

-- the integers from 0 to 9, with time stamps
abbrev pub digits : PlainColour
digits = record { shape = int_shape (pos 0) (pos 9); timed = true }

abbrev pub move_transition : PlainTransition
move_transition = record {
  name = [];
  guard = [];
  delay = Some (literal (int (pos 2)));
  inputs = record { place = 0; colour = digits; expr = one (literal seven); terms = record { count = 1; pattern = literal_pattern seven } ∷ [] } ∷ [];
  outputs = record { place = 1; colour = digits; expr = one (literal seven); terms = [] } ∷ [];
  vars = [];
}

abbrev pub worked : PlainNet
worked = record {
  places = record { name = []; colour = digits } ∷ record { name = []; colour = digits } ∷ [];
  transitions = move_transition ∷ [];
  variables = [];
  constants = [];
  constructors = [];
  functions = [];
}

-- its only element, and 7 at 3 on place 0
abbrev pub move : PlainElement
move = record { transition = 0; binding = [] }

abbrev pub seven_at_three : Marking
seven_at_three = (token_at seven 3 ∷ []) ∷ [] ∷ []

abbrev pub moved : Marking
moved = [] ∷ (token_at seven 5 ∷ []) ∷ []

-- ---- what is covered

pub not_covered_at_two : covered worked seven_at_three 2 move ≡ false
unfolding covered needs_of
not_covered_at_two = refl

pub covered_at_three : covered worked seven_at_three 3 move ≡ true
unfolding covered needs_of
covered_at_three = refl

pub after_three : after worked seven_at_three 3 move ≡ Some moved
unfolding covered needs_of outputs_of after
after_three = refl

none_after_two : after worked seven_at_three 2 move ≡ None
unfolding covered needs_of outputs_of after
none_after_two = refl

-- nothing else is ever covered
its_only_element : (m : Marking) (time k : ℕ) (b : PlainBinding) → covered worked m time (record { transition = k; binding = b }) ≡ true → record { transition = k; binding = b } ≡ move
unfolding covered needs_of
its_only_element m time zero [] is = refl
its_only_element m time zero (pair ∷ pairs) is = cc
its_only_element m time (suc k) b is =
    let may = and_parts (may_occur worked (record { transition = suc k; binding = b })) _ is in
    let known = and_parts _ (guard_holds worked.functions (transition_at worked (suc k)).guard b) may.0 in
    let low : suc k < 1 = ltb-true (suc k) 1 (and_parts _ (binds worked (transition_at worked (suc k)).vars b) known.0).0 in
    absurd (omega arith)

only : (m : Marking) (time : ℕ) (e : PlainElement) → covered worked m time e ≡ true → e ≡ move
only m time e is = its_only_element m time e.transition e.binding is

pub no_other : (m : Marking) (time : ℕ) (e : PlainElement) → covered worked m time move ≡ false → covered worked m time e ≡ false
no_other m time e not = split (covered worked m time e) refl
  where
    split : (b : Bool) → covered worked m time e ≡ b → b ≡ false
    split true is = let P : PlainElement → Type 0 = λ x. covered worked m time x ≡ true in sym (subst P (only m time e is) is) ∙ not
    split false is = refl

pub covered_no_earlier : (s : ℕ) → s < 3 → covered worked seven_at_three s move ≡ false
unfolding covered needs_of
covered_no_earlier zero below = refl
covered_no_earlier (suc zero) below = refl
covered_no_earlier (suc (suc zero)) below = refl
covered_no_earlier (suc (suc (suc s))) below = absurd (omega arith)

-- ---- what is enabled

abbrev pub entry : ℕ → PlainEntry
entry earliest = record { earliest = earliest; element = move }

-- where the element is covered at a time, and no earlier from the clock on, it is enabled with that time, alone
pub one_is_enabled : (m : Marking) (clock time : ℕ) → clock ≤ time → covered worked m time move ≡ true → ((s : ℕ) → clock ≤ s → s < time → covered worked m s move ≡ false) → Enabled worked m clock (entry time ∷ [])
one_is_enabled m clock time from is none = record {
  rising = (tt, tt);
  exact = λ x. ((λ has. to x (in_from_contains (entry time ∷ []) x has)), λ earliest. contains_from_in (entry time ∷ []) x (inl (back x earliest)));
}
  where
    to : (x : PlainEntry) → IsIn x (entry time ∷ []) → IsEarliest worked m clock x
    to x (inl e) = subst (IsEarliest worked m clock) e (record { not_before = from; is_covered = is; not_earlier = none })
    to x (inr h) = absurd h

    same_time : (s : ℕ) → clock ≤ s → covered worked m s move ≡ true → ((r : ℕ) → clock ≤ r → r < s → covered worked m r move ≡ false) → s ≡ time
    same_time s from_too is_too none_too =
        ⊎_elim (λ lt. absurd (not_both (covered worked m s move) is_too (none s from_too lt)))
        (λ ge. ⊎_elim (λ lt. absurd (not_both (covered worked m time move) is (none_too time from lt))) (λ le. both ge le) (cases_lt time s)) (cases_lt s time)
      where
        both : time ≤ s → s ≤ time → s ≡ time
        both ge le = omega arith

    back : (x : PlainEntry) → IsEarliest worked m clock x → entry time ≡ x
    back x earliest =
        let element : x.element ≡ move = only m x.earliest x.element earliest.is_covered in
        let P : PlainElement → Type 0 = λ e. covered worked m x.earliest e ≡ true in
        let Q : PlainElement → Type 0 = λ e. (s : ℕ) → clock ≤ s → s < x.earliest → covered worked m s e ≡ false in
        let same : x.earliest ≡ time = same_time x.earliest earliest.not_before (subst P element earliest.is_covered) (subst Q element earliest.not_earlier) in
        ap₂ (λ at e. record { earliest = at; element = e }) (sym same) (sym element)

enabled_from_0 : Enabled worked seven_at_three 0 (entry 3 ∷ [])
enabled_from_0 = one_is_enabled seven_at_three 0 3 (omega arith) covered_at_three (λ s from below. covered_no_earlier s below)

enabled_from_5 : Enabled worked seven_at_three 5 (entry 5 ∷ [])
unfolding covered needs_of
enabled_from_5 = one_is_enabled seven_at_three 5 5 (omega arith) refl (λ s from below. absurd (omega arith))

-- the list has all that is enabled, with the least time, once
not_left_out : Enabled worked seven_at_three 0 [] → ⊥
not_left_out enabled = in_from_contains [] (entry 3) ((enabled.exact (entry 3)).1 (record { not_before = omega arith; is_covered = covered_at_three; not_earlier = λ s from below. covered_no_earlier s below }))

not_later : Enabled worked seven_at_three 0 (entry 4 ∷ []) → ⊥
not_later enabled =
    let earliest = (enabled.exact (entry 4)).0 (contains_from_in (entry 4 ∷ []) (entry 4) (inl refl)) in
    not_both (covered worked seven_at_three 3 move) covered_at_three (earliest.not_earlier 3 (omega arith) (omega arith))

not_twice : Enabled worked seven_at_three 0 (entry 3 ∷ entry 3 ∷ []) → ⊥
not_twice enabled = let e : Equal ≡ Less = enabled.rising.0.0 in cc

-- ---- what is dead

abbrev pub emptied : Marking
emptied = [] ∷ [] ∷ []

pub emptied_is_dead : IsDead worked emptied
unfolding covered needs_of
emptied_is_dead time e = no_other emptied time e refl

pub moved_is_dead : IsDead worked moved
unfolding covered needs_of
moved_is_dead time e = no_other moved time e refl

pub later_is_not_dead : IsDead worked seven_at_three → ⊥
later_is_not_dead is = not_both (covered worked seven_at_three 3 move) covered_at_three (is 3 move)

pub none_is_enabled : (m : Marking) (clock : ℕ) → IsDead worked m → Enabled worked m clock []
none_is_enabled m clock is = record {
  rising = tt;
  exact = λ x. ((λ has. absurd (in_from_contains [] x has)), λ earliest. absurd (not_both (covered worked m x.earliest x.element) earliest.is_covered (is x.earliest x.element)));
}

-- ---- which sequences are legal

abbrev pub at : ℕ → TimedElement
at time = record { element = move; time = time }

pub least_is_three : LeastTime worked seven_at_three 0 3
least_is_three = record { not_before = omega arith; some = (move, covered_at_three); none_earlier = λ s e from below. no_other seven_at_three s e (covered_no_earlier s below) }

-- it occurs at 3, the least time at which it is covered; or the clock alone goes to 3
legal_at_three : Legal worked seven_at_three 0 (at 3 ∷ []) moved 3
legal_at_three = (least_is_three, covered_at_three, (moved, after_three, (refl, inl refl)))

legal_wait : Legal worked seven_at_three 0 [] seven_at_three 3
legal_wait = (refl, inr least_is_three)

legal_stay : Legal worked seven_at_three 0 [] seven_at_three 0
legal_stay = (refl, inl refl)

-- from a later clock it occurs at that clock
legal_at_five : Legal worked seven_at_three 5 (at 5 ∷ []) ([] ∷ (token_at seven 7 ∷ []) ∷ []) 5
unfolding covered needs_of outputs_of after
legal_at_five = (record { not_before = omega arith; some = (move, refl); none_earlier = λ s e from below. absurd (omega arith) }, refl, ([] ∷ (token_at seven 7 ∷ []) ∷ [], refl, (refl, inl refl)))

-- it occurs no later than at the least time, and not before it; not before the clock; and the clock goes no further
illegal_later : (last : Marking) (end : ℕ) → Legal worked seven_at_three 0 (at 4 ∷ []) last end → ⊥
illegal_later last end legal = not_both (covered worked seven_at_three 3 move) covered_at_three (legal.0.none_earlier 3 move (omega arith) (omega arith))

illegal_earlier : (last : Marking) (end : ℕ) → Legal worked seven_at_three 0 (at 2 ∷ []) last end → ⊥
illegal_earlier last end legal = not_both (covered worked seven_at_three 2 move) legal.1 not_covered_at_two

illegal_before_the_clock : (last : Marking) (end : ℕ) → Legal worked seven_at_three 5 (at 3 ∷ []) last end → ⊥
illegal_before_the_clock last end legal = let from : 5 ≤ 3 = legal.0.not_before in absurd (omega arith)

illegal_wait : Legal worked seven_at_three 0 [] seven_at_three 4 → ⊥
illegal_wait legal = ⊎_elim (λ same. let e : 4 ≡ 0 = same in absurd (omega arith)) (λ least. not_both (covered worked seven_at_three 3 move) covered_at_three (least.none_earlier 3 move (omega arith) (omega arith))) legal.1

illegal_in_the_dead : (time : ℕ) → Legal worked moved 3 [] moved (suc (suc (suc (suc time)))) → ⊥
illegal_in_the_dead time legal =
    ⊎_elim (λ same. let e : suc (suc (suc (suc time))) ≡ 3 = same in absurd (omega arith)) (λ least. not_both (covered worked moved (suc (suc (suc (suc time)))) least.some.0) least.some.1 (moved_is_dead (suc (suc (suc (suc time)))) least.some.0)) legal.1

-- an element that is not of the net doesn't occur, and what occurs leads to no other marking
illegal_element : (last : Marking) (end : ℕ) → Legal worked seven_at_three 0 (record { element = record { transition = 1; binding = [] }; time = 3 } ∷ []) last end → ⊥
illegal_element last end legal =
    let other : PlainElement = record { transition = 1; binding = [] } in
    let number : other.transition ≡ 0 = ap (λ (x : PlainElement). x.transition) (only seven_at_three 3 other legal.1) in
    absurd (omega (arith, number))

leads_to_moved : (last : Marking) (end : ℕ) → Legal worked seven_at_three 0 (at 3 ∷ []) last end → last ≡ moved
leads_to_moved last end legal = let e : Some moved ≡ Some legal.2.0 = sym after_three ∙ legal.2.1 in legal.2.2.0 ∙ sym (same_Some moved legal.2.0 e)
