-- The elements of other transitions: those that are left where the first one of a transition is taken out, again and again.
use Rattle.std.proofs.Common.{◌≡◌, ℕ, suc, ◌<◌, ◌≤◌, ◌==◌, Bool, true, false, not, cond, List, [], ◌∷◌, length, Some, None, refl, sym, ap, ◌∙◌, subst, inl, inr, arith, Ordering, Equal, nat_cmp, eqb-true, eq-eqb}
use Rattle.std.specs.Ordering.{ordering_then}
use Rattle.std.proofs.lemmas.Bool.Decides.{nat_tests}
use Rattle.cpn_definitions.specs.Occurrence.{PlainElement}
use Rattle.cpn_definitions.specs.Enabled.{binding_cmp, element_cmp}
use Rattle.cpn_definitions.proofs.KeyedEntries.{equal_from}
use Rattle.cpn_definitions.proofs.RisingLists.{IsIn}
use Rattle.cpn_due.specs.Due.{PlainEnabled, is_of, without, first_of}
use Rattle.cpn_index.specs.WatchedElements.{of_others}
use Rattle.cpn_index.proofs.KeptLists.{of_itself}

-- where none is left of it, all are of others
pub all_others : (t : ℕ) (xs : List PlainEnabled) → first_of t xs ≡ None → of_others t xs ≡ xs
all_others t [] none = refl
all_others t (x ∷ xs) none = split (x.entry.element.transition == t) none (λ is. all_others t xs is)
  where
    split : (b : Bool) → cond b (Some x) (first_of t xs) ≡ None → (first_of t xs ≡ None → of_others t xs ≡ xs) → cond (not b) (x ∷ of_others t xs) (of_others t xs) ≡ x ∷ xs
    split true is later = cc
    split false is later = ap (λ ys. x ∷ ys) (later is)

pub first_is : (t : ℕ) (xs : List PlainEnabled) (x : PlainEnabled) → first_of t xs ≡ Some x → IsIn x xs × (x.entry.element.transition ≡ t)
first_is t [] x found = cc
first_is t (y ∷ xs) x found = split (y.entry.element.transition == t) refl found (λ is. first_is t xs x is)
  where
    some : (y x : PlainEnabled) → Some y ≡ Some x → y ≡ x
    some y x is = cc

    split : (b : Bool) → (y.entry.element.transition == t) ≡ b → cond b (Some y) (first_of t xs) ≡ Some x → (first_of t xs ≡ Some x → IsIn x xs × (x.entry.element.transition ≡ t)) → IsIn x (y ∷ xs) × (x.entry.element.transition ≡ t)
    split true of is later = let same = some y x is in (inl same, ap (λ (z : PlainEnabled). z.entry.element.transition) (sym same) ∙ eqb-true y.entry.element.transition t of)
    split false of is later = let rest = later is in (inr rest.0, rest.1)

-- what is of the element is of its transition
same_transition : (e : PlainElement) (y : PlainEnabled) → is_of e y ≡ true → y.entry.element.transition ≡ e.transition
same_transition e y of = number (nat_cmp e.transition y.entry.element.transition) (binding_cmp e.binding y.entry.element.binding) refl (equal_from (element_cmp e y.entry.element) of)
  where
    number : (o p : Ordering) → nat_cmp e.transition y.entry.element.transition ≡ o → ordering_then o p ≡ Equal → y.entry.element.transition ≡ e.transition
    number Equal p is same = grind (arith, is, nat_tests)
    number o p is same = cc

-- to take out one of the transition leaves the others
pub others_without : (t : ℕ) (e : PlainElement) (xs : List PlainEnabled) → e.transition ≡ t → of_others t (without e xs) ≡ of_others t xs
others_without t e [] of_t = refl
others_without t e (y ∷ xs) of_t = split (is_of e y) refl (others_without t e xs of_t)
  where
    split : (b : Bool) → is_of e y ≡ b → of_others t (without e xs) ≡ of_others t xs → of_others t (cond (not b) (y ∷ without e xs) (without e xs)) ≡ of_others t (y ∷ xs)
    split true of rest = rest ∙ sym (ap (λ b. cond (not b) (y ∷ of_others t xs) (of_others t xs)) (eq-eqb y.entry.element.transition t (same_transition e y of ∙ of_t)))
    split false of rest = ap (λ ys. cond (not (y.entry.element.transition == t)) (y ∷ ys) ys) rest

-- and they are fewer
at_most : (e : PlainElement) (xs : List PlainEnabled) → length (without e xs) ≤ length xs
at_most e [] = omega arith
at_most e (y ∷ xs) = split (is_of e y) (at_most e xs)
  where
    split : (b : Bool) → length (without e xs) ≤ length xs → length (cond (not b) (y ∷ without e xs) (without e xs)) ≤ suc (length xs)
    split true le = omega (arith, le)
    split false le = omega (arith, le)

pub fewer : (e : PlainElement) (xs : List PlainEnabled) (x : PlainEnabled) → IsIn x xs → x.entry.element ≡ e → length (without e xs) < length xs
fewer e [] x h same = absurd h
fewer e (y ∷ xs) x (inl is) same = split (is_of e y) (subst (λ (z : PlainEnabled). is_of e z ≡ true) (sym is) (of_itself e x same)) (at_most e xs)
  where
    split : (b : Bool) → b ≡ true → length (without e xs) ≤ length xs → length (cond (not b) (y ∷ without e xs) (without e xs)) < suc (length xs)
    split true of le = omega (arith, le)
    split false of le = cc
fewer e (y ∷ xs) x (inr h) same = split (is_of e y) (fewer e xs x h same)
  where
    split : (b : Bool) → length (without e xs) < length xs → length (cond (not b) (y ∷ without e xs) (without e xs)) < suc (length xs)
    split true lt = omega (arith, lt)
    split false lt = omega (arith, lt)
