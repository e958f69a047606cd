-- The answer for the variables of a transition is one, and it is the one that is found step by step.
use Rattle.std.proofs.Common.{◌≡◌, ℕ, ◌<◌, ◌≤◌, ◌∙◌, Bool, true, false, cond, nat_le, List, [], ◌∷◌, ◌++◌, length, Option, Some, None, refl, sym, ap, subst, arith, leb-true}
use Rattle.std.specs.List.{AllByRecursion}
use Rattle.cpn_definitions.specs.Net.{PlainTransition, PlainNet, variable_at}
use Rattle.cpn_definitions.specs.Bindable.{IsBindable}
use Rattle.cpn_definitions.proofs.ListItems.{head_of}
use Rattle.cpn_typing.specs.Names.{too_many, variables, not_bindable, Checked, refused}
use Rattle.cpn_typing.specs.BindableRule.{most_variables, IsFirstNotBindable, FirstIs, IsBindableAnswer, too_many_are_there, one_is_not, all_are}
use Rattle.cpn_typing.specs.Closure.{is_found, first_unfound, answer_for, answered}
use Rattle.cpn_typing.proofs.LeastBindable.{IsFirst, found_is_bindable}

-- ---- there is one answer

tail_of : {X : Type 0} (x y : X) (xs ys : List X) → x ∷ xs ≡ y ∷ ys → xs ≡ ys
tail_of x y xs ys e = cc

one_first : (P : ℕ → Type 0) (before behind before2 behind2 : List ℕ) (x y : ℕ) → before ++ x ∷ behind ≡ before2 ++ y ∷ behind2 → AllByRecursion P before → AllByRecursion P before2 → (P x → ⊥) → (P y → ⊥) → x ≡ y
one_first P [] behind [] behind2 x y e h k p q = head_of x y behind behind2 e
one_first P [] behind (z ∷ zs) behind2 x y e h k p q = absurd (p (subst P (sym (head_of x z behind (zs ++ y ∷ behind2) e)) k.0))
one_first P (z ∷ zs) behind [] behind2 x y e h k p q = absurd (q (subst P (head_of z y (zs ++ x ∷ behind) behind2 e) h.0))
one_first P (z ∷ zs) behind (w ∷ ws) behind2 x y e h k p q = one_first P zs behind ws behind2 x y (tail_of z w (zs ++ x ∷ behind) (ws ++ y ∷ behind2) e) h.1 k.1 p q

first_of_all : (P : ℕ → Type 0) (before behind : List ℕ) (x : ℕ) → AllByRecursion P (before ++ x ∷ behind) → P x
first_of_all P [] behind x h = h.0
first_of_all P (z ∷ zs) behind x h = first_of_all P zs behind x h.1

none_left : (n : PlainNet) (t : PlainTransition) (x : ℕ) → AllByRecursion (IsBindable n t) t.vars → IsFirstNotBindable n t t.vars x → ⊥
none_left n t x all one = one.not_bindable (first_of_all (IsBindable n t) one.before one.behind x (subst (AllByRecursion (IsBindable n t)) one.stands all))

pub one_answer : (n : PlainNet) (t : PlainTransition) (c d : Checked (Unit {0})) → IsBindableAnswer n t c → IsBindableAnswer n t d → c ≡ d
one_answer n t c d (too_many_are_there many) (too_many_are_there more) = refl
one_answer n t c d (too_many_are_there many) (one_is_not few x one) = absurd (omega arith)
one_answer n t c d (too_many_are_there many) (all_are few all) = absurd (omega arith)
one_answer n t c d (one_is_not few x one) (too_many_are_there many) = absurd (omega arith)
one_answer n t c d (one_is_not few x one) (one_is_not less y other) =
    ap (λ z. refused (not_bindable (variable_at n z).name))
    (one_first (IsBindable n t) one.before one.behind other.before other.behind x y (sym one.stands ∙ other.stands) one.bindable_before other.bindable_before one.not_bindable other.not_bindable)
one_answer n t c d (one_is_not few x one) (all_are less all) = absurd (none_left n t x all one)
one_answer n t c d (all_are few all) (too_many_are_there many) = absurd (omega arith)
one_answer n t c d (all_are few all) (one_is_not less x one) = absurd (none_left n t x all one)
one_answer n t c d (all_are few all) (all_are less each) = refl

-- ---- it is the one that is found

-- whether the first of several variables that is not bindable is this one, or there is none
pub one_more : (n : PlainNet) (t : PlainTransition) (y : ℕ) (ys : List ℕ) (o : Option ℕ) → IsBindable n t y → FirstIs n t ys o → FirstIs n t (y ∷ ys) o
one_more n t y ys None h k = (h, k)
one_more n t y ys (Some x) h k = record { before = y ∷ k.before; behind = k.behind; stands = ap (λ xs. y ∷ xs) k.stands; bindable_before = (h, k.bindable_before); not_bindable = k.not_bindable }

first_is : (n : PlainNet) (t : PlainTransition) (first : ℕ → Bool) → IsFirst n t first → (xs : List ℕ) → FirstIs n t xs (first_unfound first t.guard xs)
first_is n t first is [] = tt
first_is n t first is (x ∷ xs) = split (is_found first t.guard x) refl (first_is n t first is xs)
  where
    here : is_found first t.guard x ≡ false → FirstIs n t (x ∷ xs) (Some x)
    here e = record {
      before = [];
      behind = xs;
      stands = refl;
      bindable_before = tt;
      not_bindable = λ h. let is_there : is_found first t.guard x ≡ true = (found_is_bindable n t first is x).1 h in cc;
    }

    split : (b : Bool) → is_found first t.guard x ≡ b → FirstIs n t xs (first_unfound first t.guard xs) → FirstIs n t (x ∷ xs) (cond b (first_unfound first t.guard xs) (Some x))
    split true e rest = one_more n t x xs (first_unfound first t.guard xs) ((found_is_bindable n t first is x).0 e) rest
    split false e rest = here e

pub answer_is : (n : PlainNet) (t : PlainTransition) (o : Option ℕ) → length t.vars ≤ most_variables → FirstIs n t t.vars o → IsBindableAnswer n t (answer_for n o)
answer_is n t None few h = all_are few h
answer_is n t (Some x) few h = one_is_not few x h

-- What is answered step by step is the answer.
pub answered_is : (n : PlainNet) (t : PlainTransition) (first : ℕ → Bool) → IsFirst n t first → IsBindableAnswer n t (answered first n t)
answered_is n t first is = split (nat_le (length t.vars) most_variables) refl
  where
    few : nat_le (length t.vars) most_variables ≡ true → length t.vars ≤ most_variables
    few e = leb-true (length t.vars) most_variables e

    many : nat_le (length t.vars) most_variables ≡ false → most_variables < length t.vars
    many e = grind (arith, e)

    split : (b : Bool) → nat_le (length t.vars) most_variables ≡ b → IsBindableAnswer n t (cond b (answer_for n (first_unfound first t.guard t.vars)) (refused (too_many variables)))
    split true e = answer_is n t (first_unfound first t.guard t.vars) (few e) (first_is n t first is t.vars)
    split false e = too_many_are_there (many e)
