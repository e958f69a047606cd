-- What operations give for operands of their types: a value of the result's type, or a fault.
use Rattle.std.proofs.Common.{◌≡◌, ℕ, zero, suc, ℤ, pos, negsuc, ◌+ℤ◌, ◌-ℤ◌, ◌*ℤ◌, neg_ℤ, Bool, not, List, [], ◌∷◌, ◌++◌, length, reverse, slice_get, Some, sym, subst}
use Rattle.std.proofs.lemmas.List.{reverse-append}
use Rattle.std.specs.List.{AllByRecursion, list_any}
use Rattle.std.specs.declared.cmp.Ordering.{Ordering}
use Rattle.cpn_definitions.specs.Value.{PlainValue, PlainValues, to_list, from_list}
use Rattle.cpn_definitions.specs.Value as value
use Rattle.cpn_definitions.specs.Order.{same_value}
use Rattle.cpn_definitions.specs.Outcome.{Outcome, gives, faults, overflow, given}
use Rattle.cpn_definitions.specs.Outcome as outcome
use Rattle.cpn_definitions.specs.Inscription.{addition, subtraction, multiplication, division, remainder, negation, concatenation, equality, inequality, complement, cons, appending, head, tail, list_length, reversal, membership, string_size, component}
use Rattle.cpn_definitions.specs.Operations.{integer_in, truth_in, string_in, items_in, components_in, within, floor_div, floor_mod, divided, on_integers, compared, concatenated, consed, appended, head_in, tail_in, member_of, component_at, on_one, on_two, operated}
use Rattle.cpn_definitions.proofs.RisingLists.{each_appended}
use Rattle.cpn_typing.specs.Types.{PlainTy, bool_type, int_type, text_type, tuples, lists, PlainTys, no_types, more_types, type_at}
use Rattle.cpn_typing.specs.Rules.{part_of, part_number}
use Rattle.cpn_typing.specs.TypedValues.{Sets, HasType, of_bool, of_int, of_text, of_tuple, of_list, HaveTypes, of_none, of_more, AllHave, all_none, all_more}
use Rattle.cpn_typing.specs.Law.{Means}
use Rattle.cpn_typing.proofs.Outcomes.{chosen, sized_means}

-- a value of the type, or a fault
abbrev pub Gives : Sets → PlainTy → Outcome PlainValue → Type 0
Gives sets t o = Means (λ v. HasType sets v t) o

-- operands of the types, one for one
abbrev pub AreOperands : Sets → PlainTys → List PlainValue → Type 0
AreOperands sets ts vs = HaveTypes sets (from_list vs) ts

-- each of the values has the type
abbrev pub AreItems : Sets → PlainTy → List PlainValue → Type 0
AreItems sets t vs = AllByRecursion (λ v. HasType sets v t) vs

abbrev pub pair_of : PlainTy → PlainTy → PlainTys
pair_of s t = more_types s (more_types t no_types)

abbrev pub alone : PlainTy → PlainTys
alone t = more_types t no_types

-- ---- lists

pub items_are : (sets : Sets) (t : PlainTy) (vs : PlainValues) → AllHave sets vs t → AreItems sets t (to_list vs)
items_are sets t vs (all_none u) = tt
items_are sets t vs (all_more w ws u h k) = (h, items_are sets t ws k)

pub list_of_items : (sets : Sets) (t : PlainTy) (vs : List PlainValue) → AreItems sets t vs → HasType sets (value.list (from_list vs)) (lists t)
list_of_items sets t vs h = of_list (from_list vs) t (all_of vs h)
  where
    all_of : (xs : List PlainValue) → AreItems sets t xs → AllHave sets (from_list xs) t
    all_of [] k = all_none t
    all_of (x ∷ xs) k = all_more x (from_list xs) t k.0 (all_of xs k.1)

-- what is done with the items of a list
pub with_items : {A : Type 0} (sets : Sets) (P : A → Type 0) (t : PlainTy) (f : List PlainValue → Outcome A) → ((vs : List PlainValue) → AreItems sets t vs → Means P (f vs)) → (v : PlainValue) → HasType sets v (lists t) → Means P (outcome.◌>>=◌ (items_in v) f)
with_items sets P t f p v (of_list vs u h) = p (to_list vs) (items_are sets t vs h)

reversed_items : (sets : Sets) (t : PlainTy) (vs : List PlainValue) → AreItems sets t vs → AreItems sets t (reverse vs)
reversed_items sets t [] h = tt
reversed_items sets t (v ∷ vs) h =
    subst (AreItems sets t) (sym (reverse-append (v ∷ []) vs)) (each_appended (λ x. HasType sets x t) (reverse vs) (v ∷ []) (reversed_items sets t vs h.1) (h.0, tt))

-- ---- one and two operands

one_means : (sets : Sets) (s t : PlainTy) (f : PlainValue → Outcome PlainValue) → ((v : PlainValue) → HasType sets v s → Gives sets t (f v)) → (vs : List PlainValue) → AreOperands sets (alone s) vs → Gives sets t (on_one f vs)
one_means sets s t f p [] x = elim x [ ]
one_means sets s t f p (v ∷ []) (of_more w ws u us h of_none) = p v h
one_means sets s t f p (v ∷ w ∷ vs) (of_more x xs u us h k) = elim k [ ]

two_mean : (sets : Sets) (s t u : PlainTy) (f : PlainValue → PlainValue → Outcome PlainValue) → ((v w : PlainValue) → HasType sets v s → HasType sets w t → Gives sets u (f v w)) → (vs : List PlainValue) → AreOperands sets (pair_of s t) vs → Gives sets u (on_two f vs)
two_mean sets s t u f p [] x = elim x [ ]
two_mean sets s t u f p (v ∷ []) (of_more x xs y ys h k) = elim k [ ]
two_mean sets s t u f p (v ∷ w ∷ z ∷ vs) (of_more x xs y ys h (of_more a others b bs k l)) = elim l [ ]
two_mean sets s t u f p (v ∷ w ∷ []) (of_more x xs y ys h (of_more z zs a others k of_none)) = p v w h k

-- ---- integers

within_means : (sets : Sets) (z : ℤ) → Gives sets int_type (within z)
within_means sets (pos n) = chosen (Gives sets int_type) _ (gives (value.int (pos n))) (faults overflow) (of_int (pos n)) tt
within_means sets (negsuc n) = chosen (Gives sets int_type) _ (gives (value.int (negsuc n))) (faults overflow) (of_int (negsuc n)) tt

divided_means : (sets : Sets) (f : ℤ → ℤ → ℤ) (x y : ℤ) → Gives sets int_type (divided f x y)
divided_means sets f x (pos zero) = tt
divided_means sets f x (pos (suc n)) = within_means sets (f x (pos (suc n)))
divided_means sets f x (negsuc n) = within_means sets (f x (negsuc n))

integers_mean : (sets : Sets) (f : ℤ → ℤ → Outcome PlainValue) → ((x y : ℤ) → Gives sets int_type (f x y)) → (v w : PlainValue) → HasType sets v int_type → HasType sets w int_type → Gives sets int_type (on_integers f v w)
integers_mean sets f p v w (of_int x) (of_int y) = p x y

arithmetic : (sets : Sets) (f : ℤ → ℤ → Outcome PlainValue) → ((x y : ℤ) → Gives sets int_type (f x y)) → (vs : List PlainValue) → AreOperands sets (pair_of int_type int_type) vs → Gives sets int_type (on_two (on_integers f) vs)
arithmetic sets f p = two_mean sets int_type int_type int_type (on_integers f) (integers_mean sets f p)

pub adds : (sets : Sets) (vs : List PlainValue) → AreOperands sets (pair_of int_type int_type) vs → Gives sets int_type (operated addition vs)
adds sets = arithmetic sets _ (λ x y. within_means sets (x +ℤ y))

pub subtracts : (sets : Sets) (vs : List PlainValue) → AreOperands sets (pair_of int_type int_type) vs → Gives sets int_type (operated subtraction vs)
subtracts sets = arithmetic sets _ (λ x y. within_means sets (x -ℤ y))

pub multiplies : (sets : Sets) (vs : List PlainValue) → AreOperands sets (pair_of int_type int_type) vs → Gives sets int_type (operated multiplication vs)
multiplies sets = arithmetic sets _ (λ x y. within_means sets (x *ℤ y))

pub divides : (sets : Sets) (vs : List PlainValue) → AreOperands sets (pair_of int_type int_type) vs → Gives sets int_type (operated division vs)
divides sets = arithmetic sets _ (divided_means sets floor_div)

pub leaves : (sets : Sets) (vs : List PlainValue) → AreOperands sets (pair_of int_type int_type) vs → Gives sets int_type (operated remainder vs)
leaves sets = arithmetic sets _ (divided_means sets floor_mod)

negated : (sets : Sets) (v : PlainValue) → HasType sets v int_type → Gives sets int_type (outcome.◌>>=◌ (integer_in v) (λ x. within (neg_ℤ x)))
negated sets v (of_int x) = within_means sets (neg_ℤ x)

pub negates : (sets : Sets) (vs : List PlainValue) → AreOperands sets (alone int_type) vs → Gives sets int_type (operated negation vs)
negates sets = one_means sets int_type int_type _ (negated sets)

-- ---- truth values, strings, comparisons

complemented : (sets : Sets) (v : PlainValue) → HasType sets v bool_type → Gives sets bool_type (outcome.◌>>=◌ (truth_in v) (λ b. gives (value.boolean (not b))))
complemented sets v (of_bool b) = of_bool (not b)

pub complements : (sets : Sets) (vs : List PlainValue) → AreOperands sets (alone bool_type) vs → Gives sets bool_type (operated complement vs)
complements sets = one_means sets bool_type bool_type _ (complemented sets)

strings_joined : (sets : Sets) (v w : PlainValue) → HasType sets v text_type → HasType sets w text_type → Gives sets text_type (concatenated v w)
strings_joined sets v w (of_text xs) (of_text ys) = sized_means (λ x. HasType sets x text_type) (value.text (xs ++ ys)) (of_text (xs ++ ys))

pub joins : (sets : Sets) (vs : List PlainValue) → AreOperands sets (pair_of text_type text_type) vs → Gives sets text_type (operated concatenation vs)
joins sets = two_mean sets text_type text_type text_type concatenated (strings_joined sets)

measured : (sets : Sets) (v : PlainValue) → HasType sets v text_type → Gives sets int_type (outcome.◌>>=◌ (string_in v) (λ bytes. gives (value.int (pos (length bytes)))))
measured sets v (of_text bytes) = of_int (pos (length bytes))

pub measures : (sets : Sets) (vs : List PlainValue) → AreOperands sets (alone text_type) vs → Gives sets int_type (operated string_size vs)
measures sets = one_means sets text_type int_type _ (measured sets)

pub equates : (sets : Sets) (t : PlainTy) (vs : List PlainValue) → AreOperands sets (pair_of t t) vs → Gives sets bool_type (operated equality vs)
equates sets t = two_mean sets t t bool_type _ (λ v w h k. of_bool (same_value v w))

pub distinguishes : (sets : Sets) (t : PlainTy) (vs : List PlainValue) → AreOperands sets (pair_of t t) vs → Gives sets bool_type (operated inequality vs)
distinguishes sets t = two_mean sets t t bool_type _ (λ v w h k. of_bool (not (same_value v w)))

-- a type with an order
abbrev pub IsOrdered : PlainTy → Type 0
IsOrdered int_type = Unit {0}
IsOrdered text_type = Unit {0}
IsOrdered t = ⊥

pub compares : (sets : Sets) (test : Ordering → Bool) (t : PlainTy) → IsOrdered t → (vs : List PlainValue) → AreOperands sets (pair_of t t) vs → Gives sets bool_type (on_two (compared test) vs)
compares sets test t o = two_mean sets t t bool_type (compared test) (by_type t o)
  where
    of_ints : (v w : PlainValue) → HasType sets v int_type → HasType sets w int_type → Gives sets bool_type (compared test v w)
    of_ints v w (of_int x) (of_int y) = of_bool _

    of_texts : (v w : PlainValue) → HasType sets v text_type → HasType sets w text_type → Gives sets bool_type (compared test v w)
    of_texts v w (of_text x) (of_text y) = of_bool _

    by_type : (u : PlainTy) → IsOrdered u → (v w : PlainValue) → HasType sets v u → HasType sets w u → Gives sets bool_type (compared test v w)
    by_type int_type k = of_ints
    by_type text_type k = of_texts
    by_type u k = absurd k

-- ---- operations on lists

consed_means : (sets : Sets) (t : PlainTy) (v w : PlainValue) → HasType sets v t → HasType sets w (lists t) → Gives sets (lists t) (consed v w)
consed_means sets t v w h = with_items sets (λ x. HasType sets x (lists t)) t _ (λ ws k. sized_means (λ x. HasType sets x (lists t)) (value.list (from_list (v ∷ ws))) (list_of_items sets t (v ∷ ws) (h, k))) w

pub puts : (sets : Sets) (t : PlainTy) (vs : List PlainValue) → AreOperands sets (pair_of t (lists t)) vs → Gives sets (lists t) (operated cons vs)
puts sets t = two_mean sets t (lists t) (lists t) consed (consed_means sets t)

appended_means : (sets : Sets) (t : PlainTy) (v w : PlainValue) → HasType sets v (lists t) → HasType sets w (lists t) → Gives sets (lists t) (appended v w)
appended_means sets t v w h k =
    with_items sets (λ x. HasType sets x (lists t)) t _
    (λ xs p. with_items sets (λ x. HasType sets x (lists t)) t _
    (λ ys q. sized_means (λ x. HasType sets x (lists t)) (value.list (from_list (xs ++ ys))) (list_of_items sets t (xs ++ ys) (each_appended (λ x. HasType sets x t) xs ys p q))) w k) v h

pub appends : (sets : Sets) (t : PlainTy) (vs : List PlainValue) → AreOperands sets (pair_of (lists t) (lists t)) vs → Gives sets (lists t) (operated appending vs)
appends sets t = two_mean sets (lists t) (lists t) (lists t) appended (appended_means sets t)

first_means : (sets : Sets) (t : PlainTy) (vs : List PlainValue) → AreItems sets t vs → Gives sets t (head_in vs)
first_means sets t [] h = tt
first_means sets t (v ∷ vs) h = h.0

pub heads : (sets : Sets) (t : PlainTy) (vs : List PlainValue) → AreOperands sets (alone (lists t)) vs → Gives sets t (operated head vs)
heads sets t = one_means sets (lists t) t _ (with_items sets (λ x. HasType sets x t) t head_in (first_means sets t))

later_mean : (sets : Sets) (t : PlainTy) (vs : List PlainValue) → AreItems sets t vs → Gives sets (lists t) (tail_in vs)
later_mean sets t [] h = tt
later_mean sets t (v ∷ vs) h = list_of_items sets t vs h.1

pub tails : (sets : Sets) (t : PlainTy) (vs : List PlainValue) → AreOperands sets (alone (lists t)) vs → Gives sets (lists t) (operated tail vs)
tails sets t = one_means sets (lists t) (lists t) _ (with_items sets (λ x. HasType sets x (lists t)) t tail_in (later_mean sets t))

pub counts : (sets : Sets) (t : PlainTy) (vs : List PlainValue) → AreOperands sets (alone (lists t)) vs → Gives sets int_type (operated list_length vs)
counts sets t = one_means sets (lists t) int_type _ (with_items sets (λ x. HasType sets x int_type) t _ (λ vs h. of_int (pos (length vs))))

pub reverses : (sets : Sets) (t : PlainTy) (vs : List PlainValue) → AreOperands sets (alone (lists t)) vs → Gives sets (lists t) (operated reversal vs)
reverses sets t = one_means sets (lists t) (lists t) _ (with_items sets (λ x. HasType sets x (lists t)) t _ (λ vs h. list_of_items sets t (reverse vs) (reversed_items sets t vs h)))

pub finds : (sets : Sets) (t : PlainTy) (vs : List PlainValue) → AreOperands sets (pair_of (lists t) t) vs → Gives sets bool_type (operated membership vs)
finds sets t = two_mean sets (lists t) t bool_type member_of (λ v w h k. with_items sets (λ x. HasType sets x bool_type) t _ (λ vs l. of_bool (list_any (same_value w) vs)) v h)

-- ---- components

part_means : (sets : Sets) (t : PlainTy) (vs : PlainValues) (ts : PlainTys) (i : ℕ) → HaveTypes sets vs ts → type_at ts i ≡ Some t → Gives sets t (given (slice_get (to_list vs) i))
part_means sets t vs no_types i of_none e = cc
part_means sets t vs (more_types u us) zero (of_more w ws x xs h k) e = let same : u ≡ t = cc in subst (HasType sets w) same h
part_means sets t vs (more_types u us) (suc i) (of_more w ws x xs h k) e = part_means sets t ws us i k e

part_of_means : (sets : Sets) (s t : PlainTy) (k : ℤ) → part_of s k ≡ Some t → (v : PlainValue) → HasType sets v s → Gives sets t (outcome.◌>>=◌ (components_in v) (component_at (part_number k)))
part_of_means sets (tuples ts) t (pos (suc i)) e v (of_tuple vs us h) = part_means sets t vs ts i h e
part_of_means sets s t k e v h = cc

pub takes_part : (sets : Sets) (s t : PlainTy) (k : ℤ) → part_of s k ≡ Some t → (vs : List PlainValue) → AreOperands sets (alone s) vs → Gives sets t (operated (component (part_number k)) vs)
takes_part sets s t k e = one_means sets s t _ (part_of_means sets s t k e)
