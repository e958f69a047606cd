-- Law: one numbering. Two numberings of the classes of as many items by the same pairs are the same.
use Rattle.std.proofs.Common.{◌≡◌, ℕ, zero, suc, ◌<◌, ◌≤◌, List, length, get_or, refl, sym, ap, ap₂, subst, ◌∙◌, inl, inr, arith}
use Rattle.std.proofs.lemmas.Bool.{cases_order}
use Rattle.std.proofs.lemmas.List.{ext_get_or}
use Rattle.cpn_classes.specs.Trees.{JoinTheSame}
use Rattle.cpn_classes.specs.Numbering.{Numbering, number_of, first_of, IsInOrder, IsNumbering}

-- two classes with one first member are the same
one_first : (n : Numbering) → IsInOrder n → (c d : ℕ) → c < length n.firsts → d < length n.firsts → first_of n c ≡ first_of n d → c ≡ d
one_first n is c d c_in d_in same =
    elim (cases_order c d) [
      | inl e ↦ e
      | inr apart ↦ elim apart [
        | inl less ↦ let rises : first_of n c < first_of n d = is.rise c d less d_in in absurd (omega arith)
        | inr more ↦ let rises : first_of n d < first_of n c = is.rise d c more c_in in absurd (omega arith)
      ]
    ]

module _ (count : ℕ) (pairs : List (ℕ × ℕ)) (n m : Numbering) (is : IsNumbering count pairs n) (is' : IsNumbering count pairs m) where
  -- an item's first fellow by one numbering is no later than by the other
  first_before : (i : ℕ) → i < count → first_of n (number_of n i) ≤ first_of m (number_of m i)
  first_before i lt =
      let other = first_of m (number_of m i) in
      let class_in : number_of m i < length m.firsts = is'.in_order.in_class i (rw is'.each lt) in
      let other_in : other < count = rw (← is'.each) (is'.in_order.is_item (number_of m i) class_in) in
      let fellows = (is'.joined other i other_in lt).0 (is'.in_order.is_member (number_of m i) class_in) in
      let same : number_of n other ≡ number_of n i = (is.joined other i other_in lt).1 fellows in
      let no_later : first_of n (number_of n other) ≤ other = is.in_order.is_least other (rw is.each other_in) in
      subst (λ c. first_of n c ≤ other) same no_later

module _ (count : ℕ) (pairs : List (ℕ × ℕ)) (n m : Numbering) (is : IsNumbering count pairs n) (is' : IsNumbering count pairs m) where
  same_first : (i : ℕ) → i < count → first_of n (number_of n i) ≡ first_of m (number_of m i)
  same_first i lt = omega (arith, first_before count pairs n m is is' i lt, first_before count pairs m n is' is i lt)

  -- the other numbering's class of a class's first member
  abbrev other_class : ℕ → ℕ
  other_class c = number_of m (first_of n c)

  module _ (c : ℕ) (c_in : c < length n.firsts) where
    member_in : first_of n c < count
    member_in = rw (← is.each) (is.in_order.is_item c c_in)

    other_in : other_class c < length m.firsts
    other_in = is'.in_order.in_class (first_of n c) (rw is'.each member_in)

    other_first : first_of m (other_class c) ≡ first_of n c
    other_first = sym (same_first (first_of n c) member_in) ∙ ap (first_of n) (is.in_order.is_member c c_in)

  other_rises : (c d : ℕ) → c < d → d < length n.firsts → other_class c < other_class d
  other_rises c d less d_in =
      let c_in : c < length n.firsts = omega arith in
      let rises : first_of n c < first_of n d = is.in_order.rise c d less d_in in
      let at_c = other_first c c_in in
      let at_d = other_first d d_in in
      elim (cases_order (other_class c) (other_class d)) [
        | inl e ↦ let same : first_of m (other_class c) ≡ first_of m (other_class d) = ap (first_of m) e in absurd (omega (arith, same, at_c, at_d, rises))
        | inr apart ↦ elim apart [
          | inl below ↦ below
          | inr above ↦ let falls : first_of m (other_class d) < first_of m (other_class c) = is'.in_order.rise (other_class d) (other_class c) above (other_in c c_in) in absurd (omega (arith, falls, at_c, at_d, rises))
        ]
      ]

  other_no_less : (c : ℕ) → c < length n.firsts → c ≤ other_class c
  other_no_less zero c_in = omega arith
  other_no_less (suc c) c_in =
      let below : c < length n.firsts = omega arith in
      let less : c < suc c = omega arith in
      omega (arith, other_no_less c below, other_rises c (suc c) less c_in)

  no_fewer : length n.firsts ≤ length m.firsts
  no_fewer = by (length n.firsts) refl
    where
      by : (k : ℕ) → length n.firsts ≡ k → k ≤ length m.firsts
      by zero e = omega arith
      by (suc k) e = let last : k < length n.firsts = omega arith in omega (arith, other_no_less k last, other_in k last)

  no_later : (c : ℕ) → c < length n.firsts → first_of m c ≤ first_of n c
  no_later c c_in =
      let at_c = other_first c c_in in
      elim (cases_order c (other_class c)) [
        | inl e ↦ let same : first_of m c ≡ first_of m (other_class c) = ap (first_of m) e in omega (arith, same, at_c)
        | inr apart ↦ elim apart [
          | inl less ↦ let rises : first_of m c < first_of m (other_class c) = is'.in_order.rise c (other_class c) less (other_in c c_in) in omega (arith, rises, at_c)
          | inr more ↦ absurd (omega (arith, more, other_no_less c c_in))
        ]
      ]

-- two numberings of as many items by the same pairs are the same
pub numbering_same : (count : ℕ) (pairs : List (ℕ × ℕ)) (n m : Numbering) → IsNumbering count pairs n → IsNumbering count pairs m → n ≡ m
numbering_same count pairs n m is is' = ap₂ (λ (numbers : List ℕ) (firsts : List ℕ). let whole : Numbering = record { numbers = numbers; firsts = firsts } in whole) numbers_same firsts_same
  where
    as_many : length n.firsts ≡ length m.firsts
    as_many = omega (arith, no_fewer count pairs n m is is', no_fewer count pairs m n is' is)

    firsts_same : n.firsts ≡ m.firsts
    firsts_same = ext_get_or 0 n.firsts m.firsts as_many (λ c lt. omega (arith, no_later count pairs n m is is' c lt, no_later count pairs m n is' is c (omega (arith, lt, as_many))))

    numbers_same : n.numbers ≡ m.numbers
    numbers_same = ext_get_or 0 n.numbers m.numbers (is.each ∙ sym is'.each) by
      where
        by : (i : ℕ) → i < length n.numbers → number_of n i ≡ number_of m i
        by i lt =
            let item : i < count = rw (← is.each) lt in
            let other_class_in : number_of m i < length n.firsts = rw as_many (is'.in_order.in_class i (rw is'.each item)) in
            let first_of_other : first_of m (number_of m i) ≡ first_of n (number_of m i) = ap (λ (firsts : List ℕ). get_or firsts (number_of m i) 0) (sym firsts_same) in
            one_first n is.in_order (number_of n i) (number_of m i) (is.in_order.in_class i lt) other_class_in (same_first count pairs n m is is' i item ∙ first_of_other)

-- a numbering by pairs is one by others that join the same
pub numbering_by_same : (count : ℕ) (pairs others : List (ℕ × ℕ)) (n : Numbering) → JoinTheSame pairs others → IsNumbering count pairs n → IsNumbering count others n
numbering_by_same count pairs others n same is = record {
  each = is.each;
  joined = λ i j i_in j_in. (λ e. (same i j).0 ((is.joined i j i_in j_in).0 e), λ h. (is.joined i j i_in j_in).1 ((same i j).1 h));
  in_order = is.in_order;
}
