-- Trees whose items are numbered one after another: a root begins a class, and each other item has its parent's.
use Rattle.std.proofs.Common.{◌≡◌, ℕ, ◌<◌, ◌≤◌, ◌+◌, List, [], ◌∷◌, ◌++◌, length, get_or, refl, sym, ap, subst, ◌∙◌, arith, below_more}
use Rattle.std.proofs.lemmas.List.{get_or_append_left, get_or_push, length_push}
use Rattle.cpn_classes.specs.Joined.{IsJoined, itself, turned, through}
use Rattle.cpn_classes.specs.Numbering.{Numbering, number_of, first_of, IsInOrder, IsNumbering}
use Rattle.cpn_classes.specs.Trees.{AreTrees, links}
use Rattle.cpn_classes.specs.JoinedPairs.{alike}
use Rattle.cpn_classes.proofs.Links.{to_parent, linked}

-- The first items are numbered: each has its parent's class, and is joined to the first member of its class.
pub record AreNumbered (parents : List ℕ) (k : ℕ) (n : Numbering) : Type 0 where
  pub each : length n.numbers ≡ k
  pub in_order : IsInOrder n
  pub of_parent : (i : ℕ) → i < k → number_of n i ≡ number_of n (get_or parents i 0)
  pub to_first : (i : ℕ) → i < k → IsJoined (links parents) i (first_of n (number_of n i))

module _ (parents : List ℕ) (trees : AreTrees parents) (k : ℕ) (k_in : k < length parents) (n : Numbering) (is : AreNumbered parents k n) where
  -- the numbers, with one more
  module _ (number : ℕ) where
    before : (i : ℕ) → i < k → get_or (n.numbers ++ number ∷ []) i 0 ≡ number_of n i
    before i lt = get_or_append_left n.numbers (number ∷ []) 0 i (rw is.each lt)

    last : get_or (n.numbers ++ number ∷ []) k 0 ≡ number
    last = get_or_push n.numbers number 0 k is.each

    one_longer : length (n.numbers ++ number ∷ []) ≡ k + 1
    one_longer = length_push n.numbers number ∙ ap (λ m. m + 1) is.each

  -- the item is not a root, and has its parent's class
  module _ (other : get_or parents k 0 ≡ k → ⊥) where
    abbrev parent : ℕ
    parent = get_or parents k 0

    abbrev with_member : Numbering
    with_member = record { numbers = n.numbers ++ number_of n parent ∷ []; firsts = n.firsts }

    parent_before : parent < k
    parent_before = omega (arith, trees k k_in, other)

    -- each item has the class that it had, and the item its parent's
    old_or_parent : (P : ℕ → ℕ → Type 0) → ((i : ℕ) → i < k → P i (number_of n i)) → P k (number_of n parent) → (i : ℕ) → i < k + 1 → P i (number_of with_member i)
    old_or_parent P old here =
        below_more (λ i. P i (number_of with_member i)) k
        (λ i lt. subst (λ c. P i c) (sym (before (number_of n parent) i lt)) (old i lt))
        (subst (λ c. P k c) (sym (last (number_of n parent))) here)

    parent_keeps : (i : ℕ) → i < k → number_of with_member (get_or parents i 0) ≡ number_of n (get_or parents i 0)
    parent_keeps i lt = let le : get_or parents i 0 ≤ i = trees i (omega arith) in before (number_of n parent) (get_or parents i 0) (omega arith)

    pub member_numbered : AreNumbered parents (k + 1) with_member
    member_numbered = record {
      each = one_longer (number_of n parent);
      in_order = record {
        in_class = λ i lt. old_or_parent (λ i c. c < length n.firsts) (λ i lt. is.in_order.in_class i (rw is.each lt)) (is.in_order.in_class parent (rw is.each parent_before)) i (rw one_longer at lt);
        is_item = λ c lt. let was = is.in_order.is_item c lt in rw (one_longer (number_of n parent)) (omega (arith, was, is.each));
        is_member = λ c lt. before (number_of n parent) (first_of n c) (rw (← is.each) (is.in_order.is_item c lt)) ∙ is.in_order.is_member c lt;
        is_least = λ i lt. old_or_parent (λ i c. first_of n c ≤ i) (λ i lt. is.in_order.is_least i (rw is.each lt)) (omega (arith, is.in_order.is_least parent (rw is.each parent_before), parent_before)) i (rw one_longer at lt);
        rise = is.in_order.rise;
      };
      of_parent = below_more (λ i. number_of with_member i ≡ number_of with_member (get_or parents i 0)) k
          (λ i lt. before (number_of n parent) i lt ∙ is.of_parent i lt ∙ sym (parent_keeps i lt))
          (last (number_of n parent) ∙ sym (before (number_of n parent) parent parent_before));
      to_first = old_or_parent (λ i c. IsJoined (links parents) i (first_of n c)) is.to_first (through k parent _ (to_parent parents k k_in) (is.to_first parent parent_before));
    }

  -- the item is a root, and begins a class
  module _ (root : get_or parents k 0 ≡ k) where
    abbrev class : ℕ
    class = length n.firsts

    abbrev with_class : Numbering
    with_class = record { numbers = n.numbers ++ class ∷ []; firsts = n.firsts ++ k ∷ [] }

    firsts_longer : length with_class.firsts ≡ class + 1
    firsts_longer = length_push n.firsts k

    first_before : (c : ℕ) → c < class → first_of with_class c ≡ first_of n c
    first_before c lt = get_or_append_left n.firsts (k ∷ []) 0 c lt

    first_last : first_of with_class class ≡ k
    first_last = get_or_push n.firsts k 0 class refl

    -- each item has the class and its first member as before, and the root its own
    old_or_root : (P : ℕ → ℕ → ℕ → Type 0) → ((i : ℕ) → i < k → P i (number_of n i) (first_of n (number_of n i))) → P k class k → (i : ℕ) → i < k + 1 → P i (number_of with_class i) (first_of with_class (number_of with_class i))
    old_or_root P old here =
        below_more (λ i. P i (number_of with_class i) (first_of with_class (number_of with_class i))) k
        (λ i lt. rw (before class i lt, first_before (number_of n i) (is.in_order.in_class i (rw is.each lt))) (old i lt))
        (rw (last class, first_last) here)

    parent_stays : (i : ℕ) → i < k → number_of with_class (get_or parents i 0) ≡ number_of n (get_or parents i 0)
    parent_stays i lt = let le : get_or parents i 0 ≤ i = trees i (omega arith) in before class (get_or parents i 0) (omega arith)

    -- each class is an old one, or the new one
    old_or_new : (P : ℕ → ℕ → Type 0) → ((c : ℕ) → c < class → P c (first_of n c)) → P class k → (c : ℕ) → c < length with_class.firsts → P c (first_of with_class c)
    old_or_new P old here c lt =
        below_more (λ c. P c (first_of with_class c)) class
        (λ c lt. subst (λ f. P c f) (sym (first_before c lt)) (old c lt))
        (subst (λ f. P class f) (sym first_last) here)
        c (rw firsts_longer at lt)

    pub root_numbered : AreNumbered parents (k + 1) with_class
    root_numbered = record {
      each = one_longer class;
      in_order = record {
        in_class = λ i lt. rw firsts_longer (old_or_root (λ i c f. c < class + 1) (λ i lt. let was = is.in_order.in_class i (rw is.each lt) in omega (arith, was)) (omega arith) i (rw one_longer at lt));
        is_item = λ c lt. rw (one_longer class) (old_or_new (λ c f. f < k + 1) (λ c lt. let was = is.in_order.is_item c lt in omega (arith, was, is.each)) (omega arith) c lt);
        is_member = old_or_new (λ c f. number_of with_class f ≡ c) (λ c lt. before class (first_of n c) (rw (← is.each) (is.in_order.is_item c lt)) ∙ is.in_order.is_member c lt) (last class);
        is_least = λ i lt. old_or_root (λ i c f. f ≤ i) (λ i lt. is.in_order.is_least i (rw is.each lt)) (omega arith) i (rw one_longer at lt);
        rise = λ c d less lt. old_or_new (λ d f. c < d → first_of with_class c < f)
            (λ d d_in less. rw (first_before c (omega arith)) (is.in_order.rise c d less d_in))
            (λ less. rw (first_before c less) (let was = is.in_order.is_item c less in omega (arith, was, is.each)))
            d lt less;
      };
      of_parent = below_more (λ i. number_of with_class i ≡ number_of with_class (get_or parents i 0)) k
          (λ i lt. before class i lt ∙ is.of_parent i lt ∙ sym (parent_stays i lt))
          (ap (number_of with_class) (sym root));
      to_first = old_or_root (λ i c f. IsJoined (links parents) i f) is.to_first (itself k);
    }

-- all items are numbered
pub all_numbered : (parents : List ℕ) (k : ℕ) (n : Numbering) → length parents ≡ k → AreNumbered parents k n → IsNumbering k (links parents) n
all_numbered parents k n all is = record {
  each = is.each;
  joined = λ i j i_in j_in. (
    λ same. through i _ j (is.to_first i i_in) (rw same (turned j _ (is.to_first j j_in))),
    alike (links parents) (number_of n) (λ a b h. let link = linked parents a b h in rw link.1 (is.of_parent a (rw (← all) link.0))) i j,
  );
  in_order = is.in_order;
}
