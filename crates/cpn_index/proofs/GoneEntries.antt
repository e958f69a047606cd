-- How many old entries are gone: one fewer each time that one of another time is taken anew.
use Rattle.std.proofs.Common.{◌≡◌, ℕ, ◌+◌, ◌==◌, Bool, true, false, not, cond, List, [], ◌∷◌, length, Some, refl, sym, ap, ◌∙◌, subst, arith, inl, inr, Ordering, Less, Equal, is_lt, eqb-true}
use Rattle.std.specs.List.{list_any, AllByRecursion}
use Rattle.std.specs.Ordering.{is_eq}
use Rattle.std.proofs.lemmas.Bool.{and_parts, and_from}
use Rattle.std.proofs.lemmas.Cmp.{tied_itself}
use Rattle.cpn_definitions.specs.Lists.{Rises, with_item}
use Rattle.cpn_definitions.specs.Marking.{Marking}
use Rattle.cpn_definitions.specs.Net.{PlainNet}
use Rattle.cpn_definitions.specs.Occurrence.{PlainElement}
use Rattle.cpn_definitions.specs.Enabled.{PlainEntry, element_cmp, entry_cmp, IsEarliest, Enabled}
use Rattle.cpn_definitions.proofs.KeyedEntries.{equal_from}
use Rattle.cpn_definitions.proofs.NumberTests.{equals_itself}
use Rattle.cpn_definitions.proofs.OneEnabledList.{entry_cmp_total, after_first}
use Rattle.cpn_definitions.proofs.RisingLists.{IsIn, in_from_contains, contains_from_in, one_that_passes, some_passes}
use Rattle.cpn_due.specs.Due.{PlainEnabled, entries_in, enabled_cmp, is_of, kept_of, without}
use Rattle.cpn_index.specs.UpdateWork.{is_same_entry, gone, gone_number}
use Rattle.cpn_index.specs.Retimed.{IsOfNet}
use Rattle.cpn_index.proofs.KeptLists.{alike, one_element, covered_may}

-- whether the entry of an element is gone from the final list
abbrev pub is_gone : List PlainEntry → PlainEnabled → Bool
is_gone final x = not (list_any (is_same_entry x.entry) final)

abbrev pub one_if : Bool → ℕ
one_if true = 1
one_if false = 0

gone_first : (final : List PlainEntry) (x : PlainEnabled) (xs : List PlainEnabled) → gone_number final (x ∷ xs) ≡ one_if (is_gone final x) + gone_number final xs
gone_first final x xs = split (is_gone final x)
  where
    split : (b : Bool) → length (cond b (x.entry ∷ gone (entries_in xs) final) (gone (entries_in xs) final)) ≡ one_if b + gone_number final xs
    split true = omega arith
    split false = omega arith

pub gone_with_item : (final : List PlainEntry) (x : PlainEnabled) (ys : List PlainEnabled) → gone_number final (with_item enabled_cmp x ys) ≡ one_if (is_gone final x) + gone_number final ys
gone_with_item final x [] = gone_first final x []
gone_with_item final x (y ∷ ys) = split (is_lt (enabled_cmp x y)) (gone_with_item final x ys)
  where
    split : (b : Bool) → gone_number final (with_item enabled_cmp x ys) ≡ one_if (is_gone final x) + gone_number final ys
        → gone_number final (cond b (x ∷ y ∷ ys) (y ∷ with_item enabled_cmp x ys)) ≡ one_if (is_gone final x) + gone_number final (y ∷ ys)
    split true rest = gone_first final x (y ∷ ys)
    split false rest =
        let first = gone_first final y (with_item enabled_cmp x ys) in
        let second = gone_first final y ys in
        omega (arith, first, second, rest)

-- nothing is taken out where nothing is of the element
pub none_out : (e : PlainElement) (xs : List PlainEnabled) → ((x : PlainEnabled) → IsIn x xs → is_of e x ≡ false) → without e xs ≡ xs
none_out e [] none = refl
none_out e (x ∷ xs) none = split (is_of e x) (none x (inl refl)) (none_out e xs (λ y h. none y (inr h)))
  where
    split : (b : Bool) → b ≡ false → without e xs ≡ xs → cond (not b) (x ∷ without e xs) (without e xs) ≡ x ∷ xs
    split true is rest = cc
    split false is rest = ap (λ ys. x ∷ ys) rest

-- behind the one that is of the element there is no other
pub none_behind : (e : PlainElement) (x : PlainEnabled) (xs : List PlainEnabled) → AllByRecursion (λ y. enabled_cmp x y ≡ Less) xs → is_of e x ≡ true → (y : PlainEnabled) → IsIn y xs → is_of e y ≡ false
none_behind e x xs all of y h = split (is_of e y) refl
  where
    clash : (o : Ordering) → o ≡ Less → o ≡ Equal → ⊥
    clash o less equal = cc

    split : (b : Bool) → is_of e y ≡ b → b ≡ false
    split true is = absurd (clash (enabled_cmp x y) (after_first enabled_cmp x y xs all h) (alike e x y of is))
    split false is = refl

-- the one that is taken out, and the others
pub gone_without : (final : List PlainEntry) (e : PlainElement) (xs : List PlainEnabled) (x : PlainEnabled) → Rises enabled_cmp xs → kept_of e xs ≡ Some x → gone_number final xs ≡ one_if (is_gone final x) + gone_number final (without e xs)
gone_without final e [] x rising kept = cc
gone_without final e (y ∷ xs) x rising kept = split (is_of e y) refl kept (λ is. gone_without final e xs x rising.1 is)
  where
    some : (y x : PlainEnabled) → Some y ≡ Some x → y ≡ x
    some y x is = cc

    split
        : (b : Bool) → is_of e y ≡ b → cond b (Some y) (kept_of e xs) ≡ Some x → (kept_of e xs ≡ Some x → gone_number final xs ≡ one_if (is_gone final x) + gone_number final (without e xs))
        → gone_number final (y ∷ xs) ≡ one_if (is_gone final x) + gone_number final (cond (not b) (y ∷ without e xs) (without e xs))
    split true of is later =
        gone_first final y xs
        ∙ ap (λ (z : PlainEnabled). one_if (is_gone final z) + gone_number final xs) (some y x is)
        ∙ ap (λ (ys : List PlainEnabled). one_if (is_gone final x) + gone_number final ys) (sym (none_out e xs (none_behind e y xs rising.0 of)))
    split false of is later =
        let first = gone_first final y xs in
        let second = gone_first final y (without e xs) in
        let rest = later is in
        omega (arith, first, second, rest)

module _ (n : PlainNet) (m : Marking) (final : List PlainEntry) (enabled : Enabled n m 0 final) where
  -- what has its least time is not gone
  pub not_gone : (x : PlainEnabled) → IsEarliest n m 0 x.entry → is_gone final x ≡ false
  not_gone x is =
      ap not (some_passes (is_same_entry x.entry) final x.entry (in_from_contains final x.entry ((enabled.exact x.entry).1 is))
      (and_from _ _ (ap is_eq (tied_itself entry_cmp_total x.entry)) (equals_itself x.entry.earliest)))

  -- and what is not gone has its least time
  least_if_there : (x : PlainEnabled) → IsOfNet n x → is_gone final x ≡ false → IsEarliest n m 0 x.entry
  least_if_there x own there =
      let one = one_that_passes (is_same_entry x.entry) final (not_not (list_any (is_same_entry x.entry) final) there) in
      let its = (enabled.exact one.0).0 (contains_from_in final one.0 one.1) in
      let parts = and_parts (is_eq (entry_cmp x.entry one.0)) (x.entry.earliest == one.0.earliest) one.2 in
      let same = one_element n x.entry.element one.0.element own.may (covered_may n m one.0.earliest one.0.element its.is_covered) (equal_from (element_cmp x.entry.element one.0.element) parts.0) in
      subst (IsEarliest n m 0) (sym (entry_is x.entry.earliest one.0.earliest x.entry.element one.0.element (eqb-true x.entry.earliest one.0.earliest parts.1) same)) its
    where
      not_not : (b : Bool) → not b ≡ false → b ≡ true
      not_not true is = refl
      not_not false is = cc

      entry_is : (s t : ℕ) (e f : PlainElement) → s ≡ t → e ≡ f → ◌≡◌ {A = PlainEntry} (record { earliest = s; element = e }) (record { earliest = t; element = f })
      entry_is s t e f time same = cc

  -- so one that has not its least time is gone
  pub gone_if_late : (x : PlainEnabled) → IsOfNet n x → (IsEarliest n m 0 x.entry → ⊥) → is_gone final x ≡ true
  gone_if_late x own late = split (is_gone final x) refl
    where
      split : (b : Bool) → is_gone final x ≡ b → b ≡ true
      split true is = refl
      split false is = absurd (late (least_if_there x own is))
