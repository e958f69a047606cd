-- Two instances of a hierarchy stand at two places: no two stand for one substitution transition of one instance, and one alone stands
-- nowhere.
use Rattle.std.proofs.Common.{◌≡◌, ℕ, zero, suc, ◌<◌, ◌≤◌, List, [], ◌∷◌, ◌++◌, length, sym, ap, inl, inr, arith}
use Rattle.std.specs.Prelude.{Option, Some, None}
use Rattle.std.specs.List.{AllByRecursion}
use Rattle.std.proofs.lemmas.Bool.{cases_order}
use Rattle.std.proofs.lemmas.Option.{same_Some}
use Rattle.cpn_definitions.proofs.DistinctLists.{each_also}
use Rattle.cpn_definitions.proofs.RisingLists.{each_appended}
use Rattle.cpn_module.specs.Hierarchy.{PlainSubstitution, PlainHierarchy, structure_at}
use Rattle.cpn_fuse.proofs.InstanceTrees.{instances_come}
use Rattle.cpn_fuse.specs.Instances.{PlainPart, PlainInstance, instance_at, parts_from, parts_of, ComeFirst, none_yet, one_first, top_of, AreInstances}

-- two instances stand at two places
abbrev IsApart : PlainInstance → PlainInstance → Type 0
IsApart x y = x.part_of ≡ y.part_of → ⊥

-- no two of these are the same part
abbrev AreApart : List PlainInstance → Type 0
AreApart [] = Unit {0}
AreApart (x ∷ xs) = AllByRecursion (IsApart x) xs × AreApart xs

-- it stands nowhere or in an instance before a number; in an instance from a number on
abbrev IsOlder : ℕ → Option PlainPart → Type 0
IsOlder n None = Unit {0}
IsOlder n (Some part) = part.instance < n

abbrev IsNewer : ℕ → Option PlainPart → Type 0
IsNewer n None = ⊥
IsNewer n (Some part) = n ≤ part.instance

older_or_newer : (n : ℕ) (o p : Option PlainPart) → IsOlder n o → IsNewer n p → o ≡ p → ⊥
older_or_newer n o None older newer e = newer
older_or_newer n None (Some q) older newer e = cc
older_or_newer n (Some p) (Some q) older newer e = let same = ap (λ (x : PlainPart). x.instance) (same_Some p q e) in absurd (omega (arith, same))

still_older : (n : ℕ) (o : Option PlainPart) → IsOlder n o → IsOlder (suc n) o
still_older n None older = tt
still_older n (Some part) older = omega arith

newer_before : (n : ℕ) (o : Option PlainPart) → IsNewer (suc n) o → IsNewer n o
newer_before n None newer = newer
newer_before n (Some part) newer = omega arith

apart_behind : (xs ys : List PlainInstance) → AreApart xs → AreApart ys → AllByRecursion (λ x. AllByRecursion (IsApart x) ys) xs → AreApart (xs ++ ys)
apart_behind [] ys first second cross = second
apart_behind (x ∷ xs) ys first second cross = (each_appended (IsApart x) xs ys first.0 cross.0, apart_behind xs ys first.1 second cross.1)

-- ---- the parts of an instance

parts_newer : (n i : ℕ) (subs : List PlainSubstitution) → AllByRecursion (λ y. IsNewer n y.part_of) (parts_from n i subs)
parts_newer n i [] = tt
parts_newer n i (sub ∷ subs) = (let e : n ≤ n = omega arith in e, parts_newer n (suc i) subs)

parts_older : (n i : ℕ) (subs : List PlainSubstitution) → AllByRecursion (λ y. IsOlder (suc n) y.part_of) (parts_from n i subs)
parts_older n i [] = tt
parts_older n i (sub ∷ subs) = (let e : n < suc n = omega arith in e, parts_older n (suc i) subs)

later_parts : (n m k i : ℕ) (subs : List PlainSubstitution) → k < i → AllByRecursion (IsApart (record { of_module = m; part_of = Some (record { instance = n; substitution = k }) })) (parts_from n i subs)
later_parts n m k i [] lt = tt
later_parts n m k i (sub ∷ subs) lt = (
  (λ e. let same = ap (λ (x : PlainPart). x.substitution) (same_Some (record { instance = n; substitution = k }) (record { instance = n; substitution = i }) e) in absurd (omega (arith, same))),
  later_parts n m k (suc i) subs (omega arith),
)

parts_apart : (n i : ℕ) (subs : List PlainSubstitution) → AreApart (parts_from n i subs)
parts_apart n i [] = tt
parts_apart n i (sub ∷ subs) = (later_parts n sub.submodule i (suc i) subs (omega arith), parts_apart n (suc i) subs)

module _ (h : PlainHierarchy) where
  -- what holds of those that wait, and of each that stands in a later instance, holds of those that come
  come_hold : (Q : PlainInstance → Type 0) (n : ℕ) (waiting come later : List PlainInstance) → ComeFirst h n waiting come later → ((y : PlainInstance) → IsNewer n y.part_of → Q y) → AllByRecursion Q waiting → AllByRecursion Q come
  come_hold Q n waiting come later (none_yet _ _) newer all = tt
  come_hold Q n waiting come later (one_first _ x rest others _ comes) newer all = (
    all.0,
    come_hold Q (suc n) (parts_of h n x ++ rest) others later comes (λ y is. newer y (newer_before n y.part_of is))
        (each_appended Q (parts_of h n x) rest (each_also (λ y. IsNewer n y.part_of) Q newer (parts_of h n x) (parts_newer n 0 (structure_at h x.of_module).substitutions)) all.1),
  )

  -- where those that wait stand at two places, and in earlier instances, those that come stand at two places
  come_apart : (n : ℕ) (waiting come later : List PlainInstance) → ComeFirst h n waiting come later → AreApart waiting → AllByRecursion (λ y. IsOlder n y.part_of) waiting → AreApart come
  come_apart n waiting come later (none_yet _ _) apart older = tt
  come_apart n waiting come later (one_first _ x rest others _ comes) apart older =
      let parts : List PlainInstance = parts_of h n x in
      let newer_parts : AllByRecursion (λ y. IsNewer n y.part_of) (parts_of h n x) = parts_newer n 0 (structure_at h x.of_module).substitutions in (
        come_hold (IsApart x) (suc n) (parts ++ rest) others later comes (λ y newer e. older_or_newer (suc n) x.part_of y.part_of (still_older n x.part_of older.0) newer e)
            (each_appended (IsApart x) parts rest (each_also (λ y. IsNewer n y.part_of) (IsApart x) (λ y newer e. older_or_newer n x.part_of y.part_of older.0 newer e) parts newer_parts) apart.0),
        come_apart (suc n) (parts ++ rest) others later comes
            (apart_behind parts rest (parts_apart n 0 (structure_at h x.of_module).substitutions) apart.1
            (each_also (λ z. IsNewer n z.part_of) (λ z. AllByRecursion (IsApart z) rest)
            (λ z newer. each_also (λ y. IsOlder n y.part_of) (IsApart z) (λ y is e. older_or_newer n y.part_of z.part_of is newer (sym e)) rest older.1) parts newer_parts))
            (each_appended (λ y. IsOlder (suc n) y.part_of) parts rest (parts_older n 0 (structure_at h x.of_module).substitutions)
            (each_also (λ y. IsOlder n y.part_of) (λ y. IsOlder (suc n) y.part_of) (λ y is. still_older n y.part_of is) rest older.1)),
      )

-- ---- by their numbers

one_of : (Q : PlainInstance → Type 0) (xs : List PlainInstance) (j : ℕ) → j < length xs → AllByRecursion Q xs → Q (instance_at xs j)
one_of Q [] j lt all = absurd (omega arith)
one_of Q (x ∷ xs) zero lt all = all.0
one_of Q (x ∷ xs) (suc j) lt all = one_of Q xs j (omega arith) all.1

apart_at : (xs : List PlainInstance) (i j : ℕ) → i < j → j < length xs → AreApart xs → IsApart (instance_at xs i) (instance_at xs j)
apart_at [] i j lt in_j apart = absurd (omega arith)
apart_at (x ∷ xs) i zero lt in_j apart = absurd (omega arith)
apart_at (x ∷ xs) zero (suc j) lt in_j apart = one_of (IsApart x) xs j (omega arith) apart.0
apart_at (x ∷ xs) (suc i) (suc j) lt in_j apart = apart_at xs i j (omega arith) (omega arith) apart.1

-- Instances that are the same part are one.
pub one_place : (h : PlainHierarchy) (is : List PlainInstance) → AreInstances h is → (i j : ℕ) → i < length is → j < length is → (instance_at is i).part_of ≡ (instance_at is j).part_of → i ≡ j
one_place h is are i j in_i in_j same =
    elim (cases_order i j) [
      | inl e ↦ e
      | inr apart ↦ elim apart [
        | inl before ↦ absurd (apart_at is i j before in_j all same)
        | inr after ↦ absurd (apart_at is j i after in_i all (sym same))
      ]
    ]
  where
    all : AreApart is
    all = come_apart h 0 (top_of h ∷ []) is [] (instances_come h is are) (tt, tt) (tt, tt)
