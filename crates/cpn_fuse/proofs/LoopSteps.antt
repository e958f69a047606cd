-- Loops, step by step: pairs that are pushed one after another, marks, picked instances.
use Rattle.std.proofs.Common.{◌≡◌, ℕ, ◌+◌, ◌<◌, Bool, true, false, List, [], ◌∷◌, ◌++◌, length, get_or, take, Option, Some, None, refl, sym, ap, subst, ◌∙◌, append_assoc, inl, inr, arith}
use Rattle.std.specs.Prelude.{◌≢◌, Contains, slice_index_or, slice_set, IsSome}
use Rattle.std.specs.List.{flat_map}
use Rattle.std.proofs.lemmas.Bool.{cases_order}
use Rattle.std.proofs.lemmas.List.{append-nil, take_more, get_or-set_same, get_or-set_other}
use Rattle.std.proofs.lemmas.List.Concat.{flat_map-append}
use Rattle.std.proofs.lemmas.List.Elements.{Contains-push, Contains-push_cases, Contains-append_left}
use Rattle.cpn_fuse.specs.Instances.{PlainInstance, instance_at}
use Rattle.cpn_fuse.specs.FewerPairs.{ArePicked, AreMarked}

-- more are pushed
pub flat_mapped_more : {X Y : Type 0} (f : X → List Y) (xs : List X) (i : ℕ) (d : X) → i < length xs → (start now next : List Y) → now ≡ start ++ flat_map f (take i xs) → next ≡ now ++ f (get_or xs i d) → next ≡ start ++ flat_map f (take (i + 1) xs)
flat_mapped_more {X} {Y} f xs i d lt start now next is_now is_next =
    let x = get_or xs i d in
    let alone : flat_map f (x ∷ []) ≡ f x = append-nil (f x) in
    let all : flat_map f (take (i + 1) xs) ≡ flat_map f (take i xs) ++ f x = ap (flat_map f) (take_more xs i d lt) ∙ flat_map-append f (take i xs) (x ∷ []) ∙ ap (λ (ys : List Y). flat_map f (take i xs) ++ ys) alone in
    is_next ∙ ap (λ (ys : List Y). ys ++ f x) is_now ∙ append_assoc start (flat_map f (take i xs)) (f x) ∙ ap (λ (ys : List Y). start ++ ys) (sym all)

-- ---- marks

module _ (marks : List Bool) (numbers : List ℕ) (q : ℕ) (lt : q < length marks) (are : AreMarked marks numbers) where
  mark_told : (r : ℕ) → slice_index_or (slice_set marks q true) r false ≡ true → Contains (numbers ++ q ∷ []) r
  mark_told r e =
      elim (cases_order r q) [
        | inl same ↦ subst (λ (n : ℕ). Contains (numbers ++ q ∷ []) n) (sym same) (Contains-push numbers q)
        | inr apart ↦
            let other : r ≢ q = elim apart [ inl less ↦ omega arith | inr more ↦ omega arith ] in
            Contains-append_left numbers (q ∷ []) r ((are r).0 (rw (get_or-set_other marks q r true false other) at e))
      ]

  told_mark : (r : ℕ) → Contains (numbers ++ q ∷ []) r → slice_index_or (slice_set marks q true) r false ≡ true
  told_mark r c =
      elim (cases_order r q) [
        | inl same ↦ subst (λ (n : ℕ). slice_index_or (slice_set marks q true) n false ≡ true) (sym same) (get_or-set_same marks q true false lt)
        | inr apart ↦
            let other : r ≢ q = elim apart [ inl less ↦ omega arith | inr more ↦ omega arith ] in
            elim (Contains-push_cases numbers q r c) [
              | inl before ↦ rw (get_or-set_other marks q r true false other) ((are r).1 before)
              | inr last ↦ absurd (other (sym last))
            ]
      ]

  -- one mark more
  pub marked_more : AreMarked (slice_set marks q true) (numbers ++ q ∷ [])
  marked_more r = (mark_told r, told_mark r)

-- ---- picked instances

-- of the first so many instances some are picked
pub record ArePickedTo (is : List PlainInstance) (picked : List (Option ℕ)) (k : ℕ) : Type 0 where
  pub instance : (m i : ℕ) → slice_index_or picked m None ≡ Some i → (i < k) × ((instance_at is i).of_module ≡ m)
  pub each : (i : ℕ) → i < k → IsSome (slice_index_or picked (instance_at is i).of_module None)

module _ (is : List PlainInstance) (picked : List (Option ℕ)) (k m : ℕ) (of_module : (instance_at is k).of_module ≡ m) (lt : m < length picked) (are : ArePickedTo is picked k) where
  abbrev next_picked : List (Option ℕ)
  next_picked = slice_set picked m (Some k)

  -- the next instance is picked
  at_its_module : slice_index_or next_picked m None ≡ Some k
  at_its_module = get_or-set_same picked m (Some k) None lt

  at_others : (n : ℕ) → n ≢ m → slice_index_or next_picked n None ≡ slice_index_or picked n None
  at_others n other = get_or-set_other picked m n (Some k) None other

  its_instance : (n i : ℕ) → slice_index_or next_picked n None ≡ Some i → (i < k + 1) × ((instance_at is i).of_module ≡ n)
  its_instance n i e =
      elim (cases_order n m) [
        | inl same ↦
            let some : Some k ≡ Some i = sym at_its_module ∙ ap (λ (v : ℕ). slice_index_or next_picked v None) (sym same) ∙ e in
            let number : k ≡ i = cc in
            (omega arith, ap (λ (j : ℕ). (instance_at is j).of_module) (sym number) ∙ of_module ∙ sym same)
        | inr apart ↦
            let other : n ≢ m = elim apart [ inl less ↦ omega arith | inr more ↦ omega arith ] in
            let old = are.instance n i (sym (at_others n other) ∙ e) in
            let before = old.0 in
            (omega arith, old.1)
      ]

  its_each : (i : ℕ) → i < k + 1 → IsSome (slice_index_or next_picked (instance_at is i).of_module None)
  its_each i i_in =
      let n = (instance_at is i).of_module in
      elim (cases_order n m) [
        | inl same ↦ rw (same, at_its_module) refl
        | inr apart ↦
            let other : n ≢ m = elim apart [ inl less ↦ omega arith | inr more ↦ omega arith ] in
            rw (at_others n other) (are.each i (before other))
      ]
    where
      before : ((instance_at is i).of_module ≢ m) → i < k
      before other =
          elim (cases_order i k) [
            | inl same ↦ absurd (other (ap (λ (j : ℕ). (instance_at is j).of_module) same ∙ of_module))
            | inr apart ↦ elim apart [ inl less ↦ less | inr more ↦ absurd (omega arith) ]
          ]

  pub picked_more : ArePickedTo is next_picked (k + 1)
  picked_more = record { instance = its_instance; each = its_each }

-- all are looked at
pub all_picked_from : (is : List PlainInstance) (picked : List (Option ℕ)) (k : ℕ) → length is ≡ k → ArePickedTo is picked k → ArePicked is picked
all_picked_from is picked k e are = record {
  instance = λ m i is_some. let told = are.instance m i is_some in (rw e told.0, told.1);
  each = λ i lt. are.each i (rw (← e) lt);
}
