-- Law: the instances of a hierarchy, which are those of its tree in preorder, are those that come first one by one until none waits.
use Rattle.std.proofs.Common.{◌≡◌, ℕ, suc, ◌+◌, List, [], ◌∷◌, ◌++◌, length, refl, sym, ap, subst, append_assoc, append-nil, ◌∙◌, arith}
use Rattle.std.proofs.lemmas.List.{length-append}
use Rattle.cpn_module.specs.Hierarchy.{PlainHierarchy}
use Rattle.cpn_fuse.specs.Instances.{PlainInstance, parts_of, Unfolds, with_parts, UnfoldEach, none_left, one_more, top_of, AreInstances, ComeFirst, none_yet, one_first}

module _ (h : PlainHierarchy) where
  -- ---- what stands below an instance comes before what waits behind it

  mutual
    tree_comes : {n : ℕ} {x : PlainInstance} {is : List PlainInstance} → Unfolds h n x is → (waiting more later : List PlainInstance) → ComeFirst h (n + length is) waiting more later → ComeFirst h n (x ∷ waiting) (is ++ more) later
    tree_comes (with_parts n x below each) waiting more later come =
        let number : n + suc (length below) ≡ suc n + length below = omega arith in
        one_first n x waiting (below ++ more) later (each_comes each waiting more later (subst (λ (k : ℕ). ComeFirst h k waiting more later) number come))

    each_comes : {n : ℕ} {xs is : List PlainInstance} → UnfoldEach h n xs is → (waiting more later : List PlainInstance) → ComeFirst h (n + length is) waiting more later → ComeFirst h n (xs ++ waiting) (is ++ more) later
    each_comes (none_left n) waiting more later come = let number : n + 0 ≡ n = omega arith in subst (λ (k : ℕ). ComeFirst h k waiting more later) number come
    each_comes (one_more n x xs is rest first others) waiting more later come =
        let number : n + length (is ++ rest) ≡ n + length is + length rest = omega (arith, length-append is rest) in
        let behind : ComeFirst h (n + length is) (xs ++ waiting) (rest ++ more) later = each_comes others waiting more later (subst (λ (k : ℕ). ComeFirst h k waiting more later) number come) in
        subst (λ (all : List PlainInstance). ComeFirst h n (x ∷ xs ++ waiting) all later) (sym (append_assoc is rest more)) (tree_comes first (xs ++ waiting) (rest ++ more) later behind)

  -- ---- what comes until none waits is what stands below the instances that waited

  each_split : (xs ys : List PlainInstance) (n : ℕ) (is : List PlainInstance) → UnfoldEach h n (xs ++ ys) is
      → (front : List PlainInstance) × (behind : List PlainInstance) × UnfoldEach h n xs front × UnfoldEach h (n + length front) ys behind × (is ≡ front ++ behind)
  each_split [] ys n is all = let number : n ≡ n + 0 = omega arith in ([], is, none_left n, subst (λ (k : ℕ). UnfoldEach h k ys is) number all, refl)
  each_split (x ∷ xs) ys _ _ (one_more n _ _ is rest first others) =
      let parts = each_split xs ys (n + length is) rest others in
      let number : n + length is + length parts.0 ≡ n + length (is ++ parts.0) = omega (arith, length-append is parts.0) in
      (is ++ parts.0, parts.1, one_more n x xs is parts.0 first parts.2, subst (λ (k : ℕ). UnfoldEach h k ys parts.1) number parts.3, ap (λ (more : List PlainInstance). is ++ more) parts.4 ∙ sym (append_assoc is parts.0 parts.1))

  come_unfolded : {n : ℕ} {waiting is later : List PlainInstance} → ComeFirst h n waiting is later → later ≡ [] → UnfoldEach h n waiting is
  come_unfolded (none_yet n waiting) e = subst (λ (ws : List PlainInstance). UnfoldEach h n ws []) (sym e) (none_left n)
  come_unfolded (one_first n x waiting is later come) e =
      let parts = each_split (parts_of h n x) waiting (suc n) is (come_unfolded come e) in
      let number : suc n + length parts.0 ≡ n + suc (length parts.0) = omega arith in
      let others : UnfoldEach h (n + suc (length parts.0)) waiting parts.1 = subst (λ (k : ℕ). UnfoldEach h k waiting parts.1) number parts.3 in
      subst (λ (all : List PlainInstance). UnfoldEach h n (x ∷ waiting) (x ∷ all)) (sym parts.4) (one_more n x waiting (x ∷ parts.0) parts.1 (with_parts n x parts.0 parts.2) others)

  no_more : {n : ℕ} {is : List PlainInstance} → UnfoldEach h n [] is → is ≡ []
  no_more (none_left n) = refl

  alone : {n : ℕ} {x : PlainInstance} {is : List PlainInstance} → UnfoldEach h n (x ∷ []) is → Unfolds h n x is
  alone (one_more n x _ is rest first others) = subst (Unfolds h n x) (sym (ap (λ (more : List PlainInstance). is ++ more) (no_more others) ∙ append-nil is)) first

  -- ---- both ways

  pub instances_come : (is : List PlainInstance) → AreInstances h is → ComeFirst h 0 (top_of h ∷ []) is []
  instances_come is tree = subst (λ (all : List PlainInstance). ComeFirst h 0 (top_of h ∷ []) all []) (append-nil is) (tree_comes tree [] [] [] (none_yet (0 + length is) []))

  pub come_instances : (is : List PlainInstance) → ComeFirst h 0 (top_of h ∷ []) is [] → AreInstances h is
  come_instances is come = alone (come_unfolded come refl)
