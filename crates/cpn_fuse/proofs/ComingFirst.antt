-- Preorder, instance by instance: one list of instances, and of no more than it come first.
use Rattle.std.proofs.Common.{◌≡◌, ℕ, suc, ◌+◌, ◌<◌, ◌≤◌, List, [], ◌∷◌, ◌++◌, length, refl, sym, ap, subst, arith}
use Rattle.cpn_module.specs.Hierarchy.{PlainHierarchy}
use Rattle.cpn_fuse.specs.Instances.{PlainInstance, parts_of, ComeFirst, none_yet, one_first, top_of, AreInstances, AreMoreThan}
use Rattle.cpn_fuse.specs.PlaceInstances.{place_count, transition_count}
use Rattle.cpn_fuse.specs.Unfolded.{UnfoldingRefusal, IsRefusedFor, many_instances, many_places, many_transitions, IsUnfolded}
use Rattle.cpn_fuse.proofs.InstanceTrees.{instances_come}

module _ (h : PlainHierarchy) where
  -- one instance more comes, and its parts wait before what waits
  pub come_more : (n : ℕ) (waiting is later : List PlainInstance) (x : PlainInstance) (rest : List PlainInstance) → ComeFirst h n waiting is later → later ≡ x ∷ rest → ComeFirst h n waiting (is ++ x ∷ []) (parts_of h (n + length is) x ++ rest)
  come_more _ _ _ _ x rest (none_yet n waiting) e =
      let start : ComeFirst h n (x ∷ rest) (x ∷ []) (parts_of h n x ++ rest) = one_first n x rest [] _ (none_yet (suc n) (parts_of h n x ++ rest)) in
      let same : n ≡ n + 0 = omega arith in
      subst (λ (w : List PlainInstance). ComeFirst h n w (x ∷ []) (parts_of h (n + 0) x ++ rest)) (sym e) (subst (λ (k : ℕ). ComeFirst h n (x ∷ rest) (x ∷ []) (parts_of h k x ++ rest)) same start)
  come_more _ _ _ _ x rest (one_first n y waiting is later come) e =
      let number : suc n + length is ≡ n + suc (length is) = omega arith in
      one_first n y waiting (is ++ x ∷ []) _ (subst (λ (k : ℕ). ComeFirst h (suc n) (parts_of h n y ++ waiting) (is ++ x ∷ []) (parts_of h k x ++ rest)) number (come_more _ _ _ _ x rest come e))

  -- what comes before nothing comes once
  comes_once : (n : ℕ) (waiting is is' later later' : List PlainInstance) → ComeFirst h n waiting is later → ComeFirst h n waiting is' later' → later ≡ [] → later' ≡ [] → is ≡ is'
  comes_once _ _ _ _ _ _ (none_yet n waiting) (none_yet _ _) e e' = refl
  comes_once _ _ _ _ _ _ (none_yet n _) (one_first _ x waiting is later come) e e' = cc
  comes_once _ _ _ _ _ _ (one_first n x waiting is later come) (none_yet _ _) e e' = cc
  comes_once _ _ _ _ _ _ (one_first n x waiting is later come) (one_first _ _ _ is' later' come') e e' = ap (λ (xs : List PlainInstance). x ∷ xs) (comes_once _ _ _ _ _ _ come come' e e')

  -- no more come first than come before nothing
  comes_first : (n : ℕ) (waiting first is later later' : List PlainInstance) → ComeFirst h n waiting first later → ComeFirst h n waiting is later' → later' ≡ [] → length first ≤ length is
  comes_first _ _ _ _ _ _ (none_yet n waiting) come' e = omega arith
  comes_first _ _ _ _ _ _ (one_first n x waiting is later come) (none_yet _ _) e = cc
  comes_first _ _ _ _ _ _ (one_first n x waiting is later come) (one_first _ _ _ is' later' come') e = let shorter : length is ≤ length is' = comes_first _ _ _ _ _ _ come come' e in omega arith

  -- a hierarchy has one list of instances
  pub one_unfolding : (is is' : List PlainInstance) → AreInstances h is → AreInstances h is' → is ≡ is'
  one_unfolding is is' come come' = comes_once 0 (top_of h ∷ []) is is' [] [] (instances_come h is come) (instances_come h is' come') refl refl

  -- where there are more instances than so many, the list has more
  pub more_than : (is : List PlainInstance) (count : ℕ) → AreInstances h is → AreMoreThan h count → count < length is
  more_than is count come more = omega (arith, more.many, comes_first 0 (top_of h ∷ []) more.first is more.later [] more.come (instances_come h is come) refl)

  -- none that is unfolded is refused
  pub not_both : (is : List PlainInstance) (refusal : UnfoldingRefusal) → IsUnfolded h is → IsRefusedFor h refusal → ⊥
  not_both is _ u (many_instances more) = omega (arith, u.few_instances, more_than is 4096 u.instances more)
  not_both is _ u (many_places is' come few many) = let same : place_count h is ≡ place_count h is' = ap (place_count h) (one_unfolding is is' u.instances come) in omega (arith, u.few_places, many, same)
  not_both is _ u (many_transitions is' come few few' many) = let same : transition_count h is ≡ transition_count h is' = ap (transition_count h) (one_unfolding is is' u.instances come) in omega (arith, u.few_transitions, many, same)

  -- there is one reason for a refusal
  pub one_refusal : (r s : UnfoldingRefusal) → IsRefusedFor h r → IsRefusedFor h s → r ≡ s
  one_refusal _ _ (many_instances more) (many_instances _) = refl
  one_refusal _ _ (many_instances more) (many_places is come few many) = absurd (omega (arith, few, more_than is 4096 come more))
  one_refusal _ _ (many_instances more) (many_transitions is come few few' many) = absurd (omega (arith, few, more_than is 4096 come more))
  one_refusal _ _ (many_places is come few many) (many_instances more) = absurd (omega (arith, few, more_than is 4096 come more))
  one_refusal _ _ (many_places is come few many) (many_places _ _ _ _) = refl
  one_refusal _ _ (many_places is come few many) (many_transitions is' come' few' few_places many') = absurd (omega (arith, many, few_places, ap (place_count h) (one_unfolding is is' come come')))
  one_refusal _ _ (many_transitions is come few few_places many) (many_instances more) = absurd (omega (arith, few, more_than is 4096 come more))
  one_refusal _ _ (many_transitions is come few few_places many) (many_places is' come' few' many') = absurd (omega (arith, few_places, many', ap (place_count h) (one_unfolding is is' come come')))
  one_refusal _ _ (many_transitions is come few few_places many) (many_transitions _ _ _ _ _) = refl
