-- What instances have, one instance after another: that of the instances so far and of all.
use Rattle.std.proofs.Common.{◌≡◌, ℕ, suc, ◌+◌, ◌<◌, ◌≤◌, List, [], ◌∷◌, ◌++◌, length, take, get_or, map, refl, sym, ap, ◌∙◌, arith}
use Rattle.std.proofs.lemmas.List.{take_more, take_all, map-append, append_assoc, append-nil, length-map, length-take-le}
use Rattle.cpn_fuse.specs.Instances.{PlainInstance}
use Rattle.cpn_flat.specs.FlatNet.{each_instance}

module _ {A : Type 0} (has : ℕ → PlainInstance → List A) where
  pub each_append : (i : ℕ) (xs ys : List PlainInstance) → each_instance has i (xs ++ ys) ≡ each_instance has i xs ++ each_instance has (i + length xs) ys
  unfolding each_instance
  each_append i [] ys = ap (λ k. each_instance has k ys) (let e : i ≡ i + 0 = omega arith in e)
  each_append i (x ∷ xs) ys =
      let e : suc i + length xs ≡ i + suc (length xs) = omega arith in
      ap (λ zs. has i x ++ zs) (each_append (suc i) xs ys ∙ ap (λ k. each_instance has (suc i) xs ++ each_instance has k ys) e) ∙ sym (append_assoc (has i x) (each_instance has (suc i) xs) (each_instance has (i + suc (length xs)) ys))

  pub none_yet : each_instance has 0 [] ≡ []
  unfolding each_instance
  none_yet = refl

  one_instance : (i : ℕ) (x : PlainInstance) → each_instance has i (x ∷ []) ≡ has i x
  unfolding each_instance
  one_instance i x = append-nil (has i x)

  module _ {V : Type 0} (view : V → PlainInstance) (vs : List V) where
    -- one instance more
    pub instance_more : (i : ℕ) (d : V) (now more : List A) → i < length vs → now ≡ each_instance has 0 (map view (take i vs)) → more ≡ now ++ has i (view (get_or vs i d)) → more ≡ each_instance has 0 (map view (take (i + 1) vs))
    instance_more i d now more lt h k =
        let v : V = get_or vs i d in
        let length_is = length-map (take i vs) view ∙ length-take-le i vs (omega arith) in let number : 0 + length (map view (take i vs)) ≡ i = omega (arith, length_is) in
        k ∙ ap (λ xs. xs ++ has i (view v)) h
        ∙ ap (λ xs. each_instance has 0 (map view (take i vs)) ++ xs) (sym (one_instance i (view v)) ∙ ap (λ j. each_instance has j (view v ∷ [])) (sym number))
        ∙ sym (each_append 0 (map view (take i vs)) (view v ∷ []))
        ∙ ap (each_instance has 0) (sym (map-append view (take i vs) (v ∷ [])) ∙ ap (map view) (sym (take_more vs i d lt)))

    -- all instances
    pub instances_all : (i : ℕ) (now : List A) → length vs ≤ i → now ≡ each_instance has 0 (map view (take i vs)) → now ≡ each_instance has 0 (map view vs)
    instances_all i now past h = h ∙ ap (λ xs. each_instance has 0 (map view xs)) (take_all i vs past)
