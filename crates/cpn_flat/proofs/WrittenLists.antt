-- The written initial markings of the members of a class, one place instance after another.
use Rattle.std.proofs.Common.{◌≡◌, ℕ, ◌+◌, ◌==◌, ◌<◌, Bool, true, false, List, [], ◌∷◌, ◌++◌, length, take, get_or, set, map, refl, sym, ap, ap₂, ◌∙◌, arith}
use Rattle.std.specs.Prelude.{Option, Some}
use Rattle.std.proofs.lemmas.List.{take_more, map-append, append_assoc, append-nil, length-map, length-take-le, map-set, get_or-map, get_or-set_other}
use Rattle.std.proofs.lemmas.Grind.{get_or-set_at}
use Rattle.std.proofs.lemmas.Bool.{eqb-true, eqb-false}
use Rattle.cpn_flat.specs.InitialMarking.{added, written_in}

module _ {A : Type 0} (c : ℕ) where
  -- one item more
  pub written_more : (ks : List ℕ) (xs : List (Option A)) (k : ℕ) (x : Option A) → length ks ≡ length xs → written_in c (ks ++ k ∷ []) (xs ++ x ∷ []) ≡ written_in c ks xs ++ added c k x
  written_more [] [] k x h = append-nil (added c k x)
  written_more [] (y ∷ ys) k x h = cc
  written_more (j ∷ ks) [] k x h = cc
  written_more (j ∷ ks) (y ∷ ys) k x h =
      ap (λ zs. added c j y ++ zs) (written_more ks ys k x (let e : length ks ≡ length ys = omega (arith, h) in e)) ∙ sym (append_assoc (added c j y) (written_in c ks ys) (added c k x))

-- the items so far, and one more
pub written_next : {V A : Type 0} (view : V → Option A) (c : ℕ) (ks : List ℕ) (vs : List V) (i : ℕ) (d : V) → i < length ks → i < length vs
    → written_in c (take (i + 1) ks) (map view (take (i + 1) vs)) ≡ written_in c (take i ks) (map view (take i vs)) ++ added c (get_or ks i 0) (view (get_or vs i d))
written_next view c ks vs i d in_ks in_vs =
    ap₂ (λ js xs. written_in c js xs) (take_more ks i 0 in_ks) (ap (map view) (take_more vs i d in_vs) ∙ map-append view (take i vs) (get_or vs i d ∷ []))
    ∙ written_more c (take i ks) (map view (take i vs)) (get_or ks i 0) (view (get_or vs i d)) (length-take-le i ks (omega arith) ∙ sym (length-map (take i vs) view ∙ length-take-le i vs (omega arith)))

-- lists of what is written of each class, where one of class k is added to
module _ {V A : Type 0} (view : V → List A) (vs : List V) (k : ℕ) (d w : V) (x : A) (lt : k < length vs) (is : view w ≡ view (get_or vs k d) ++ x ∷ []) where
  pub pushed_at : (c : ℕ) → get_or (map view (set vs k w)) c [] ≡ get_or (map view vs) c [] ++ added c k (Some x)
  pushed_at c = ap (λ ls. get_or ls c []) (map-set view vs k w) ∙ by (k == c) refl
    where
      by : (same : Bool) → (k == c) ≡ same → get_or (set (map view vs) k (view w)) c [] ≡ get_or (map view vs) c [] ++ added c k (Some x)
      by true e =
          let at : c ≡ k = sym (eqb-true k c e) in
          let here : get_or (map view vs) k [] ≡ view (get_or vs k d) = get_or-map view vs k d [] lt in
          let adds : added c k (Some x) ≡ x ∷ [] = rw e refl in
          let in_range : k < length (map view vs) = let f = length-map vs view in omega (arith, lt, f) in
          get_or-set_at (map view vs) k c (view w) [] at in_range ∙ is ∙ rw (adds, at, here) refl
      by false e =
          let adds : added c k (Some x) ≡ [] = rw e refl in
          get_or-set_other (map view vs) k c (view w) [] (λ f. eqb-false k c e (sym f)) ∙ rw adds (sym (append-nil (get_or (map view vs) c [])))
