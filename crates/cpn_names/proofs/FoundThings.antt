-- What stands under a name is what stands at its number.
use Rattle.std.proofs.Common.{◌≡◌, ◌∙◌, ℕ, zero, suc, ◌+◌, ◌≤◌, Bool, true, false, cond, List, [], ◌∷◌, get_or, refl, sym, ap, arith, String, string_bytes}
use Rattle.std.specs.Prelude.{Option, Some, None, is_some}
use Rattle.std.specs.List.{position_from}
use Rattle.std.specs.Map.{lookup}
use Rattle.std.specs.Str.{bytes_eq}
use Rattle.std.specs.declared.alloc.Global.{Global}
use Rattle.std.proofs.Math.ListN.{get_or-map}
use Rattle.cpn_names.specs.Names.{number_of}
use Rattle.cpn_names.specs.Named.{names_of, entries_of}

module _ {X : Type 0} (name : List ℕ) where
  told_from : (es : List (List ℕ × X)) (i : ℕ) → is_some (position_from (bytes_eq name) i (names_of es)) ≡ is_some (lookup (bytes_eq name) es)
  told_from [] i = refl
  told_from (e ∷ es) i = by (bytes_eq name e.0) (told_from es (i + 1))
    where
      by : (b : Bool) → is_some (position_from (bytes_eq name) (i + 1) (names_of es)) ≡ is_some (lookup (bytes_eq name) es) → is_some (cond b (Some i) (position_from (bytes_eq name) (i + 1) (names_of es))) ≡ is_some (cond b (Some e.1) (lookup (bytes_eq name) es))
      by true h = refl
      by false h = h

  -- a name has a number where a thing stands under it
  pub told : (es : List (List ℕ × X)) → is_some (number_of name (names_of es)) ≡ is_some (lookup (bytes_eq name) es)
  told es = told_from es 0

  at_number : (es : List (List ℕ × X)) (i k : ℕ) → position_from (bytes_eq name) i (names_of es) ≡ Some k → (j : ℕ) → k ≡ i + j → (d : List ℕ × X) → lookup (bytes_eq name) es ≡ Some (get_or es j d).1
  at_number [] i k h = cc
  at_number (e ∷ es) i k h = by (bytes_eq name e.0) (at_number es (i + 1) k) (below es (i + 1) k) h
    where
      below : (es : List (List ℕ × X)) (i k : ℕ) → position_from (bytes_eq name) i (names_of es) ≡ Some k → i ≤ k
      below [] i k h = cc
      below (e ∷ es) i k h = from (bytes_eq name e.0) (below es (i + 1) k) h
        where
          from : (b : Bool) → (position_from (bytes_eq name) (i + 1) (names_of es) ≡ Some k → i + 1 ≤ k) → cond b (Some i) (position_from (bytes_eq name) (i + 1) (names_of es)) ≡ Some k → i ≤ k
          from true later g = let same : i ≡ k = cc in omega (arith, same)
          from false later g = let le = later g in omega (arith, le)

      by : (b : Bool) → (position_from (bytes_eq name) (i + 1) (names_of es) ≡ Some k → (j : ℕ) → k ≡ (i + 1) + j → (d : List ℕ × X) → lookup (bytes_eq name) es ≡ Some (get_or es j d).1)
          → (position_from (bytes_eq name) (i + 1) (names_of es) ≡ Some k → i + 1 ≤ k)
          → cond b (Some i) (position_from (bytes_eq name) (i + 1) (names_of es)) ≡ Some k → (j : ℕ) → k ≡ i + j → (d : List ℕ × X) → cond b (Some e.1) (lookup (bytes_eq name) es) ≡ Some (get_or (e ∷ es) j d).1
      by true later from g zero is d = refl
      by true later from g (suc j) is d = let same : i ≡ k = cc in absurd (omega (arith, same, is))
      by false later from g zero is d = let le = from g in absurd (omega (arith, le, is))
      by false later from g (suc j) is d = later g j (omega (arith, is)) d

  -- what stands under a name stands at its number
  pub thing_at : (es : List (List ℕ × X)) (k : ℕ) → number_of name (names_of es) ≡ Some k → (d : List ℕ × X) → lookup (bytes_eq name) es ≡ Some (get_or es k d).1
  thing_at es k h d = at_number es 0 k h k (omega arith) d

  -- where a name has no number, nothing stands under it
  pub no_thing : (es : List (List ℕ × X)) → number_of name (names_of es) ≡ None → lookup (bytes_eq name) es ≡ None
  no_thing es h = by (lookup (bytes_eq name) es) (sym (ap is_some h) ∙ told es)
    where
      by : (o : Option X) → false ≡ is_some o → o ≡ None
      by None g = refl
      by (Some x) g = cc

-- what the program keeps at the number of a name stands under it
pub thing_found : {X : Type 0} (name : List ℕ) (es : List (String Global × X)) (k : ℕ) (e : String Global × X) → number_of name (names_of (entries_of es)) ≡ Some k → e ≡ get_or es k e → Some e.1 ≡ lookup (bytes_eq name) (entries_of es)
thing_found {X} name es k e h is = sym (thing_at name (entries_of es) k h (seen e) ∙ ap (λ (d : List ℕ × X). Some d.1) (get_or-map seen es k e ∙ ap seen (sym is)))
  where
    seen : String Global × X → List ℕ × X
    seen d = (string_bytes d.0, d.1)
