-- Names one behind the other, and the set of them.
use Rattle.std.proofs.Common.{◌≡◌, ℕ, Bool, true, false, cond, ◌||◌, List, [], ◌∷◌, ◌++◌, refl, sym, ap, ◌∙◌}
use Rattle.std.specs.Borrow.{Bor}
use Rattle.std.specs.BTreeSet.{BTreeSet, contains_by, Updates}
use Rattle.std.specs.Cmp.Lexicographic.{slice_cmp}
use Rattle.std.specs.Ordering.{nat_cmp}
use Rattle.std.specs.Str.{bytes_eq}
use Rattle.std.proofs.lemmas.Cmp.{nat_list_eq_equiv}
use Rattle.std.proofs.lemmas.List.{map-append}
use Rattle.std.proofs.lemmas.List.Folds.{list_any-append}
use Rattle.std.proofs.lemmas.Map.Text.{is_eq-slice_cmp}
use Rattle.cpn_document.specs.Parts.{is_one_of}
use Rattle.cpn_document.specs.Names.{texts_of, HasNames}

one_more : (q name : List ℕ) (names : List (List ℕ)) → cond (bytes_eq q name) true (is_one_of q names) ≡ is_one_of q (names ++ name ∷ [])
one_more q name names = by (bytes_eq q name) (is_one_of q names) ∙ sym (list_any-append (bytes_eq q) names (name ∷ []))
  where
    by : (b there : Bool) → cond b true there ≡ (there || (b || false))
    by true true = refl
    by true false = refl
    by false true = refl
    by false false = refl

-- a set of the names of a list, with one name more
pub set_more : (names : List (Bor (List ℕ))) (name : Bor (List ℕ)) (set set' : BTreeSet (Bor (List ℕ))) → HasNames (texts_of names) set → Updates (λ x y. slice_cmp nat_cmp x.now y.now) set set' name true → HasNames (texts_of (names ++ name ∷ [])) set'
set_more names name set set' has updates q =
    updates.0 (record { ref_ptr = (0, 0); now = q })
    ∙ ap (λ b. cond b true (contains_by (λ k. slice_cmp nat_cmp q k.now) set)) (is_eq-slice_cmp name.now q ∙ nat_list_eq_equiv.symm name.now q)
    ∙ ap (λ there. cond (bytes_eq q name.now) true there) (has q)
    ∙ one_more q name.now (texts_of names)
    ∙ ap (λ texts. is_one_of q texts) (sym (map-append (λ (k : Bor (List ℕ)). k.now) names (name ∷ [])))
