-- Texts that a loop writes piece by piece: what is written so far, with the texts of the items that are
-- left, is the whole.
use Rattle.std.proofs.Common.{◌≡◌, ◌∙◌, sym, ap, refl, ℕ, ◌+◌, ◌<◌, ◌≤◌, Bool, true, false, if◌then◌else◌, nat_lt, List, [], ◌∷◌, ◌++◌, length, map, drop, get_or, append_assoc, length-drop, arith}
use Rattle.std.proofs.lemmas.List.{drop_more, drop_all, append-nil, length-map}
use Rattle.std.proofs.lemmas.Bool.{ltb-true}
use Rattle.std.proofs.lemmas.Bool.Decides.{nat_tests}
use Rattle.std.specs.List.{flat_map}
use Rattle.cpn_report.specs.ValueText.{joined}

-- the items that are left, with the next one apart
pub rest_is : {X : Type 0} (xs : List X) (i : ℕ) (x : X) → i < length xs → x ≡ get_or xs i x → drop i xs ≡ x ∷ drop (i + 1) xs
rest_is xs i x lt is = drop_more xs i x lt ∙ ap (λ y. y ∷ drop (i + 1) xs) (sym is)

-- The next item's text is written: the text of items from a number on is that of the first and that of the others.
pub written_more : {X : Type 0} (all : ℕ → List X → List ℕ) (one : ℕ → X → List ℕ) → ((i : ℕ) (x : X) (xs : List X) → all i (x ∷ xs) ≡ one i x ++ all (i + 1) xs) → (xs : List X) (i : ℕ) (x : X) (text next whole : List ℕ) → i < length xs → x ≡ get_or xs i x → text ++ all i (drop i xs) ≡ whole → next ≡ text ++ one i x → next ++ all (i + 1) (drop (i + 1) xs) ≡ whole
written_more all one step xs i x text next whole lt is kept more =
    let rest = all (i + 1) (drop (i + 1) xs) in
    ap (λ t. t ++ rest) more ∙ append_assoc text (one i x) rest ∙ ap (λ t. text ++ t) (sym (step i x (drop (i + 1) xs)) ∙ ap (all i) (sym (rest_is xs i x lt is))) ∙ kept

-- the first of joined texts, and before each of the others what stands between
pub joined_after : (between t : List ℕ) (ts : List (List ℕ)) → joined between (t ∷ ts) ≡ t ++ flat_map (λ u. between ++ u) ts
joined_after between t [] = sym (append-nil t)
joined_after between t (u ∷ us) = append_assoc t between (joined between (u ∷ us)) ∙ ap (λ rest. t ++ rest) (ap (λ rest. between ++ rest) (joined_after between u us) ∙ sym (append_assoc between u (flat_map (λ x. between ++ x) us)))

-- joined texts with one more in front
joined_two : (between t : List ℕ) (ts : List (List ℕ)) → 0 < length ts → joined between (t ∷ ts) ≡ t ++ (between ++ joined between ts)
joined_two between t [] some = absurd (omega arith)
joined_two between t (u ∷ us) some = append_assoc t between (joined between (u ∷ us))

-- the next text is written, and what stands between it and the one after it
pub joined_next : (between : List ℕ) (texts : List (List ℕ)) (t : List ℕ) (rest : List (List ℕ)) (text next whole : List ℕ) → texts ≡ t ∷ rest → 0 < length rest → text ++ joined between texts ≡ whole → next ≡ (text ++ t) ++ between → next ++ joined between rest ≡ whole
joined_next between texts t rest text next whole are some kept more =
    let e = ap (joined between) are ∙ joined_two between t rest some in
    rw (more, append_assoc, append_assoc) (ap (λ ys. text ++ ys) (sym e) ∙ kept)

-- the last text is written
pub joined_end : (between : List ℕ) (texts : List (List ℕ)) (t : List ℕ) (rest : List (List ℕ)) (text next whole : List ℕ) → texts ≡ t ∷ rest → rest ≡ [] → text ++ joined between texts ≡ whole → next ≡ text ++ t → next ++ joined between rest ≡ whole
joined_end between texts t rest text next whole are none kept more =
    let e = ap (joined between) (are ∙ ap (λ xs. t ∷ xs) none) in
    rw (more, none, append-nil) (ap (λ ys. text ++ ys) (sym e) ∙ kept)

-- the next text is written, and what stands between it and the one after it where there is one
pub joined_step : (between : List ℕ) (texts : List (List ℕ)) (t : List ℕ) (rest : List (List ℕ)) (text next whole : List ℕ) (another : Bool) → texts ≡ t ∷ rest → another ≡ nat_lt 0 (length rest) → text ++ joined between texts ≡ whole → next ≡ (text ++ t) ++ (if another then between else []) → next ++ joined between rest ≡ whole
joined_step between texts t rest text next whole true are more_left kept more = joined_next between texts t rest text next whole are (ltb-true 0 (length rest) (sym more_left)) kept more
joined_step between texts t rest text next whole false are more_left kept more = joined_end between texts t rest text next whole are (none_left rest more_left) kept (more ∙ append-nil (text ++ t))
  where
    none_left : (ts : List (List ℕ)) → false ≡ nat_lt 0 (length ts) → ts ≡ []
    none_left [] e = refl
    none_left (t ∷ ts) e = absurd (grind (arith, nat_tests))

-- the next item's text is written, and what stands between it and the one after it
pub joined_more : {X Y : Type 0} (between : List ℕ) (f : Y → List ℕ) (view : X → Y) (xs : List X) (i : ℕ) (x : X) (text next whole : List ℕ) → i < length xs → x ≡ get_or xs i x → i + 1 < length xs → text ++ joined between (map f (map view (drop i xs))) ≡ whole → next ≡ (text ++ f (view x)) ++ between → next ++ joined between (map f (map view (drop (i + 1) xs))) ≡ whole
joined_more between f view xs i x text next whole lt is another kept more =
    let some : 0 < length (map f (map view (drop (i + 1) xs))) = simp (length-map, length-drop) (omega arith) in
    joined_next between (map f (map view (drop i xs))) (f (view x)) (map f (map view (drop (i + 1) xs))) text next whole (ap (λ ys. map f (map view ys)) (rest_is xs i x lt is)) some kept more

-- the last item's text is written
pub joined_last : {X Y : Type 0} (between : List ℕ) (f : Y → List ℕ) (view : X → Y) (xs : List X) (i : ℕ) (x : X) (text next whole : List ℕ) → i < length xs → x ≡ get_or xs i x → length xs ≤ i + 1 → text ++ joined between (map f (map view (drop i xs))) ≡ whole → next ≡ text ++ f (view x) → next ++ joined between (map f (map view (drop (i + 1) xs))) ≡ whole
joined_last between f view xs i x text next whole lt is last kept more =
    joined_end between (map f (map view (drop i xs))) (f (view x)) (map f (map view (drop (i + 1) xs))) text next whole (ap (λ ys. map f (map view ys)) (rest_is xs i x lt is)) (ap (λ ys. map f (map view ys)) (drop_all (i + 1) xs last)) kept more
