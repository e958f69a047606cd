-- What needs leave of a marking that are taken out one after another: of each value on each place the stamps less its thresholds.
use Rattle.std.proofs.Common.{◌≡◌, ℕ, ◌+◌, ◌<◌, ◌≤◌, Bool, true, false, cond, List, [], ◌∷◌, ◌++◌, map, length, take, drop, get_or, append-nil, append_assoc, refl, sym, ap, ap₂, subst, ◌∙◌}
use Rattle.std.specs.List.{filter}
use Rattle.std.proofs.lemmas.Cmp.{nat_cmp_total}
use Rattle.std.proofs.lemmas.List.{drop_all, drop_more, map-append, take_all, take_more}
use Rattle.std.proofs.lemmas.List.Elements.{filter-append}
use Rattle.std.specs.Ordering.{nat_cmp}
use Rattle.cpn_definitions.specs.Value.{PlainValue}
use Rattle.cpn_definitions.specs.Lists.{IsInOrder}
use Rattle.cpn_definitions.specs.Marking.{Marking, tokens_at, on_place, AreSorted, stamps, without_latest, less, without_token}
use Rattle.cpn_definitions.specs.Occurrence as plain
use Rattle.cpn_definitions.specs.Occurrence.{needed_cmp, threshold, subtract}
use Rattle.cpn_definitions.proofs.ListItems.{map_more}
use Rattle.cpn_definitions.proofs.Needs.{thresholds_in_order}
use Rattle.cpn_definitions.proofs.OrderedLists.{in_order_same}
use Rattle.cpn_definitions.proofs.Subtraction.{is_for, thresholds_for, taken}
use Rattle.cpn_core.specs.NeedsViews.{needed_view, needed_views}
use Rattle.cpn_core.specs.declared.needed.Needed.{Needed}
use Rattle.cpn_tmset.specs.StampsTaken.{stamp_taken, stamps_taken}
use Rattle.cpn_tmset.specs.Subtracted.{IsSubtracted}

-- what the thresholds of needs leave of each value on each place, in the order of the needs
abbrev pub IsLessFor : ℕ → List plain.Needed → Marking → Marking → Type 0
IsLessFor time needs old new = (p : ℕ) (v : PlainValue) → stamps v (tokens_at new p) ≡ less (stamps v (tokens_at old p)) (thresholds_for (threshold time) p v needs)

-- a threshold more, at the end
less_more : (ss ts : List ℕ) (t : ℕ) → less ss (ts ++ t ∷ []) ≡ without_latest t (less ss ts)
less_more ss [] t = refl
less_more ss (r ∷ ts) t = less_more (without_latest r ss) ts t

thresholds_more : (time p : ℕ) (v : PlainValue) (xs : List plain.Needed) (x : plain.Needed) (b : Bool) → is_for p v x ≡ b → thresholds_for (threshold time) p v (xs ++ x ∷ []) ≡ cond b (thresholds_for (threshold time) p v xs ++ threshold time x ∷ []) (thresholds_for (threshold time) p v xs)
thresholds_more time p v xs x true is =
    ap (map (threshold time)) (filter-append (is_for p v) xs (x ∷ []) ∙ ap (λ b. filter (is_for p v) xs ++ cond b (x ∷ []) []) is)
    ∙ map-append (threshold time) (filter (is_for p v) xs) (x ∷ [])
thresholds_more time p v xs x false is =
    ap (map (threshold time)) (filter-append (is_for p v) xs (x ∷ []) ∙ ap (λ b. filter (is_for p v) xs ++ cond b (x ∷ []) []) is ∙ append-nil (filter (is_for p v) xs))

-- one need more is taken out, on a place that is sorted
less_for_more
    : (time : ℕ) (xs : List plain.Needed) (x : plain.Needed) (old mid new : Marking)
    → IsLessFor time xs old mid
    → AreSorted (tokens_at mid x.place)
    → new ≡ on_place x.place (without_token x.value (threshold time x)) mid
    → IsLessFor time (xs ++ x ∷ []) old new
less_for_more time xs x old mid new so_far sorted is p v =
    ap (λ m. stamps v (tokens_at m p)) is ∙ split (is_for p v x) refl
  where
    split : (b : Bool) → is_for p v x ≡ b → stamps v (tokens_at (on_place x.place (without_token x.value (threshold time x)) mid) p) ≡ less (stamps v (tokens_at old p)) (thresholds_for (threshold time) p v (xs ++ x ∷ []))
    split true h =
        taken p v (threshold time) x mid sorted true h ∙ ap (without_latest (threshold time x)) (so_far p v)
        ∙ sym (less_more (stamps v (tokens_at old p)) (thresholds_for (threshold time) p v xs) (threshold time x))
        ∙ ap (less (stamps v (tokens_at old p))) (sym (thresholds_more time p v xs x true h))
    split false h = taken p v (threshold time) x mid sorted false h ∙ so_far p v ∙ ap (less (stamps v (tokens_at old p))) (sym (thresholds_more time p v xs x false h))

-- of needs in order the thresholds stand in increasing order
subtracted_for : (time : ℕ) (needs : List plain.Needed) (old new : Marking) → IsInOrder needed_cmp needs → IsLessFor time needs old new → IsSubtracted time needs old new
subtracted_for time needs old new ordered all p v =
    all p v ∙ ap (less (stamps v (tokens_at old p))) (sym (in_order_same nat_cmp nat_cmp_total (thresholds_for (threshold time) p v needs) (thresholds_in_order time p v needs ordered)))

-- ---- in the order of the needs of the program

module _ (time : ℕ) (needs : List Needed) (i : ℕ) (need : Needed) (within : i < length needs) (is : need ≡ get_or needs i need) where
  -- the next need is taken out
  abbrev IsWithout : Marking → Marking → Type 0
  IsWithout mid new = new ≡ on_place need.place (without_token (needed_view need).value (threshold time (needed_view need))) mid

  pub subtracted_next : (mid new last : Marking) → IsWithout mid new → subtract (threshold time) (needed_views (drop i needs)) mid ≡ last → subtract (threshold time) (needed_views (drop (i + 1) needs)) new ≡ last
  subtracted_next mid new last without so_far =
      ap (subtract (threshold time) (needed_views (drop (i + 1) needs))) without
      ∙ ap (λ ns. subtract (threshold time) (needed_views ns) mid) (sym (drop_more needs i need within ∙ ap (λ n. n ∷ drop (i + 1) needs) (sym is)))
      ∙ so_far

  pub less_for_next : (old mid new : Marking) → IsLessFor time (needed_views (take i needs)) old mid → AreSorted (tokens_at mid need.place) → IsWithout mid new → IsLessFor time (needed_views (take (i + 1) needs)) old new
  less_for_next old mid new so_far sorted without =
      let seen : needed_views (take (i + 1) needs) ≡ needed_views (take i needs) ++ needed_view need ∷ [] = ap needed_views (take_more needs i need within ∙ ap (λ n. take i needs ++ n ∷ []) (sym is)) ∙ map_more needed_view (take i needs) need in
      subst (λ ns. IsLessFor time ns old new) (sym seen) (less_for_more time (needed_views (take i needs)) (needed_view need) old mid new so_far sorted without)

  -- and its stamp is given
  pub stamps_next : (made more : List ℕ) (stamp : ℕ) (mid new : Marking) (last : List ℕ) → more ≡ made ++ stamp ∷ [] → stamp ≡ stamp_taken time (needed_view need) mid → IsWithout mid new → made ++ stamps_taken time (needed_views (drop i needs)) mid ≡ last → more ++ stamps_taken time (needed_views (drop (i + 1) needs)) new ≡ last
  stamps_next made more stamp mid new last grown given without so_far =
      let rest = needed_views (drop (i + 1) needs) in
      let left = stamps_taken time rest (on_place need.place (without_token (needed_view need).value (threshold time (needed_view need))) mid) in
      ap₂ (λ ss m. ss ++ stamps_taken time rest m) grown without
      ∙ append_assoc made (stamp ∷ []) left
      ∙ ap (λ s. made ++ s ∷ left) given
      ∙ ap (λ ns. made ++ stamps_taken time (needed_views ns) mid) (sym (drop_more needs i need within ∙ ap (λ n. n ∷ drop (i + 1) needs) (sym is)))
      ∙ so_far

-- ---- all of them are

module _ (time : ℕ) (needs : List Needed) (i : ℕ) (ordered : List plain.Needed) (past : length needs ≤ i) (same : needed_views needs ≡ ordered) where
  pub all_out : (old new : Marking) → subtract (threshold time) (needed_views (drop i needs)) new ≡ subtract (threshold time) (needed_views needs) old → new ≡ subtract (threshold time) ordered old
  all_out old new so_far =
      sym (ap (λ ns. subtract (threshold time) (needed_views ns) new) (drop_all i needs past)) ∙ so_far ∙ ap (λ ns. subtract (threshold time) ns old) same

  pub all_stamps : (made : List ℕ) (old new : Marking) → made ++ stamps_taken time (needed_views (drop i needs)) new ≡ stamps_taken time (needed_views needs) old → made ≡ stamps_taken time ordered old
  all_stamps made old new so_far =
      sym (ap (λ ns. made ++ stamps_taken time (needed_views ns) new) (drop_all i needs past) ∙ append-nil made) ∙ so_far ∙ ap (λ ns. stamps_taken time ns old) same

pub all_subtracted : (time : ℕ) (needs : List Needed) (i : ℕ) (ordered : List plain.Needed) (old new : Marking) → length needs ≤ i → needed_views needs ≡ ordered → IsInOrder needed_cmp ordered → IsLessFor time (needed_views (take i needs)) old new → IsSubtracted time ordered old new
all_subtracted time needs i ordered old new past same in_order all =
    subtracted_for time ordered old new in_order (subst (λ ns. IsLessFor time ns old new) (ap needed_views (take_all i needs past) ∙ same) all)
