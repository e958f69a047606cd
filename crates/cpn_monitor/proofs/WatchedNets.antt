-- Which monitors look at what: one monitor more, one arc more, one transition more.
use Rattle.std.proofs.Common.{◌≡◌, ◌∙◌, refl, sym, ap, subst, inl, inr, ◌⊎◌, ◌↔◌, ℕ, zero, suc, ◌+◌, ◌<◌, ◌==◌, ◌||◌, Bool, true, false, List, [], ◌∷◌, ◌++◌, length, get_or, replicate, nat_lt, ◌≤◌, eqb-true, arith}
use Rattle.std.specs.Prelude.{Contains}
use Rattle.std.specs.List.{AllByRecursion}
use Rattle.std.proofs.lemmas.Bool.{eqb-false, ltb-true, ltb-false}
use Rattle.std.proofs.Math.Bool.{or-false}
use Rattle.std.proofs.lemmas.Option.{same_Some}
use Rattle.std.proofs.lemmas.List.{length-replicate}
use Rattle.std.proofs.lemmas.List.Elements.{All-contains_itself, All-weaker, recursion_from_All}
use Rattle.std.proofs.lemmas.List.Folds.{list_any-append}
use Rattle.cpn_definitions.specs.Net.{PlainNet, PlainArc, transition_at, no_transition}
use Rattle.cpn_definitions.proofs.NumberTests.{equals_itself}
use Rattle.cpn_numbers.specs.NumberLists.{numbers_at, with_number}
use Rattle.cpn_numbers.proofs.ListedNumbers.{in_with_number, as_many_with, none_in_empty}
use Rattle.cpn_monitor.specs.Fitting.{IsMeasurable}
use Rattle.cpn_monitor.specs.Looks.{PlainLook, at_transition, at_place, looks_at, IsLooking, are_at, is_beside}
use Rattle.cpn_monitor.specs.Monitors.{PlainMonitor, PlainMeasure, counts, sizes, values, stops_by_count, stops_by_size}
use Rattle.cpn_monitor.specs.Watched.{PlainWatched, AreWatched, AreBeside, IsKnown, WatchesMore, TouchMore}

-- ---- one number more in one of the lists

-- where a monitor looks at a transition
pub watches_transition : (t number : ℕ) (old : PlainWatched) (lists : List (List ℕ)) → t < length old.of_transition → lists ≡ with_number t number old.of_transition → WatchesMore (at_transition t) number old (record old { of_transition = lists })
watches_transition t number old lists there are = record {
  transitions = ap (λ (xs : List (List ℕ)). length xs) are ∙ as_many_with t number old.of_transition;
  places = refl;
  of_transition = λ u k.
      (let step = in_with_number t number old.of_transition u k there in (
        λ h. elim (step.0 (subst (λ xs. Contains (numbers_at xs u) k) are h)) [ inl was ↦ inl was | inr last ↦ inr (ap (λ (v : ℕ). at_transition v) last.0, last.1) ],
        λ h. subst (λ xs. Contains (numbers_at xs u) k) (sym are) (step.1 (elim h [ inl was ↦ inl was | inr last ↦ inr ((let e = last.0 in cc), last.1) ])),
      ));
  of_place = λ p k. (λ h. inl h, λ h. elim h [ inl was ↦ was | inr last ↦ (let e = last.0 in cc) ]);
}

-- and where it looks at a place
pub watches_place : (p number : ℕ) (old : PlainWatched) (lists : List (List ℕ)) → p < length old.of_place → lists ≡ with_number p number old.of_place → WatchesMore (at_place p) number old (record old { of_place = lists })
watches_place p number old lists there are = record {
  transitions = refl;
  places = ap (λ (xs : List (List ℕ)). length xs) are ∙ as_many_with p number old.of_place;
  of_transition = λ t k. (λ h. inl h, λ h. elim h [ inl was ↦ was | inr last ↦ (let e = last.0 in cc) ]);
  of_place = λ q k.
      (let step = in_with_number p number old.of_place q k there in (
        λ h. elim (step.0 (subst (λ xs. Contains (numbers_at xs q) k) are h)) [ inl was ↦ inl was | inr last ↦ inr (ap (λ (v : ℕ). at_place v) last.0, last.1) ],
        λ h. subst (λ xs. Contains (numbers_at xs q) k) (sym are) (step.1 (elim h [ inl was ↦ inl was | inr last ↦ inr ((let e = last.0 in cc), last.1) ])),
      ));
}

-- ---- one monitor more

-- a monitor of a longer list is one of the list, or the last one
looking_more : (monitors : List PlainMonitor) (monitor : PlainMonitor) (look : PlainLook) (k : ℕ)
    → IsLooking (monitors ++ monitor ∷ []) look k ↔ (IsLooking monitors look k ⊎ ((look ≡ looks_at monitor.measure) × (k ≡ length monitors)))
looking_more [] monitor look zero = (λ h. inr (sym h.looks ∙ ap (λ (m : PlainMonitor). looks_at m.measure) (sym (same_Some monitor h.monitor h.is)), refl), λ h. elim h [ inl none ↦ cc_none none | inr last ↦ record { monitor = monitor; is = refl; looks = sym last.0 } ])
  where
    cc_none : {A : Type 0} → IsLooking [] look zero → A
    cc_none none = let e = none.is in cc
looking_more [] monitor look (suc k) = (λ h. (let e = h.is in cc), λ h. elim h [ inl none ↦ (let e = none.is in cc) | inr last ↦ absurd (omega (arith, last.1)) ])
looking_more (m ∷ ms) monitor look zero = (λ h. inl (record { monitor = h.monitor; is = h.is; looks = h.looks }), λ h. elim h [ inl here ↦ record { monitor = here.monitor; is = here.is; looks = here.looks } | inr last ↦ absurd (omega (arith, last.1)) ])
looking_more (m ∷ ms) monitor look (suc k) =
    let rest = looking_more ms monitor look k in (
      λ h. elim (rest.0 (record { monitor = h.monitor; is = h.is; looks = h.looks })) [
        | inl there ↦ inl (record { monitor = there.monitor; is = there.is; looks = there.looks })
        | inr last ↦ inr (last.0, ap (λ (i : ℕ). suc i) last.1)
      ],
      λ h. (let more = rest.1 (elim h [ inl there ↦ inl (record { monitor = there.monitor; is = there.is; looks = there.looks }) | inr last ↦ inr (last.0, (let e = last.1 in omega (arith, e))) ]) in
          record { monitor = more.monitor; is = more.is; looks = more.looks }),
    )

pub watched_more : (monitors : List PlainMonitor) (monitor : PlainMonitor) (old new : PlainWatched) → AreWatched monitors old → WatchesMore (looks_at monitor.measure) (length monitors) old new → AreWatched (monitors ++ monitor ∷ []) new
watched_more monitors monitor old new are more = record {
  of_transition = λ t k.
      (let there = more.of_transition t k in
      let before = are.of_transition t k in
      let whole = looking_more monitors monitor (at_transition t) k in (
        λ h. whole.1 (elim (there.0 h) [ inl was ↦ inl (before.0 was) | inr last ↦ inr last ]),
        λ h. there.1 (elim (whole.0 h) [ inl was ↦ inl (before.1 was) | inr last ↦ inr last ]),
      ));
  of_place = λ p k.
      (let there = more.of_place p k in
      let before = are.of_place p k in
      let whole = looking_more monitors monitor (at_place p) k in (
        λ h. whole.1 (elim (there.0 h) [ inl was ↦ inl (before.0 was) | inr last ↦ inr last ]),
        λ h. there.1 (elim (whole.0 h) [ inl was ↦ inl (before.1 was) | inr last ↦ inr last ]),
      ));
}

-- ---- one arc more

pub touch_none : (w : PlainWatched) (t : ℕ) (lists : List (List ℕ)) → TouchMore w [] t lists lists
touch_none w t lists = record { places = refl; kept = λ p k h. h; each = λ p number at looked. cc; only = λ p k h. inl h }

at_more : (p : ℕ) (arcs : List PlainArc) (arc : PlainArc) → are_at p (arcs ++ arc ∷ []) ≡ (are_at p arcs || (arc.place == p))
at_more p arcs arc = list_any-append (λ (a : PlainArc). a.place == p) arcs (arc ∷ []) ∙ ap (λ b. are_at p arcs || b) (or-false (arc.place == p))

pub touch_more : (w : PlainWatched) (arcs : List PlainArc) (arc : PlainArc) (t : ℕ) (old now : List (List ℕ)) → TouchMore w arcs t old now → arc.place < length now → TouchMore w (arcs ++ arc ∷ []) t old (with_number arc.place t now)
touch_more w arcs arc t old now are there = record {
  places = as_many_with arc.place t now ∙ are.places;
  kept = λ p k h. (in_with_number arc.place t now p k there).1 (inl (are.kept p k h));
  each = λ p number at looked.
      elim (either (are_at p arcs) (arc.place == p) (sym (at_more p arcs arc) ∙ at)) [
        | inl earlier ↦ (in_with_number arc.place t now p t there).1 (inl (are.each p number earlier looked))
        | inr this ↦ (in_with_number arc.place t now p t there).1 (inr (sym (eqb-true arc.place p this), refl))
      ];
  only = λ p k h.
      elim ((in_with_number arc.place t now p k there).0 h) [
        | inl so_far ↦ elim (are.only p k so_far) [ inl was ↦ inl was | inr new ↦ inr (at_more p arcs arc ∙ ap (λ b. b || (arc.place == p)) new.0, new.1) ]
        | inr this ↦ inr (at_more p arcs arc ∙ or_right (are_at p arcs) (arc.place == p) (here p (sym this.0)), this.1)
      ];
}
  where
    either : (a b : Bool) → (a || b) ≡ true → (a ≡ true) ⊎ (b ≡ true)
    either true b e = inl refl
    either false b e = inr e

    or_right : (a b : Bool) → b ≡ true → (a || b) ≡ true
    or_right true b e = refl
    or_right false b e = e

    here : (p : ℕ) → arc.place ≡ p → (arc.place == p) ≡ true
    here p e = subst (λ q. (arc.place == q) ≡ true) e (equals_itself arc.place)

-- and one at whose place no monitor looks
pub touch_no_more : (w : PlainWatched) (arcs : List PlainArc) (arc : PlainArc) (t : ℕ) (old now : List (List ℕ)) → TouchMore w arcs t old now → numbers_at w.of_place arc.place ≡ [] → TouchMore w (arcs ++ arc ∷ []) t old now
touch_no_more w arcs arc t old now are none = record {
  places = are.places;
  kept = are.kept;
  each = λ p number at looked.
      elim (either (are_at p arcs) (arc.place == p) (sym (at_more p arcs arc) ∙ at)) [
        | inl earlier ↦ are.each p number earlier looked
        | inr this ↦ absurd (omega (arith, (subst (λ ks. Contains ks number) none (subst (λ q. Contains (numbers_at w.of_place q) number) (sym (eqb-true arc.place p this)) looked)).1))
      ];
  only = λ p k h. elim (are.only p k h) [ inl was ↦ inl was | inr new ↦ inr (at_more p arcs arc ∙ ap (λ b. b || (arc.place == p)) new.0, new.1) ];
}
  where
    either : (a b : Bool) → (a || b) ≡ true → (a ≡ true) ⊎ (b ≡ true)
    either true b e = inl refl
    either false b e = inr e

-- ---- one transition more

-- The transitions so far stand just at the places beside them at which a monitor looks.
pub record AreTouched (n : PlainNet) (w : PlainWatched) (count : ℕ) (lists : List (List ℕ)) : Type 0 where
  pub places : length lists ≡ length w.of_place
  pub each : (t p number : ℕ) → t < count → is_beside n t p ≡ true → Contains (numbers_at w.of_place p) number → Contains (numbers_at lists p) t
  pub only : (t p : ℕ) → Contains (numbers_at lists p) t → (t < count) × (is_beside n t p ≡ true)

pub touched_more : (n : PlainNet) (w : PlainWatched) (count : ℕ) (old mid new : List (List ℕ)) → AreTouched n w count old → TouchMore w (transition_at n count).inputs count old mid → TouchMore w (transition_at n count).outputs count mid new → AreTouched n w (count + 1) new
touched_more n w count old mid new are inputs outputs = record {
  places = outputs.places ∙ inputs.places ∙ are.places;
  each = λ t p number lt beside looked. elim (below_or_same t lt) [
    | inl earlier ↦ outputs.kept p t (inputs.kept p t (are.each t p number earlier beside looked))
    | inr same ↦ subst (Contains (numbers_at new p)) (sym same) (here p number (subst (λ u. is_beside n u p ≡ true) same beside) looked)
  ];
  only = λ t p h. elim (outputs.only p t h) [
    | inl first ↦ elim (inputs.only p t first) [
      | inl was ↦ (let there = are.only t p was in (omega (arith, there.0), there.1))
      | inr new_in ↦ (omega (arith, new_in.1), subst (λ u. is_beside n u p ≡ true) (sym new_in.1) (or_left (are_at p (transition_at n count).inputs) (are_at p (transition_at n count).outputs) new_in.0))
    ]
    | inr new_out ↦ (omega (arith, new_out.1), subst (λ u. is_beside n u p ≡ true) (sym new_out.1) (or_right (are_at p (transition_at n count).inputs) (are_at p (transition_at n count).outputs) new_out.0))
  ];
}
  where
    below_or_same : (t : ℕ) → t < count + 1 → (t < count) ⊎ (t ≡ count)
    below_or_same t lt = by (t == count) refl
      where
        by : (b : Bool) → (t == count) ≡ b → (t < count) ⊎ (t ≡ count)
        by true e = inr (eqb-true t count e)
        by false e = let differ = eqb-false t count e in inl (omega (arith, lt, differ))

    or_left : (a b : Bool) → a ≡ true → (a || b) ≡ true
    or_left a b e = ap (λ c. c || b) e

    or_right : (a b : Bool) → b ≡ true → (a || b) ≡ true
    or_right true b e = refl
    or_right false b e = e

    either : (a b : Bool) → (a || b) ≡ true → (a ≡ true) ⊎ (b ≡ true)
    either true b e = inl refl
    either false b e = inr e

    here : (p number : ℕ) → is_beside n count p ≡ true → Contains (numbers_at w.of_place p) number → Contains (numbers_at new p) count
    here p number beside looked = elim (either (are_at p (transition_at n count).inputs) (are_at p (transition_at n count).outputs) beside) [
      | inl in_it ↦ outputs.kept p count (inputs.each p number in_it looked)
      | inr out ↦ outputs.each p number out looked
    ]

-- none
pub touched_none : (n : PlainNet) (w : PlainWatched) (count : ℕ) (lists : List (List ℕ)) → lists ≡ replicate count [] → count ≡ length w.of_place → AreTouched n w 0 lists
touched_none n w count lists none many = record {
  places = ap (λ (xs : List (List ℕ)). length xs) none ∙ length-replicate count _ ∙ many;
  each = λ t p number lt. absurd (omega (arith, lt));
  only = λ t p h. absurd (none_in_empty count p t (subst (λ xs. Contains (numbers_at xs p) t) none h));
}

-- a place at an arc is that of a transition of the net
beside_known : (n : PlainNet) (t p : ℕ) → is_beside n t p ≡ true → t < length n.transitions
beside_known n t p beside = by (nat_lt t (length n.transitions)) refl
  where
    past : {A : Type 0} (xs : List A) (i : ℕ) (d : A) → length xs ≤ i → get_or xs i d ≡ d
    past [] i d le = refl
    past (x ∷ xs) zero d le = absurd (omega arith)
    past (x ∷ xs) (suc i) d le = past xs i d (omega arith)

    by : (b : Bool) → nat_lt t (length n.transitions) ≡ b → t < length n.transitions
    by true e = ltb-true t (length n.transitions) e
    by false e =
        let none : transition_at n t ≡ no_transition = past n.transitions t no_transition (ltb-false t (length n.transitions) e) in
        let clash : (are_at p no_transition.inputs || are_at p no_transition.outputs) ≡ true = subst (λ u. (are_at p u.inputs || are_at p u.outputs) ≡ true) none beside in
        cc

-- all are: turned round they are the places beside each transition
pub beside_all : (n : PlainNet) (w : PlainWatched) (count : ℕ) (lists beside : List (List ℕ)) → AreTouched n w count lists → length n.transitions ≤ count
    → ((list number : ℕ) → Contains (numbers_at beside number) list ↔ Contains (numbers_at lists list) number) → AreBeside n w beside
beside_all n w count lists beside are all turned = record {
  each = λ t p number at looked. (let lt = beside_known n t p at in (turned p t).1 (are.each t p number (omega (arith, lt, all)) at looked));
  only = λ t p h. (are.only t p ((turned p t).0 h)).1;
}

-- all transitions that are listed are below their count
pub all_below : (lists : List (List ℕ)) (count : ℕ) → ((p t : ℕ) → Contains (numbers_at lists p) t → t < count) → AllByRecursion (λ (ts : List ℕ). AllByRecursion (λ (t : ℕ). t < count) ts) lists
all_below [] count each = tt
all_below (ts ∷ lists) count each = (recursion_from_All (λ t. t < count) ts (All-weaker (Contains ts) (λ t. t < count) (each 0) ts (All-contains_itself ts)), all_below lists count (λ p. each (suc p)))

-- a list with a number is one of the lists
pub list_known : (lists : List (List ℕ)) (k : ℕ) → (length (numbers_at lists k) == 0) ≡ false → k < length lists
list_known [] k some = cc
list_known (xs ∷ lists) zero some = omega arith
list_known (xs ∷ lists) (suc k) some = let lt = list_known lists k some in omega (arith, lt)

-- and a list without one is empty
pub no_numbers : (xs : List ℕ) → (length xs == 0) ≡ true → xs ≡ []
no_numbers [] none = refl
no_numbers (x ∷ xs) none = let zero_long = eqb-true (length (x ∷ xs)) 0 none in absurd (omega (arith, zero_long))

-- what a measurable monitor looks at has a list
pub look_known : (n : PlainNet) (w : PlainWatched) (measure : PlainMeasure) → IsMeasurable n measure → length w.of_transition ≡ length n.transitions → length w.of_place ≡ length n.places → IsKnown w (looks_at measure)
look_known n w (counts t) is transitions places = omega (arith, is, transitions)
look_known n w (sizes p) is transitions places = omega (arith, is, places)
look_known n w (values t e) is transitions places = let lt = is.0 in omega (arith, lt, transitions)
look_known n w (stops_by_count t k) is transitions places = omega (arith, is, transitions)
look_known n w (stops_by_size p bound k) is transitions places = omega (arith, is, places)

-- with no monitor the lists are empty
pub watched_none : (transitions places : ℕ) (w : PlainWatched) → w.of_transition ≡ replicate transitions [] → w.of_place ≡ replicate places [] → AreWatched [] w
watched_none transitions places w first second = record {
  of_transition = λ t k. (λ h. absurd (none_in_empty transitions t k (subst (λ xs. Contains (numbers_at xs t) k) first h)), λ h. (let e = h.is in cc));
  of_place = λ p k. (λ h. absurd (none_in_empty places p k (subst (λ xs. Contains (numbers_at xs p) k) second h)), λ h. (let e = h.is in cc));
}
