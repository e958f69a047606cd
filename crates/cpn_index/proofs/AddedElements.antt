-- Elements that are added: what a search found, one search after another, and that all that they look for is there then.
use Rattle.std.proofs.Common.{◌≡◌, ℕ, ◌<◌, true, List, [], ◌∷◌, ◌++◌, map, length, Contains, refl, sym, ap, ◌∙◌, subst, inl, inr, ⊎_elim}
use Rattle.std.specs.List.{AllByRecursion}
use Rattle.std.proofs.lemmas.Bool.{lt-ltb}
use Rattle.cpn_definitions.specs.Value.{PlainValue}
use Rattle.cpn_definitions.specs.Lists.{with_item}
use Rattle.cpn_definitions.specs.Marking.{Marking}
use Rattle.cpn_definitions.specs.Net.{PlainArc, PlainNet, transition_at}
use Rattle.cpn_definitions.specs.Outcome.{gives}
use Rattle.cpn_definitions.specs.Sound.{IsSound, IsSoundInput}
use Rattle.cpn_definitions.specs.Occurrence.{PlainElement, Needed, needs_of}
use Rattle.cpn_definitions.specs.Enabled.{PlainEntry, PlainFound, entries_of, IsEarliest, EnabledOf}
use Rattle.cpn_definitions.proofs.RisingLists.{IsIn, in_from_contains, contains_from_in, in_append_left, in_append_right, in_append_cases, in_map, in_map_from, of_one_in, each_in, one_that_passes, some_passes}
use Rattle.cpn_definitions.proofs.SoundElements.{sound_transition}
use Rattle.cpn_core.specs.declared.entries.EnabledElement.{EnabledElement}
use Rattle.cpn_core.specs.Elements.{enabled_view, HasItsNeeds}
use Rattle.cpn_stages.specs.TermsWith.{HasTermWith, EnabledWith}
use Rattle.cpn_stages.proofs.NeededTerms.{need_is_found}
use Rattle.cpn_search.specs.FoundViews.{found_view, AreOf}
use Rattle.cpn_due.specs.Due.{PlainEnabled, plain_enabled, enabled_cmp, is_of, is_kept}
use Rattle.cpn_index.specs.Retimed.{IsOfNet}
use Rattle.cpn_index.specs.Added.{AreAdded, HaveMore, HaveAll, IsOfTransition, HasTermAt}
use Rattle.cpn_index.proofs.KeptLists.{of_with_item, with_item_has, kept_from, covered_may}

-- ---- one after another

pub none_added : (n : PlainNet) (m : Marking) (elements : List PlainEnabled) → HaveMore n m elements elements
none_added n m elements = record { stay = λ x h. h; come = λ x h. inl h }

pub more_then : (n : PlainNet) (m : Marking) (first second third : List PlainEnabled) → HaveMore n m first second → HaveMore n m second third → HaveMore n m first third
more_then n m first second third one two = record {
  stay = λ x h. two.stay x (one.stay x h);
  come = λ x h. ⊎_elim (λ before. one.come x before) (λ new. inr new) (two.come x h);
}

-- what is kept stays so
pub still_kept : (n : PlainNet) (m : Marking) (old new : List PlainEnabled) (e : PlainElement) → HaveMore n m old new → is_kept e old ≡ true → is_kept e new ≡ true
still_kept n m old new e more kept =
    let one = one_that_passes (is_of e) old kept in
    some_passes (is_of e) new one.0 (in_from_contains new one.0 (more.stay one.0 (contains_from_in old one.0 one.1))) one.2

pub still_all : (n : PlainNet) (m : Marking) (P : PlainElement → Type 0) (old new : List PlainEnabled) → HaveMore n m old new → HaveAll n m P old → HaveAll n m P new
still_all n m P old new more all = λ y is has. still_kept n m old new y.element more (all y is has)

only : (x y : PlainEnabled) → IsIn y (x ∷ []) → x ≡ y
only x y (inl same) = same
only x y (inr h) = absurd h

-- the same of what may be added
pub added_none : (elements : List PlainEnabled) → AreAdded elements [] elements
added_none elements = record { stay = λ x h. h; come = λ x h. inl h; listed = λ x h. absurd (in_from_contains [] x h) }

pub added_then : (first second third xs ys : List PlainEnabled) → AreAdded first xs second → AreAdded second ys third → AreAdded first (xs ++ ys) third
added_then first second third xs ys one two = record {
  stay = λ x h. two.stay x (one.stay x h);
  come = λ x h. ⊎_elim (λ before. ⊎_elim (λ old. inl old) (λ more. inr (left x more)) (one.come x before)) (λ more. inr (right x more)) (two.come x h);
  listed = λ x h. ⊎_elim (λ more. still x (one.listed x (contains_from_in xs x more))) (λ more. two.listed x (contains_from_in ys x more)) (in_append_cases xs ys x (in_from_contains (xs ++ ys) x h));
}
  where
    left : (x : PlainEnabled) → Contains xs x → Contains (xs ++ ys) x
    left x h = contains_from_in (xs ++ ys) x (in_append_left xs ys x (in_from_contains xs x h))

    right : (x : PlainEnabled) → Contains ys x → Contains (xs ++ ys) x
    right x h = contains_from_in (xs ++ ys) x (in_append_right xs ys x (in_from_contains ys x h))

    still : (x : PlainEnabled) → is_kept x.entry.element second ≡ true → is_kept x.entry.element third ≡ true
    still x kept =
        let y = one_that_passes (is_of x.entry.element) second kept in
        some_passes (is_of x.entry.element) third y.0 (in_from_contains third y.0 (two.stay y.0 (contains_from_in second y.0 y.1))) y.2

-- one that is there already
pub added_there : (x : PlainEnabled) (elements : List PlainEnabled) → is_kept x.entry.element elements ≡ true → AreAdded elements (x ∷ []) elements
added_there x elements kept = record { stay = λ y h. h; come = λ y h. inl h; listed = λ y h. subst (λ (z : PlainEnabled). is_kept z.entry.element elements ≡ true) (only x y (in_from_contains (x ∷ []) y h)) kept }

-- and one that is not
pub added_one : (x : PlainEnabled) (elements : List PlainEnabled) → AreAdded elements (x ∷ []) (with_item enabled_cmp x elements)
added_one x elements = record {
  stay = λ y h. contains_from_in (with_item enabled_cmp x elements) y (with_item_has enabled_cmp x y elements (inr (in_from_contains elements y h)));
  come = λ y h. ⊎_elim (λ same. inr (contains_from_in (x ∷ []) y (inl same))) (λ other. inl (contains_from_in elements y other)) (of_with_item enabled_cmp x y elements (in_from_contains (with_item enabled_cmp x elements) y h));
  listed = λ y h. subst (λ (z : PlainEnabled). is_kept z.entry.element (with_item enabled_cmp x elements) ≡ true) (only x y (in_from_contains (x ∷ []) y h)) (kept_from x.entry.element (with_item enabled_cmp x elements) x (with_item_has enabled_cmp x x elements (inl refl)) refl);
}

-- ---- what a search found

-- the entry of what is found of a transition
entry_is : (t : ℕ) (x : EnabledElement) → (enabled_view x).element.transition ≡ t → ◌≡◌ {A = PlainEntry} (record { earliest = (found_view x).earliest; element = record { transition = t; binding = (found_view x).binding } }) (enabled_view x)
entry_is t x same = subst (λ (k : ℕ). ◌≡◌ {A = PlainEntry} (record { earliest = (found_view x).earliest; element = record { transition = k; binding = (found_view x).binding } }) (enabled_view x)) same refl

module _ (n : PlainNet) (t : ℕ) (found : List EnabledElement) (are : AreOf n t found) where
  of_found : (x : EnabledElement) → IsIn x found → ((enabled_view x).element.transition ≡ t) × HasItsNeeds n x
  of_found x h = of_one_in (λ x. ((enabled_view x).element.transition ≡ t) × HasItsNeeds n x) found x are h

  found_entry : (x : EnabledElement) → IsIn x found → Contains (entries_of t (map found_view found)) (enabled_view x)
  found_entry x h =
      contains_from_in (entries_of t (map found_view found)) (enabled_view x)
      (subst (λ (y : PlainEntry). IsIn y (entries_of t (map found_view found))) (entry_is t x (of_found x h).0)
      (in_map (λ (f : PlainFound). record { earliest = f.earliest; element = record { transition = t; binding = f.binding } }) (map found_view found) (found_view x) (in_map found_view found x h)))

  entry_found : (y : PlainEntry) → Contains (entries_of t (map found_view found)) y → (x : EnabledElement) × IsIn x found × (enabled_view x ≡ y)
  entry_found y h =
      let f = in_map_from (λ (f : PlainFound). record { earliest = f.earliest; element = record { transition = t; binding = f.binding } }) (map found_view found) y (in_from_contains (entries_of t (map found_view found)) y h) in
      let x = in_map_from found_view found f.0 f.1 in
      (x.0, x.1, sym (entry_is t x.0 (of_found x.0 x.1).0) ∙ ap (λ (f : PlainFound). record { earliest = f.earliest; element = record { transition = t; binding = f.binding } }) x.2 ∙ f.2)

  module _ (m : Marking) (exact : (y : PlainEntry) → Contains (entries_of t (map found_view found)) y → IsEarliest n m 0 y) (old new : List PlainEnabled) (added : AreAdded old (map plain_enabled found) new) where
    pub found_more : HaveMore n m old new
    found_more = record {
      stay = added.stay;
      come = λ x h. ⊎_elim (λ before. inl before) (λ more. inr (of_more x (in_map_from plain_enabled found x (in_from_contains (map plain_enabled found) x more)))) (added.come x h);
    }
      where
        own : (y : EnabledElement) → IsIn y found → IsEarliest n m 0 (plain_enabled y).entry × IsOfNet n (plain_enabled y)
        own y h =
            let is = exact (enabled_view y) (found_entry y h) in
            (is, record { may = covered_may n m (enabled_view y).earliest (enabled_view y).element is.is_covered; needs = (of_found y h).1 })

        of_more : (x : PlainEnabled) → (y : EnabledElement) × IsIn y found × (plain_enabled y ≡ x) → IsEarliest n m 0 x.entry × IsOfNet n x
        of_more x y = subst (λ (x : PlainEnabled). IsEarliest n m 0 x.entry × IsOfNet n x) y.2 (own y.0 y.1)

    pub found_kept : (y : PlainEntry) → Contains (entries_of t (map found_view found)) y → is_kept y.element new ≡ true
    found_kept y h =
        let x = entry_found y h in
        subst (λ (y : PlainEntry). is_kept y.element new ≡ true) x.2 (added.listed (plain_enabled x.0) (contains_from_in (map plain_enabled found) (plain_enabled x.0) (in_map plain_enabled found x.0 x.1)))

-- all that is enabled of the transition with the value
pub found_with
    : (n : PlainNet) (m : Marking) (t place : ℕ) (v : PlainValue) (found : List EnabledElement) (old new : List PlainEnabled)
    → EnabledWith n m t place v (map found_view found) → AreOf n t found → AreAdded old (map plain_enabled found) new
    → HaveMore n m old new × HaveAll n m (λ e. IsOfTransition t e × HasTermAt n place v e) new
found_with n m t place v found old new enabled are added = (
  found_more n t found are m (λ y h. ((enabled.exact y).0 h).1) old new added,
  λ y is has. found_kept n t found are m (λ y h. ((enabled.exact y).0 h).1) old new added y ((enabled.exact y).1 (has.0, is, subst (λ (k : ℕ). HasTermWith (transition_at n k) place v y.element.binding) has.0 has.1)),
)

-- all that is enabled of the transition
pub found_of : (n : PlainNet) (m : Marking) (t : ℕ) (found : List EnabledElement) (old new : List PlainEnabled) → EnabledOf n m t (map found_view found) → AreOf n t found → AreAdded old (map plain_enabled found) new → HaveMore n m old new × HaveAll n m (IsOfTransition t) new
found_of n m t found old new enabled are added = (
  found_more n t found are m (λ y h. ((enabled.exact y).0 h).1) old new added,
  λ y is has. found_kept n t found are m (λ y h. ((enabled.exact y).0 h).1) old new added y ((enabled.exact y).1 (has, is)),
)

-- ---- needs are on places of the net

pub needs_in_range : (n : PlainNet) (e : PlainElement) (needs : List Needed) → IsSound n → e.transition < length n.transitions → needs_of n e ≡ gives needs → AllByRecursion (λ need. need.place < length n.places) needs
needs_in_range n e needs sound lt is = each_in (λ need. need.place < length n.places) needs (λ need h. ⊎_elim (λ other. of_arc need other.arc other.is_input other.from_it) (λ has. of_arc need has.arc has.is_input has.from_it) (need_is_found n e needs need is h))
  where
    of_arc : (need : Needed) (arc : PlainArc) → Contains (transition_at n e.transition).inputs arc → arc.place ≡ need.place → need.place < length n.places
    of_arc need arc input from =
        subst (λ (p : ℕ). p < length n.places) from
        (of_one_in (IsSoundInput n (transition_at n e.transition)) (transition_at n e.transition).inputs arc (sound_transition n e.transition sound (lt-ltb e.transition (length n.transitions) lt)).inputs_sound (in_from_contains (transition_at n e.transition).inputs arc input)).sound.place_known

pub found_in_range : (n : PlainNet) (t : ℕ) (found : List EnabledElement) → IsSound n → t < length n.transitions → AreOf n t found → AllByRecursion (λ (x : EnabledElement). AllByRecursion (λ need. need.place < length n.places) x.needs) found
found_in_range n t found sound lt are =
    each_in (λ (x : EnabledElement). AllByRecursion (λ need. need.place < length n.places) x.needs) found
    (λ x h. let its = of_found n t found are x h in needs_in_range n (enabled_view x).element x.needs sound (subst (λ (k : ℕ). k < length n.transitions) (sym its.0) lt) its.1)
