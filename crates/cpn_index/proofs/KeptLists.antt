-- Lists of kept elements: with one more, without one, and the one that is of an element.
use Rattle.std.proofs.Common.{◌≡◌, ◌⊎◌, ℕ, Bool, true, false, cond, not, ◌&&◌, ◌||◌, nat_lt, List, [], ◌∷◌, Some, None, refl, sym, ap, ◌∙◌, subst, inl, inr, ⊎_elim, arith, length, Ordering, Less, Equal, Greater, is_lt, nat_cmp}
use Rattle.std.specs.List.{AllByRecursion}
use Rattle.std.specs.Ordering.{is_eq, ordering_then, ordering_reverse}
use Rattle.std.specs.Cmp.{IsTotalOrder}
use Rattle.std.proofs.lemmas.Cmp.{tied_itself, on_total}
use Rattle.std.proofs.lemmas.Bool.{and_parts}
use Rattle.std.proofs.lemmas.Bool.Decides.{nat_tests}
use Rattle.cpn_definitions.specs.Lists.{Rises, with_item}
use Rattle.cpn_definitions.specs.Marking.{Marking}
use Rattle.cpn_definitions.specs.Net.{PlainNet, transition_at}
use Rattle.cpn_definitions.specs.Meaning.{PlainBinding}
use Rattle.cpn_definitions.specs.Occurrence.{PlainElement, binds, guard_holds, may_occur, covered}
use Rattle.cpn_definitions.specs.Enabled.{PlainEntry, binding_cmp, element_cmp, entry_cmp, IsEarliest}
use Rattle.cpn_definitions.proofs.KeyedEntries.{equal_from}
use Rattle.cpn_definitions.proofs.OrderedLists.{all_with_item}
use Rattle.cpn_definitions.proofs.OneEnabledList.{entry_cmp_total, after_first}
use Rattle.cpn_definitions.proofs.RisingLists.{IsIn, in_filter, in_filter_from, one_that_passes, some_passes, each_implied, each_filtered}
use Rattle.cpn_definitions.proofs.TruthValues.{not_both}
use Rattle.cpn_search.proofs.FoundBindings.{same_binding}
use Rattle.cpn_due.specs.Due.{PlainEnabled, enabled_cmp, is_of, is_kept, kept_of, without}
use Rattle.cpn_index.proofs.ClockedLists.{same_time}

pub or_cases : (a b : Bool) → (a || b) ≡ true → (a ≡ true) ⊎ (b ≡ true)
or_cases true b is = inl refl
or_cases false b is = inr is

-- ---- what is in a list

pub of_with_item : {X : Type 0} (c : X → X → Ordering) (x z : X) (ys : List X) → IsIn z (with_item c x ys) → (x ≡ z) ⊎ IsIn z ys
of_with_item c x z [] (inl e) = inl e
of_with_item c x z [] (inr h) = absurd h
of_with_item c x z (y ∷ ys) h = split (is_lt (c x y)) (of_with_item c x z ys) h
  where
    split : (b : Bool) → (IsIn z (with_item c x ys) → (x ≡ z) ⊎ IsIn z ys) → IsIn z (cond b (x ∷ y ∷ ys) (y ∷ with_item c x ys)) → (x ≡ z) ⊎ IsIn z (y ∷ ys)
    split true rest (inl e) = inl e
    split true rest (inr h) = inr h
    split false rest (inl e) = inr (inl e)
    split false rest (inr h) = ⊎_elim (λ e. inl e) (λ g. inr (inr g)) (rest h)

pub with_item_has : {X : Type 0} (c : X → X → Ordering) (x z : X) (ys : List X) → (x ≡ z) ⊎ IsIn z ys → IsIn z (with_item c x ys)
with_item_has c x z [] h = h
with_item_has c x z (y ∷ ys) h = split (is_lt (c x y)) (with_item_has c x z ys) h
  where
    split : (b : Bool) → ((x ≡ z) ⊎ IsIn z ys → IsIn z (with_item c x ys)) → (x ≡ z) ⊎ IsIn z (y ∷ ys) → IsIn z (cond b (x ∷ y ∷ ys) (y ∷ with_item c x ys))
    split true rest (inl e) = inl e
    split true rest (inr h) = inr h
    split false rest (inl e) = inr (rest (inl e))
    split false rest (inr (inl e)) = inl e
    split false rest (inr (inr g)) = inr (rest (inr g))

-- the one that is of an element
pub kept_of_in : (e : PlainElement) (xs : List PlainEnabled) (x : PlainEnabled) → kept_of e xs ≡ Some x → IsIn x xs × (is_of e x ≡ true)
kept_of_in e [] x is = cc
kept_of_in e (y ∷ xs) x is = split (is_of e y) refl is (λ h. kept_of_in e xs x h)
  where
    some : (y x : PlainEnabled) → Some y ≡ Some x → y ≡ x
    some y x is = cc

    split : (b : Bool) → is_of e y ≡ b → cond b (Some y) (kept_of e xs) ≡ Some x → (kept_of e xs ≡ Some x → IsIn x xs × (is_of e x ≡ true)) → IsIn x (y ∷ xs) × (is_of e x ≡ true)
    split true of is later = let same = some y x is in (inl same, subst (λ (z : PlainEnabled). is_of e z ≡ true) same of)
    split false of is later = let rest = later is in (inr rest.0, rest.1)

pub none_kept : (e : PlainElement) (xs : List PlainEnabled) (x : PlainEnabled) → kept_of e xs ≡ None → IsIn x xs → is_of e x ≡ false
none_kept e [] x none h = absurd h
none_kept e (y ∷ xs) x none h = split (is_of e y) refl none h (λ is there. none_kept e xs x is there)
  where
    split : (b : Bool) → is_of e y ≡ b → cond b (Some y) (kept_of e xs) ≡ None → IsIn x (y ∷ xs) → (kept_of e xs ≡ None → IsIn x xs → is_of e x ≡ false) → is_of e x ≡ false
    split true of is h later = cc
    split false of is (inl same) later = subst (λ (z : PlainEnabled). is_of e z ≡ false) same of
    split false of is (inr h) later = later is h

pub none_of : (e : PlainElement) (xs : List PlainEnabled) (x : PlainEnabled) → kept_of e xs ≡ None → IsIn x xs → is_of e x ≡ true → ⊥
none_of e xs x none h of = not_both (is_of e x) of (none_kept e xs x none h)

pub not_true : (b : Bool) → not b ≡ true → b ≡ false
not_true false is = refl
not_true true is = cc

pub not_false : (b : Bool) → b ≡ false → not b ≡ true
not_false false is = refl
not_false true is = cc

pub without_from : (e : PlainElement) (xs : List PlainEnabled) (x : PlainEnabled) → IsIn x (without e xs) → IsIn x xs × (is_of e x ≡ false)
without_from e xs x h = let parts = in_filter_from (λ y. not (is_of e y)) xs x h in (parts.0, not_true (is_of e x) parts.1)

pub without_has : (e : PlainElement) (xs : List PlainEnabled) (x : PlainEnabled) → IsIn x xs → is_of e x ≡ false → IsIn x (without e xs)
without_has e xs x h other = in_filter (λ y. not (is_of e y)) xs x h (not_false (is_of e x) other)

-- ---- one element has one place in a rising list

-- two that compare as equal to one compare as equal
both_equal : (x y z : PlainEntry) → entry_cmp x y ≡ Equal → entry_cmp x z ≡ Equal → entry_cmp y z ≡ Equal
both_equal x y z first second = sym (entry_cmp_total.congr x y z first) ∙ second

-- two that are of one element compare as equal
pub alike : (e : PlainElement) (x y : PlainEnabled) → is_of e x ≡ true → is_of e y ≡ true → enabled_cmp x y ≡ Equal
alike e x y of_x of_y =
    let own : PlainEntry = record { earliest = 0; element = e } in
    both_equal own x.entry y.entry (equal_from (element_cmp e x.entry.element) of_x) (equal_from (element_cmp e y.entry.element) of_y)

rises_apart : (x y : PlainEnabled) (xs : List PlainEnabled) → AllByRecursion (λ z. enabled_cmp x z ≡ Less) xs → IsIn y xs → enabled_cmp x y ≡ Equal → ⊥
rises_apart x y xs all h same = clash (enabled_cmp x y) (after_first enabled_cmp x y xs all h) same
  where
    clash : (o : Ordering) → o ≡ Less → o ≡ Equal → ⊥
    clash o less equal = cc

pub one_of_rising : (e : PlainElement) (xs : List PlainEnabled) (x y : PlainEnabled) → Rises enabled_cmp xs → IsIn x xs → IsIn y xs → is_of e x ≡ true → is_of e y ≡ true → x ≡ y
one_of_rising e [] x y rising first second of_x of_y = absurd first
one_of_rising e (z ∷ xs) x y rising (inl a) (inl b) of_x of_y = sym a ∙ b
one_of_rising e (z ∷ xs) x y rising (inl a) (inr h) of_x of_y = absurd (rises_apart z y xs rising.0 h (subst (λ (w : PlainEnabled). enabled_cmp w y ≡ Equal) (sym a) (alike e x y of_x of_y)))
one_of_rising e (z ∷ xs) x y rising (inr g) (inl b) of_x of_y = absurd (rises_apart z x xs rising.0 g (subst (λ (w : PlainEnabled). enabled_cmp w x ≡ Equal) (sym b) (alike e y x of_y of_x)))
one_of_rising e (z ∷ xs) x y rising (inr g) (inr h) of_x of_y = one_of_rising e xs x y rising.1 g h of_x of_y

-- what is of the one is of the other
pub same_as : (e : PlainElement) (x z : PlainEnabled) → is_of e x ≡ true → is_of e z ≡ is_of x.entry.element z
same_as e x z of = ap is_eq (entry_cmp_total.congr (record { earliest = 0; element = e }) x.entry z.entry (equal_from (element_cmp e x.entry.element) of))

pub of_itself : (e : PlainElement) (x : PlainEnabled) → x.entry.element ≡ e → is_of e x ≡ true
of_itself e x same = subst (λ (f : PlainElement). is_of f x ≡ true) same (ap is_eq (tied_itself entry_cmp_total x.entry))

-- ---- lists still rise

-- behind what comes after another, each comes after it
all_after : {X : Type 0} (c : X → X → Ordering) → IsTotalOrder c → (x y : X) (ys : List X) → c x y ≡ Less → AllByRecursion (λ z. c y z ≡ Less) ys → AllByRecursion (λ z. c x z ≡ Less) ys
all_after c total x y ys less all = each_implied (λ z. c y z ≡ Less) (λ z. c x z ≡ Less) ys (λ z behind. total.trans x y z less behind) all

pub rises_with_item : {X : Type 0} (c : X → X → Ordering) → IsTotalOrder c → (x : X) (ys : List X) → ((y : X) → IsIn y ys → c x y ≡ Equal → ⊥) → Rises c ys → Rises c (with_item c x ys)
rises_with_item c total x [] apart rising = (tt, tt)
rises_with_item c total x (y ∷ ys) apart rising = split (c x y) refl (rises_with_item c total x ys (λ z h. apart z (inr h)) rising.1)
  where
    clash : (o : Ordering) → o ≡ Less → o ≡ Equal → ⊥
    clash o less equal = cc

    after : (o : Ordering) → c x y ≡ o → (o ≡ Less → ⊥) → c y x ≡ Less
    after Less is not_less = absurd (not_less refl)
    after Equal is not_less = absurd (apart y (inl refl) is)
    after Greater is not_less = total.antisymm y x ∙ ap ordering_reverse is

    behind : (c x y ≡ Less → ⊥) → Rises c (with_item c x ys) → Rises c (y ∷ with_item c x ys)
    behind not_less rest = (all_with_item c (λ z. c y z ≡ Less) x ys (after (c x y) refl not_less) rising.0, rest)

    split : (o : Ordering) → c x y ≡ o → Rises c (with_item c x ys) → Rises c (cond (is_lt o) (x ∷ y ∷ ys) (y ∷ with_item c x ys))
    split Less is rest = ((is, all_after c total x y ys is rising.0), rising)
    split Equal is rest = behind (λ less. clash (c x y) less is) rest
    split Greater is rest = behind (λ less. greater (c x y) less is) rest
      where
        greater : (o : Ordering) → o ≡ Less → o ≡ Greater → ⊥
        greater o less is = cc

pub enabled_cmp_total : IsTotalOrder enabled_cmp
enabled_cmp_total = on_total (λ (x : PlainEnabled). x.entry) entry_cmp_total

-- with one whose element is none of them
pub rises_with : (x : PlainEnabled) (ys : List PlainEnabled) → is_kept x.entry.element ys ≡ false → Rises enabled_cmp ys → Rises enabled_cmp (with_item enabled_cmp x ys)
rises_with x ys absent rising = rises_with_item enabled_cmp enabled_cmp_total x ys (λ y h same. not_both (is_kept x.entry.element ys) (some_passes (is_of x.entry.element) ys y h (ap is_eq same)) absent) rising

pub rises_without : (e : PlainElement) (ys : List PlainEnabled) → Rises enabled_cmp ys → Rises enabled_cmp (without e ys)
rises_without e [] rising = tt
rises_without e (y ∷ ys) rising = split (is_of e y) (rises_without e ys rising.1)
  where
    split : (b : Bool) → Rises enabled_cmp (without e ys) → Rises enabled_cmp (cond (not b) (y ∷ without e ys) (without e ys))
    split true rest = rest
    split false rest = (each_filtered (λ z. enabled_cmp y z ≡ Less) (λ z. not (is_of e z)) ys rising.0, rest)

-- what is taken out is none of the others
pub not_kept : (e : PlainElement) (ys : List PlainEnabled) (x : PlainEnabled) → kept_of e ys ≡ Some x → is_kept x.entry.element (without e ys) ≡ false
not_kept e ys x kept = none (without e ys) (λ z h. sym (same_as e x z (kept_of_in e ys x kept).1) ∙ (without_from e ys z h).1)
  where
    none : (zs : List PlainEnabled) → ((z : PlainEnabled) → IsIn z zs → is_of x.entry.element z ≡ false) → is_kept x.entry.element zs ≡ false
    none [] other = refl
    none (z ∷ zs) other = rw (other z (inl refl)) (none zs (λ w h. other w (inr h)))

-- ---- elements that may occur

equal_parts : (o p : Ordering) → ordering_then o p ≡ Equal → (o ≡ Equal) × (p ≡ Equal)
equal_parts Equal p is = (refl, is)
equal_parts o p is = cc

same_number : (i j : ℕ) → nat_cmp i j ≡ Equal → i ≡ j
same_number i j is = grind (arith, is, nat_tests)

-- two that may occur, and compare as equal, are the same
pub one_element : (n : PlainNet) (e f : PlainElement) → may_occur n e ≡ true → may_occur n f ≡ true → element_cmp e f ≡ Equal → e ≡ f
one_element n e f first second same =
    let parts = equal_parts (nat_cmp e.transition f.transition) (binding_cmp e.binding f.binding) same in
    let number : e.transition ≡ f.transition = same_number e.transition f.transition parts.0 in
    let own = bound_of e first in
    let its = bound_of f second in
    let binding : e.binding ≡ f.binding = same_binding n (transition_at n e.transition).vars e.binding f.binding own (subst (λ (k : ℕ). binds n (transition_at n k).vars f.binding ≡ true) (sym number) its) parts.1 in
    element_is e.transition f.transition e.binding f.binding number binding
  where
    bound_of : (e : PlainElement) → may_occur n e ≡ true → binds n (transition_at n e.transition).vars e.binding ≡ true
    bound_of e may =
        (and_parts (nat_lt e.transition (length n.transitions)) (binds n (transition_at n e.transition).vars e.binding)
        (and_parts (nat_lt e.transition (length n.transitions) && binds n (transition_at n e.transition).vars e.binding) (guard_holds n.functions (transition_at n e.transition).guard e.binding) may).0).1

    element_is : (i j : ℕ) (b c : PlainBinding) → i ≡ j → b ≡ c → ◌≡◌ {A = PlainElement} (record { transition = i; binding = b }) (record { transition = j; binding = c })
    element_is i j b c number binding = cc

pub covered_may : (n : PlainNet) (m : Marking) (time : ℕ) (e : PlainElement) → covered n m time e ≡ true → may_occur n e ≡ true
unfolding covered
covered_may n m time e is = (and_parts (may_occur n e) _ is).0

-- one element has one least time
pub one_time : (n : PlainNet) (m : Marking) (clock : ℕ) (x y : PlainEntry) → x.element ≡ y.element → IsEarliest n m clock x → IsEarliest n m clock y → x ≡ y
one_time n m clock x y same first second = entry_is x.earliest y.earliest x.element y.element (same_time n m clock x y same first second) same
  where
    entry_is : (s t : ℕ) (e f : PlainElement) → s ≡ t → e ≡ f → ◌≡◌ {A = PlainEntry} (record { earliest = s; element = e }) (record { earliest = t; element = f })
    entry_is s t e f time same = cc

-- where an enabled element is kept, and all that is kept has its least time, its entry is there
pub kept_entry : (n : PlainNet) (m : Marking) (xs : List PlainEnabled) (y : PlainEntry) → ((x : PlainEnabled) → IsIn x xs → IsEarliest n m 0 x.entry) → IsEarliest n m 0 y → is_kept y.element xs ≡ true → (x : PlainEnabled) × IsIn x xs × (x.entry ≡ y)
kept_entry n m xs y each is kept =
    let one = one_that_passes (is_of y.element) xs kept in
    let its = each one.0 one.1 in
    let same : y.element ≡ one.0.entry.element = one_element n y.element one.0.entry.element (covered_may n m y.earliest y.element is.is_covered) (covered_may n m one.0.entry.earliest one.0.entry.element its.is_covered) (equal_from (element_cmp y.element one.0.entry.element) one.2) in
    (one.0, one.1, one_time n m 0 one.0.entry y (sym same) its is)

pub kept_from : (y : PlainElement) (xs : List PlainEnabled) (x : PlainEnabled) → IsIn x xs → x.entry.element ≡ y → is_kept y xs ≡ true
kept_from y xs x h same = some_passes (is_of y) xs x h (of_itself y x same)
