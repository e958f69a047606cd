-- Searches one after another: of one transition more, and with one told value more.
use Rattle.std.proofs.Common.{◌≡◌, ℕ, zero, suc, ◌+◌, ◌<◌, ◌≤◌, ◌==◌, true, false, List, [], ◌∷◌, ◌++◌, map, length, take, get_or, nat_cmp, refl, sym, ap, ◌∙◌, subst, inl, inr, ⊎_elim, arith, eqb-true}
use Rattle.std.specs.List.{AllByRecursion}
use Rattle.std.proofs.lemmas.Bool.{and_parts}
use Rattle.std.proofs.lemmas.List.{take_more}
use Rattle.cpn_definitions.specs.Lists.{Rises}
use Rattle.cpn_definitions.specs.Value.{PlainValue}
use Rattle.cpn_definitions.specs.Order.{value_cmp, same_value}
use Rattle.cpn_definitions.specs.ValueOrder.{value_same}
use Rattle.cpn_definitions.specs.Marking.{Marking}
use Rattle.cpn_definitions.specs.Net.{PlainNet, transition_at}
use Rattle.cpn_definitions.specs.Occurrence.{PlainElement}
use Rattle.cpn_definitions.proofs.KeyedEntries.{equal_from}
use Rattle.cpn_definitions.proofs.RisingLists.{IsIn, in_append_cases, each_in}
use Rattle.cpn_tmset.specs.Changed.{PlainChange, is_change, is_told}
use Rattle.cpn_stages.specs.Reading.{HasTermOn}
use Rattle.cpn_stages.proofs.NeededTerms.{has_term_on}
use Rattle.cpn_due.specs.Due.{PlainEnabled}
use Rattle.cpn_index.specs.Added.{HaveMore, HaveAll, IsOfTransition, HasTermAt}
use Rattle.cpn_index.specs.UpdateWork.{IsSum, transitions_of}
use Rattle.cpn_index.proofs.KeptLists.{or_cases}
use Rattle.cpn_index.proofs.SumParts.{sums_parted, sum_of_transitions, first_summed}
use Rattle.cpn_index.proofs.RetimedLists.{told_more}
use Rattle.cpn_index.proofs.AddedElements.{still_all}
use Rattle.cpn_index.proofs.TouchedElements.{of_the_net}

-- the element is of one of the transitions, and has a property
abbrev pub IsOfOne : List ℕ → (PlainElement → Type 0) → PlainElement → Type 0
IsOfOne ts P e = IsIn e.transition ts × P e

-- one transition more
pub one_searched
    : (n : PlainNet) (m : Marking) (P : PlainElement → Type 0) (ts : List ℕ) (t : ℕ) (old new : List PlainEnabled)
    → HaveMore n m old new → HaveAll n m (IsOfOne ts P) old → HaveAll n m (λ e. IsOfTransition t e × P e) new → HaveAll n m (IsOfOne (ts ++ t ∷ []) P) new
one_searched n m P ts t old new more before now y is has =
    ⊎_elim (λ earlier. still_all n m (IsOfOne ts P) old new more before y is (earlier, has.1)) (λ last. now y is (only last, has.1)) (in_append_cases ts (t ∷ []) y.element.transition has.0)
  where
    only : IsIn y.element.transition (t ∷ []) → y.element.transition ≡ t
    only (inl same) = sym same
    only (inr h) = absurd h

-- steps of one more
pub one_more_summed : {A : Type 0} (Has : A → ℕ → Type 0) (xs : List A) (x : A) (first second third : ℕ) → ((k : ℕ) → IsSum Has xs k → second ≤ first + k) → ((k : ℕ) → Has x k → third ≤ second + k) → (k : ℕ) → IsSum Has (xs ++ x ∷ []) k → third ≤ first + k
one_more_summed Has xs x first second third before now k sum =
    let parts = sums_parted Has xs (x ∷ []) k sum in
    let last = parts.3 in
    let up_to = before parts.0 parts.2 in
    let own = now last.0 last.2 in
    let none = last.3 in
    let is = last.4 in
    let all = parts.4 in
    omega (arith, up_to, own, none, is, all)

-- ---- with one told value more

same_is : (v w : PlainValue) → same_value v w ≡ true → v ≡ w
same_is v w is = value_same v w (equal_from (value_cmp v w) is)

pub none_told : (n : PlainNet) (m : Marking) (elements : List PlainEnabled) (p : ℕ) (v : PlainValue) → is_told p v [] ≡ true → HaveAll n m (HasTermAt n p v) elements
none_told n m elements p v told = cc

pub one_told
    : (n : PlainNet) (m : Marking) (told : List PlainChange) (change : PlainChange) (old new : List PlainEnabled) → HaveMore n m old new
    → ((p : ℕ) (v : PlainValue) → is_told p v told ≡ true → HaveAll n m (HasTermAt n p v) old) → HaveAll n m (HasTermAt n change.place change.value) new
    → (p : ℕ) (v : PlainValue) → is_told p v (told ++ change ∷ []) ≡ true → HaveAll n m (HasTermAt n p v) new
one_told n m told change old new more before now p v is =
    ⊎_elim (λ earlier. still_all n m (HasTermAt n p v) old new more (before p v earlier)) (λ last. ⊎_elim (λ one. here one) (λ none. absurd (clash none)) (or_cases (is_change p v change) false last))
    (or_cases (is_told p v told) (is_told p v (change ∷ [])) (sym (told_more p v told (change ∷ [])) ∙ is))
  where
    clash : false ≡ true → ⊥
    clash is = cc

    here : is_change p v change ≡ true → HaveAll n m (HasTermAt n p v) new
    here one =
        let parts = and_parts (p == change.place) (same_value v change.value) one in
        subst (λ (k : ℕ). HaveAll n m (HasTermAt n k v) new) (sym (eqb-true p change.place parts.0)) (subst (λ (w : PlainValue). HaveAll n m (HasTermAt n change.place w) new) (sym (same_is v change.value parts.1)) now)

-- each transition that has a term there was searched
pub all_searched
    : (n : PlainNet) (m : Marking) (ts : List ℕ) (place : ℕ) (v : PlainValue) (elements : List PlainEnabled) → ((t : ℕ) → t < length n.transitions → HasTermOn (transition_at n t) place → IsIn t ts)
    → HaveAll n m (IsOfOne ts (HasTermAt n place v)) elements → HaveAll n m (HasTermAt n place v) elements
all_searched n m ts place v elements each all y is has =
    all y is (each y.element.transition (of_the_net n m y.earliest y.element is.is_covered) (has_term_on (transition_at n y.element.transition) place v y.element.binding has), has)

-- ---- in a list of transitions

pub in_at : (ts : List ℕ) (i : ℕ) → i < length ts → IsIn (get_or ts i 0) ts
in_at [] i lt = absurd (omega (arith, lt))
in_at (t ∷ ts) zero lt = inl refl
in_at (t ∷ ts) (suc i) lt = inr (in_at ts i (omega (arith, lt)))

same_list : (ts : List ℕ) → map (λ (t : ℕ). t) ts ≡ ts
same_list [] = refl
same_list (t ∷ ts) = ap (λ us. t ∷ us) (same_list ts)

module _ (Has : ℕ → ℕ → Type 0) (n : PlainNet) (ts : List ℕ) (rising : Rises nat_cmp ts) (within : (t : ℕ) → IsIn t ts → t < length n.transitions) (first second : ℕ) where
  in_net : AllByRecursion (λ t. t < length n.transitions) ts
  in_net = each_in (λ t. t < length n.transitions) ts within

  -- the steps of the transitions so far, and of one more, are at most those of all transitions
  pub steps_so_far : (i third : ℕ) → i < length ts → ((k : ℕ) → IsSum Has (take i ts) k → second ≤ first + k) → ((k : ℕ) → Has (get_or ts i 0) k → third ≤ second + k) → (k : ℕ) → IsSum Has (transitions_of n) k → third ≤ first + k
  steps_so_far i third lt before now k sum =
      let all = sum_of_transitions Has n ts k sum rising in_net in
      let some = first_summed Has (λ t. t) ts (i + 1) all.0 (subst (λ us. IsSum Has us all.0) (sym (same_list ts)) all.1) in
      let here : IsSum Has (take i ts ++ get_or ts i 0 ∷ []) some.0 = subst (λ us. IsSum Has us some.0) (same_list (take (i + 1) ts) ∙ take_more ts i 0 lt) some.1 in
      let up_to = one_more_summed Has (take i ts) (get_or ts i 0) first second third before now some.0 here in
      let most = some.2 in
      let more = all.2 in
      omega (arith, up_to, most, more)

  -- and so are those of all of them
  pub steps_of_all : ((k : ℕ) → IsSum Has ts k → second ≤ first + k) → (k : ℕ) → IsSum Has (transitions_of n) k → second ≤ first + k
  steps_of_all before k sum =
      let all = sum_of_transitions Has n ts k sum rising in_net in
      let up_to = before all.0 all.1 in
      let more = all.2 in
      omega (arith, up_to, more)
