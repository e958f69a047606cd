-- The different values of sorted tokens are just those that stand on the place, each once.
use Rattle.std.proofs.Common.{◌≡◌, ℕ, Bool, true, false, not, cond, [], ◌∷◌, List, refl, sym, ap, ◌∙◌, subst, inl, inr, Ordering, Less, Equal, Greater, is_eq, is_gt}
use Rattle.std.specs.List.{AllByRecursion}
use Rattle.std.proofs.lemmas.Bool.{cond_both}
use Rattle.std.proofs.lemmas.Cmp.{upto}
use Rattle.cpn_definitions.specs.Value.{PlainValue}
use Rattle.cpn_definitions.specs.Order.{value_cmp, same_value}
use Rattle.cpn_definitions.specs.ValueOrder.{value_cmp_total, value_itself, same_value_true, value_not_above}
use Rattle.cpn_definitions.specs.Lists.{Rises}
use Rattle.cpn_definitions.specs.Marking.{PlainToken, Tokens, Marking, tokens_at, MayPrecede, AreSorted}
use Rattle.cpn_definitions.proofs.RisingLists.{IsIn, in_from_contains, contains_from_in, each_implied, of_one_in}
use Rattle.cpn_definitions.proofs.SameTokens.{less_upto}
use Rattle.cpn_stages.specs.Reached.{StandsOn}
use Rattle.cpn_stages.specs.Work.{AllDiffer, AreJust}
use Rattle.cpn_tmset.specs.Listed.{is_last_of, values_of}

-- each of the tokens has this value or one after it
abbrev NoneBelow : PlainValue → Tokens → Type 0
NoneBelow v ks = AllByRecursion (λ (k : PlainToken). is_gt (value_cmp v k.value) ≡ false) ks

none_below : (k : PlainToken) (ks : Tokens) → MayPrecede k ks → AreSorted ks → NoneBelow k.value ks
none_below k [] before sorted = tt
none_below k (l ∷ ls) before sorted =
    let first = value_not_above k l before in
    (first, each_implied (λ (j : PlainToken). is_gt (value_cmp l.value j.value) ≡ false) (λ (j : PlainToken). is_gt (value_cmp k.value j.value) ≡ false) ls (λ j later. upto value_cmp_total k.value l.value j.value first later) (none_below l ls sorted.0 sorted.1))

-- what holds of the value of each token holds of each of the values
each_value : (P : PlainValue → Type 0) (ks : Tokens) → AllByRecursion (λ (k : PlainToken). P k.value) ks → AllByRecursion P (values_of ks)
each_value P [] all = tt
each_value P (k ∷ ks) all = cond_both (is_last_of k ks) (k.value ∷ values_of ks) (values_of ks) (AllByRecursion P) (λ _. (all.0, each_value P ks all.1)) (λ _. each_value P ks all.1)

-- a token that is the last of its value comes before all that follow
last_before : (k : PlainToken) (ks : Tokens) → is_last_of k ks ≡ true → MayPrecede k ks → AreSorted ks → AllByRecursion (λ (l : PlainToken). value_cmp k.value l.value ≡ Less) ks
last_before k [] is before sorted = tt
last_before k (l ∷ ls) is before sorted =
    let first = apart (value_cmp k.value l.value) is (value_not_above k l before) in
    (first, each_implied (λ (j : PlainToken). is_gt (value_cmp l.value j.value) ≡ false) (λ (j : PlainToken). value_cmp k.value j.value ≡ Less) ls (λ j later. less_upto k.value l.value j.value first later) (none_below l ls sorted.0 sorted.1))
  where
    apart : (o : Ordering) → not (is_eq o) ≡ true → is_gt o ≡ false → o ≡ Less
    apart Less h g = refl
    apart Equal h g = cc
    apart Greater h g = cc

values_rise : (ks : Tokens) → AreSorted ks → Rises value_cmp (values_of ks)
values_rise [] sorted = tt
values_rise (k ∷ ks) sorted =
    cond_both (is_last_of k ks) (k.value ∷ values_of ks) (values_of ks) (Rises value_cmp)
    (λ is. (each_value (λ w. value_cmp k.value w ≡ Less) ks (last_before k ks is sorted.0 sorted.1), values_rise ks sorted.1)) (λ _. values_rise ks sorted.1)

-- the value of each token is among them
value_listed : (ks : Tokens) (k : PlainToken) → IsIn k ks → IsIn k.value (values_of ks)
value_listed [] k h = absurd h
value_listed (j ∷ []) k (inl e) = inl (ap (λ (l : PlainToken). l.value) e)
value_listed (j ∷ []) k (inr h) = absurd h
value_listed (j ∷ l ∷ ls) k (inl e) =
    subst (λ v. IsIn v (values_of (j ∷ l ∷ ls))) (ap (λ (i : PlainToken). i.value) e) (split (same_value j.value l.value) refl (value_listed (l ∷ ls) l (inl refl)))
  where
    split : (a : Bool) → same_value j.value l.value ≡ a → IsIn l.value (values_of (l ∷ ls)) → IsIn j.value (cond (not a) (j.value ∷ values_of (l ∷ ls)) (values_of (l ∷ ls)))
    split false same rest = inl refl
    split true same rest = subst (λ v. IsIn v (values_of (l ∷ ls))) (sym (same_value_true j.value l.value same)) rest
value_listed (j ∷ l ∷ ls) k (inr h) =
    let rest = value_listed (l ∷ ls) k h in
    cond_both (is_last_of j (l ∷ ls)) (j.value ∷ values_of (l ∷ ls)) (values_of (l ∷ ls)) (IsIn k.value) (λ _. inr rest) (λ _. rest)

-- each of them is the value of a token
value_stands : (ks : Tokens) (v : PlainValue) → IsIn v (values_of ks) → (k : PlainToken) × IsIn k ks × (k.value ≡ v)
value_stands [] v h = absurd h
value_stands (k ∷ ks) v h = split (is_last_of k ks) h (λ g. value_stands ks v g)
  where
    split : (b : Bool) → IsIn v (cond b (k.value ∷ values_of ks) (values_of ks)) → (IsIn v (values_of ks) → (l : PlainToken) × IsIn l ks × (l.value ≡ v)) → (l : PlainToken) × IsIn l (k ∷ ks) × (l.value ≡ v)
    split true (inl e) rest = (k, inl refl, e)
    split true (inr g) rest = let later = rest g in (later.0, inr later.1, later.2)
    split false g rest = let later = rest g in (later.0, inr later.1, later.2)

-- values that rise differ
pub rising_differ : (vs : List PlainValue) → Rises value_cmp vs → AllDiffer vs
rising_differ [] rise = tt
rising_differ (v ∷ vs) rise = (λ h. twice (of_one_in (λ w. value_cmp v w ≡ Less) vs v rise.0 (in_from_contains vs v h)), rising_differ vs rise.1)
  where
    twice : value_cmp v v ≡ Less → ⊥
    twice h = apart (sym h ∙ value_itself v)
      where
        apart : Less ≡ Equal → ⊥
        apart h = cc

pub values_just : (m : Marking) (place : ℕ) → AreSorted (tokens_at m place) → AreJust (StandsOn m place) (values_of (tokens_at m place))
values_just m place sorted = record {
  differ = rising_differ (values_of (tokens_at m place)) (values_rise (tokens_at m place) sorted);
  all = λ v. (
    λ h. contains_from_in (values_of (tokens_at m place)) v (subst (λ w. IsIn w (values_of (tokens_at m place))) h.2 (value_listed (tokens_at m place) h.0 (in_from_contains (tokens_at m place) h.0 h.1))),
    λ h. let token = value_stands (tokens_at m place) v (in_from_contains (values_of (tokens_at m place)) v h) in (token.0, contains_from_in (tokens_at m place) token.0 token.1, token.2),
  );
}
