-- The different values of a place's tokens are just those that stand on it, and all values of a small colour set just those that it
-- admits: each once, and nothing else.
use Rattle.std.proofs.Common.{◌≡◌, ℕ, Bool, true, false, cond, List, [], ◌∷◌, map, refl, sym, ◌∙◌, subst, inl, inr, Less}
use Rattle.std.specs.List.{list_any}
use Rattle.cpn_definitions.specs.Value.{PlainValue}
use Rattle.cpn_definitions.specs.Order.{value_cmp, same_value}
use Rattle.cpn_definitions.specs.ValueOrder.{value_cmp_total, same_value_refl, same_value_true}
use Rattle.cpn_definitions.specs.Lists.{Rises}
use Rattle.cpn_definitions.specs.Marking.{Marking, tokens_at}
use Rattle.cpn_definitions.specs.Net.{PlainNet, variable_at}
use Rattle.cpn_definitions.specs.Bindable.{AreAll}
use Rattle.cpn_definitions.proofs.OneEnabledList.{asymmetric, after_first}
use Rattle.cpn_definitions.proofs.RisingLists.{IsIn, in_from_contains, contains_from_in, in_map, in_map_from, some_passes, one_that_passes}
use Rattle.cpn_stages.specs.Reached.{StandsOn, IsAdmitted}
use Rattle.cpn_stages.specs.Work.{AllDiffer, AreJust}

-- ---- on a place

-- the values, each at its last place alone
abbrev pub different : List PlainValue → List PlainValue
different [] = []
different (v ∷ vs) = cond (list_any (same_value v) vs) (different vs) (v ∷ different vs)

in_different_from : (vs : List PlainValue) (v : PlainValue) → IsIn v (different vs) → IsIn v vs
in_different_from [] v h = h
in_different_from (w ∷ vs) v h = split (list_any (same_value w) vs) (λ g. in_different_from vs v g) h
  where
    split : (test : Bool) → (IsIn v (different vs) → IsIn v vs) → IsIn v (cond test (different vs) (w ∷ different vs)) → IsIn v (w ∷ vs)
    split true rest g = inr (rest g)
    split false rest (inl same) = inl same
    split false rest (inr g) = inr (rest g)

in_different : (vs : List PlainValue) (v : PlainValue) → IsIn v vs → IsIn v (different vs)
in_different [] v h = h
in_different (w ∷ vs) v h = split (list_any (same_value w) vs) refl (λ u g. in_different vs u g) h
  where
    split : (test : Bool) → list_any (same_value w) vs ≡ test → ((u : PlainValue) → IsIn u vs → IsIn u (different vs)) → IsIn v (w ∷ vs) → IsIn v (cond test (different vs) (w ∷ different vs))
    split true is rest (inl same) =
        let one = one_that_passes (same_value w) vs is in
        rest v (subst (λ u. IsIn u vs) (sym (same_value_true w one.0 one.2) ∙ same) one.1)
    split true is rest (inr g) = rest v g
    split false is rest (inl same) = inl same
    split false is rest (inr g) = inr (rest v g)

different_differ : (vs : List PlainValue) → AllDiffer (different vs)
different_differ [] = tt
different_differ (v ∷ vs) = split (list_any (same_value v) vs) refl (different_differ vs)
  where
    split : (test : Bool) → list_any (same_value v) vs ≡ test → AllDiffer (different vs) → AllDiffer (cond test (different vs) (v ∷ different vs))
    split true is rest = rest
    split false is rest = ((λ h. twice (some_passes (same_value v) vs v (in_different_from vs v (in_from_contains (different vs) v h)) (same_value_refl v))), rest)
      where
        twice : list_any (same_value v) vs ≡ true → ⊥
        twice it_is = cc

-- the different values of the tokens on a place
abbrev pub values_on : Marking → ℕ → List PlainValue
values_on m place = different (map (λ token. token.value) (tokens_at m place))

pub just_standing : (m : Marking) (place : ℕ) → AreJust (StandsOn m place) (values_on m place)
just_standing m place = record {
  differ = different_differ (map (λ token. token.value) (tokens_at m place));
  all = λ v. (λ stands. contains_from_in (values_on m place) v (to v stands), λ h. from v (in_from_contains (values_on m place) v h));
}
  where
    to : (v : PlainValue) → StandsOn m place v → IsIn v (values_on m place)
    to v stands = in_different (map (λ token. token.value) (tokens_at m place)) v (subst (λ u. IsIn u (map (λ token. token.value) (tokens_at m place))) stands.2 (in_map (λ token. token.value) (tokens_at m place) stands.0 (in_from_contains (tokens_at m place) stands.0 stands.1)))

    from : (v : PlainValue) → IsIn v (values_on m place) → StandsOn m place v
    from v h =
        let one = in_map_from (λ token. token.value) (tokens_at m place) v (in_different_from (map (λ token. token.value) (tokens_at m place)) v h) in
        (one.0, contains_from_in (tokens_at m place) one.0 one.1, one.2)

-- ---- of a colour set

rising_differ : (vs : List PlainValue) → Rises value_cmp vs → AllDiffer vs
rising_differ [] rise = tt
rising_differ (v ∷ vs) rise = ((λ h. twice (after_first value_cmp v v vs rise.0 (in_from_contains vs v h))), rising_differ vs rise.1)
  where
    twice : value_cmp v v ≡ Less → ⊥
    twice less = asymmetric value_cmp value_cmp_total v v less less

pub just_admitted : (n : PlainNet) (x : ℕ) (vs : List PlainValue) → AreAll (variable_at n x).colour vs → AreJust (IsAdmitted n x) vs
just_admitted n x vs are = record { differ = rising_differ vs are.in_order; all = are.all }
