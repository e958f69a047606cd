-- Laws of multisets: the first value appears nowhere behind, and two multisets in which every value appears equally often are
-- the same.
use Rattle.std.specs.Prelude.{◌≡◌, ℕ, Bool, true, false, [], ◌∷◌}
use Rattle.std.proofs.Common.{refl, sym, ap, ap₂, subst, ◌∙◌, arith}
use Rattle.std.specs.List.{AllByRecursion}
use Rattle.std.specs.declared.cmp.Ordering.{Ordering}
use Rattle.std.specs.declared.cmp.Ordering.TheVariants.{Less, Equal, Greater}
use Rattle.std.specs.Ordering.{is_eq, ordering_reverse}
use Rattle.std.proofs.lemmas.Bool.{cond-true, cond-false}
use Rattle.cpn_definitions.specs.Value.{PlainValue}
use Rattle.cpn_definitions.specs.Order.{value_cmp, same_value}
use Rattle.cpn_definitions.specs.ValueOrder.{value_cmp_total, value_same, same_value_refl, same_value_true}
use Rattle.cpn_mset.specs.MSets.{PlainMSet, appearances, IsMSet}

first_appears : (e : PlainValue × ℕ) (es : PlainMSet) → appearances e.0 (e ∷ es) ≡ e.1
first_appears e es = cond-true (same_value e.0 e.0) e.1 (appearances e.0 es) (same_value_refl e.0)

-- a value before all of a multiset's, or the same as one before them, does not appear
not_behind : (w v : PlainValue) (es : PlainMSet) → ((u : PlainValue) → value_cmp v u ≡ Less → same_value w u ≡ false) → AllByRecursion (λ (e : PlainValue × ℕ). value_cmp v e.0 ≡ Less) es → appearances w es ≡ 0
not_behind w v [] other all = refl
not_behind w v (e ∷ es) other all = cond-false (same_value w e.0) e.1 (appearances w es) (other e.0 all.0) ∙ not_behind w v es other all.1

not_below : (w : PlainValue) (e : PlainValue × ℕ) (es : PlainMSet) → IsMSet (e ∷ es) → value_cmp w e.0 ≡ Less → appearances w (e ∷ es) ≡ 0
not_below w e es is below =
    cond-false (same_value w e.0) e.1 (appearances w es) (ap is_eq below)
    ∙ not_behind w e.0 es (λ u less. ap is_eq (value_cmp_total.trans w e.0 u below less)) is.0.0

-- the first value does not appear behind
pub once_listed : (v : PlainValue) (e : PlainValue × ℕ) (es : PlainMSet) → IsMSet (e ∷ es) → same_value v e.0 ≡ true → appearances v es ≡ 0
once_listed v e es is same = not_behind v e.0 es (λ u less. subst (λ w. same_value w u ≡ false) (sym (same_value_true v e.0 same)) (ap is_eq less)) is.0.0

rest_of : (e : PlainValue × ℕ) (es : PlainMSet) → IsMSet (e ∷ es) → IsMSet es
rest_of e es is = (is.0.1, is.1.1)

pub mset_same : (m n : PlainMSet) → IsMSet m → IsMSet n → ((v : PlainValue) → appearances v m ≡ appearances v n) → m ≡ n
mset_same [] [] is is' same = refl
mset_same [] (e ∷ es) is is' same = let none : 0 ≡ e.1 = same e.0 ∙ first_appears e es in absurd (omega (arith, is'.1.0))
mset_same (d ∷ ds) [] is is' same = let none : 0 ≡ d.1 = sym (same d.0) ∙ first_appears d ds in absurd (omega (arith, is.1.0))
mset_same (d ∷ ds) (e ∷ es) is is' same = split (value_cmp d.0 e.0) refl (mset_same ds es (rest_of d ds is) (rest_of e es is'))
  where
    split : (o : Ordering) → value_cmp d.0 e.0 ≡ o → (((v : PlainValue) → appearances v ds ≡ appearances v es) → ds ≡ es) → d ∷ ds ≡ e ∷ es
    split Less h rest = let none : d.1 ≡ 0 = sym (first_appears d ds) ∙ same d.0 ∙ not_below d.0 e es is' h in absurd (omega (arith, is.1.0))
    split Greater h rest =
        let turned : value_cmp e.0 d.0 ≡ Less = value_cmp_total.antisymm e.0 d.0 ∙ ap ordering_reverse h in
        let none : 0 ≡ e.1 = sym (not_below e.0 d ds is turned) ∙ same e.0 ∙ first_appears e es in
        absurd (omega (arith, is'.1.0))
    split Equal h rest =
        let values : d.0 ≡ e.0 = value_same d.0 e.0 h in
        let numbers : d.1 ≡ e.1 = sym (first_appears d ds) ∙ same d.0 ∙ subst (λ v. appearances v (e ∷ es) ≡ e.1) (sym values) (first_appears e es) in
        ap₂ (λ v n. (v, n) ∷ ds) values numbers ∙ ap (λ ns. e ∷ ns) (rest (λ v. by_test v (same_value v d.0) refl))
      where
        by_test : (v : PlainValue) (b : Bool) → same_value v d.0 ≡ b → appearances v ds ≡ appearances v es
        by_test v true g =
            let is_d : v ≡ d.0 = same_value_true v d.0 g in
            let is_e : v ≡ e.0 = is_d ∙ value_same d.0 e.0 h in
            not_behind v d.0 ds (λ u less. subst (λ w. same_value w u ≡ false) (sym is_d) (ap is_eq less)) is.0.0
            ∙ sym (not_behind v e.0 es (λ u less. subst (λ w. same_value w u ≡ false) (sym is_e) (ap is_eq less)) is'.0.0)
        by_test v false g =
            sym (cond-false (same_value v d.0) d.1 (appearances v ds) g) ∙ same v
            ∙ cond-false (same_value v e.0) e.1 (appearances v es) (subst (λ w. same_value v w ≡ false) (value_same d.0 e.0 h) g)
