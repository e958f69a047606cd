-- Multisets that cover others, value by value.
use Rattle.std.proofs.Common.{◌≡◌, ℕ, ◌-◌, ◌≤◌, ◌↔◌, Bool, true, false, cond, ◌&&◌, nat_le, [], ◌∷◌, IsTrue, refl, sym, ap, subst, ◌∙◌, arith, leb-true, le-leb, is_eq, Less}
use Rattle.std.specs.List.{AllByRecursion}
use Rattle.std.proofs.lemmas.Bool.{cond-true, cond-false, cond_both, and_parts, and_from}
use Rattle.cpn_definitions.specs.Value.{PlainValue}
use Rattle.cpn_definitions.specs.Order.{value_cmp, same_value}
use Rattle.cpn_definitions.specs.ValueOrder.{same_value_refl, same_value_true}
use Rattle.cpn_mset.specs.MSets.{PlainMSet, appearances, IsMSet}

-- whether each listed value appears at least so often
abbrev pub covers_each : PlainMSet → PlainMSet → Bool
covers_each m [] = true
covers_each m (e ∷ es) = nat_le e.1 (appearances e.0 m) && covers_each m es

pub rest_is : (e : PlainValue × ℕ) (es : PlainMSet) → IsMSet (e ∷ es) → IsMSet es
rest_is e es is = (is.0.1, is.1.1)

-- the first value appears so often, and no more behind
pub first_appears : (e : PlainValue × ℕ) (es : PlainMSet) → appearances e.0 (e ∷ es) ≡ e.1
first_appears e es = cond-true (same_value e.0 e.0) e.1 (appearances e.0 es) (same_value_refl e.0)

pub none_later : (v : PlainValue) (e : PlainValue × ℕ) (es : PlainMSet) → IsMSet (e ∷ es) → same_value v e.0 ≡ true → appearances v es ≡ 0
none_later v e es is same = subst (λ u. appearances u es ≡ 0) (sym (same_value_true v e.0 same)) (none es is.0.0)
  where
    none : (fs : PlainMSet) → AllByRecursion (λ (d : PlainValue × ℕ). value_cmp e.0 d.0 ≡ Less) fs → appearances e.0 fs ≡ 0
    none [] all = refl
    none (g ∷ gs) all = cond-false (same_value e.0 g.0) g.1 (appearances e.0 gs) (ap is_eq all.0) ∙ none gs all.1

each_covered : (m n : PlainMSet) → covers_each m n ≡ true → (v : PlainValue) → appearances v n ≤ appearances v m
each_covered m [] all v = omega arith
each_covered m (e ∷ es) all v =
    let parts = and_parts (nat_le e.1 (appearances e.0 m)) (covers_each m es) all in
    cond_both (same_value v e.0) e.1 (appearances v es) (λ k. k ≤ appearances v m) (λ h. subst (λ u. e.1 ≤ appearances u m) (sym (same_value_true v e.0 h)) (leb-true e.1 (appearances e.0 m) parts.0)) (λ h. each_covered m es parts.1 v)

all_cover : (m n : PlainMSet) → IsMSet n → ((v : PlainValue) → appearances v n ≤ appearances v m) → covers_each m n ≡ true
all_cover m [] is each = refl
all_cover m (e ∷ es) is each =
    and_from (nat_le e.1 (appearances e.0 m)) (covers_each m es) (le-leb e.1 (appearances e.0 m) (subst (λ k. k ≤ appearances e.0 m) (first_appears e es) (each e.0)))
    (all_cover m es (rest_is e es is) (λ v. by_test v (same_value v e.0) refl))
  where
    by_test : (v : PlainValue) (b : Bool) → same_value v e.0 ≡ b → appearances v es ≤ appearances v m
    by_test v true h = let none : appearances v es ≡ 0 = none_later v e es is h in omega arith
    by_test v false h = subst (λ k. k ≤ appearances v m) (cond-false (same_value v e.0) e.1 (appearances v es) h) (each v)

pub covers_is : (m n : PlainMSet) (b : Bool) → IsMSet n → b ≡ covers_each m n → IsTrue b ↔ ((v : PlainValue) → appearances v n ≤ appearances v m)
covers_is m n b is same = (λ holds. each_covered m n (sym same ∙ holds), λ each. same ∙ all_cover m n is each)

-- ---- taking one value after another

-- what is left behind the first value, after it was taken
module _ (before after : PlainMSet) (e : PlainValue × ℕ) (es : PlainMSet) (is : IsMSet (e ∷ es)) (left : (v : PlainValue) → appearances v after ≡ appearances v before - cond (same_value v e.0) e.1 0) where
  pub still_covered : ((v : PlainValue) → appearances v (e ∷ es) ≤ appearances v before) → (v : PlainValue) → appearances v es ≤ appearances v after
  still_covered covered v = split (same_value v e.0) refl (left v) (covered v)
    where
      split : (b : Bool) → same_value v e.0 ≡ b → appearances v after ≡ appearances v before - cond b e.1 0 → cond b e.1 (appearances v es) ≤ appearances v before → appearances v es ≤ appearances v after
      split true h l c = let none : appearances v es ≡ 0 = none_later v e es is h in omega arith
      split false h l c = omega arith

  pub still_left : (v : PlainValue) → appearances v after - appearances v es ≡ appearances v before - appearances v (e ∷ es)
  still_left v = split (same_value v e.0) refl (left v)
    where
      split : (b : Bool) → same_value v e.0 ≡ b → appearances v after ≡ appearances v before - cond b e.1 0 → appearances v after - appearances v es ≡ appearances v before - cond b e.1 (appearances v es)
      split true h l = let none : appearances v es ≡ 0 = none_later v e es is h in omega arith
      split false h l = omega arith
