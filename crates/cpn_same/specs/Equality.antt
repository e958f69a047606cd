-- Tests that are true of two things exactly where they are one and the same.
use Rattle.std.proofs.Common.{◌≡◌, Bool, true, false, Option, Some, None, refl, sym, ap, ◌∙◌}
use Rattle.std.specs.Prelude.{Decides}
use Rattle.std.specs.Cmp.{IsEquivalence}
use Rattle.std.proofs.lemmas.Slice.Eq.{slice_eq-Decides}
use lib.Pointwise.{pointwise}

-- the test is true exactly of what is the same
abbrev pub DecidesEquality : {A : Type 0} → (A → A → Bool) → Type 0
DecidesEquality {A} same = (x y : A) → Decides (same x y) (x ≡ y)

-- whether two parts that may be missing are the same, or both are missing
abbrev pub same_options : {A : Type 0} → (A → A → Bool) → Option A → Option A → Bool
same_options same None None = true
same_options same (Some x) (Some y) = same x y
same_options same x y = false

-- ---- laws

module _ {A : Type 0} (same : A → A → Bool) where
  -- a test that is true of what is the same, and of nothing else
  pub decides_from : ((x : A) → same x x ≡ true) → ((x y : A) → same x y ≡ true → x ≡ y) → DecidesEquality same
  decides_from itself one x y = (one x y, λ e. ap (λ z. same x z) (sym e) ∙ itself x)

  module _ (decides : DecidesEquality same) where
    pub lists_decide : DecidesEquality (pointwise same)
    lists_decide xs ys = slice_eq-Decides decides xs ys (pointwise same xs ys) refl

    pub options_decide : DecidesEquality (same_options same)
    options_decide None None = (λ h. refl, λ h. refl)
    options_decide (Some x) (Some y) = (λ h. ap Some ((decides x y).0 h), λ h. (decides x y).1 (cc))
    options_decide x y = (λ h. cc, λ h. cc)

    one_answer : (a b : Bool) → (a ≡ true → b ≡ true) → (b ≡ true → a ≡ true) → a ≡ b
    one_answer true b f g = sym (f refl)
    one_answer false true f g = g refl
    one_answer false false f g = refl

    itself : (x : A) → same x x ≡ true
    itself x = (decides x x).1 refl

    turned : (x y : A) → same x y ≡ true → same y x ≡ true
    turned x y h = ap (λ z. same z x) (sym ((decides x y).0 h)) ∙ itself x

    -- and is an equivalence
    pub equality_is_equivalence : IsEquivalence same
    equality_is_equivalence = record {
      refl = itself;
      symm = λ x y. one_answer (same x y) (same y x) (turned x y) (turned y x);
      congr = λ x y z h. ap (λ w. same w z) ((decides x y).0 h);
    }
