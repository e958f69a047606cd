-- Worked cases of changes: what changed from one marking to another, and lists that are not it, each for one reason.
use Rattle.std.proofs.Common.{◌≡◌, ℕ, zero, suc, Bool, true, false, cond, ◌||◌, pos, List, [], ◌∷◌, refl, sym, subst, Less, eqb-true}
use Rattle.std.specs.Prelude.{◌==◌, ◌≢◌}
use Rattle.std.proofs.lemmas.Bool.{and_parts, or_parts}
use Rattle.cpn_definitions.specs.Value.{PlainValue, int}
use Rattle.cpn_definitions.specs.Order.{same_value}
use Rattle.cpn_definitions.specs.ValueOrder.{same_value_true}
use Rattle.cpn_definitions.specs.Marking.{Marking, tokens_at, token_at, stamps}
use Rattle.cpn_tmset.specs.Changed.{PlainChange, change_cmp, is_change, is_told, AreChanges}

abbrev seven : PlainValue
seven = int (pos 7)

abbrev eight : PlainValue
eight = int (pos 8)

abbrev nine : PlainValue
nine = int (pos 9)

-- 7 at 0 and 9 at 1 on place 0, and 8 at 2 on place 1; then there is 9 at 3 too, 8 is gone, and 7 is as it was
abbrev old : Marking
old = (token_at seven 0 ∷ token_at nine 1 ∷ []) ∷ (token_at eight 2 ∷ []) ∷ []

abbrev new : Marking
new = (token_at seven 0 ∷ token_at nine 1 ∷ token_at nine 3 ∷ []) ∷ [] ∷ []

abbrev seven_on_0 : PlainChange
seven_on_0 = record { place = 0; value = seven }

abbrev nine_on_0 : PlainChange
nine_on_0 = record { place = 0; value = nine }

abbrev eight_on_1 : PlainChange
eight_on_1 = record { place = 1; value = eight }

-- ---- the changes

-- what holds of a place and value holds where they are told
at_change : (P : ℕ → PlainValue → Type 0) (c : PlainChange) (p : ℕ) (v : PlainValue) → is_change p v c ≡ true → P c.place c.value → P p v
at_change P c p v is here =
    let parts = and_parts (p == c.place) (same_value v c.value) is in
    subst (λ (q : ℕ). P q v) (sym (eqb-true p c.place parts.0)) (subst (P c.place) (sym (same_value_true v c.value parts.1)) here)

abbrev Differs : ℕ → PlainValue → Type 0
Differs p v = stamps v (tokens_at new p) ≢ stamps v (tokens_at old p)

nine_differs : Differs 0 nine
nine_differs same = cc

eight_differs : Differs 1 eight
eight_differs same = cc

told_differ : (p : ℕ) (v : PlainValue) → is_told p v (nine_on_0 ∷ eight_on_1 ∷ []) ≡ true → Differs p v
told_differ p v h = split (is_change p v nine_on_0) (is_change p v eight_on_1) refl refl h
  where
    split : (a b : Bool) → is_change p v nine_on_0 ≡ a → is_change p v eight_on_1 ≡ b → (a || (b || false)) ≡ true → Differs p v
    split true b first second g = at_change Differs nine_on_0 p v first nine_differs
    split false true first second g = at_change Differs eight_on_1 p v second eight_differs
    split false false first second g = cc

others_stay : (p : ℕ) (v : PlainValue) → is_told p v (nine_on_0 ∷ eight_on_1 ∷ []) ≡ false → stamps v (tokens_at new p) ≡ stamps v (tokens_at old p)
others_stay zero v h = split (same_value v seven) (same_value v nine) (or_parts (same_value v nine) false h).0
  where
    split : (a b : Bool) → b ≡ false → ◌≡◌ {A = List ℕ} (cond a (0 ∷ cond b (1 ∷ cond b (3 ∷ []) []) (cond b (3 ∷ []) [])) (cond b (1 ∷ cond b (3 ∷ []) []) (cond b (3 ∷ []) []))) (cond a (0 ∷ cond b (1 ∷ []) []) (cond b (1 ∷ []) []))
    split a true is = cc
    split a false is = refl
others_stay (suc zero) v h = split (same_value v eight) (or_parts (same_value v eight) false h).0
  where
    split : (a : Bool) → a ≡ false → ◌≡◌ {A = List ℕ} [] (cond a (2 ∷ []) [])
    split true is = cc
    split false is = refl
others_stay (suc (suc p)) v h = refl

nine_and_eight : AreChanges old new (nine_on_0 ∷ eight_on_1 ∷ [])
nine_and_eight = record { rise = ((refl, tt), (tt, tt)); told = told_differ; others = others_stay }

-- nothing changes where nothing does
nothing : AreChanges old old []
nothing = record { rise = tt; told = λ p v h. cc; others = λ p v h. refl }

-- ---- lists that are not the changes

one_is_missing : AreChanges old new (nine_on_0 ∷ []) → ⊥
one_is_missing are = let same : stamps eight (tokens_at new 1) ≡ stamps eight (tokens_at old 1) = are.others 1 eight refl in cc

one_too_many : AreChanges old new (seven_on_0 ∷ nine_on_0 ∷ eight_on_1 ∷ []) → ⊥
one_too_many are = are.told 0 seven refl refl

-- places come before values
out_of_order : AreChanges old new (eight_on_1 ∷ nine_on_0 ∷ []) → ⊥
out_of_order are = let first : change_cmp eight_on_1 nine_on_0 ≡ Less = are.rise.0.0 in cc

told_twice : AreChanges old new (nine_on_0 ∷ nine_on_0 ∷ eight_on_1 ∷ []) → ⊥
told_twice are = let first : change_cmp nine_on_0 nine_on_0 ≡ Less = are.rise.0.0 in cc
