-- A transition has one list of stages.
use Rattle.std.proofs.Common.{◌≡◌, ℕ, List, [], ◌∷◌, ◌++◌, Option, Some, None, refl, sym, ap, ap₂, ◌∙◌, subst}
use Rattle.std.specs.List.{AllByRecursion}
use Rattle.cpn_definitions.specs.Inscription.{PlainExpr}
use Rattle.cpn_definitions.specs.Net.{PlainTransition, PlainNet, variable_at}
use Rattle.cpn_definitions.specs.Bindable.{IsSmall}
use Rattle.cpn_stages.specs.Stages.{Stage, by_term, by_equation, by_size, by_value, those_without, term_stages, equations_in, first_solving, IsFirstSmall, Further, next_equation, next_small, AreStages}

abbrev variable_of : ℕ → Option (ℕ × PlainExpr) → ℕ
variable_of k None = k
variable_of k (Some q) = q.0

abbrev side_of : PlainExpr → Option (ℕ × PlainExpr) → PlainExpr
side_of e None = e
side_of e (Some q) = q.1

same_solution : (x y : ℕ) (e f : PlainExpr) → ◌≡◌ {A = Option (ℕ × PlainExpr)} (Some (x, e)) (Some (y, f)) → (x ≡ y) × (e ≡ f)
same_solution x y e f h = (ap (variable_of x) h, ap (side_of e) h)

clash : (x : ℕ) (e : PlainExpr) (o : Option (ℕ × PlainExpr)) → o ≡ Some (x, e) → o ≡ None → ⊥
clash x e o some none = cc

-- the first small variable is one
small_at : (n : PlainNet) (before behind front back : List ℕ) (x y : ℕ) → before ++ x ∷ behind ≡ front ++ y ∷ back → AllByRecursion (λ z. IsSmall (variable_at n z).colour → ⊥) before → IsSmall (variable_at n x).colour → AllByRecursion (λ z. IsSmall (variable_at n z).colour → ⊥) front → IsSmall (variable_at n y).colour → x ≡ y
small_at n [] behind [] back x y same first small second other = head same
  where
    head : x ∷ behind ≡ y ∷ back → x ≡ y
    head h = cc
small_at n [] behind (z ∷ front) back x y same first small second other = absurd (second.0 (subst (λ (k : ℕ). IsSmall (variable_at n k).colour) (head same) small))
  where
    head : x ∷ behind ≡ z ∷ (front ++ y ∷ back) → x ≡ z
    head h = cc
small_at n (z ∷ before) behind [] back x y same first small second other = absurd (first.0 (subst (λ (k : ℕ). IsSmall (variable_at n k).colour) (sym (head same)) other))
  where
    head : z ∷ (before ++ x ∷ behind) ≡ y ∷ back → z ≡ y
    head h = cc
small_at n (z ∷ before) behind (w ∷ front) back x y same first small second other = small_at n before behind front back x y (rest same) first.1 small second.1 other
  where
    rest : z ∷ (before ++ x ∷ behind) ≡ w ∷ (front ++ y ∷ back) → before ++ x ∷ behind ≡ front ++ y ∷ back
    rest h = cc

one_small : (n : PlainNet) (left : List ℕ) (x y : ℕ) → IsFirstSmall n left x → IsFirstSmall n left y → x ≡ y
one_small n left x y first second = small_at n first.before first.behind second.before second.behind x y (sym first.stands ∙ second.stands) first.not_before first.small second.not_before second.small

-- nothing follows where no variable is left
none_solving : (t : PlainTransition) (qs : List (ℕ × PlainExpr)) → first_solving t [] qs ≡ None
none_solving t [] = refl
none_solving t (q ∷ qs) = none_solving t qs

none_small : (n : PlainNet) (x : ℕ) → IsFirstSmall n [] x → ⊥
none_small n x is = split is.before is.stands
  where
    split : (before : List ℕ) → [] ≡ before ++ x ∷ is.behind → ⊥
    split [] h = cc
    split (y ∷ before) h = cc

no_more : (n : PlainNet) (t : PlainTransition) (stage : Stage) (stages : List Stage) → Further n t [] (stage ∷ stages) → ⊥
no_more n t (by_term place p) stages d = elim d [ ]
no_more n t (by_value place p v) stages d = elim d [ ]
no_more n t (by_equation x e) stages (next_equation left x' e' stages' found further) = clash x e (first_solving t [] (equations_in t)) found (none_solving t (equations_in t))
no_more n t (by_size x) stages (next_small left x' stages' none small further) = none_small n x small

one_further : (n : PlainNet) (t : PlainTransition) (left : List ℕ) (xs ys : List Stage) → Further n t left xs → Further n t left ys → xs ≡ ys
one_further n t [] [] [] a b = refl
one_further n t [] [] (s ∷ ys) a b = absurd (no_more n t s ys b)
one_further n t [] (s ∷ xs) ys a b = absurd (no_more n t s xs a)
one_further n t (z ∷ left) [] ys a b = elim a [ ]
one_further n t (z ∷ left) (s ∷ xs) [] a b = elim b [ ]
one_further n t (z ∷ left) (by_term place p ∷ xs) (s ∷ ys) a b = elim a [ ]
one_further n t (z ∷ left) (by_value place p v ∷ xs) (s ∷ ys) a b = elim a [ ]
one_further n t (z ∷ left) (by_equation x e ∷ xs) (by_term place p ∷ ys) a b = elim b [ ]
one_further n t (z ∷ left) (by_equation x e ∷ xs) (by_value place p v ∷ ys) a b = elim b [ ]
one_further n t (z ∷ left) (by_size x ∷ xs) (by_term place p ∷ ys) a b = elim b [ ]
one_further n t (z ∷ left) (by_size x ∷ xs) (by_value place p v ∷ ys) a b = elim b [ ]
one_further n t (z ∷ left) (by_equation x e ∷ xs) (by_equation y f ∷ ys) (next_equation left1 x1 e1 stages1 found further) (next_equation left2 x2 e2 stages2 found2 further2) =
    let same = same_solution x y e f (sym found ∙ found2) in
    ap₂ (λ (s : Stage) (ss : List Stage). s ∷ ss) (ap₂ by_equation same.0 same.1) (one_further n t (those_without (x ∷ []) (z ∷ left)) xs ys further (subst (λ (k : ℕ). Further n t (those_without (k ∷ []) (z ∷ left)) ys) (sym same.0) further2))
one_further n t (z ∷ left) (by_equation x e ∷ xs) (by_size y ∷ ys) (next_equation left1 x1 e1 stages1 found further) (next_small left2 x2 stages2 none small further2) = absurd (clash x e (first_solving t (z ∷ left) (equations_in t)) found none)
one_further n t (z ∷ left) (by_size x ∷ xs) (by_equation y f ∷ ys) (next_small left1 x1 stages1 none small further) (next_equation left2 x2 e2 stages2 found2 further2) = absurd (clash y f (first_solving t (z ∷ left) (equations_in t)) found2 none)
one_further n t (z ∷ left) (by_size x ∷ xs) (by_size y ∷ ys) (next_small left1 x1 stages1 none small further) (next_small left2 x2 stages2 none2 small2 further2) =
    let same = one_small n (z ∷ left) x y small small2 in
    ap₂ (λ (s : Stage) (ss : List Stage). s ∷ ss) (ap by_size same) (one_further n t (those_without (x ∷ []) (z ∷ left)) xs ys further (subst (λ (k : ℕ). Further n t (those_without (k ∷ []) (z ∷ left)) ys) (sym same) further2))

pub one_plan : (n : PlainNet) (t : PlainTransition) (xs ys : List Stage) → AreStages n t xs → AreStages n t ys → xs ≡ ys
one_plan n t xs ys first second = first.are ∙ ap (λ (ss : List Stage). term_stages t ++ ss) (one_further n t _ first.further second.further first.follow second.follow) ∙ sym second.are
