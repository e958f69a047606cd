-- The variables that are found part by part are those of the whole.
use Rattle.std.proofs.Common.{◌≡◌, ℕ, ◌+◌, ◌<◌, ◌≤◌, List, [], ◌∷◌, ◌++◌, length, drop, get_or, map, Result, IfOk, Vec, Box, Global, refl, sym, ap, ◌∙◌, subst, append_assoc, append-nil}
use Rattle.std.proofs.lemmas.List.{drop_more, drop_all}
use Rattle.std.proofs.lemmas.Result.{IfOk-weaker}
use Rattle.cpn_definitions.specs.Inscription.{arms_from, arc_arms_from}
use Rattle.cpn_definitions.specs.Bindable.{variables_of, variables_of_arms, pattern_variables}
use Rattle.cpn_typing.specs.InscriptionVariables.{inscription_variables, arms_variables}
use Rattle.cpn_core.specs.declared.inscriptions.Pat.{Pat}
use Rattle.cpn_core.specs.declared.inscriptions.Pat.TheViews as pats
use Rattle.cpn_core.specs.declared.inscriptions.Arm.{Arm}
use Rattle.cpn_core.specs.declared.inscriptions.Expr.{Expr}
use Rattle.cpn_core.specs.declared.inscriptions.Expr.TheViews as exprs
use Rattle.cpn_core.specs.declared.inscriptions.MArm.{MArm}
use Rattle.cpn_core.specs.declared.inscriptions.MExpr.{MExpr}
use Rattle.cpn_core.specs.declared.inscriptions.MExpr.TheVariants as terms
use Rattle.cpn_core.specs.declared.inscriptions.MExpr.TheViews as tokens
use Rattle.cpn_core.specs.Inscriptions.{pattern_view, expr_view, arm_view, multiset_view, arc_arm_view}
use Rattle.cpn_core.proofs.InscriptionLevels.{view_and, view_or, view_if, view_case, view_let, view_fold, view_arm, view_cons_pattern, tokens_times, tokens_later, tokens_if, tokens_case, tokens_let, tokens_arm}

-- ---- behind what was found before

-- in two parts, and in three
pub of_two : {X Y A : Type 0} (r : Result X Y) (old mid new xs ys whole : List A) → whole ≡ xs ++ ys → mid ≡ old ++ xs → IfOk r (λ _. new ≡ mid ++ ys) → IfOk r (λ _. new ≡ old ++ whole)
of_two r old mid new xs ys whole is first second = IfOk-weaker r _ _ (λ _ h. h ∙ ap (λ zs. zs ++ ys) first ∙ append_assoc old xs ys ∙ ap (λ zs. old ++ zs) (sym is)) second

pub of_three : {X Y A : Type 0} (r : Result X Y) (old mid later new xs ys zs whole : List A) → whole ≡ xs ++ ys ++ zs → mid ≡ old ++ xs → later ≡ mid ++ ys → IfOk r (λ _. new ≡ later ++ zs) → IfOk r (λ _. new ≡ old ++ whole)
of_three r old mid later new xs ys zs whole is first second third = of_two r old later new (xs ++ ys) zs whole is (second ∙ ap (λ vs. vs ++ ys) first ∙ append_assoc old xs ys) third

-- in a part more of many, and in all of them
pub one_more : {X A : Type 0} (found : List X → List A) (part : List A) (xs ys : List X) (i : ℕ) (x : X) (old new whole : List A) → xs ≡ ys → i < length xs → x ≡ get_or xs i x
    → ((rest : List X) → found (x ∷ rest) ≡ part ++ found rest) → new ≡ old ++ part → old ++ found (drop i ys) ≡ whole → new ++ found (drop (i + 1) ys) ≡ whole
one_more found part xs ys i x old new whole same lt at front is before =
    let rest : drop i ys ≡ x ∷ drop (i + 1) ys = subst (λ zs. drop i zs ≡ x ∷ drop (i + 1) zs) same (drop_more xs i x lt ∙ ap (λ y. y ∷ drop (i + 1) xs) (sym at)) in
    ap (λ zs. zs ++ found (drop (i + 1) ys)) is ∙ append_assoc old part (found (drop (i + 1) ys)) ∙ ap (λ zs. old ++ zs) (sym (front (drop (i + 1) ys))) ∙ ap (λ zs. old ++ found zs) (sym rest) ∙ before

pub all_parts : {X A : Type 0} (found : List X → List A) (xs ys : List X) (i : ℕ) (now whole : List A) → xs ≡ ys → length xs ≤ i → found [] ≡ [] → now ++ found (drop i ys) ≡ whole → now ≡ whole
all_parts found xs ys i now whole same le none before =
    let rest : drop i ys ≡ [] = subst (λ zs. drop i zs ≡ []) same (drop_all i xs le) in
    sym (append-nil now) ∙ ap (λ zs. now ++ zs) (sym none) ∙ ap (λ zs. now ++ found zs) (sym rest) ∙ before

-- ---- in the forms of an inscription of a value

abbrev in_expr : Expr → List ℕ
in_expr e = variables_of (expr_view e)

pub in_and : (e f g : Expr) (first second : Box Expr Global) → e ≡ exprs.And first second → f ≡ first.value → g ≡ second.value → in_expr e ≡ in_expr f ++ in_expr g
in_and e f g first second is one two = rw (is, view_and first second, one, two) refl

pub in_or : (e f g : Expr) (first second : Box Expr Global) → e ≡ exprs.Or first second → f ≡ first.value → g ≡ second.value → in_expr e ≡ in_expr f ++ in_expr g
in_or e f g first second is one two = rw (is, view_or first second, one, two) refl

pub in_if : (e f g h : Expr) (condition first second : Box Expr Global) → e ≡ exprs.If condition first second → f ≡ condition.value → g ≡ first.value → h ≡ second.value → in_expr e ≡ in_expr f ++ in_expr g ++ in_expr h
in_if e f g h condition first second is one two three = rw (is, view_if condition first second, one, two, three) refl

pub in_case : (e f : Expr) (subject : Box Expr Global) (arms : Vec Arm Global) → e ≡ exprs.Case subject arms → f ≡ subject.value → in_expr e ≡ in_expr f ++ variables_of_arms (arms_from (map arm_view arms.items))
in_case e f subject arms is one = rw (is, view_case subject arms, one) refl

pub in_let : (e f g : Expr) (value body : Box Expr Global) → e ≡ exprs.Let value body → f ≡ value.value → g ≡ body.value → in_expr e ≡ in_expr f ++ in_expr g
in_let e f g value body is one two = rw (is, view_let value body, one, two) refl

pub in_fold : (e f g h : Expr) (list start body : Box Expr Global) → e ≡ exprs.Fold list start body → f ≡ list.value → g ≡ start.value → h ≡ body.value → in_expr e ≡ in_expr f ++ in_expr g ++ in_expr h
in_fold e f g h list start body is one two three = rw (is, view_fold list start body, one, two, three) refl

pub in_arm : (arm : Arm) (rest : List Arm) → variables_of_arms (arms_from (map arm_view (arm ∷ rest))) ≡ in_expr arm.result ++ variables_of_arms (arms_from (map arm_view rest))
in_arm arm rest = rw (view_arm arm) refl

-- ---- in those of an inscription of tokens

abbrev in_tokens : MExpr → List ℕ
in_tokens m = inscription_variables (multiset_view m)

pub in_times : (m : MExpr) (count value : Expr) → m ≡ terms.Times count value → in_tokens m ≡ in_expr count ++ in_expr value
in_times m count value is = rw (is, tokens_times count value) refl

pub in_later : (m n : MExpr) (inner : Box MExpr Global) (delay : Expr) → m ≡ tokens.Later inner delay → n ≡ inner.value → in_tokens m ≡ in_tokens n ++ in_expr delay
in_later m n inner delay is one = rw (is, tokens_later inner delay, one) refl

pub in_chosen : (m n o : MExpr) (condition : Expr) (first second : Box MExpr Global) → m ≡ tokens.If condition first second → n ≡ first.value → o ≡ second.value → in_tokens m ≡ in_expr condition ++ in_tokens n ++ in_tokens o
in_chosen m n o condition first second is one two = rw (is, tokens_if condition first second, one, two) (sym (append_assoc (in_expr condition) (in_tokens first.value) (in_tokens second.value)))

pub in_selected : (m : MExpr) (subject : Expr) (arms : Vec MArm Global) → m ≡ tokens.Case subject arms → in_tokens m ≡ in_expr subject ++ arms_variables (arc_arms_from (map arc_arm_view arms.items))
in_selected m subject arms is = rw (is, tokens_case subject arms) refl

pub in_bound : (m n : MExpr) (value : Expr) (inner : Box MExpr Global) → m ≡ tokens.Let value inner → n ≡ inner.value → in_tokens m ≡ in_expr value ++ in_tokens n
in_bound m n value inner is one = rw (is, tokens_let value inner, one) refl

pub in_arc_arm : (arm : MArm) (rest : List MArm) → arms_variables (arc_arms_from (map arc_arm_view (arm ∷ rest))) ≡ in_tokens arm.result ++ arms_variables (arc_arms_from (map arc_arm_view rest))
in_arc_arm arm rest = rw (tokens_arm arm) refl

-- ---- in a head and a tail

pub in_cons : (p q r : Pat) (head tail : Box Pat Global) → p ≡ pats.Cons head tail → q ≡ head.value → r ≡ tail.value → pattern_variables (pattern_view p) ≡ pattern_variables (pattern_view q) ++ pattern_variables (pattern_view r)
in_cons p q r head tail is one two = rw (is, view_cons_pattern head tail, one, two) refl
