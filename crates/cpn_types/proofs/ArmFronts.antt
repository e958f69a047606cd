-- The arms of a `case` that are checked already, in front of what the rules say of the rest.
use Rattle.std.proofs.Common.{◌≡◌, ℕ, suc, ◌+◌, ◌<◌, ◌≤◌, drop_of_length-le, List, [], ◌∷◌, ◌++◌, length, get_or, drop, map, refl, sym, ap, ◌∙◌, add-one, rules, drop-cons, Option, Some, None}
use Rattle.cpn_trees.specs.AstViews.{arms_from, arm_view, ast_view}
use Rattle.cpn_trees.specs.PatViews.{pat_view}
use Rattle.cpn_core.specs.Inscriptions as core
use Rattle.cpn_core.specs.declared.inscriptions.Arm as core_arm
use Rattle.cpn_forms.specs.declared.scopes.Local.{Local}
use Rattle.cpn_forms.specs.declared.typed.Typed as program
use Rattle.cpn_forms.specs.ScopeViews.{scope_view}
use Rattle.cpn_forms.specs.TypedViews.{typed_view}
use Rattle.cpn_declared.specs.TypeViews.{ty_view}
use Rattle.cpn_forms.specs.BoundViews.{bound_view}
use Rattle.cpn_trees.specs.declared.trees.Arm.{Arm}
use Rattle.cpn_trees.specs.declared.trees.Arm as arm
use Rattle.cpn_trees.proofs.FormViews.{view_arm}
use Rattle.cpn_definitions.specs.Inscription.{PlainPattern, PlainExpr, PlainArms, no_arms, more_arms}
use Rattle.cpn_definitions.specs.Inscription as inscription
use Rattle.cpn_definitions.proofs.ListItems.{map_more}
use Rattle.cpn_typing.specs.Types.{PlainTy}
use Rattle.cpn_typing.specs.Names.{Declared, Scope, Checked, Refusal, ok, refused, ◌>>=◌}
use Rattle.cpn_typing.specs.Answers.{Refuses}
use Rattle.cpn_typing.specs.Contexts.{Context}
use Rattle.cpn_typing.specs.PatternRules.{BoundPattern, typed_pattern}
use Rattle.cpn_typing.specs.Rules.{Typed, Arms}
use Rattle.cpn_typing.specs.Expressions.{typed, typed_arms}

abbrev pub arms_before : List (PlainPattern × PlainExpr) → PlainArms → PlainArms
arms_before [] arms = arms
arms_before (x ∷ xs) arms = more_arms x.0 x.1 (arms_before xs arms)

abbrev pub before_arms : List (PlainPattern × PlainExpr) → Checked Arms → Checked Arms
before_arms xs (ok r) = ok (record { arms = arms_before xs r.arms; arm_type = r.arm_type })
before_arms xs (refused r) = refused r

arms_more : (xs : List (PlainPattern × PlainExpr)) (p : PlainPattern) (e : PlainExpr) (rest : PlainArms) → arms_before (xs ++ (p, e) ∷ []) rest ≡ arms_before xs (more_arms p e rest)
arms_more [] p e rest = refl
arms_more (x ∷ xs) p e rest = ap (more_arms x.0 x.1) (arms_more xs p e rest)

arms_in_front : (xs : List (PlainPattern × PlainExpr)) (p : PlainPattern) (r : Typed) (c : Checked Arms) → before_arms (xs ++ (p, r.expr) ∷ []) c ≡ before_arms xs (c >>= λ rest. ok (record { arms = more_arms p r.expr rest.arms; arm_type = rest.arm_type }))
arms_in_front xs p r (ok a) = rw (arms_more xs p r.expr a.arms) refl
arms_in_front xs p r (refused x) = refl

-- an arm that is accepted
pub arm_step : (ds : Declared) (context : Context) (sc inner : Scope) (subject : PlainTy) (arms : List Arm) (i : ℕ) (x : Arm) (w : Option PlainTy) (xs ys : List (PlainPattern × PlainExpr)) (b : BoundPattern) (r : Typed) (all : Checked Arms)
    → i < length arms → x ≡ get_or arms i x → typed_pattern ds (arm_view x).0 sc subject ≡ ok b → inner ≡ sc ++ b.locals → typed ds context (arm_view x).1 inner w ≡ ok r
    → ys ≡ xs ++ (b.pattern, r.expr) ∷ []
    → before_arms xs (typed_arms ds context (arms_from (map arm_view (drop i arms))) sc subject w) ≡ all
    → before_arms ys (typed_arms ds context (arms_from (map arm_view (drop (i + 1) arms))) sc subject (Some r.type_of)) ≡ all
arm_step ds context sc inner subject arms i x w xs ys b r all lt e f n g y h =
    let d : drop i arms ≡ x ∷ drop (suc i) arms = drop-cons arms i x lt ∙ ap (λ z. z ∷ drop (suc i) arms) (sym e) in
    let g2 : typed ds context (arm_view x).1 (sc ++ b.locals) w ≡ ok r = ap (λ s. typed ds context (arm_view x).1 s w) (sym n) ∙ g in
    let k = rw (d, f, g2) at h in
    rw (add-one i, y) (arms_in_front xs b.pattern r (typed_arms ds context (arms_from (map arm_view (drop (suc i) arms))) sc subject (Some r.type_of)) ∙ k)

-- an arm whose pattern is refused, and one whose result is
pub pattern_refused : (q : Option Refusal) (ds : Declared) (context : Context) (sc now : Scope) (subject : PlainTy) (arms : List Arm) (i : ℕ) (x : Arm) (w : Option PlainTy) (xs : List (PlainPattern × PlainExpr)) (all : Checked Arms)
    → now ≡ sc → i < length arms → x ≡ get_or arms i x → Refuses q (typed_pattern ds (pat_view x.pattern) now subject)
    → before_arms xs (typed_arms ds context (arms_from (map arm_view (drop i arms))) sc subject w) ≡ all
    → Refuses q all
pattern_refused None ds context sc now subject arms i x w xs all n lt e f h = tt
pattern_refused (Some q) ds context sc now subject arms i x w xs all n lt e f h =
    let d : drop i arms ≡ x ∷ drop (suc i) arms = drop-cons arms i x lt ∙ ap (λ z. z ∷ drop (suc i) arms) (sym e) in
    let f2 : typed_pattern ds (arm_view x).0 sc subject ≡ refused q = ap (λ p. typed_pattern ds p.0 sc subject) (view_arm x) ∙ ap (λ s. typed_pattern ds (pat_view x.pattern) s subject) (sym n) ∙ f in
    let k = rw (d, f2) at h in
    sym k

pub result_refused : (q : Option Refusal) (ds : Declared) (context : Context) (sc now : Scope) (subject : PlainTy) (arms : List Arm) (i : ℕ) (x : Arm) (v w : Option PlainTy) (xs : List (PlainPattern × PlainExpr)) (b : BoundPattern) (all : Checked Arms)
    → now ≡ sc → v ≡ w → i < length arms → x ≡ get_or arms i x → typed_pattern ds (pat_view x.pattern) now subject ≡ ok b
    → Refuses q (typed ds context (ast_view x.result) (now ++ b.locals) v)
    → before_arms xs (typed_arms ds context (arms_from (map arm_view (drop i arms))) sc subject w) ≡ all
    → Refuses q all
result_refused None ds context sc now subject arms i x v w xs b all n u lt e f g h = tt
result_refused (Some q) ds context sc now subject arms i x v w xs b all n u lt e f g h =
    let d : drop i arms ≡ x ∷ drop (suc i) arms = drop-cons arms i x lt ∙ ap (λ z. z ∷ drop (suc i) arms) (sym e) in
    let f2 : typed_pattern ds (arm_view x).0 sc subject ≡ ok b = ap (λ p. typed_pattern ds p.0 sc subject) (view_arm x) ∙ ap (λ s. typed_pattern ds (pat_view x.pattern) s subject) (sym n) ∙ f in
    let g2 : typed ds context (arm_view x).1 (sc ++ b.locals) w ≡ refused q =
    ap (λ p. typed ds context p.1 (sc ++ b.locals) w) (view_arm x) ∙ ap (λ s. typed ds context (ast_view x.result) (s ++ b.locals) w) (sym n) ∙ ap (λ t. typed ds context (ast_view x.result) (now ++ b.locals) t) (sym u) ∙ g in
    let k = rw (d, f2, g2) at h in
    sym k

arms_all : (xs : List (PlainPattern × PlainExpr)) → arms_before xs no_arms ≡ inscription.arms_from xs
arms_all [] = refl
arms_all (x ∷ xs) = ap (more_arms x.0 x.1) (arms_all xs)

pub arms_done : (ds : Declared) (context : Context) (sc : Scope) (subject : PlainTy) (arms : List Arm) (i : ℕ) (w : Option PlainTy) (xs : List (PlainPattern × PlainExpr)) → length arms ≤ i → before_arms xs (typed_arms ds context (arms_from (map arm_view (drop i arms))) sc subject w) ≡ ok (record { arms = inscription.arms_from xs; arm_type = w })
arms_done ds context sc subject arms i w xs le =
    let d : drop i arms ≡ [] = drop_of_length-le arms le in
    rw (d, arms_all xs) refl

made_arm : (x : core_arm.Arm) → core.arm_view x ≡ (core.pattern_view x.pat, core.expr_view x.result)
made_arm x = search (rules, core_arm.the_lemmas)

pub arms_step : (ds : Declared) (context : Context) (sc now : Scope) (subject : PlainTy) (arms : List Arm) (i : ℕ) (x : Arm) (v w : Option PlainTy) (xs ys : List core_arm.Arm) (made : core_arm.Arm) (locals : List Local) (r : program.Typed) (all : Checked Arms)
    → now ≡ sc → v ≡ w → ys ≡ xs ++ made ∷ [] → made.result ≡ r.expr
    → i < length arms → x ≡ get_or arms i x → typed_pattern ds (pat_view x.pattern) now subject ≡ ok (bound_view locals made.pat)
    → typed ds context (ast_view x.result) (now ++ scope_view locals) v ≡ ok (typed_view r)
    → before_arms (map core.arm_view xs) (typed_arms ds context (arms_from (map arm_view (drop i arms))) sc subject w) ≡ all
    → before_arms (map core.arm_view ys) (typed_arms ds context (arms_from (map arm_view (drop (i + 1) arms))) sc subject (Some (ty_view r.ty))) ≡ all
arms_step ds context sc now subject arms i x v w xs ys made locals r all n u y z lt e f g h =
    arm_step ds context sc (sc ++ scope_view locals) subject arms i x w (map core.arm_view xs) (map core.arm_view ys) (bound_view locals made.pat) (typed_view r) all lt e
    (ap (λ p. typed_pattern ds p.0 sc subject) (view_arm x) ∙ ap (λ s. typed_pattern ds (pat_view x.pattern) s subject) (sym n) ∙ f)
    refl
    (ap (λ p. typed ds context p.1 (sc ++ scope_view locals) w) (view_arm x) ∙ ap (λ s. typed ds context (ast_view x.result) (s ++ scope_view locals) w) (sym n) ∙ ap (λ t. typed ds context (ast_view x.result) (now ++ scope_view locals) t) (sym u) ∙ g)
    (ap (map core.arm_view) y ∙ map_more core.arm_view xs made ∙ ap (λ p. map core.arm_view xs ++ p ∷ []) (made_arm made ∙ ap (λ q. (core.pattern_view made.pat, core.expr_view q)) z))
    h
