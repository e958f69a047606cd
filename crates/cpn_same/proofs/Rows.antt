-- The rows of parts that inscriptions have, compared item by item.
use Rattle.std.proofs.Common.{◌≡◌, ℕ, ◌+◌, ◌<◌, min, false, ◌&&◌, nat_eq, List, [], ◌∷◌, length, get_or, drop, refl, map, Option, Some, None, option_map}
use lib.Pointwise.{pointwise}
use Rattle.cpn_core.specs.declared.colours.Shape.{Shape}
use Rattle.cpn_core.specs.declared.bindings.Pair.{Pair}
use Rattle.cpn_core.specs.declared.inscriptions.Pat.{Pat}
use Rattle.cpn_core.specs.declared.inscriptions.Expr.{Expr}
use Rattle.cpn_core.specs.declared.inscriptions.Arm.{Arm}
use Rattle.cpn_core.specs.declared.inscriptions.BindingTerm.{BindingTerm}
use Rattle.cpn_core.specs.declared.inscriptions.Function.{Function}
use Rattle.cpn_core.specs.declared.inscriptions.MExpr.{MExpr}
use Rattle.cpn_core.specs.declared.inscriptions.MArm.{MArm}
use Rattle.cpn_core.specs.Pairs.{pairs_view}
use Rattle.cpn_core.specs.Views.{value_view}
use Rattle.cpn_core.specs.Colours.{shape_view, shapes_view, constructors_view}
use Rattle.cpn_core.specs.Inscriptions.{pattern_view, patterns_view, expr_view, exprs_view, arm_view, multiset_view, arc_arm_view, term_view, function_view}
use Rattle.cpn_same.specs.Equality.{same_options}
use Rattle.cpn_same.specs.SameColours.{same_shape, same_shapes, same_constructors}
use Rattle.cpn_same.specs.SamePatterns.{same_pattern, same_patterns}
use Rattle.cpn_same.specs.SameInscriptions.{same_expr, same_exprs, same_arms, same_function, same_functions}
use Rattle.cpn_same.specs.SameTokens.{same_tokens, same_sums, same_arc_arms}
use Rattle.cpn_same.specs.SameElements.{same_pair}
use Rattle.cpn_same.specs.SameArcs.{same_term}
use Rattle.cpn_same.specs.Rows.{arms_view, sums_view, arc_arms_view, same_arm, same_arc_arm}
use Rattle.cpn_same.proofs.ComparedLists.{ComparesItems, compared_more, compared_end}

-- ---- the shapes of a tuple's items

shapes_compare : ComparesItems {A = Shape} (λ x y. same_shape (shape_view x) (shape_view y)) (λ xs ys. same_shapes (shapes_view xs) (shapes_view ys))
shapes_compare = record { none = refl; second_longer = λ y ys. refl; first_longer = λ x xs. refl; both = λ x y xs ys. refl }

pub shapes_more : (xs ys : List Shape) (i : ℕ) (x y : Shape) → i < length xs → i < length ys → x ≡ get_or xs i x → y ≡ get_or ys i y → same_shapes (shapes_view (drop i xs)) (shapes_view (drop i ys)) ≡ (same_shape (shape_view x) (shape_view y) && same_shapes (shapes_view (drop (i + 1) xs)) (shapes_view (drop (i + 1) ys)))
shapes_more = compared_more (λ x y. same_shape (shape_view x) (shape_view y)) (λ xs ys. same_shapes (shapes_view xs) (shapes_view ys)) shapes_compare

pub shapes_end : (xs ys : List Shape) (i : ℕ) → i ≡ min (length xs) (length ys) → same_shapes (shapes_view (drop i xs)) (shapes_view (drop i ys)) ≡ nat_eq (length xs) (length ys)
shapes_end = compared_end (λ x y. same_shape (shape_view x) (shape_view y)) (λ xs ys. same_shapes (shapes_view xs) (shapes_view ys)) shapes_compare

-- ---- the constructors of a union

constructors_compare : ComparesItems {A = Option Shape} (λ x y. same_options same_shape (option_map shape_view x) (option_map shape_view y)) (λ xs ys. same_constructors (constructors_view xs) (constructors_view ys))
constructors_compare = record { none = refl; second_longer = shorter; first_longer = longer; both = pairs }
  where
    shorter : (y : Option Shape) (ys : List (Option Shape)) → same_constructors (constructors_view []) (constructors_view (y ∷ ys)) ≡ false
    shorter None ys = refl
    shorter (Some s) ys = refl

    longer : (x : Option Shape) (xs : List (Option Shape)) → same_constructors (constructors_view (x ∷ xs)) (constructors_view []) ≡ false
    longer None xs = refl
    longer (Some s) xs = refl

    pairs : (x y : Option Shape) (xs ys : List (Option Shape)) → same_constructors (constructors_view (x ∷ xs)) (constructors_view (y ∷ ys)) ≡ (same_options same_shape (option_map shape_view x) (option_map shape_view y) && same_constructors (constructors_view xs) (constructors_view ys))
    pairs None None xs ys = refl
    pairs None (Some t) xs ys = refl
    pairs (Some s) None xs ys = refl
    pairs (Some s) (Some t) xs ys = refl

pub constructors_more : (xs ys : List (Option Shape)) (i : ℕ) (x y : Option Shape) → i < length xs → i < length ys → x ≡ get_or xs i x → y ≡ get_or ys i y → same_constructors (constructors_view (drop i xs)) (constructors_view (drop i ys)) ≡ (same_options same_shape (option_map shape_view x) (option_map shape_view y) && same_constructors (constructors_view (drop (i + 1) xs)) (constructors_view (drop (i + 1) ys)))
constructors_more = compared_more (λ x y. same_options same_shape (option_map shape_view x) (option_map shape_view y)) (λ xs ys. same_constructors (constructors_view xs) (constructors_view ys)) constructors_compare

pub constructors_end : (xs ys : List (Option Shape)) (i : ℕ) → i ≡ min (length xs) (length ys) → same_constructors (constructors_view (drop i xs)) (constructors_view (drop i ys)) ≡ nat_eq (length xs) (length ys)
constructors_end = compared_end (λ x y. same_options same_shape (option_map shape_view x) (option_map shape_view y)) (λ xs ys. same_constructors (constructors_view xs) (constructors_view ys)) constructors_compare

-- ---- patterns

patterns_compare : ComparesItems {A = Pat} (λ x y. same_pattern (pattern_view x) (pattern_view y)) (λ xs ys. same_patterns (patterns_view xs) (patterns_view ys))
patterns_compare = record { none = refl; second_longer = λ y ys. refl; first_longer = λ x xs. refl; both = λ x y xs ys. refl }

pub patterns_more : (xs ys : List Pat) (i : ℕ) (x y : Pat) → i < length xs → i < length ys → x ≡ get_or xs i x → y ≡ get_or ys i y → same_patterns (patterns_view (drop i xs)) (patterns_view (drop i ys)) ≡ (same_pattern (pattern_view x) (pattern_view y) && same_patterns (patterns_view (drop (i + 1) xs)) (patterns_view (drop (i + 1) ys)))
patterns_more = compared_more (λ x y. same_pattern (pattern_view x) (pattern_view y)) (λ xs ys. same_patterns (patterns_view xs) (patterns_view ys)) patterns_compare

pub patterns_end : (xs ys : List Pat) (i : ℕ) → i ≡ min (length xs) (length ys) → same_patterns (patterns_view (drop i xs)) (patterns_view (drop i ys)) ≡ nat_eq (length xs) (length ys)
patterns_end = compared_end (λ x y. same_pattern (pattern_view x) (pattern_view y)) (λ xs ys. same_patterns (patterns_view xs) (patterns_view ys)) patterns_compare

-- ---- inscriptions of values

exprs_compare : ComparesItems {A = Expr} (λ x y. same_expr (expr_view x) (expr_view y)) (λ xs ys. same_exprs (exprs_view xs) (exprs_view ys))
exprs_compare = record { none = refl; second_longer = λ y ys. refl; first_longer = λ x xs. refl; both = λ x y xs ys. refl }

pub exprs_more : (xs ys : List Expr) (i : ℕ) (x y : Expr) → i < length xs → i < length ys → x ≡ get_or xs i x → y ≡ get_or ys i y → same_exprs (exprs_view (drop i xs)) (exprs_view (drop i ys)) ≡ (same_expr (expr_view x) (expr_view y) && same_exprs (exprs_view (drop (i + 1) xs)) (exprs_view (drop (i + 1) ys)))
exprs_more = compared_more (λ x y. same_expr (expr_view x) (expr_view y)) (λ xs ys. same_exprs (exprs_view xs) (exprs_view ys)) exprs_compare

pub exprs_end : (xs ys : List Expr) (i : ℕ) → i ≡ min (length xs) (length ys) → same_exprs (exprs_view (drop i xs)) (exprs_view (drop i ys)) ≡ nat_eq (length xs) (length ys)
exprs_end = compared_end (λ x y. same_expr (expr_view x) (expr_view y)) (λ xs ys. same_exprs (exprs_view xs) (exprs_view ys)) exprs_compare

-- ---- the arms of a `case`

arms_compare : ComparesItems {A = Arm} (λ x y. same_arm (arm_view x) (arm_view y)) (λ xs ys. same_arms (arms_view xs) (arms_view ys))
arms_compare = record { none = refl; second_longer = λ y ys. refl; first_longer = λ x xs. refl; both = λ x y xs ys. refl }

pub arms_more : (xs ys : List Arm) (i : ℕ) (x y : Arm) → i < length xs → i < length ys → x ≡ get_or xs i x → y ≡ get_or ys i y → same_arms (arms_view (drop i xs)) (arms_view (drop i ys)) ≡ (same_arm (arm_view x) (arm_view y) && same_arms (arms_view (drop (i + 1) xs)) (arms_view (drop (i + 1) ys)))
arms_more = compared_more (λ x y. same_arm (arm_view x) (arm_view y)) (λ xs ys. same_arms (arms_view xs) (arms_view ys)) arms_compare

pub arms_end : (xs ys : List Arm) (i : ℕ) → i ≡ min (length xs) (length ys) → same_arms (arms_view (drop i xs)) (arms_view (drop i ys)) ≡ nat_eq (length xs) (length ys)
arms_end = compared_end (λ x y. same_arm (arm_view x) (arm_view y)) (λ xs ys. same_arms (arms_view xs) (arms_view ys)) arms_compare

-- ---- the parts of a sum

sums_compare : ComparesItems {A = MExpr} (λ x y. same_tokens (multiset_view x) (multiset_view y)) (λ xs ys. same_sums (sums_view xs) (sums_view ys))
sums_compare = record { none = refl; second_longer = λ y ys. refl; first_longer = λ x xs. refl; both = λ x y xs ys. refl }

pub sums_more : (xs ys : List MExpr) (i : ℕ) (x y : MExpr) → i < length xs → i < length ys → x ≡ get_or xs i x → y ≡ get_or ys i y → same_sums (sums_view (drop i xs)) (sums_view (drop i ys)) ≡ (same_tokens (multiset_view x) (multiset_view y) && same_sums (sums_view (drop (i + 1) xs)) (sums_view (drop (i + 1) ys)))
sums_more = compared_more (λ x y. same_tokens (multiset_view x) (multiset_view y)) (λ xs ys. same_sums (sums_view xs) (sums_view ys)) sums_compare

pub sums_end : (xs ys : List MExpr) (i : ℕ) → i ≡ min (length xs) (length ys) → same_sums (sums_view (drop i xs)) (sums_view (drop i ys)) ≡ nat_eq (length xs) (length ys)
sums_end = compared_end (λ x y. same_tokens (multiset_view x) (multiset_view y)) (λ xs ys. same_sums (sums_view xs) (sums_view ys)) sums_compare

-- ---- the arms of a `case` over tokens

arc_arms_compare : ComparesItems {A = MArm} (λ x y. same_arc_arm (arc_arm_view x) (arc_arm_view y)) (λ xs ys. same_arc_arms (arc_arms_view xs) (arc_arms_view ys))
arc_arms_compare = record { none = refl; second_longer = λ y ys. refl; first_longer = λ x xs. refl; both = λ x y xs ys. refl }

pub arc_arms_more : (xs ys : List MArm) (i : ℕ) (x y : MArm) → i < length xs → i < length ys → x ≡ get_or xs i x → y ≡ get_or ys i y → same_arc_arms (arc_arms_view (drop i xs)) (arc_arms_view (drop i ys)) ≡ (same_arc_arm (arc_arm_view x) (arc_arm_view y) && same_arc_arms (arc_arms_view (drop (i + 1) xs)) (arc_arms_view (drop (i + 1) ys)))
arc_arms_more = compared_more (λ x y. same_arc_arm (arc_arm_view x) (arc_arm_view y)) (λ xs ys. same_arc_arms (arc_arms_view xs) (arc_arms_view ys)) arc_arms_compare

pub arc_arms_end : (xs ys : List MArm) (i : ℕ) → i ≡ min (length xs) (length ys) → same_arc_arms (arc_arms_view (drop i xs)) (arc_arms_view (drop i ys)) ≡ nat_eq (length xs) (length ys)
arc_arms_end = compared_end (λ x y. same_arc_arm (arc_arm_view x) (arc_arm_view y)) (λ xs ys. same_arc_arms (arc_arms_view xs) (arc_arms_view ys)) arc_arms_compare

-- ---- binding terms

terms_compare : ComparesItems {A = BindingTerm} (λ x y. same_term (term_view x) (term_view y)) (λ xs ys. pointwise same_term (map term_view xs) (map term_view ys))
terms_compare = record { none = refl; second_longer = λ y ys. refl; first_longer = λ x xs. refl; both = λ x y xs ys. refl }

pub terms_more : (xs ys : List BindingTerm) (i : ℕ) (x y : BindingTerm) → i < length xs → i < length ys → x ≡ get_or xs i x → y ≡ get_or ys i y → pointwise same_term (map term_view (drop i xs)) (map term_view (drop i ys)) ≡ (same_term (term_view x) (term_view y) && pointwise same_term (map term_view (drop (i + 1) xs)) (map term_view (drop (i + 1) ys)))
terms_more = compared_more (λ x y. same_term (term_view x) (term_view y)) (λ xs ys. pointwise same_term (map term_view xs) (map term_view ys)) terms_compare

pub terms_end : (xs ys : List BindingTerm) (i : ℕ) → i ≡ min (length xs) (length ys) → pointwise same_term (map term_view (drop i xs)) (map term_view (drop i ys)) ≡ nat_eq (length xs) (length ys)
terms_end = compared_end (λ x y. same_term (term_view x) (term_view y)) (λ xs ys. pointwise same_term (map term_view xs) (map term_view ys)) terms_compare

-- ---- the functions of a net

functions_compare : ComparesItems {A = Function} (λ x y. same_function (function_view x) (function_view y)) (λ xs ys. same_functions (map function_view xs) (map function_view ys))
functions_compare = record { none = refl; second_longer = λ y ys. refl; first_longer = λ x xs. refl; both = λ x y xs ys. refl }

pub functions_more : (xs ys : List Function) (i : ℕ) (x y : Function) → i < length xs → i < length ys → x ≡ get_or xs i x → y ≡ get_or ys i y → same_functions (map function_view (drop i xs)) (map function_view (drop i ys)) ≡ (same_function (function_view x) (function_view y) && same_functions (map function_view (drop (i + 1) xs)) (map function_view (drop (i + 1) ys)))
functions_more = compared_more (λ x y. same_function (function_view x) (function_view y)) (λ xs ys. same_functions (map function_view xs) (map function_view ys)) functions_compare

pub functions_end : (xs ys : List Function) (i : ℕ) → i ≡ min (length xs) (length ys) → same_functions (map function_view (drop i xs)) (map function_view (drop i ys)) ≡ nat_eq (length xs) (length ys)
functions_end = compared_end (λ x y. same_function (function_view x) (function_view y)) (λ xs ys. same_functions (map function_view xs) (map function_view ys)) functions_compare

-- ---- the pairs of a binding

pairs_compare : ComparesItems {A = Pair} (λ x y. same_pair (x.variable, value_view x.value) (y.variable, value_view y.value)) (λ xs ys. pointwise same_pair (pairs_view xs) (pairs_view ys))
pairs_compare = record { none = refl; second_longer = λ y ys. refl; first_longer = λ x xs. refl; both = λ x y xs ys. refl }

pub pairs_more : (xs ys : List Pair) (i : ℕ) (x y : Pair) → i < length xs → i < length ys → x ≡ get_or xs i x → y ≡ get_or ys i y → pointwise same_pair (pairs_view (drop i xs)) (pairs_view (drop i ys)) ≡ (same_pair (x.variable, value_view x.value) (y.variable, value_view y.value) && pointwise same_pair (pairs_view (drop (i + 1) xs)) (pairs_view (drop (i + 1) ys)))
pairs_more = compared_more (λ x y. same_pair (x.variable, value_view x.value) (y.variable, value_view y.value)) (λ xs ys. pointwise same_pair (pairs_view xs) (pairs_view ys)) pairs_compare

pub pairs_end : (xs ys : List Pair) (i : ℕ) → i ≡ min (length xs) (length ys) → pointwise same_pair (pairs_view (drop i xs)) (pairs_view (drop i ys)) ≡ nat_eq (length xs) (length ys)
pairs_end = compared_end (λ x y. same_pair (x.variable, value_view x.value) (y.variable, value_view y.value)) (λ xs ys. pointwise same_pair (pairs_view xs) (pairs_view ys)) pairs_compare
