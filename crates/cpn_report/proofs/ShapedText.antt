-- Values of a shape, their names and their texts, one level or one item at a time.
use Rattle.std.proofs.Common.{◌≡◌, ◌∙◌, sym, ap, ap₂, subst, refl, ℕ, zero, suc, ◌+◌, ◌-◌, ◌<◌, true, ◌&&◌, if◌then◌else◌, nat_lt, List, [], ◌∷◌, ◌++◌, length, length-drop, drop, get_or, arith, nat_le, Option, Some, None, option_map, Box, Vec, Global}
use Rattle.std.specs.declared.sync.Arc.{Arc}
use Rattle.std.specs.Prelude.{codes}
use Rattle.std.proofs.lemmas.List.{drop_all}
use Rattle.std.proofs.lemmas.Bool.{and_parts, leb-true}
use Rattle.std.proofs.lemmas.Bool.Decides.{nat_tests}
use Rattle.cpn_definitions.specs.Net.{PlainNet}
use Rattle.cpn_definitions.specs.Colour.{PlainShape, has_shape, have_shapes, all_have_shape, no_shapes, union_shape, takes}
use Rattle.cpn_definitions.specs.Named.{constructors_of, count_of, has_names, have_names, arguments_have_names}
use Rattle.cpn_core.specs.declared.values.Value.{Value}
use Rattle.cpn_core.specs.declared.colours.Shape.{Shape}
use Rattle.cpn_core.specs.declared.values.Value.TheViews as value_views
use Rattle.cpn_core.specs.declared.colours.Shape.TheViews as shape_views
use Rattle.cpn_core.specs.Views.{value_view, values_view, constructor_view}
use Rattle.cpn_core.specs.Colours.{shape_view, shapes_view, constructors_view}
use Rattle.cpn_core.proofs.ShapeLevels.{shape_union}
use Rattle.cpn_core.proofs.Shapes.{declared_at}
use Rattle.cpn_core.proofs.ValueLevels.{view_con}
use Rattle.cpn_report.specs.ValueText.{joined, argument_text, constructor_name, shaped_text, tuple_texts, list_texts}
use Rattle.cpn_report.proofs.JoinedTexts.{rest_is, joined_step}

-- ---- one level

-- ---- constructors

-- a constructor that a union declares, without or with an argument, is one of its constructors
pub is_counted : (cs : List (Option Shape)) (k : ℕ) (argument : Option (Box Value Global)) (number : ℕ) → has_shape (constructor_view k argument) (union_shape number (constructors_view cs)) ≡ true → k < length cs
is_counted [] k None number has = cc
is_counted [] k (Some b) number has = cc
is_counted (None ∷ cs) zero argument number has = omega arith
is_counted (Some s ∷ cs) zero argument number has = omega arith
is_counted (None ∷ cs) (suc k) None number has = omega (arith, is_counted cs k None number has)
is_counted (None ∷ cs) (suc k) (Some b) number has = omega (arith, is_counted cs k (Some b) number has)
is_counted (Some s ∷ cs) (suc k) None number has = omega (arith, is_counted cs k None number has)
is_counted (Some s ∷ cs) (suc k) (Some b) number has = omega (arith, is_counted cs k (Some b) number has)

-- as many constructors are counted as there are
pub counted : (cs : List (Option Shape)) → count_of (constructors_view cs) ≡ length cs
counted [] = refl
counted (None ∷ cs) = omega (arith, counted cs)
counted (Some s ∷ cs) = omega (arith, counted cs)

-- so the net has a name for it
pub constructor_named : (n : PlainNet) (cs : List (Option Shape)) (k : ℕ) (argument : Option (Box Value Global)) (number : ℕ) → has_shape (constructor_view k argument) (union_shape number (constructors_view cs)) ≡ true → has_names n (union_shape number (constructors_view cs)) ≡ true → k < length (constructors_of n number)
constructor_named n cs k argument number has named =
    let parts = and_parts (nat_le (count_of (constructors_view cs)) (length (constructors_of n number))) (arguments_have_names n (constructors_view cs)) named in
    omega (arith, leb-true _ _ parts.0, counted cs, is_counted cs k argument number has)

-- the argument of a constructor has a shape, which the argument of the value has, and the net has the names of it
pub argument_named : (n : PlainNet) (cs : List (Option Shape)) (k : ℕ) (s : Shape) → k < length cs → Some s ≡ get_or cs k (Some s) → arguments_have_names n (constructors_view cs) ≡ true → has_names n (shape_view s) ≡ true
argument_named n [] k s lt is named = absurd (omega arith)
argument_named n (None ∷ cs) zero s lt is named = cc
argument_named n (Some t ∷ cs) zero s lt is named = let e : s ≡ t = cc in subst (λ x. has_names n (shape_view x) ≡ true) (sym e) (and_parts (has_names n (shape_view t)) (arguments_have_names n (constructors_view cs)) named).0
argument_named n (None ∷ cs) (suc k) s lt is named = argument_named n cs k s (omega arith) is named
argument_named n (Some t ∷ cs) (suc k) s lt is named = argument_named n cs k s (omega arith) is (and_parts (has_names n (shape_view t)) (arguments_have_names n (constructors_view cs)) named).1

-- A constructor with its argument, of a union that has its shape: at its position the union declares an argument, whose
-- shape the argument has, and the net has the names of it.
module _ (n : PlainNet) (cs : List (Option Shape)) (k : ℕ) (argument : Option (Box Value Global)) (b : Box Value Global) (number : ℕ) (declared : Option Shape) (some : argument ≡ Some b) (at : declared ≡ get_or cs k declared) (has : has_shape (constructor_view k argument) (union_shape number (constructors_view cs)) ≡ true) where
  takes_argument : takes (Some (option_map shape_view declared)) (λ s. has_shape (value_view b.value) s) ≡ true
  takes_argument =
      let is = declared_at cs k declared (is_counted cs k argument number has) at in
      let applied_has : has_shape (constructor_view k (Some b)) (union_shape number (constructors_view cs)) ≡ true = subst (λ a. has_shape (constructor_view k a) (union_shape number (constructors_view cs)) ≡ true) some has in
      subst (λ o. takes o (λ s. has_shape (value_view b.value) s) ≡ true) is applied_has

  pub never_bare : declared ≡ None → ⊥
  never_bare none = let e = subst (λ o. takes (Some (option_map shape_view o)) (λ s. has_shape (value_view b.value) s) ≡ true) none takes_argument in cc

  pub argument_has : (s : Shape) → declared ≡ Some s → has_shape (value_view b.value) (shape_view s) ≡ true
  argument_has s is = subst (λ o. takes (Some (option_map shape_view o)) (λ t. has_shape (value_view b.value) t) ≡ true) is takes_argument

  pub argument_is_named : (s : Shape) → declared ≡ Some s → has_names n (union_shape number (constructors_view cs)) ≡ true → has_names n (shape_view s) ≡ true
  argument_is_named s is named =
      let parts = and_parts (nat_le (count_of (constructors_view cs)) (length (constructors_of n number))) (arguments_have_names n (constructors_view cs)) named in
      argument_named n cs k s (is_counted cs k argument number has) (subst (λ o. o ≡ get_or cs k o) is at) parts.1

  pub applied_text : (s : Shape) → declared ≡ Some s → shaped_text n (constructor_view k argument) (union_shape number (constructors_view cs)) ≡ constructor_name n number k ++ codes "(" ++ shaped_text n (value_view b.value) (shape_view s) ++ codes ")"
  applied_text s is =
      let place = declared_at cs k declared (is_counted cs k argument number has) at ∙ ap (λ o. Some (option_map shape_view o)) is in
      let whole : shaped_text n (constructor_view k (Some b)) (union_shape number (constructors_view cs)) ≡ constructor_name n number k ++ codes "(" ++ shaped_text n (value_view b.value) (shape_view s) ++ codes ")" = ap (λ o. constructor_name n number k ++ codes "(" ++ argument_text o (λ t. shaped_text n (value_view b.value) t) ++ codes ")") place in
      ap (λ a. shaped_text n (constructor_view k a) (union_shape number (constructors_view cs))) some ∙ whole

-- a constructor as the value and the union that it was read from
module _ (n : PlainNet) (v : Value) (s : Shape) (k : ℕ) (argument : Option (Box Value Global)) (number : ℕ) (cs : Arc (Vec (Option Shape) Global) Global) (row : Vec (Option Shape) Global) (value_is : v ≡ value_views.Con k argument) (shape_is : s ≡ shape_views.Union number cs) (row_is : row ≡ cs.value) where
  union_is : shape_view s ≡ union_shape number (constructors_view row.items)
  union_is = ap shape_view shape_is ∙ shape_union number cs ∙ ap (λ r. union_shape number (constructors_view r.items)) (sym row_is)

  pub constructed_has : has_shape (value_view v) (shape_view s) ≡ true → has_shape (constructor_view k argument) (union_shape number (constructors_view row.items)) ≡ true
  constructed_has has = sym (ap₂ has_shape (ap value_view value_is ∙ view_con k argument) union_is) ∙ has

  pub constructed_named : has_names n (shape_view s) ≡ true → has_names n (union_shape number (constructors_view row.items)) ≡ true
  constructed_named named = sym (ap (has_names n) union_is) ∙ named

-- ---- the items of a tuple

-- where the values that are left have the shapes that are left, there is a shape for the next value
pub shape_for : (vs : List Value) (ss : List Shape) (i : ℕ) → i < length vs → have_shapes (values_view (drop i vs)) (shapes_view (drop i ss)) ≡ true → i < length ss
shape_for [] ss i lt have = absurd (omega arith)
shape_for (v ∷ vs) [] i lt have = let e : have_shapes (values_view (drop i (v ∷ vs))) no_shapes ≡ true = subst (λ xs. have_shapes (values_view (drop i (v ∷ vs))) (shapes_view xs) ≡ true) (drop_all {X = Shape} i [] (omega arith)) have in absurd (without_shapes (drop i (v ∷ vs)) (omega (arith, length-drop i (v ∷ vs))) e)
  where
    without_shapes : (ws : List Value) → 0 < length ws → have_shapes (values_view ws) no_shapes ≡ true → ⊥
    without_shapes [] some e = omega arith
    without_shapes (w ∷ ws) some e = cc
shape_for (v ∷ vs) (s ∷ ss) zero lt have = omega arith
shape_for (v ∷ vs) (s ∷ ss) (suc i) lt have = omega (arith, shape_for vs ss i (omega arith) have)

-- values that have the shapes have a text each
texts_count : (n : PlainNet) (vs : List Value) (ss : List Shape) → have_shapes (values_view vs) (shapes_view ss) ≡ true → length (tuple_texts n (values_view vs) (shapes_view ss)) ≡ length vs
texts_count n [] [] have = refl
texts_count n [] (s ∷ ss) have = refl
texts_count n (v ∷ vs) [] have = cc
texts_count n (v ∷ vs) (s ∷ ss) have = omega (arith, texts_count n vs ss (and_parts (has_shape (value_view v) (shape_view s)) (have_shapes (values_view vs) (shapes_view ss)) have).1)

list_count : (n : PlainNet) (vs : List Value) (s : PlainShape) → length (list_texts n (values_view vs) s) ≡ length vs
list_count n [] s = refl
list_count n (v ∷ vs) s = omega (arith, list_count n vs s)

-- something follows an item where texts are left
follows : (i count left : ℕ) → left ≡ count - (i + 1) → nat_lt (i + 1) count ≡ nat_lt 0 left
follows i count left e = grind (arith, nat_tests)

module _ (vs : List Value) (ss : List Shape) (i : ℕ) (v : Value) (s : Shape) (lv : i < length vs) (ls : i < length ss) (iv : v ≡ get_or vs i v) (is : s ≡ get_or ss i s) where
  -- the next value has the next shape, and the values after it have the shapes after it
  pub have_next : have_shapes (values_view (drop i vs)) (shapes_view (drop i ss)) ≡ true → (has_shape (value_view v) (shape_view s) ≡ true) × (have_shapes (values_view (drop (i + 1) vs)) (shapes_view (drop (i + 1) ss)) ≡ true)
  have_next have =
      let e : have_shapes (values_view (drop i vs)) (shapes_view (drop i ss)) ≡ (has_shape (value_view v) (shape_view s) && have_shapes (values_view (drop (i + 1) vs)) (shapes_view (drop (i + 1) ss))) = rw (rest_is vs i v lv iv, rest_is ss i s ls is) refl in
      and_parts _ _ (sym e ∙ have)

  -- the net has the names of the next shape, and of those after it
  pub names_next : (n : PlainNet) → have_names n (shapes_view (drop i ss)) ≡ true → (has_names n (shape_view s) ≡ true) × (have_names n (shapes_view (drop (i + 1) ss)) ≡ true)
  names_next n named = and_parts _ _ (sym (ap (λ xs. have_names n (shapes_view xs)) (rest_is ss i s ls is)) ∙ named)

  -- the texts that are left are that of the next item and those of the items after it
  tuple_next : (n : PlainNet) → tuple_texts n (values_view (drop i vs)) (shapes_view (drop i ss)) ≡ shaped_text n (value_view v) (shape_view s) ∷ tuple_texts n (values_view (drop (i + 1) vs)) (shapes_view (drop (i + 1) ss))
  tuple_next n = rw (rest_is vs i v lv iv, rest_is ss i s ls is) refl

  -- the text of the next item is written, and a comma where another item follows
  pub tuple_step : (n : PlainNet) (between text next whole : List ℕ) → have_shapes (values_view (drop (i + 1) vs)) (shapes_view (drop (i + 1) ss)) ≡ true → text ++ joined between (tuple_texts n (values_view (drop i vs)) (shapes_view (drop i ss))) ≡ whole → next ≡ (text ++ shaped_text n (value_view v) (shape_view s)) ++ (if nat_lt (i + 1) (length vs) then between else []) → next ++ joined between (tuple_texts n (values_view (drop (i + 1) vs)) (shapes_view (drop (i + 1) ss))) ≡ whole
  tuple_step n between text next whole have kept more =
      let rest = tuple_texts n (values_view (drop (i + 1) vs)) (shapes_view (drop (i + 1) ss)) in
      let left = texts_count n (drop (i + 1) vs) (drop (i + 1) ss) have ∙ length-drop (i + 1) vs in
      joined_step between (tuple_texts n (values_view (drop i vs)) (shapes_view (drop i ss))) (shaped_text n (value_view v) (shape_view s)) rest text next whole (nat_lt (i + 1) (length vs)) (tuple_next n) (follows i (length vs) (length rest) left) kept more

-- ---- the items of a list

module _ (vs : List Value) (s : Shape) (i : ℕ) (v : Value) (lv : i < length vs) (iv : v ≡ get_or vs i v) where
  -- the next value has the shape, and so have the values after it
  pub all_have_next : all_have_shape (values_view (drop i vs)) (shape_view s) ≡ true → (has_shape (value_view v) (shape_view s) ≡ true) × (all_have_shape (values_view (drop (i + 1) vs)) (shape_view s) ≡ true)
  all_have_next have = and_parts _ _ (sym (ap (λ xs. all_have_shape (values_view xs) (shape_view s)) (rest_is vs i v lv iv)) ∙ have)

  -- the text of the next item is written, and a comma where another item follows
  pub list_step : (n : PlainNet) (between text next whole : List ℕ) → text ++ joined between (list_texts n (values_view (drop i vs)) (shape_view s)) ≡ whole → next ≡ (text ++ shaped_text n (value_view v) (shape_view s)) ++ (if nat_lt (i + 1) (length vs) then between else []) → next ++ joined between (list_texts n (values_view (drop (i + 1) vs)) (shape_view s)) ≡ whole
  list_step n between text next whole kept more =
      let rest = list_texts n (values_view (drop (i + 1) vs)) (shape_view s) in
      let left = list_count n (drop (i + 1) vs) (shape_view s) ∙ length-drop (i + 1) vs in
      joined_step between (list_texts n (values_view (drop i vs)) (shape_view s)) (shaped_text n (value_view v) (shape_view s)) rest text next whole (nat_lt (i + 1) (length vs)) (ap (λ xs. list_texts n (values_view xs) (shape_view s)) (rest_is vs i v lv iv)) (follows i (length vs) (length rest) left) kept more
