-- The rows of a tuple's shapes and the values of a union's constructors, one shape or constructor at a time.
use Rattle.std.proofs.Common.{◌≡◌, ℕ, zero, suc, ◌+◌, ◌*◌, ◌<◌, ◌≤◌, List, [], ◌∷◌, ◌++◌, map, length, get_or, drop, Option, Some, None, refl, sym, ap, ◌∙◌, arith, add-one, drop-cons, append_assoc, subst, Global}
use Rattle.std.specs.declared.sync.Arc.{Arc}
use Rattle.std.proofs.Math.Nat.{mul-suc, suc-mul}
use Rattle.std.proofs.lemmas.List.{append-nil, drop_all, nil_from_length}
use Rattle.cpn_definitions.specs.Value.{PlainValue, bare, applied, list, none}
use Rattle.cpn_definitions.specs.Colour.{PlainShapes, list_shape}
use Rattle.cpn_core.specs.declared.colours.Shape.{Shape}
use Rattle.cpn_core.specs.declared.colours.Shape.TheViews as views
use Rattle.cpn_core.specs.Colours.{shape_view, shapes_view, constructors_view}
use Rattle.cpn_core.specs.ShapeValues.{values_in, headed, rows_in, constructed_in, lists, count_of, count_of_rows, count_of_constructed}
use Rattle.cpn_core.proofs.ShapeCounts.{values_counted, rows_counted}
use Rattle.cpn_core.proofs.ShapeMembers.{no_item}
use Rattle.cpn_core.proofs.ShapeLevels.{shape_list}

-- ---- rows

pub no_rows : (ss : PlainShapes) → count_of_rows ss ≡ 0 → rows_in ss ≡ []
no_rows ss zero_rows = nil_from_length (rows_in ss) (rows_counted ss ∙ zero_rows)

-- where there are a few rows, but some, there are a few values of each shape
few_of_two : (a b m : ℕ) → a * b ≤ m → 0 < a * b → (a ≤ m) × (b ≤ m) × (0 < b)
few_of_two zero b m le some = let no : ⊥ = omega arith in absurd no
few_of_two (suc a) zero m le some = let no : ⊥ = omega arith in absurd no
few_of_two (suc a) (suc b) m le some =
    let more_than_a = mul-suc (suc a) b in
    let more_than_b = suc-mul a (suc b) in
    (omega arith, omega arith, omega arith)

pub few_of_each : (ss : List Shape) (k : ℕ) (s : Shape) (m : ℕ) → k < length ss → s ≡ get_or ss k s → count_of_rows (shapes_view ss) ≤ m → 0 < count_of_rows (shapes_view ss) → count_of (shape_view s) ≤ m
few_of_each [] k s m lt is le some = let no : ⊥ = omega arith in absurd no
few_of_each (x ∷ ss) zero s m lt is le some = let both = few_of_two (count_of (shape_view x)) (count_of_rows (shapes_view ss)) m le some in rw is both.0
few_of_each (x ∷ ss) (suc k) s m lt is le some = let both = few_of_two (count_of (shape_view x)) (count_of_rows (shapes_view ss)) m le some in few_of_each ss k s m (omega arith) is both.1 both.2

-- past the last shape there is the empty row alone
pub no_shape_left : (ss : List Shape) (i : ℕ) → length ss ≤ i → rows_in (shapes_view (drop i ss)) ≡ none ∷ []
no_shape_left ss i past = ap (λ (left : List Shape). rows_in (shapes_view left)) (drop_all i ss past)

-- the rows from an index on have the values of the shape there ahead of the rows of those after it
pub rows_grow : (ss : List Shape) (i j : ℕ) (s : Shape) → i < length ss → j ≡ i + 1 → s ≡ get_or ss i s → rows_in (shapes_view (drop i ss)) ≡ headed (values_in (shape_view s)) (rows_in (shapes_view (drop j ss)))
rows_grow ss i j s lt after is =
    let here : drop i ss ≡ s ∷ drop (i + 1) ss = rw add-one (drop-cons ss i s lt ∙ ap (λ x. x ∷ drop (suc i) ss) (sym is)) in
    rw (here, after) refl

-- ---- constructors

-- the values of one constructor, which stands at this position
abbrev pub of_one : Option Shape → ℕ → List PlainValue
of_one None k = bare k ∷ []
of_one (Some s) k = map (applied k) (values_in (shape_view s))

pub constructed_goes_on
    : (cs : List (Option Shape)) (k : ℕ) (d : Option Shape)
    → k < length cs
    → d ≡ get_or cs k d
    → constructed_in (constructors_view (drop k cs)) k ≡ of_one d k ++ constructed_in (constructors_view (drop (k + 1) cs)) (k + 1)
constructed_goes_on cs k d lt is =
    let dc : drop k cs ≡ d ∷ drop (suc k) cs = drop-cons cs k d lt ∙ ap (λ x. x ∷ drop (suc k) cs) (sym is) in
    rw (dc, add-one) (at d)
  where
    at : (d : Option Shape) → constructed_in (constructors_view (d ∷ drop (suc k) cs)) k ≡ of_one d k ++ constructed_in (constructors_view (drop (suc k) cs)) (suc k)
    at None = refl
    at (Some s) = refl

pub few_of_constructor : (cs : List (Option Shape)) (k : ℕ) (d : Option Shape) (s : Shape) (m : ℕ) → k < length cs → d ≡ get_or cs k d → d ≡ Some s → count_of_constructed (constructors_view cs) ≤ m → count_of (shape_view s) ≤ m
few_of_constructor [] k d s m lt is some le = let no : ⊥ = omega arith in absurd no
few_of_constructor (None ∷ cs) zero d s m lt is some le = cc
few_of_constructor (Some x ∷ cs) zero d s m lt is some le = let same : s ≡ x = cc in rw same (omega arith)
few_of_constructor (None ∷ cs) (suc k) d s m lt is some le = few_of_constructor cs k d s m (omega arith) is some (omega arith)
few_of_constructor (Some x ∷ cs) (suc k) d s m lt is some le = few_of_constructor cs k d s m (omega arith) is some (omega arith)

-- what is listed grows by the values of the next constructor
pub constructed_grows
    : (cs : List (Option Shape)) (k : ℕ) (d e : Option Shape) (before after all : List PlainValue)
    → k < length cs
    → d ≡ get_or cs k d
    → d ≡ e
    → after ≡ before ++ of_one e k
    → before ++ constructed_in (constructors_view (drop k cs)) k ≡ all
    → after ++ constructed_in (constructors_view (drop (k + 1) cs)) (k + 1) ≡ all
constructed_grows cs k d e before after all lt is same grown so_far =
    let rest = constructed_in (constructors_view (drop (k + 1) cs)) (k + 1) in
    ap (λ xs. xs ++ rest) (grown ∙ ap (λ o. before ++ of_one o k) (sym same))
    ∙ append_assoc before (of_one d k) rest
    ∙ ap (λ xs. before ++ xs) (sym (constructed_goes_on cs k d lt is))
    ∙ so_far

-- past the last constructor all are listed
pub all_constructed : (cs : List (Option Shape)) (k : ℕ) (listed all : List PlainValue) → length cs ≤ k → listed ++ constructed_in (constructors_view (drop k cs)) k ≡ all → listed ≡ all
all_constructed cs k listed all past so_far = sym (ap (λ (left : List (Option Shape)). listed ++ constructed_in (constructors_view left) k) (drop_all k cs past) ∙ append-nil listed) ∙ so_far

-- ---- lists

-- the empty list alone, where there are a few lists
pub alone : (shape : Shape) (b : Arc Shape Global) → shape ≡ views.List b → count_of (shape_view shape) ≤ 256 → list none ∷ [] ≡ values_in (shape_view shape)
alone shape b is few =
    let whole : shape_view shape ≡ list_shape (shape_view b.value) = ap shape_view is ∙ shape_list b in
    let few_lists : count_of (list_shape (shape_view b.value)) ≤ 256 = subst (λ p. count_of p ≤ 256) whole few in
    let empty = nil_from_length (values_in (shape_view b.value)) (values_counted (shape_view b.value) ∙ no_item (count_of (shape_view b.value)) few_lists) in
    ap (lists 257) (sym empty) ∙ ap values_in (sym whole)
