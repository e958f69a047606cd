-- The values of a shape rise in the order of values.
use Rattle.std.proofs.Common.{◌≡◌, ℕ, zero, suc, ◌<◌, ◌≤◌, ◌⊎◌, inl, inr, ⊎_elim, ℤ, pos, ◌+ℤ◌, List, [], ◌∷◌, map, replicate, refl, sym, subst, arith, Ordering, Less, Equal, nat_cmp, int_cmp}
use Rattle.std.specs.Ordering.{ordering_then}
use Rattle.std.specs.Cmp.Lexicographic.{slice_cmp}
use Rattle.std.specs.List.{AllByRecursion}
use Rattle.std.proofs.lemmas.Bool.Decides.{nat_tests}
use Rattle.std.proofs.lemmas.Int.{ints}
use Rattle.cpn_definitions.specs.Value.{PlainValue, PlainValues, int, constant, text, tuple, bare, applied, list, more, from_list}
use Rattle.cpn_definitions.specs.Colour.{PlainShape, PlainShapes, Constructors, unit_shape, boolean_shape, int_shape, text_shape, constant_shape, tuple_shape, union_shape, list_shape, no_shapes, more_shapes, no_constructors, without, taking}
use Rattle.cpn_definitions.specs.Order.{value_cmp, values_cmp}
use Rattle.cpn_definitions.specs.ValueOrder.{value_itself}
use Rattle.cpn_definitions.specs.Lists.{Rises}
use Rattle.cpn_core.specs.ShapeValues.{int_count, strings, lists, headed, values_in, rows_in, constructed_in}
use Rattle.cpn_definitions.proofs.RisingLists.{IsIn, AllBefore, each_in, in_append_cases, in_map_from, rises_mapped, rises_appended, rises_flat}
use Rattle.cpn_definitions.proofs.NumberTests.{compared_less}
use Rattle.cpn_core.proofs.NumberedItems.{rises_numbered}

-- ---- of one kind

nat_itself : (k : ℕ) → nat_cmp k k ≡ Equal
nat_itself k = grind (arith, nat_tests)

int_less : (low : ℤ) (i j : ℕ) → i < j → int_cmp (low +ℤ pos i) (low +ℤ pos j) ≡ Less
int_less low i j lt = grind (arith, ints)

then_equal_first : (o p q : Ordering) → o ≡ Equal → p ≡ q → ordering_then o p ≡ q
then_equal_first o p q first second = rw first second

then_less_first : (o p : Ordering) → o ≡ Less → ordering_then o p ≡ Less
then_less_first o p first = rw first refl

shorter_text : (i j : ℕ) → i < j → slice_cmp nat_cmp (replicate i 0x61) (replicate j 0x61) ≡ Less
shorter_text i zero lt = let no : ⊥ = omega arith in absurd no
shorter_text zero (suc j) lt = refl
shorter_text (suc i) (suc j) lt = shorter_text i j (omega arith)

shorter_list : (v : PlainValue) (i j : ℕ) → i < j → values_cmp (from_list (replicate i v)) (from_list (replicate j v)) ≡ Less
shorter_list v i zero lt = let no : ⊥ = omega arith in absurd no
shorter_list v zero (suc j) lt = refl
shorter_list v (suc i) (suc j) lt = then_equal_first _ _ _ (value_itself v) (shorter_list v i j (omega arith))

lists_rise : (n : ℕ) (vs : List PlainValue) → Rises value_cmp (lists n vs)
lists_rise n [] = (tt, tt)
lists_rise n (v ∷ vs) = rises_numbered value_cmp (λ k. list (from_list (replicate k v))) 0 n (shorter_list v)

-- ---- of parts

headed_before : (v w : PlainValue) (rows others : List PlainValues) → value_cmp v w ≡ Less → AllBefore values_cmp (map (more v) rows) (map (more w) others)
headed_before v w rows others less =
    each_in (λ x. AllByRecursion (λ y. values_cmp x y ≡ Less) (map (more w) others)) (map (more v) rows) (λ x in_x.
    each_in (λ y. values_cmp x y ≡ Less) (map (more w) others) (λ y in_y.
    let from_x = in_map_from (more v) rows x in_x in
    let from_y = in_map_from (more w) others y in_y in
    let both : values_cmp (more v from_x.0) (more w from_y.0) ≡ Less = then_less_first _ _ less in
    rw (sym from_x.2, sym from_y.2) both))

always : {X : Type 0} (xs : List X) → AllByRecursion (λ x. Unit {0}) xs
always [] = tt
always (x ∷ xs) = (tt, always xs)

headed_rises : (vs : List PlainValue) (rows : List PlainValues) → Rises value_cmp vs → Rises values_cmp rows → Rises values_cmp (headed vs rows)
headed_rises vs rows rise rows_rise =
    rises_flat (λ v. Unit {0}) value_cmp values_cmp (λ v. map (more v) rows) vs
    (λ v _. rises_mapped values_cmp values_cmp (more v) rows (λ x y less. then_equal_first _ _ _ (value_itself v) less) rows_rise)
    (λ v w _ _ less. headed_before v w rows rows less)
    (always vs)
    rise

-- the value is of a constructor from this position on
abbrev IsFrom : ℕ → PlainValue → Type 0
IsFrom k v = (j : ℕ) × (k ≤ j) × ((v ≡ bare j) ⊎ ((w : PlainValue) × (v ≡ applied j w)))

constructed_from : (cs : Constructors) (k : ℕ) (v : PlainValue) → IsIn v (constructed_in cs k) → IsFrom k v
constructed_from no_constructors k v h = absurd h
constructed_from (without cs) k v (inl e) = (k, omega arith, inl (sym e))
constructed_from (without cs) k v (inr h) = let later = constructed_from cs (suc k) v h in (later.0, omega arith, later.2)
constructed_from (taking s cs) k v h =
    ⊎_elim (λ here. let from = in_map_from (applied k) (values_in s) v here in (k, omega arith, inr (from.0, sym from.2)))
    (λ there. let later = constructed_from cs (suc k) v there in (later.0, omega arith, later.2))
    (in_append_cases (map (applied k) (values_in s)) (constructed_in cs (suc k)) v h)

bare_before : (i k : ℕ) (v : PlainValue) → i < k → IsFrom k v → value_cmp (bare i) v ≡ Less
bare_before i k v lt (j, from, inl e) = rw e (compared_less i j (omega arith))
bare_before i k v lt (j, from, inr (w, e)) = rw e (then_less_first _ _ (compared_less i j (omega arith)))

applied_before : (i k : ℕ) (u v : PlainValue) → i < k → IsFrom k v → value_cmp (applied i u) v ≡ Less
applied_before i k u v lt (j, from, inl e) = rw e (then_less_first _ _ (compared_less i j (omega arith)))
applied_before i k u v lt (j, from, inr (w, e)) = rw e (then_less_first _ _ (compared_less i j (omega arith)))

applied_all_before : (s : PlainShape) (cs : Constructors) (k : ℕ) → AllBefore value_cmp (map (applied k) (values_in s)) (constructed_in cs (suc k))
applied_all_before s cs k =
    each_in (λ u. AllByRecursion (λ v. value_cmp u v ≡ Less) (constructed_in cs (suc k))) (map (applied k) (values_in s)) (λ u in_u.
    each_in (λ v. value_cmp u v ≡ Less) (constructed_in cs (suc k)) (λ v in_v.
    let from = in_map_from (applied k) (values_in s) u in_u in
    let P : PlainValue → Type 0 = λ w. value_cmp w v ≡ Less in
    subst P from.2 (applied_before k (suc k) from.0 v (omega arith) (constructed_from cs (suc k) v in_v))))

-- ---- of all shapes

strings_rise : (n : ℕ) → Rises value_cmp (strings n)
unfolding strings
strings_rise n = rises_numbered value_cmp (λ k. text (replicate k 0x61)) 0 n shorter_text

mutual
  pub values_rise : (s : PlainShape) → Rises value_cmp (values_in s)
  values_rise unit_shape = (tt, tt)
  values_rise boolean_shape = ((refl, tt), (tt, tt))
  values_rise (int_shape low high) = rises_numbered value_cmp (λ k. int (low +ℤ pos k)) 0 (int_count low high) (int_less low)
  values_rise text_shape = strings_rise 257
  values_rise (constant_shape id count) = rises_numbered value_cmp constant 0 count compared_less
  values_rise (tuple_shape ss) = rises_mapped values_cmp value_cmp tuple (rows_in ss) (λ x y less. less) (rows_rise ss)
  values_rise (union_shape id cs) = constructed_rise cs 0
  values_rise (list_shape s) = lists_rise 257 (values_in s)

  rows_rise : (ss : PlainShapes) → Rises values_cmp (rows_in ss)
  rows_rise no_shapes = (tt, tt)
  rows_rise (more_shapes s ss) = headed_rises (values_in s) (rows_in ss) (values_rise s) (rows_rise ss)

  constructed_rise : (cs : Constructors) (k : ℕ) → Rises value_cmp (constructed_in cs k)
  constructed_rise no_constructors k = tt
  constructed_rise (without cs) k =
      (each_in (λ v. value_cmp (bare k) v ≡ Less) (constructed_in cs (suc k)) (λ v h. bare_before k (suc k) v (omega arith) (constructed_from cs (suc k) v h)), constructed_rise cs (suc k))
  constructed_rise (taking s cs) k =
      rises_appended value_cmp (map (applied k) (values_in s)) (constructed_in cs (suc k))
      (rises_mapped value_cmp value_cmp (applied k) (values_in s) (λ x y less. then_equal_first _ _ _ (nat_itself k) less) (values_rise s))
      (constructed_rise cs (suc k))
      (applied_all_before s cs k)
