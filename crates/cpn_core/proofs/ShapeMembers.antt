-- The values of a shape have the shape, and where they are at most 256 no other value has it.
use Rattle.std.proofs.Common.{◌≡◌, ℕ, zero, suc, ◌+◌, ◌*◌, ◌<◌, ◌≤◌, if◌then◌else◌, ◌==◌, suc-mul, ◌⊎◌, inl, inr, ⊎_elim, ℤ, pos, negsuc, ◌+ℤ◌, ◌≤ℤ◌, ◌-◌, true, false, ◌&&◌, int_le, List, [], ◌∷◌, map, length, replicate, refl, sym, ap, ◌∙◌, subst, arith, ltb-true}
use Rattle.std.specs.List.{list_all}
use borrow.Author.Differences.{up, down}
use Rattle.std.specs.Int.{int_gap}
use Rattle.std.proofs.Math.Nat.{mul-suc}
use Rattle.std.proofs.lemmas.Bool.{and_parts, and_from}
use Rattle.std.proofs.lemmas.Bool.Decides.{nat_tests}
use Rattle.std.proofs.lemmas.Int.{ints}
use Rattle.std.proofs.lemmas.List.{nil_from_length}
use Rattle.cpn_definitions.specs.Value.{PlainValue, PlainValues, unit, boolean, int, constant, text, tuple, bare, applied, list, none, more, from_list}
use Rattle.cpn_definitions.specs.Colour.{PlainShape, PlainShapes, Constructors, unit_shape, boolean_shape, int_shape, text_shape, constant_shape, tuple_shape, union_shape, list_shape, no_shapes, more_shapes, no_constructors, without, taking, has_shape, have_shapes, all_have_shape, constructor_at, is_bare, takes, is_printable}
use Rattle.cpn_core.specs.ShapeValues.{int_count, integers, strings, lists, headed, values_in, rows_in, constructed_in, count_of, count_of_rows, count_of_constructed}
use Rattle.cpn_definitions.proofs.RisingLists.{IsIn, in_append_left, in_append_right, in_append_cases, in_map, in_map_from, in_flat_map}
use Rattle.cpn_core.proofs.NumberedItems.{in_numbered, in_numbered_from}
use Rattle.cpn_core.proofs.ShapeCounts.{values_counted, rows_counted}

-- ---- numbers

gap_is : (a b : ℤ) → int_gap a b ≡ (up b + down a) - (up a + down b)
gap_is (pos a) (pos b) = omega arith
gap_is (pos a) (negsuc b) = omega arith
gap_is (negsuc a) (pos b) = omega arith
gap_is (negsuc a) (negsuc b) = omega arith

-- an integer that is made from a low one by a number below the count is between the bounds
between : (low high : ℤ) (i : ℕ) → i < int_count low high → (int_le low (low +ℤ pos i) && int_le (low +ℤ pos i) high) ≡ true
between low high i lt =
    let gap = gap_is low (high +ℤ pos 1) in
    and_from (int_le low (low +ℤ pos i)) (int_le (low +ℤ pos i) high) (grind (arith, ints)) (grind (arith, ints))

pub within_bounds : (low high : ℤ) (i : ℕ) → i < int_count low high → (low +ℤ pos i) ≤ℤ high
within_bounds low high i lt = let gap = gap_is low (high +ℤ pos 1) in omega (arith, ints)

-- and one between the bounds is made so
made_so : (low high z : ℤ) → (int_le low z && int_le z high) ≡ true → (i : ℕ) × (i < int_count low high) × (low +ℤ pos i ≡ z)
made_so low high z h =
    let parts = and_parts (int_le low z) (int_le z high) h in
    let gap = gap_is low (high +ℤ pos 1) in
    let upto = gap_is low z in
    let below : low ≤ℤ z = grind (arith, ints) in
    let above : z ≤ℤ high = grind (arith, ints) in
    (int_gap low z, omega (arith, ints), omega (arith, ints))

-- a product of at most so many is of two numbers that are, or one of them is zero
factors : (a b m : ℕ) → a * b ≤ m → (a ≡ 0) ⊎ (b ≡ 0) ⊎ ((a ≤ m) × (b ≤ m))
factors zero b m le = inl refl
factors (suc a) zero m le = inr (inl refl)
factors (suc a) (suc b) m le =
    let more_than_a = mul-suc (suc a) b in
    let more_than_b = suc-mul a (suc b) in
    inr (inr (omega arith, omega arith))

-- ---- no value but those in the list

-- nothing is in a list that is as long as zero
none_in : {X : Type 0} (xs : List X) (x : X) → length xs ≡ 0 → IsIn x xs → ⊥
none_in [] x e h = h
none_in (y ∷ ys) x e h = omega arith

-- where there is no item, the empty list is the only one
only_empty : (s : PlainShape) (items : List PlainValue) → ((v : PlainValue) → has_shape v s ≡ true → IsIn v items) → items ≡ [] → (vs : PlainValues) → all_have_shape vs s ≡ true → IsIn (list vs) (lists 257 items)
only_empty s [] all e none h = inl refl
only_empty s [] all e (more v vs) h = absurd (all v (and_parts (has_shape v s) (all_have_shape vs s) h).0)
only_empty s (w ∷ ws) all e vs h = cc

pub no_item : (n : ℕ) → (if n == 0 then 1 else 257) ≤ 256 → n ≡ 0
no_item zero le = refl
no_item (suc n) le = let no : ⊥ = grind (arith, nat_tests) in absurd no

in_headed : (v : PlainValue) (row : PlainValues) (vs : List PlainValue) (rows : List PlainValues) → IsIn v vs → IsIn row rows → IsIn (more v row) (headed vs rows)
in_headed v row vs rows head rest = in_flat_map (λ w. map (more w) rows) vs v (more v row) head (in_map (more v) rows row rest)

mutual
  pub values_all : (s : PlainShape) (v : PlainValue) → count_of s ≤ 256 → has_shape v s ≡ true → IsIn v (values_in s)
  values_all unit_shape unit few h = inl refl
  values_all boolean_shape (boolean false) few h = inl refl
  values_all boolean_shape (boolean true) few h = inr (inl refl)
  values_all (int_shape low high) (int z) few h =
      let made = made_so low high z h in
      subst (λ w. IsIn (int w) (integers low (int_count low high))) made.2 (in_numbered (λ k. int (low +ℤ pos k)) 0 (int_count low high) made.0 (omega arith) (omega arith))
  values_all text_shape (text bytes) few h = let no : ⊥ = omega arith in absurd no
  values_all (constant_shape id count) (constant k) few h = let lt = ltb-true k count h in in_numbered constant 0 count k (omega arith) (omega arith)
  values_all (tuple_shape ss) (tuple vs) few h = in_map tuple (rows_in ss) vs (rows_all ss vs few h)
  values_all (union_shape id cs) (bare j) few h = let same : 0 + j ≡ j = omega arith in subst (λ n. IsIn (bare n) (constructed_in cs 0)) same (bare_in cs 0 j h)
  values_all (union_shape id cs) (applied j w) few h = let same : 0 + j ≡ j = omega arith in subst (λ n. IsIn (applied n w) (constructed_in cs 0)) same (applied_in cs 0 j w few h)
  values_all (list_shape s) (list vs) few h =
      let empty = no_item (count_of s) few in
      only_empty s (values_in s) (λ w has. values_all s w (omega arith) has) (nil_from_length (values_in s) (values_counted s ∙ empty)) vs h
  values_all s v few h = cc

  rows_all : (ss : PlainShapes) (vs : PlainValues) → count_of_rows ss ≤ 256 → have_shapes vs ss ≡ true → IsIn vs (rows_in ss)
  rows_all no_shapes none few h = inl refl
  rows_all (more_shapes s ss) (more v vs) few h =
      let both = and_parts (has_shape v s) (have_shapes vs ss) h in
      ⊎_elim (λ zero_first. absurd (none_in (values_in s) v (values_counted s ∙ zero_first) (values_all s v (omega arith) both.0)))
      (λ rest. ⊎_elim (λ zero_rest. absurd (none_in (rows_in ss) vs (rows_counted ss ∙ zero_rest) (rows_all ss vs (omega arith) both.1)))
      (λ few_each. in_headed v vs (values_in s) (rows_in ss) (values_all s v few_each.0 both.0) (rows_all ss vs few_each.1 both.1)) rest)
      (factors (count_of s) (count_of_rows ss) 256 few)
  rows_all ss vs few h = cc

  applied_in : (cs : Constructors) (k j : ℕ) (w : PlainValue) → count_of_constructed cs ≤ 256 → takes (constructor_at cs j) (λ s. has_shape w s) ≡ true → IsIn (applied (k + j) w) (constructed_in cs k)
  applied_in no_constructors k j w few h = cc
  applied_in (without cs) k zero w few h = cc
  applied_in (taking s cs) k zero w few h =
      let same : k ≡ k + 0 = omega arith in
      in_append_left (map (applied k) (values_in s)) (constructed_in cs (suc k)) (applied (k + 0) w) (subst (λ n. IsIn (applied n w) (map (applied k) (values_in s))) same (in_map (applied k) (values_in s) w (values_all s w (omega arith) h)))
  applied_in (without cs) k (suc j) w few h =
      let same : suc k + j ≡ k + suc j = omega arith in
      inr (subst (λ n. IsIn (applied n w) (constructed_in cs (suc k))) same (applied_in cs (suc k) j w (omega arith) h))
  applied_in (taking s cs) k (suc j) w few h =
      let same : suc k + j ≡ k + suc j = omega arith in
      in_append_right (map (applied k) (values_in s)) (constructed_in cs (suc k)) (applied (k + suc j) w) (subst (λ n. IsIn (applied n w) (constructed_in cs (suc k))) same (applied_in cs (suc k) j w (omega arith) h))

  bare_in : (cs : Constructors) (k j : ℕ) → is_bare (constructor_at cs j) ≡ true → IsIn (bare (k + j)) (constructed_in cs k)
  bare_in no_constructors k j h = cc
  bare_in (without cs) k zero h = let same : k ≡ k + 0 = omega arith in inl (ap bare same)
  bare_in (taking s cs) k zero h = cc
  bare_in (without cs) k (suc j) h =
      let same : suc k + j ≡ k + suc j = omega arith in
      inr (subst (λ n. IsIn (bare n) (constructed_in cs (suc k))) same (bare_in cs (suc k) j h))
  bare_in (taking s cs) k (suc j) h =
      let same : suc k + j ≡ k + suc j = omega arith in
      in_append_right (map (applied k) (values_in s)) (constructed_in cs (suc k)) (bare (k + suc j)) (subst (λ n. IsIn (bare n) (constructed_in cs (suc k))) same (bare_in cs (suc k) j h))

-- ---- each value in the list has the shape

letters_print : (k : ℕ) → list_all is_printable (replicate k 0x61) ≡ true
letters_print zero = refl
letters_print (suc k) = letters_print k

strings_have : (n : ℕ) (v : PlainValue) → IsIn v (strings n) → has_shape v text_shape ≡ true
unfolding strings
strings_have n v h =
    let from = in_numbered_from (λ k. text (replicate k 0x61)) 0 n v h in
    subst (λ w. has_shape w text_shape ≡ true) from.3 (letters_print from.0)

copies_have : (s : PlainShape) (v : PlainValue) (k : ℕ) → has_shape v s ≡ true → all_have_shape (from_list (replicate k v)) s ≡ true
copies_have s v zero has = refl
copies_have s v (suc k) has = and_from (has_shape v s) (all_have_shape (from_list (replicate k v)) s) has (copies_have s v k has)

lists_have : (s : PlainShape) (n : ℕ) (items : List PlainValue) → ((v : PlainValue) → IsIn v items → has_shape v s ≡ true) → (v : PlainValue) → IsIn v (lists n items) → has_shape v (list_shape s) ≡ true
lists_have s n [] each v (inl e) = subst (λ w. has_shape w (list_shape s) ≡ true) e refl
lists_have s n [] each v (inr h) = absurd h
lists_have s n (w ∷ ws) each v h =
    let from = in_numbered_from (λ k. list (from_list (replicate k w))) 0 n v h in
    subst (λ x. has_shape x (list_shape s) ≡ true) from.3 (copies_have s w from.0 (each w (inl refl)))

in_headed_from : (vs : List PlainValue) (rows : List PlainValues) (row : PlainValues) → IsIn row (headed vs rows) → (v : PlainValue) × (rest : PlainValues) × IsIn v vs × IsIn rest rows × (more v rest ≡ row)
in_headed_from [] rows row h = absurd h
in_headed_from (v ∷ vs) rows row h =
    ⊎_elim (λ here. let from = in_map_from (more v) rows row here in (v, from.0, inl refl, from.1, from.2))
    (λ there. let later = in_headed_from vs rows row there in (later.0, later.1, inr later.2, later.3, later.4))
    (in_append_cases (map (more v) rows) (headed vs rows) row h)

-- the value is of a constructor at a position from this one on, with an argument that fits, or without
abbrev IsOf : Constructors → ℕ → PlainValue → Type 0
IsOf cs k v =
    ((j : ℕ) × (v ≡ bare (k + j)) × (is_bare (constructor_at cs j) ≡ true)) ⊎ ((j : ℕ) × (w : PlainValue) × (v ≡ applied (k + j) w) × (takes (constructor_at cs j) (λ s. has_shape w s) ≡ true))

later_without : (cs : Constructors) (k : ℕ) (v : PlainValue) → IsOf cs (suc k) v → IsOf (without cs) k v
later_without cs k v (inl (j, e, is)) = let same : suc k + j ≡ k + suc j = omega arith in inl (suc j, e ∙ ap bare same, is)
later_without cs k v (inr (j, w, e, is)) = let same : suc k + j ≡ k + suc j = omega arith in inr (suc j, w, e ∙ ap (λ n. applied n w) same, is)

later_taking : (s : PlainShape) (cs : Constructors) (k : ℕ) (v : PlainValue) → IsOf cs (suc k) v → IsOf (taking s cs) k v
later_taking s cs k v (inl (j, e, is)) = let same : suc k + j ≡ k + suc j = omega arith in inl (suc j, e ∙ ap bare same, is)
later_taking s cs k v (inr (j, w, e, is)) = let same : suc k + j ≡ k + suc j = omega arith in inr (suc j, w, e ∙ ap (λ n. applied n w) same, is)

of_union : (id : ℕ) (cs : Constructors) (v : PlainValue) → IsOf cs 0 v → has_shape v (union_shape id cs) ≡ true
of_union id cs v (inl (j, e, is)) = let same : 0 + j ≡ j = omega arith in subst (λ w. has_shape w (union_shape id cs) ≡ true) (sym (e ∙ ap bare same)) is
of_union id cs v (inr (j, w, e, is)) = let same : 0 + j ≡ j = omega arith in subst (λ x. has_shape x (union_shape id cs) ≡ true) (sym (e ∙ ap (λ n. applied n w) same)) is

mutual
  pub values_have : (s : PlainShape) (v : PlainValue) → IsIn v (values_in s) → has_shape v s ≡ true
  values_have unit_shape v (inl e) = subst (λ w. has_shape w unit_shape ≡ true) e refl
  values_have unit_shape v (inr h) = absurd h
  values_have boolean_shape v (inl e) = subst (λ w. has_shape w boolean_shape ≡ true) e refl
  values_have boolean_shape v (inr (inl e)) = subst (λ w. has_shape w boolean_shape ≡ true) e refl
  values_have boolean_shape v (inr (inr h)) = absurd h
  values_have (int_shape low high) v h =
      let from = in_numbered_from (λ k. int (low +ℤ pos k)) 0 (int_count low high) v h in
      subst (λ w. has_shape w (int_shape low high) ≡ true) from.3 (between low high from.0 (omega arith))
  values_have text_shape v h = strings_have 257 v h
  values_have (constant_shape id count) v h =
      let from = in_numbered_from constant 0 count v h in
      subst (λ w. has_shape w (constant_shape id count) ≡ true) from.3 (grind (arith, nat_tests))
  values_have (tuple_shape ss) v h =
      let from = in_map_from tuple (rows_in ss) v h in
      subst (λ w. has_shape w (tuple_shape ss) ≡ true) from.2 (rows_have ss from.0 from.1)
  values_have (union_shape id cs) v h = of_union id cs v (constructed_have cs 0 v h)
  values_have (list_shape s) v h = lists_have s 257 (values_in s) (λ w. values_have s w) v h

  rows_have : (ss : PlainShapes) (vs : PlainValues) → IsIn vs (rows_in ss) → have_shapes vs ss ≡ true
  rows_have no_shapes vs (inl e) = subst (λ row. have_shapes row no_shapes ≡ true) e refl
  rows_have no_shapes vs (inr h) = absurd h
  rows_have (more_shapes s ss) vs h =
      let from = in_headed_from (values_in s) (rows_in ss) vs h in
      subst (λ row. have_shapes row (more_shapes s ss) ≡ true) from.4
      (and_from (has_shape from.0 s) (have_shapes from.1 ss) (values_have s from.0 from.2) (rows_have ss from.1 from.3))

  constructed_have : (cs : Constructors) (k : ℕ) (v : PlainValue) → IsIn v (constructed_in cs k) → IsOf cs k v
  constructed_have no_constructors k v h = absurd h
  constructed_have (without cs) k v (inl e) = let same : k ≡ k + 0 = omega arith in inl (0, sym e ∙ ap bare same, refl)
  constructed_have (without cs) k v (inr h) = later_without cs k v (constructed_have cs (suc k) v h)
  constructed_have (taking s cs) k v h =
      ⊎_elim (λ here.
      let from = in_map_from (applied k) (values_in s) v here in
      let same : k ≡ k + 0 = omega arith in
      inr (0, from.0, sym from.2 ∙ ap (λ n. applied n from.0) same, values_have s from.0 from.1))
      (λ there. later_taking s cs k v (constructed_have cs (suc k) v there))
      (in_append_cases (map (applied k) (values_in s)) (constructed_in cs (suc k)) v h)
