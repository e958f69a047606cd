-- Lists that are kept backwards, and how large they are.
use Rattle.std.proofs.Common.{◌≡◌, ℕ, suc, ◌+◌, ◌-◌, ◌≤◌, ◌<◌, pos, true, false, nat_le, Some, None, get_or, take, List, [], ◌∷◌, ◌++◌, length, map, reverse, refl, sym, ap, ◌∙◌, arith}
use Rattle.std.specs.List.{slice_get}
use Rattle.std.proofs.Math.Seq.{take-suc}
use Rattle.std.proofs.lemmas.Option.{slice_get-get_or}
use Rattle.std.proofs.lemmas.List.{take_all, length-map, length-reverse, reverse-append, reverse-reverse}
use Rattle.std.proofs.lemmas.Bool.Decides.{nat_tests}
use Rattle.cpn_definitions.specs.Value.{PlainValue, PlainValues, unit, boolean, int, constant, text, tuple, bare, applied, list, more, nodes_of, to_list, from_list}
use Rattle.cpn_definitions.specs.Outcome.{gives, faults, empty_list, too_large}
use Rattle.cpn_definitions.specs.Operations.{most_nodes, items_in, consed}
use Rattle.cpn_definitions.proofs.ValueRows.{to_list_from_list, from_list_to_list}
use Rattle.cpn_core.specs.declared.values.Value.{Value}
use Rattle.cpn_core.specs.Views.{value_view, values_view}
use Rattle.cpn_eval.specs.Operands.{head_of, length_of}
use Rattle.cpn_eval.proofs.ValueLists.{map_reverse}

-- items that stand for the same stand for the same backwards
pub same_backwards : (xs ys : List Value) → values_view xs ≡ values_view ys → values_view (reverse xs) ≡ values_view (reverse ys)
same_backwards xs ys h =
    let same : map value_view xs ≡ map value_view ys = sym (to_list_from_list (map value_view xs)) ∙ ap to_list h ∙ to_list_from_list (map value_view ys) in
    ap from_list (map_reverse xs ∙ ap reverse same ∙ sym (map_reverse ys))

-- an item at the end is the first one backwards
pub put_before : (xs ys : List Value) (x : Value) → ys ≡ xs ++ x ∷ [] → values_view (reverse ys) ≡ more (value_view x) (values_view (reverse xs))
put_before xs ys x h = ap (λ zs. values_view (reverse zs)) h ∙ ap values_view (reverse-append xs (x ∷ []))

pub put_before_turned : (xs turned ys : List Value) (x : Value) → turned ≡ reverse xs → ys ≡ turned ++ x ∷ [] → values_view (reverse ys) ≡ more (value_view x) (values_view xs)
put_before_turned xs turned ys x ht h = put_before turned ys x h ∙ ap (λ zs. more (value_view x) (values_view zs)) (ap reverse ht ∙ reverse-reverse xs)

-- ---- whether a list is too large

pub list_of : (w : PlainValue) (xs : List PlainValue) → items_in w ≡ gives xs → w ≡ list (from_list xs)
list_of unit xs h = cc
list_of (boolean b) xs h = cc
list_of (int z) xs h = cc
list_of (constant k) xs h = cc
list_of (text bytes) xs h = cc
list_of (tuple vs) xs h = cc
list_of (bare k) xs h = cc
list_of (applied k v) xs h = cc
list_of (list vs) xs h = let e : to_list vs ≡ xs = cc in ap list (sym (from_list_to_list vs) ∙ ap from_list e)

pub too_long : (v : PlainValue) (vs : PlainValues) → most_nodes < nodes_of v + nodes_of (list vs) → consed v (list vs) ≡ faults too_large
too_long v vs h =
    let no : nat_le (nodes_of (list (more v vs))) most_nodes ≡ false = grind (arith, nat_tests) in
    rw (from_list_to_list vs, no) refl

pub put_first : (v : PlainValue) (vs : PlainValues) → nodes_of v + nodes_of (list vs) ≤ most_nodes → consed v (list vs) ≡ gives (list (more v vs))
put_first v vs h =
    let yes : nat_le (nodes_of (list (more v vs))) most_nodes ≡ true = grind (arith, nat_tests) in
    rw (from_list_to_list vs, yes) refl

-- ---- the first item, and how many there are

no_item_at : (xs : List Value) (i : ℕ) → i ≡ length xs - 1 → slice_get xs i ≡ None → head_of (list (values_view (reverse xs))) ≡ faults empty_list
no_item_at [] i hi h = refl
no_item_at (y ∷ ys) i hi h = let no : Some (get_or (y ∷ ys) i y) ≡ None = sym (slice_get-get_or (y ∷ ys) i y (omega arith)) ∙ h in cc

pub no_first : (xs : List Value) → slice_get xs (length xs - 1) ≡ None → head_of (list (values_view (reverse xs))) ≡ faults empty_list
no_first xs h = no_item_at xs (length xs - 1) refl h

first_of_last : (xs init : List Value) (x : Value) → xs ≡ init ++ x ∷ [] → head_of (list (values_view (reverse xs))) ≡ gives (value_view x)
first_of_last xs init x h = ap (λ vs. head_of (list vs)) (put_before init xs x h)

item_at : (xs : List Value) (i : ℕ) (x : Value) → i ≡ length xs - 1 → slice_get xs i ≡ Some x → head_of (list (values_view (reverse xs))) ≡ gives (value_view x)
item_at [] i x hi h = cc
item_at (y ∷ ys) i x hi h =
    let inside : i < length (y ∷ ys) = omega arith in
    let found : Some x ≡ Some (get_or (y ∷ ys) i x) = sym h ∙ slice_get-get_or (y ∷ ys) i x inside in
    let there : x ≡ get_or (y ∷ ys) i x = cc in
    first_of_last (y ∷ ys) (take i (y ∷ ys)) x (sym (take_all (suc i) (y ∷ ys) (omega arith)) ∙ take-suc (y ∷ ys) i x inside ∙ ap (λ z. take i (y ∷ ys) ++ z ∷ []) (sym there))

pub first_there : (xs : List Value) (x : Value) → slice_get xs (length xs - 1) ≡ Some x → head_of (list (values_view (reverse xs))) ≡ gives (value_view x)
first_there xs x h = item_at xs (length xs - 1) x refl h

pub length_backwards : (xs : List Value) → length_of (list (values_view (reverse xs))) ≡ gives (int (pos (length xs)))
length_backwards xs =
    rw (to_list_from_list (map value_view (reverse xs)), length-map (reverse xs) value_view, length-reverse xs) refl
