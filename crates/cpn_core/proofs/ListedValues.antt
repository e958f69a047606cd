-- Lists of values that grow, as the plain values that they stand for.
use Rattle.std.proofs.Common.{◌≡◌, ℕ, ◌+◌, ◌++◌, ◌<◌, ◌≤◌, List, [], ◌∷◌, Vec, Global, map, take, length, get_or, append_assoc, sym, ap, ap₂, ◌∙◌}
use Rattle.std.proofs.lemmas.List.{map-append, append-nil, take_more, take_all}
use Rattle.std.proofs.lemmas.Grind.{flat_map-append}
use Rattle.cpn_definitions.specs.Value.{PlainValue, PlainValues, more, tuple, applied}
use Rattle.cpn_core.specs.declared.values.Value.{Value}
use Rattle.cpn_core.specs.Views.{value_view, values_view, rows_view}
use Rattle.cpn_core.specs.ShapeValues.{headed}

-- one value more at the end
pub pushed : (vs new : List Value) (v : Value) (before after : List PlainValue) (w : PlainValue) → new ≡ vs ++ v ∷ [] → value_view v ≡ w → after ≡ before ++ w ∷ [] → map value_view vs ≡ before → map value_view new ≡ after
pushed vs new v before after w grown is grows so_far =
    ap (map value_view) grown ∙ map-append value_view vs (v ∷ []) ∙ ap (λ xs. xs ++ value_view v ∷ []) so_far ∙ ap (λ u. before ++ u ∷ []) is ∙ sym grows

-- one head more at the end
pub headed_more : (heads : List Value) (rows : List PlainValues) (i : ℕ) (head : Value) → i < length heads → head ≡ get_or heads i head → headed (map value_view (take (i + 1) heads)) rows ≡ headed (map value_view (take i heads)) rows ++ map (more (value_view head)) rows
headed_more heads rows i head lt is =
    let f : PlainValue → List PlainValues = λ v. map (more v) rows in
    let one : take (i + 1) heads ≡ take i heads ++ head ∷ [] = take_more heads i head lt ∙ ap (λ v. take i heads ++ v ∷ []) (sym is) in
    ap (λ vs. headed (map value_view vs) rows) one
    ∙ ap (λ vs. headed vs rows) (map-append value_view (take i heads) (head ∷ []))
    ∙ flat_map-append f (map value_view (take i heads)) (value_view head ∷ [])
    ∙ ap (λ xs. headed (map value_view (take i heads)) rows ++ xs) (append-nil (f (value_view head)))

-- one tuple, and one constructor with an argument, more at the end
pub tupled_more : (rows : List (Vec Value Global)) (row : Vec Value Global) → map tuple (rows_view (rows ++ row ∷ [])) ≡ map tuple (rows_view rows) ++ tuple (values_view row.items) ∷ []
tupled_more rows row = ap (map tuple) (map-append (λ (r : Vec Value Global). values_view r.items) rows (row ∷ [])) ∙ map-append tuple (rows_view rows) (values_view row.items ∷ [])

pub applied_more : (k : ℕ) (before : List PlainValue) (vs : List Value) (v : Value) → before ++ map (applied k) (map value_view (vs ++ v ∷ [])) ≡ (before ++ map (applied k) (map value_view vs)) ++ applied k (value_view v) ∷ []
applied_more k before vs v =
    ap (λ ws. before ++ map (applied k) ws) (map-append value_view vs (v ∷ []))
    ∙ ap (λ ws. before ++ ws) (map-append (applied k) (map value_view vs) (value_view v ∷ []))
    ∙ sym (append_assoc before (map (applied k) (map value_view vs)) (applied k (value_view v) ∷ []))

-- ---- copies, made item by item, are seen as the items are

pub copied_next
    : {A B : Type 0} (view : A → B) (items made longer : List A) (i : ℕ) (item copy : A)
    → i < length items
    → item ≡ get_or items i item
    → view copy ≡ view item
    → longer ≡ made ++ copy ∷ []
    → map view made ≡ map view (take i items)
    → map view longer ≡ map view (take (i + 1) items)
copied_next view items made longer i item copy lt is same grown so_far =
    let next : take (i + 1) items ≡ take i items ++ item ∷ [] = take_more items i item lt ∙ ap (λ x. take i items ++ x ∷ []) (sym is) in
    ap (map view) grown ∙ map-append view made (copy ∷ []) ∙ ap₂ (λ xs x. xs ++ x ∷ []) so_far same ∙ sym (ap (map view) next ∙ map-append view (take i items) (item ∷ []))

pub copied_all : {A B : Type 0} (view : A → B) (items made : List A) (i : ℕ) → length items ≤ i → map view made ≡ map view (take i items) → map view made ≡ map view items
copied_all view items made i past so_far = so_far ∙ ap (map view) (take_all i items past)
