-- What each part counts is small, the constructors' values grow by those of the next one, and the empty list is alone.
use Rattle.std.proofs.Common.{rules, ◌≡◌, ◌+◌, ◌++◌, ◌-◌, List, [], ◌∷◌, map, length, get_or, drop, Some, None, IfOk, refl, sym, ap, ap₂, ◌∙◌, subst, arith}
use Rattle.cpn_definitions.specs.Value.{bare, applied}
use Rattle.cpn_core.specs.declared.colours.Shape.{the_lemmas}
use Rattle.cpn_core.specs.declared.values.Value.{Value}
use Rattle.cpn_core.specs.Views.{value_view, values_view, rows_view}
use Rattle.cpn_core.specs.Colours.{shape_view, shapes_view, constructors_view}
use Rattle.cpn_core.specs.ShapeValues.{values_in, headed, rows_in, constructed_in}
use Rattle.cpn_core.proofs.ValueLevels.{view_con}
use Rattle.cpn_core.proofs.ShapeLevels.{shape_union}
use Rattle.cpn_core.proofs.ListedValues.{pushed}
use Rattle.cpn_core.proofs.ListedParts.{no_rows, few_of_each, no_shape_left, rows_grow, few_of_constructor, constructed_grows, all_constructed, alone}
use Rattle.cpn_core.proofs.small.+list.Goals as goal
use Rattle.cpn_core.proofs.small.+list.Goals.{constructed-in-None+in_ok-push-in-None, constructed-in-Some+in_ok-values_in-in-Some+in_ok-push_applied-in-Some}

pub constructed-values_in-requires : goal.constructed-values_in-requires
constructed-values_in-requires t c =
    (search (rules, the_lemmas), few_of_constructor c.args.constructors.now.items c.loop-place.place c.index.result.now c.in-Some.shape 256 (omega arith) c.index.ensures c.in-Some.is c.requires.few)

pub constructed-loop-place-preserved : goal.constructed-loop-place-preserved
constructed-loop-place-preserved t c =
    let before = map value_view c.loop-place.values.items in
    elim c.match-index.branch [
      | constructed-in-None+in_ok-push-in-None w ↦
          constructed_grows c.args.constructors.now.items c.loop-place.place c.index.result.now None before (map value_view c.match-index.values.items) _ (omega arith) c.index.ensures w.in-None.is
          (ap (λ vs. map value_view vs.items) w.values-is ∙ pushed c.loop-place.values.items _ _ before (before ++ bare c.loop-place.place ∷ []) (bare c.loop-place.place) w.in_ok-push-in-None.ensures.items (view_con c.loop-place.place None) refl refl)
          c.loop-place.invariant
      | constructed-in-Some+in_ok-values_in-in-Some+in_ok-push_applied-in-Some w ↦
          constructed_grows c.args.constructors.now.items c.loop-place.place c.index.result.now (Some w.in-Some.shape) before (map value_view c.match-index.values.items) _ (omega arith) c.index.ensures w.in-Some.is
          (ap (λ vs. map value_view vs.items) w.values-is ∙ w.in_ok-push_applied-in-Some.ensures ∙ ap (λ vs. before ++ map (applied c.loop-place.place) vs) w.in_ok-values_in-in-Some.ensures)
          c.loop-place.invariant
    ]

pub rows_in-returns-then-count_rows-eq0 : goal.rows_in-returns-then-count_rows-eq0
rows_in-returns-then-count_rows-eq0 t c = ap (λ rows. rows_view rows) c.new.ensures.items ∙ sym (no_rows (shapes_view c.args.shapes.now.items) (omega arith))

pub rows_in-values_in-requires : goal.rows_in-values_in-requires
rows_in-values_in-requires t c =
    (search (rules, the_lemmas), few_of_each c.args.shapes.now.items (c.len.result - 1 - c.loop-done.done) c.index.result.now 256 (omega arith) c.index.ensures c.requires.few (omega arith))

pub values_in-returns-in-List : goal.values_in-returns-in-List
values_in-returns-in-List t c = subst (λ vs. IfOk c.empty_list.result (λ values. map value_view values.items ≡ vs)) (alone c.args.shape.now c.in-List.field-0 c.in-List.is c.requires.few) c.empty_list.ensures

pub values_in-returns-in-Union : goal.values_in-returns-in-Union
values_in-returns-in-Union t c =
    subst (λ vs. IfOk c.constructed.result (λ values. map value_view values.items ≡ vs)) (ap (λ cs. constructed_in (constructors_view cs.items) 0) c.deref-in-Union.ensures ∙ sym (ap (λ s. values_in (shape_view s)) c.in-Union.is ∙ ap values_in (shape_union c.in-Union.field-0 c.in-Union.constructors))) c.constructed.ensures

-- ---- the rows, from the last shape on

pub rows_in-loop-done-init : goal.rows_in-loop-done-init
rows_in-loop-done-init t c =
    ap (λ rows. rows_view rows) c.in_ok-rows.ensures.items ∙ ap (λ (vs : List Value). values_view vs ∷ []) c.new-2.ensures.items
    ∙ sym (no_shape_left c.args.shapes.now.items (length c.args.shapes.now.items - 0) (omega arith))

pub rows_in-loop-done-preserved : goal.rows_in-loop-done-preserved
rows_in-loop-done-preserved t c =
    let shapes = c.args.shapes.now.items in
    let shape = c.index.result.now in
    let done = c.loop-done.done in
    let here : c.len.result - 1 - done ≡ length shapes - (done + 1) = omega arith in
    c.in_ok-rows-2.ensures ∙ ap₂ headed c.in_ok-heads.ensures c.loop-done.invariant
    ∙ sym (rows_grow shapes (length shapes - (done + 1)) (length shapes - done) shape (omega arith) (omega arith) (c.index.ensures ∙ ap (λ i. get_or shapes i shape) here))

pub rows_in-returns : goal.rows_in-returns
rows_in-returns t c =
    let shapes = c.args.shapes.now.items in
    let all : length shapes - c.loop-done.done ≡ 0 = omega arith in
    c.loop-done.invariant ∙ ap (λ i. rows_in (shapes_view (drop i shapes))) all

-- ---- the constructors' values

pub constructed-loop-place-init : goal.constructed-loop-place-init
constructed-loop-place-init t c = ap (λ (vs : List Value). map value_view vs ++ constructed_in (constructors_view c.args.constructors.now.items) 0) c.new-values.ensures.items

pub constructed-returns : goal.constructed-returns
constructed-returns t c = all_constructed c.args.constructors.now.items c.loop-place.place (map value_view c.loop-place.values.items) _ (omega arith) c.loop-place.invariant
