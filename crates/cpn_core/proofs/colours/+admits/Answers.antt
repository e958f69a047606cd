-- A constructor is of a union's shape exactly where the union declares it so; an item that has its shape leaves it to those after it.
use Rattle.std.proofs.Common.{◌≡◌, List, length, nat_eq, ap, ap₂, ◌∙◌, refl, sym, arith}
use Rattle.std.proofs.lemmas.List.{drop_all}
use Rattle.cpn_definitions.specs.Colour.{has_shape, all_have_shape, union_shape}
use Rattle.cpn_core.specs.declared.values.Value.{Value}
use Rattle.cpn_core.specs.Views.{value_view, values_view}
use Rattle.cpn_core.specs.Colours.{shape_view, constructors_view}
use Rattle.cpn_core.proofs.ValueLevels.{view_con}
use Rattle.cpn_core.proofs.colours.+admits.Goals as goal
use Rattle.cpn_core.proofs.ShapeLevels.{shape_union}
use Rattle.cpn_core.proofs.Shapes.{held_next, held_all, all_held_next}

pub has_shape-returns-in-Union : goal.has_shape-returns-in-Union
has_shape-returns-in-Union t c = record {
  exact =
      c.is_constructed.ensures.exact c.in-Union.field-0
      ∙ ap₂ has_shape (sym (ap value_view c.in-Con.is ∙ view_con c.in-Con.position c.in-Con.argument))
      (ap (λ cs. union_shape c.in-Union.field-0 (constructors_view cs)) c.as_slice.ensures.value ∙ ap (λ cs. union_shape c.in-Union.field-0 (constructors_view cs.items)) c.deref-in-Union.ensures ∙ sym (ap shape_view c.in-Union.is ∙ shape_union c.in-Union.field-0 c.in-Union.constructors));
}

pub have_shapes-loop-i-init : goal.have_shapes-loop-i-init
have_shapes-loop-i-init t c = refl

pub have_shapes-loop-i-preserved : goal.have_shapes-loop-i-preserved
have_shapes-loop-i-preserved t c =
    c.loop-i.invariant ∙ held_next c.args.values.now.items c.args.shapes.now.items c.loop-i.i c.index.result.now c.index-in-loop-i.result.now (omega arith) (omega arith) c.index.ensures c.index-in-loop-i.ensures (sym c.if-not-has_shape.ensures.exact)

pub have_shapes-returns : goal.have_shapes-returns
have_shapes-returns t c =
    let values : c.len-3.result ≡ length c.args.values.now.items = omega arith in
    let shapes : c.len-4.result ≡ length c.args.shapes.now.items = omega arith in
    record { exact = ap₂ nat_eq values shapes ∙ sym (c.loop-i.invariant ∙ held_all c.args.values.now.items c.args.shapes.now.items c.loop-i.i (omega arith)) }

pub all_have_shape-loop-value-init : goal.all_have_shape-loop-value-init
all_have_shape-loop-value-init t c = refl

pub all_have_shape-loop-value-preserved : goal.all_have_shape-loop-value-preserved
all_have_shape-loop-value-preserved t c =
    c.loop-value.invariant ∙ all_held_next c.deref-value-items.result.now c.args.shape.now c.loop-value.value-index c.value-item.result c.loop-value-test.true c.value-item.is (sym c.if-not-has_shape.ensures.exact)

pub all_have_shape-returns : goal.all_have_shape-returns
all_have_shape-returns t c = record {
  exact =
      sym (ap (λ (vs : List Value). all_have_shape (values_view vs) (shape_view c.args.shape.now)) (sym c.deref-value-items.ensures.value)
      ∙ c.loop-value.invariant
      ∙ ap (λ (vs : List Value). all_have_shape (values_view vs) (shape_view c.args.shape.now)) (drop_all c.loop-value.value-index c.deref-value-items.result.now c.loop-value-test.false));
}
