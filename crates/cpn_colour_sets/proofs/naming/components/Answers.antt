-- Each component is the next one, or refused with all.
use Rattle.std.proofs.Common.{◌+◌, ◌∙◌, ◌∷◌, [], map, ap, drop, string_bytes, arith}
use Rattle.std.proofs.lemmas.List.{map-append}
use Rattle.cpn_core.specs.Colours.{shape_view}
use Rattle.cpn_typing.specs.ColourSets.{components, component}
use Rattle.cpn_declared.specs.DeclsViews.{decls_view}
use Rattle.cpn_colour_sets.proofs.Components.{with_front, component_next, components_end, front_none, component_refused}
use Rattle.cpn_typing.proofs.Answered.{answers_on, refuses_through}
use Rattle.cpn_declared.specs.Answers.{refusal_of}
use Rattle.cpn_colour_sets.proofs.naming.components.Goals as goal

pub loop-name-preserved : goal.loop-name-preserved
loop-name-preserved c =
    ap (λ front. with_front front (components (decls_view c.args.decls.now) (map string_bytes (drop (c.loop-name.name-index + 1) c.args.names.now)))) (ap (map shape_view) c.in_ok-push.ensures.items ∙ map-append shape_view c.loop-name.shapes.items (c.in_ok-shape.shape ∷ []))
    ∙ component_next (decls_view c.args.decls.now) c.args.names.now c.loop-name.name-index (map shape_view c.loop-name.shapes.items) c.name-item.result c.loop-name-test.true c.name-item.is c.as_str.result.now c.as_str.ensures.value (shape_view c.in_ok-shape.shape) c.in_ok-shape.ensures.exact
    ∙ c.loop-name.invariant

pub returns : goal.returns
returns c = record { exact = components_end (decls_view c.args.decls.now) c.args.names.now c.loop-name.name-index (map shape_view c.loop-name.shapes.items) (omega arith) c.loop-name.invariant }

pub loop-name-init : goal.loop-name-init
loop-name-init c =
    let all = components (decls_view c.args.decls.now) (map string_bytes c.args.names.now) in
    ap (λ shapes. with_front (map shape_view shapes) all) c.in_ok-shapes.ensures.items ∙ front_none all

pub returns-in_err-shape : goal.returns-in_err-shape
returns-in_err-shape c =
    let ds = decls_view c.args.decls.now in
    let whole = components ds (map string_bytes c.args.names.now) in
    record {
      exact = answers_on refusal_of _ c.from_residual-in_err-shape.result c.in_err-shape.field-0.0 whole c.from_residual-in_err-shape.ensures.1
          (refuses_through (refusal_of c.in_err-shape.field-0.0) (component ds c.as_str.result.now) whole
          (λ r h. component_refused ds c.args.names.now c.loop-name.name-index (map shape_view c.loop-name.shapes.items) c.name-item.result c.loop-name-test.true c.name-item.is c.as_str.result.now c.as_str.ensures.value r h c.loop-name.invariant)
          c.in_err-shape.ensures.exact);
    }
