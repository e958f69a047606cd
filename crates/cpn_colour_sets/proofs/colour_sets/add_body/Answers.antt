-- Each body has its shape.
use Rattle.std.proofs.Common.{◌∙◌, ap, ap₂, sym, refl, map, string_bytes, to_z, of_z, w64, rules}
use Rattle.cpn_core.specs.Colours.{shape_view, shapes_view}
use Rattle.cpn_definitions.specs.Colour.{list_shape, tuple_shape, int_shape}
use Rattle.cpn_trees.specs.declared.declaration_trees.Body.TheVariants as bodies
use Rattle.cpn_typing.specs.ColourSets.{component, components}
use Rattle.cpn_declared.specs.DeclsViews.{decls_view}
use Rattle.cpn_colour_sets.proofs.Bodies.{alone, shape_unit, shape_bool, shape_text, shape_int, product_accepted, list_accepted, named_accepted, range_accepted, le_same}
use Rattle.cpn_core.proofs.ShapeLevels.{shape_list, shape_tuple}
use Rattle.cpn_colour_sets.proofs.GrownDeclared.{grows_same}
use Rattle.cpn_colour_sets.proofs.colour_sets.add_body.Goals as goal

pub returns-in-Unit-clause-exact : goal.returns-in-Unit-clause-exact
returns-in-Unit-clause-exact c = alone (decls_view c.args.decls.now) c.args.name.now c.args.body.now bodies.Unit _ _ c.in-Unit.is refl shape_unit

pub returns-in-Bool-clause-exact : goal.returns-in-Bool-clause-exact
returns-in-Bool-clause-exact c = alone (decls_view c.args.decls.now) c.args.name.now c.args.body.now bodies.Bool _ _ c.in-Bool.is refl shape_bool

pub returns-in-String-clause-exact : goal.returns-in-String-clause-exact
returns-in-String-clause-exact c = alone (decls_view c.args.decls.now) c.args.name.now c.args.body.now bodies.String _ _ c.in-String.is refl shape_text

pub returns-in-Int-clause-exact : goal.returns-in-Int-clause-exact
returns-in-Int-clause-exact c = alone (decls_view c.args.decls.now) c.args.name.now c.args.body.now bodies.Int _ _ c.in-Int.is refl (shape_int _ _)

pub returns-then-low-high-clause-exact : goal.returns-then-low-high-clause-exact
returns-then-low-high-clause-exact c =
    alone (decls_view c.args.decls.now) c.args.name.now c.args.body.now (bodies.IntRange c.in-IntRange.low c.in-IntRange.high) _ (int_shape c.in-IntRange.low c.in-IntRange.high) c.in-IntRange.is
    (range_accepted (decls_view c.args.decls.now) c.args.name.now c.in-IntRange.low c.in-IntRange.high (le_same (to_z w64 (of_z w64 c.in-IntRange.low)) (to_z w64 (of_z w64 c.in-IntRange.high)) c.in-IntRange.low c.in-IntRange.high (search rules) (search rules) c.if-low-high.true))
    (shape_int (to_z w64 (of_z w64 c.in-IntRange.low)) (to_z w64 (of_z w64 c.in-IntRange.high)) ∙ ap₂ int_shape (search rules) (search rules))

pub returns-in_ok-shapes-in-Product-clause-exact : goal.returns-in_ok-shapes-in-Product-clause-exact
returns-in_ok-shapes-in-Product-clause-exact c =
    alone (decls_view c.args.decls.now) c.args.name.now c.args.body.now (bodies.Product c.in-Product.names) _ _ c.in-Product.is
    (product_accepted (decls_view c.args.decls.now) c.args.name.now (map string_bytes c.in-Product.names.items) _ (ap (λ names. components (decls_view c.args.decls.now) (map string_bytes names)) (sym c.as_slice-in-Product.ensures.value) ∙ c.in_ok-items-in-Product.ensures.exact))
    (shape_tuple c.in_ok-shapes-in-Product.shapes ∙ ap (λ shapes. tuple_shape (shapes_view shapes.items)) c.in_ok-shapes-in-Product.ensures.ok)

pub returns-in_ok-new-in-List-clause-exact : goal.returns-in_ok-new-in-List-clause-exact
returns-in_ok-new-in-List-clause-exact c =
    alone (decls_view c.args.decls.now) c.args.name.now c.args.body.now (bodies.List c.in-List.item) _ _ c.in-List.is
    (list_accepted (decls_view c.args.decls.now) c.args.name.now (string_bytes c.in-List.item) (shape_view c.in_ok-shape-in-List.shape) (ap (component (decls_view c.args.decls.now)) (sym c.as_str.ensures.value) ∙ c.in_ok-shape-in-List.ensures.exact))
    (shape_list c.in_ok-new-in-List.field-0 ∙ ap (λ s. list_shape (shape_view s)) c.in_ok-new-in-List.ensures.ok)

pub returns-in_ok-shape-in-Named-clause-exact : goal.returns-in_ok-shape-in-Named-clause-exact
returns-in_ok-shape-in-Named-clause-exact c =
    alone (decls_view c.args.decls.now) c.args.name.now c.args.body.now (bodies.Named c.in-Named.other) _ _ c.in-Named.is
    (named_accepted (decls_view c.args.decls.now) c.args.name.now (string_bytes c.in-Named.other) (shape_view c.in_ok-shape-in-Named.shape) (ap (component (decls_view c.args.decls.now)) (sym c.as_str-in-Named.ensures.value) ∙ c.in_ok-shape-in-Named.ensures.exact))
    refl

pub returns-in_err-from_str-in-IntRange-clause-grown : goal.returns-in_err-from_str-in-IntRange-clause-grown
returns-in_err-from_str-in-IntRange-clause-grown c = grows_same (decls_view c.args.decls.now) (decls_view c.args.decls.now) refl

pub returns-in_err-items-in-Product-clause-grown : goal.returns-in_err-items-in-Product-clause-grown
returns-in_err-items-in-Product-clause-grown c = grows_same (decls_view c.args.decls.now) (decls_view c.args.decls.now) refl

pub returns-in_err-shapes-in-Product-clause-grown : goal.returns-in_err-shapes-in-Product-clause-grown
returns-in_err-shapes-in-Product-clause-grown c = grows_same (decls_view c.args.decls.now) (decls_view c.args.decls.now) refl

pub returns-in_err-shape-in-List-clause-grown : goal.returns-in_err-shape-in-List-clause-grown
returns-in_err-shape-in-List-clause-grown c = grows_same (decls_view c.args.decls.now) (decls_view c.args.decls.now) refl

pub returns-in_err-new-in-List-clause-grown : goal.returns-in_err-new-in-List-clause-grown
returns-in_err-new-in-List-clause-grown c = grows_same (decls_view c.args.decls.now) (decls_view c.args.decls.now) refl

pub returns-in_err-shape-in-Named-clause-grown : goal.returns-in_err-shape-in-Named-clause-grown
returns-in_err-shape-in-Named-clause-grown c = grows_same (decls_view c.args.decls.now) (decls_view c.args.decls.now) refl

pub returns-in-Unit-clause-grown : goal.returns-in-Unit-clause-grown
returns-in-Unit-clause-grown c = grows_same (decls_view c.args.decls.now) (decls_view c.args.decls.now) refl

pub returns-in-Bool-clause-grown : goal.returns-in-Bool-clause-grown
returns-in-Bool-clause-grown c = grows_same (decls_view c.args.decls.now) (decls_view c.args.decls.now) refl

pub returns-in-Int-clause-grown : goal.returns-in-Int-clause-grown
returns-in-Int-clause-grown c = grows_same (decls_view c.args.decls.now) (decls_view c.args.decls.now) refl

pub returns-then-low-high-clause-grown : goal.returns-then-low-high-clause-grown
returns-then-low-high-clause-grown c = grows_same (decls_view c.args.decls.now) (decls_view c.args.decls.now) refl

pub returns-in_ok-from_str-in-IntRange-clause-grown : goal.returns-in_ok-from_str-in-IntRange-clause-grown
returns-in_ok-from_str-in-IntRange-clause-grown c = grows_same (decls_view c.args.decls.now) (decls_view c.args.decls.now) refl

pub returns-in-String-clause-grown : goal.returns-in-String-clause-grown
returns-in-String-clause-grown c = grows_same (decls_view c.args.decls.now) (decls_view c.args.decls.now) refl

pub returns-in_ok-shapes-in-Product-clause-grown : goal.returns-in_ok-shapes-in-Product-clause-grown
returns-in_ok-shapes-in-Product-clause-grown c = grows_same (decls_view c.args.decls.now) (decls_view c.args.decls.now) refl

pub returns-in_ok-new-in-List-clause-grown : goal.returns-in_ok-new-in-List-clause-grown
returns-in_ok-new-in-List-clause-grown c = grows_same (decls_view c.args.decls.now) (decls_view c.args.decls.now) refl

pub returns-in_ok-shape-in-Named-clause-grown : goal.returns-in_ok-shape-in-Named-clause-grown
returns-in_ok-shape-in-Named-clause-grown c = grows_same (decls_view c.args.decls.now) (decls_view c.args.decls.now) refl
