-- The items so far are written, each with a comma after it unless it is the last; those that are left have the shapes that
-- are left, or the shape, and with their texts the text is whole.
use Rattle.std.proofs.Common.{◌≡◌, ◌++◌, true, drop}
use Rattle.std.specs.Prelude.{codes}
use Rattle.std.specs.String.{string_bytes}
use Rattle.cpn_definitions.specs.Colour.{have_shapes, all_have_shape}
use Rattle.cpn_definitions.specs.Named.{have_names}
use Rattle.cpn_core.specs.Views.{values_view}
use Rattle.cpn_core.specs.Colours.{shape_view, shapes_view}
use Rattle.cpn_core.specs.Nets.{net_view}
use Rattle.cpn_report.specs.ValueText.{joined, tuple_texts, list_texts}
use Rattle.cpn_report.proofs.values.+values.Given as goal

abbrev pub invariant-push_tuple-loop-number : goal.invariant-push_tuple-loop-number
invariant-push_tuple-loop-number l = record {
  admitted : have_shapes (values_view (drop l.number l.items.items)) (shapes_view (drop l.number l.shapes.items)) ≡ true;
  named : have_names (net_view l.net) (shapes_view (drop l.number l.shapes.items)) ≡ true;
  written : string_bytes l.out ++ joined (codes ",") (tuple_texts (net_view l.net) (values_view (drop l.number l.items.items)) (shapes_view (drop l.number l.shapes.items)))
      ≡ string_bytes l.initial.out ++ joined (codes ",") (tuple_texts (net_view l.net) (values_view l.items.items) (shapes_view l.shapes.items));
}

abbrev pub invariant-push_list-loop-number : goal.invariant-push_list-loop-number
invariant-push_list-loop-number l = record {
  admitted : all_have_shape (values_view (drop l.number l.items.items)) (shape_view l.shape) ≡ true;
  written : string_bytes l.out ++ joined (codes ",") (list_texts (net_view l.net) (values_view (drop l.number l.items.items)) (shape_view l.shape))
      ≡ string_bytes l.initial.out ++ joined (codes ",") (list_texts (net_view l.net) (values_view l.items.items) (shape_view l.shape));
}
