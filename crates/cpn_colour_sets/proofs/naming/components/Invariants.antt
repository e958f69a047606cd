-- The shapes so far before those that are left are all shapes.
use Rattle.std.proofs.Common.{◌≡◌, map, drop, string_bytes}
use Rattle.cpn_core.specs.Colours.{shape_view}
use Rattle.cpn_typing.specs.ColourSets.{components}
use Rattle.cpn_declared.specs.DeclsViews.{decls_view}
use Rattle.cpn_colour_sets.proofs.Components.{with_front}
use Rattle.cpn_colour_sets.proofs.naming.components.Given as goal

abbrev pub invariant-loop-name : goal.invariant-loop-name
invariant-loop-name l =
    with_front (map shape_view l.shapes.items) (components (decls_view l.decls) (map string_bytes (drop l.name-index l.names))) ≡ components (decls_view l.decls) (map string_bytes l.names)
