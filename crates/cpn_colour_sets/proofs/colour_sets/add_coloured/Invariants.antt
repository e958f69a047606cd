-- The variables so far are added.
use Rattle.std.proofs.Common.{◌≡◌, map, take, string_bytes}
use Rattle.cpn_core.specs.Colours.{colour_view}
use Rattle.cpn_typing.specs.Declarations.{coloured_as}
use Rattle.cpn_declared.specs.Additions.{with_more_variables}
use Rattle.cpn_declared.specs.DeclsViews.{decls_view}
use Rattle.cpn_colour_sets.proofs.colour_sets.add_coloured.Given as goal

abbrev pub invariant-loop-name : goal.invariant-loop-name
invariant-loop-name l = decls_view l.decls ≡ with_more_variables (decls_view l.initial.decls) (map (coloured_as (colour_view l.colour)) (map string_bytes (take l.name-index l.names)))
