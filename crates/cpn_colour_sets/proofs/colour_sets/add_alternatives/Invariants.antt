-- The constructors so far are added; the alternatives that are left, behind them, make all alternatives.
use Rattle.std.proofs.Common.{◌≡◌, map, drop, length, option_map}
use Rattle.cpn_core.specs.Colours.{shape_view}
use Rattle.cpn_trees.specs.DeclTrees.{alternative_view}
use Rattle.cpn_typing.specs.ColourSets.{alternatives_of, constructors_from, other_names}
use Rattle.cpn_declared.specs.Additions.{with_names, all_before}
use Rattle.cpn_declared.specs.DeclsViews.{decls_view, constructor_view}
use Rattle.cpn_colour_sets.proofs.AlternativeLists.{with_front}
use Rattle.cpn_colour_sets.proofs.colour_sets.add_alternatives.Given as goal

abbrev pub invariant-loop-position : goal.invariant-loop-position
invariant-loop-position l = record {
  added : decls_view l.decls ≡ with_names (decls_view l.initial.decls) (constructors_from l.union 0 (map constructor_view l.constructors.items));
  left : with_front (map (option_map shape_view) l.shapes.items) (map constructor_view l.constructors.items)
      (alternatives_of (decls_view l.initial.decls) (map alternative_view (drop l.position l.alternatives)) (all_before (map (λ c. c.name) (map constructor_view l.constructors.items)) (other_names (decls_view l.initial.decls))))
      ≡ alternatives_of (decls_view l.initial.decls) (map alternative_view l.alternatives) (other_names (decls_view l.initial.decls));
  count : length l.constructors.items ≡ l.position;
}
