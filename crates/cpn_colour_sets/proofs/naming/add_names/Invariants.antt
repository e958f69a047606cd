-- The names so far are added, and those that are left are to be new beside them.
use Rattle.std.proofs.Common.{◌≡◌, map, take, drop, string_bytes}
use Rattle.cpn_typing.specs.ColourSets.{with_all_new, other_names}
use Rattle.cpn_declared.specs.Additions.{with_names, named_from, all_before}
use Rattle.cpn_declared.specs.DeclsViews.{decls_view}
use Rattle.cpn_colour_sets.specs.Kinds.{kind_view}
use Rattle.cpn_colour_sets.proofs.naming.add_names.Given as goal

abbrev pub invariant-loop-position : goal.invariant-loop-position
invariant-loop-position l = record {
  added : decls_view l.decls ≡ with_names (decls_view l.initial.decls) (named_from (kind_view l.kind) 0 (map string_bytes (take l.position l.names)));
  left : with_all_new (map string_bytes (drop l.position l.names)) (all_before (map string_bytes (take l.position l.names)) (other_names (decls_view l.initial.decls))) ≡ with_all_new (map string_bytes l.names) (other_names (decls_view l.initial.decls));
}
