-- The names that are left are to be new beside those so far.
use Rattle.std.proofs.Common.{◌≡◌, map, take, drop, string_bytes}
use Rattle.cpn_typing.specs.ColourSets.{with_all_new, other_names}
use Rattle.cpn_declared.specs.Additions.{all_before}
use Rattle.cpn_declared.specs.DeclsViews.{decls_view}
use Rattle.cpn_colour_sets.proofs.naming.check_new.Given as goal

abbrev pub invariant-loop-position : goal.invariant-loop-position
invariant-loop-position l = with_all_new (map string_bytes (drop l.position l.names)) (all_before (map string_bytes (take l.position l.names)) (other_names (decls_view l.decls))) ≡ with_all_new (map string_bytes l.names) (other_names (decls_view l.decls))
