-- A name is new beside others where it is none of them and new without them.
use Rattle.std.proofs.Common.{◌∙◌, map, string_bytes, sym}
use Rattle.cpn_typing.specs.ColourSets.{other_names}
use Rattle.cpn_declared.specs.DeclsViews.{decls_view}
use Rattle.cpn_colour_sets.proofs.NameLists.{old_beside, new_beside}
use Rattle.cpn_colour_sets.proofs.naming.is_new_beside.Goals as goal

pub returns-then-is_among : goal.returns-then-is_among
returns-then-is_among c = record { exact = sym (old_beside c.args.name.now (map string_bytes c.args.names.now) (other_names (decls_view c.args.decls.now)) (sym c.is_among.ensures.exact ∙ c.if-is_among.true)) }

pub returns : goal.returns
returns c = record { exact = c.is_new_name.ensures.exact ∙ new_beside c.args.name.now (map string_bytes c.args.names.now) (other_names (decls_view c.args.decls.now)) (sym c.is_among.ensures.exact ∙ c.if-is_among.false) }
