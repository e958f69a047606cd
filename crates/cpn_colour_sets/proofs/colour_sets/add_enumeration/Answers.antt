-- The constants are new, and the enumeration is added.
use Rattle.std.proofs.Common.{◌∙◌, map, sym, string_bytes, refl}
use Rattle.cpn_declared.specs.DeclsViews.{decls_view}
use Rattle.cpn_colour_sets.proofs.Bodies.{enumeration_added, shape_enum}
use Rattle.cpn_colour_sets.proofs.NameLists.{bytes_long}
use Rattle.cpn_colour_sets.proofs.GrownDeclared.{grows_same, grows_on, grows_enumeration}
use Rattle.cpn_colour_sets.proofs.colour_sets.add_enumeration.Goals as goal

pub returns-clause-exact : goal.returns-clause-exact
returns-clause-exact c =
    enumeration_added (decls_view c.args.decls.now) (decls_view c.add_names.new.decls) (decls_view c.add_enumeration.new.self) c.args.name.now (map string_bytes c.args.constants.now) (map string_bytes c.in_ok-copies.copies.items) _ _ c.in_ok-number.number c.in_ok-count.count
    c.in_ok-add_names.ensures.exact c.in_ok-add_names.ensures.added c.in_ok-add_enumeration.ensures.added c.in_ok-copies.ensures.same c.in_ok-number.ensures.number (c.in_ok-count.ensures.same ∙ sym (bytes_long c.args.constants.now)) (shape_enum c.in_ok-number.number c.in_ok-count.count)

pub returns-in_err-number-clause-grown : goal.returns-in_err-number-clause-grown
returns-in_err-number-clause-grown c = grows_same (decls_view c.args.decls.now) (decls_view c.args.decls.now) refl

pub returns-in_err-count-clause-grown : goal.returns-in_err-count-clause-grown
returns-in_err-count-clause-grown c = grows_same (decls_view c.args.decls.now) (decls_view c.args.decls.now) refl

pub returns-in_err-add_names-clause-grown : goal.returns-in_err-add_names-clause-grown
returns-in_err-add_names-clause-grown c = c.in_err-add_names.ensures.grown

pub returns-in_err-copies-clause-grown : goal.returns-in_err-copies-clause-grown
returns-in_err-copies-clause-grown c = c.in_ok-add_names.ensures.grown

pub returns-in_err-add_enumeration-clause-grown : goal.returns-in_err-add_enumeration-clause-grown
returns-in_err-add_enumeration-clause-grown c = grows_on (decls_view c.args.decls.now) (decls_view c.add_names.new.decls) (decls_view c.add_enumeration.new.self) c.in_ok-add_names.ensures.grown (grows_same (decls_view c.add_names.new.decls) (decls_view c.add_enumeration.new.self) c.in_err-add_enumeration.ensures.unchanged)

pub returns-clause-grown : goal.returns-clause-grown
returns-clause-grown c = grows_enumeration (decls_view c.args.decls.now) (decls_view c.add_names.new.decls) (decls_view c.add_enumeration.new.self) _ c.in_ok-add_names.ensures.grown c.in_ok-add_enumeration.ensures.added
