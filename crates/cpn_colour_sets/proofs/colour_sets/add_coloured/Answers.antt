-- The variables so far are added.
use Rattle.std.proofs.Common.{◌∙◌, map, ap, ap₂, string_bytes, arith}
use Rattle.cpn_declared.specs.DeclsViews.{decls_view}
use Rattle.cpn_colour_sets.proofs.GrownDeclared.{grows_variables}
use Rattle.std.proofs.lemmas.List.{take_all}
use Rattle.cpn_core.specs.Colours.{colour_view}
use Rattle.cpn_typing.specs.Declarations.{coloured_as}
use Rattle.cpn_declared.specs.Additions.{with_more_variables}
use Rattle.cpn_colour_sets.proofs.NameLists.{no_variables, variable_added}
use Rattle.cpn_colour_sets.proofs.colour_sets.add_coloured.Goals as goal

pub returns-in_err-copied-clause-grown : goal.returns-in_err-copied-clause-grown
returns-in_err-copied-clause-grown c = grows_variables (decls_view c.args.decls.now) (decls_view c.loop-name.decls) _ c.loop-name.invariant

pub returns-in_err-add_variable-clause-grown : goal.returns-in_err-add_variable-clause-grown
returns-in_err-add_variable-clause-grown c = grows_variables (decls_view c.args.decls.now) (decls_view c.add_variable.new.self) _ (c.in_err-add_variable.ensures.unchanged ∙ c.loop-name.invariant)

pub returns-clause-grown : goal.returns-clause-grown
returns-clause-grown c = grows_variables (decls_view c.args.decls.now) (decls_view c.loop-name.decls) _ c.loop-name.invariant

pub loop-name-init : goal.loop-name-init
loop-name-init c = no_variables (decls_view c.args.decls.now)

pub loop-name-preserved : goal.loop-name-preserved
loop-name-preserved c =
    variable_added (decls_view c.args.decls.now) (decls_view c.loop-name.decls) (decls_view c.add_variable.new.self) (coloured_as (colour_view c.args.colour.now)) c.args.names.now c.loop-name.name-index c.name-item.result c.loop-name-test.true c.name-item.is _
    c.in_ok-add_variable.ensures.added c.loop-name.invariant (ap₂ (λ n k. record { name = n; colour = k }) c.as_str.ensures.value c.in_ok-copied.ensures.same)

pub returns-clause-added : goal.returns-clause-added
returns-clause-added c =
    c.loop-name.invariant ∙ ap (λ names. with_more_variables (decls_view c.args.decls.now) (map (coloured_as (colour_view c.args.colour.now)) (map string_bytes names))) (take_all c.loop-name.name-index c.args.names.now (omega arith))
