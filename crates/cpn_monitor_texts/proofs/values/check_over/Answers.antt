-- The first variable that is none of these is declared, so that it has its name.
use Rattle.std.proofs.Common.{◌<◌, ◌∙◌, ℕ, List, length, slice_index_or, Some, None, sym, ap, subst}
use Rattle.std.proofs.lemmas.List.{length-map}
use Rattle.cpn_core.specs.Inscriptions.{expr_view}
use Rattle.cpn_core.specs.Nets.{variable_view}
use Rattle.cpn_declared.specs.DeclsViews.{decls_view}
use Rattle.cpn_definitions.specs.Net.{Coloured, nothing}
use Rattle.cpn_typing.specs.Names.{unknown, refused}
use Rattle.cpn_monitor_texts.proofs.ValuesOver.{outside_is_declared, over_is}
use Rattle.cpn_monitor_texts.proofs.values.check_over.Goals as goal

pub returns-in-None : goal.returns-in-None
returns-in-None c = record { exact = over_is (decls_view c.args.decls.now) c.args.vars.now (expr_view c.args.value.now) None (sym c.first_outside.ensures.first ∙ c.in-None.is) }

pub name_of-requires : goal.name_of-requires
name_of-requires c = record {
  there = (
      let below = outside_is_declared (decls_view c.args.decls.now) c.args.vars.now (expr_view c.args.value.now) c.in-Some.number c.requires.declared (sym c.first_outside.ensures.first ∙ c.in-Some.is) in
      subst (λ (k : ℕ). c.in-Some.number < k) (ap length (sym c.variables.ensures.exact) ∙ length-map c.variables.result.now variable_view) below);
}

pub returns-in_ok-name_of-in-Some : goal.returns-in_ok-name_of-in-Some
returns-in_ok-name_of-in-Some c = record {
  exact = over_is (decls_view c.args.decls.now) c.args.vars.now (expr_view c.args.value.now) (Some c.in-Some.number) (sym c.first_outside.ensures.first ∙ c.in-Some.is)
      ∙ ap (λ (vs : List Coloured). refused (unknown (slice_index_or vs c.in-Some.number nothing).name)) (sym c.variables.ensures.exact)
      ∙ ap (λ (name : List ℕ). refused (unknown name)) (sym c.in_ok-name_of-in-Some.ensures.exact);
}
