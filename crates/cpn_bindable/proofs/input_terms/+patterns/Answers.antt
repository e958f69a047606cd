-- An inscription is read as the pattern that the definition says, form by form.
use Rattle.std.proofs.Common.{◌∙◌, ap, sym}
use Rattle.std.specs.Option.{option_map}
use Rattle.std.proofs.lemmas.Result.{IfOk-weaker}
use Rattle.cpn_core.specs.declared.inscriptions.Expr.TheViews as exprs
use Rattle.cpn_definitions.specs.Bindable.{patterns_of}
use Rattle.cpn_core.specs.Inscriptions.{pattern_view, exprs_view}
use Rattle.cpn_bindable.proofs.BindingTermForms.{read_applied}
use Rattle.cpn_bindable.proofs.PatternLists.{front_steps, front_done}
use Rattle.cpn_bindable.proofs.input_terms.+patterns.Goals as goal

pub patterns_of-loop-part-preserved : goal.patterns_of-loop-part-preserved
patterns_of-loop-part-preserved t c =
    front_steps c.loop-part.patterns.items c.push.new.self.items c.in-Some.pattern c.deref-part-items.result.now c.args.parts.now.items c.loop-part.part-index c.part-item.result (patterns_of (exprs_view c.args.parts.now.items))
    c.deref-part-items.ensures.value
    c.loop-part-test.true
    c.part-item.is
    c.in_ok-push-in-Some.ensures.items
    (ap (option_map pattern_view) (sym c.in-Some.is) ∙ c.in_ok-pattern_of.ensures.exact)
    c.loop-part.invariant

pub patterns_of-returns : goal.patterns_of-returns
patterns_of-returns t c = record {
  exact = front_done c.loop-part.patterns.items c.deref-part-items.result.now c.args.parts.now.items c.loop-part.part-index (patterns_of (exprs_view c.args.parts.now.items))
      c.deref-part-items.ensures.value
      c.loop-part-test.false
      c.loop-part.invariant;
}

pub pattern_of-returns-in-Some : goal.pattern_of-returns-in-Some
pattern_of-returns-in-Some t c = record {
  exact = IfOk-weaker c.constructor_of.result _ _
      (λ _ h. h ∙ sym (read_applied c.args.expr.now c.deref.result.now c.in-Con.position c.in-Some.part (c.in-Con.is ∙ ap (exprs.Con c.in-Con.position) c.in-Some.is) c.deref.ensures))
      c.constructor_of.ensures.exact;
}
