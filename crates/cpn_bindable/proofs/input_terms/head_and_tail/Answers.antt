-- Two patterns are a head and a tail; other than two are not.
use Rattle.std.proofs.Common.{sym, ◌∙◌, Some, ap, arith}
use Rattle.cpn_definitions.specs.Inscription.{cons_pattern}
use Rattle.cpn_core.specs.Inscriptions.{pattern_view}
use Rattle.cpn_core.proofs.InscriptionLevels.{view_cons_pattern}
use Rattle.cpn_bindable.proofs.BindingTermForms.{not_two, just_two}
use Rattle.cpn_bindable.proofs.input_terms.head_and_tail.Goals as goal

pub returns-then-len-ne2 : goal.returns-then-len-ne2
returns-then-len-ne2 c = record { exact = sym (not_two c.args.patterns.items (λ two. c.if-len-ne2.true (omega (arith, c.args.patterns.ok.0)))) }

pub returns : goal.returns
returns c = record {
  exact = ap Some (view_cons_pattern c.in_ok-new.field-0 c.in_ok-new-2.field-0
      ∙ ap (λ p. cons_pattern (pattern_view p) (pattern_view c.in_ok-new-2.field-0.value)) c.in_ok-new.ensures.ok
      ∙ ap (λ p. cons_pattern (pattern_view c.remove-head.result) (pattern_view p)) c.in_ok-new-2.ensures.ok)
      ∙ sym (just_two c.args.patterns.items c.remove-head.result c.remove-tail.result c.remove-tail.new.self.items (omega (arith, c.args.patterns.ok.0)) c.remove-tail.ensures.value c.remove-tail.ensures.items c.remove-head.ensures.value);
}
