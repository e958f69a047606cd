-- One more value around what has been made; and no value is left.
use Rattle.std.proofs.Common.{sym, arith}
use Rattle.cpn_core.specs.Inscriptions.{expr_view}
use Rattle.cpn_forms.proofs.Bindings.{bind_last, bind_done}
use Rattle.cpn_forms.proofs.made.nested.Goals as goal

pub values-preserved : goal.values-preserved
values-preserved c = record {
  all = bind_last c.values.values.items c.pop.new.self.items c.in-Some.value c.values.expr c.in_ok-new-in-Some.field-0 c.in_ok-new-in-Some-2.field-0 _ c.in-Some.ensures.items c.in_ok-new-in-Some.ensures.ok c.in_ok-new-in-Some-2.ensures.ok c.values.invariant.all;
  same = c.values.invariant.same;
}

pub returns-in-None : goal.returns-in-None
returns-in-None c = record { exact = bind_done c.values.values.items (expr_view c.values.expr) _ _ _ (omega (arith, c.values.values.ok.0, c.in-None.ensures.cases.0)) c.values.invariant.all (sym c.values.invariant.same) }
