-- The transitions are checked in their order.
use Rattle.std.proofs.Common.{subst, sym, map, arith}
use Rattle.cpn_core.specs.Nets.{transition_view}
use Rattle.cpn_declared.specs.Answers.{refusal_of}
use Rattle.cpn_module_nets.specs.Answers.{net_refusal_of}
use Rattle.cpn_module_nets.specs.Transitions.{HasItsTerms}
use Rattle.cpn_module_nets.proofs.Bindables.{bindable_more, bindable_not, bindable_all, terms_there}
use Rattle.cpn_module_nets.proofs.bindable.check_variables.Goals as goal

pub check_bindable-requires : goal.check_bindable-requires
check_bindable-requires c = record {
  terms = subst (λ t. HasItsTerms (transition_view t)) (sym c.index-transitions-number.is) (terms_there c.args.transitions.now c.loop-number.number c.index-transitions-number.result c.loop-number-test.true c.requires.terms);
}

pub returns-in-Err : goal.returns-in-Err
returns-in-Err c = record {
  bindable = λ n is. bindable_not n c.args.of_module c.args.transitions.now c.loop-number.number c.index-transitions-number.result c.loop-number-test.true c.index-transitions-number.is (map transition_view c.args.transitions.now) (refusal_of c.in-Err.error) (net_refusal_of c.not_accepted.result) (c.loop-number.invariant n is) c.not_accepted.ensures.refused (c.in-Err.ensures.exact n is);
}

pub loop-number-preserved : goal.loop-number-preserved
loop-number-preserved c = λ n is r h. c.loop-number.invariant n is r (bindable_more n c.args.of_module c.args.transitions.now c.loop-number.number c.index-transitions-number.result c.loop-number-test.true c.index-transitions-number.is r (c.in-Ok.ensures.exact n is) h)

pub returns : goal.returns
returns c = record { bindable = λ n is. c.loop-number.invariant n is _ (bindable_all n c.args.of_module c.args.transitions.now c.loop-number.number (omega arith)) }
