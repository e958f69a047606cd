-- Each declaration comes behind those that are declared.
use Rattle.std.proofs.Common.{◌∙◌, sym, arith}
use Rattle.std.proofs.lemmas.Result.{err_from_is_err_and}
use Rattle.cpn_declared.specs.DeclsViews.{decls_view}
use Rattle.cpn_module_nets.specs.Answers.{net_refusal_of}
use Rattle.cpn_module_nets.proofs.DeclaredLists.{declared_more, declared_refused, declared_all}
use Rattle.cpn_module_nets.proofs.declarations.declared.Goals as goal

pub returns-in_err-declare_next : goal.returns-in_err-declare_next
returns-in_err-declare_next c = record {
  reads = (
      let p = err_from_is_err_and c.from_residual.result c.from_residual.ensures.1 in
      rw (p.1, p.2) (declared_refused c.args.texts.now c.loop-number.number c.index-texts-number.result c.loop-number-test.true c.index-texts-number.is (decls_view c.loop-number.decls) _ (net_refusal_of c.in_err-declare_next.field-0.0) c.loop-number.invariant c.in_err-declare_next.ensures.reads));
}

pub loop-number-preserved : goal.loop-number-preserved
loop-number-preserved c =
    declared_more c.args.texts.now c.loop-number.number c.index-texts-number.result c.loop-number-test.true c.index-texts-number.is (decls_view c.loop-number.decls) (decls_view c.declare_next.new.decls) c.in_ok-declare_next.ensures.reads ∙ c.loop-number.invariant

pub returns : goal.returns
returns c = record { reads = sym c.loop-number.invariant ∙ declared_all c.args.texts.now c.loop-number.number (decls_view c.loop-number.decls) (omega arith) }
