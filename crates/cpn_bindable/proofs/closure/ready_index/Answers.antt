-- The first equation whose sources are all known is the first that is ready.
use Rattle.std.proofs.Common.{◌∙◌, sym, ap, Some, arith}
use Rattle.std.specs.List.{list_all, remove}
use Rattle.std.proofs.lemmas.List.{length-map}
use Rattle.cpn_bindable.specs.Equations.{equation_view, equations_view}
use Rattle.cpn_bindable.specs.Known.{is_listed}
use Rattle.cpn_bindable.proofs.FoundSteps.{not_at_index, at_index, past_all, is_seen_at}
use Rattle.cpn_bindable.proofs.closure.ready_index.Goals as goal

pub returns-then-are_known : goal.returns-then-are_known
returns-then-are_known c =
    let es = c.args.equations.now in
    let e = c.index-equations-index.result in
    record {
      index = (
        omega (arith, length-map es equation_view),
        λ q is. c.loop-index.invariant
            ∙ at_index (is_listed c.args.known.now) es c.loop-index.index e c.loop-index-test.true c.index-equations-index.is (ap (λ q. list_all (is_listed c.args.known.now) q.sources.items) c.index-equations-index.is ∙ ap (list_all (is_listed c.args.known.now)) (sym c.deref.ensures.value) ∙ sym c.are_known.ensures.exact ∙ c.if-are_known.true)
            ∙ ap (λ p. Some (p, remove (equations_view es) c.loop-index.index)) (is_seen_at es c.loop-index.index e q c.loop-index-test.true c.index-equations-index.is is),
      );
    }

pub loop-index-preserved : goal.loop-index-preserved
loop-index-preserved c =
    c.loop-index.invariant
    ∙ not_at_index (is_listed c.args.known.now) c.args.equations.now c.loop-index.index c.index-equations-index.result c.loop-index-test.true c.index-equations-index.is (ap (λ q. list_all (is_listed c.args.known.now) q.sources.items) c.index-equations-index.is ∙ ap (list_all (is_listed c.args.known.now)) (sym c.deref.ensures.value) ∙ sym c.are_known.ensures.exact ∙ c.if-are_known.false)

pub returns : goal.returns
returns c = record { index = c.loop-index.invariant ∙ past_all (is_listed c.args.known.now) c.args.equations.now c.loop-index.index c.loop-index-test.false }
