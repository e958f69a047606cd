-- The tokens of the next term, and then those of the terms behind it; or the refusal of the terms.
use Rattle.std.proofs.Common.{◌+◌, length, replicate, sym, ap, ◌∙◌, arith}
use Rattle.std.specs.Vec.Iter.{into_iter_items}
use Rattle.std.proofs.lemmas.Result.{err_from_is_err_and}
use Rattle.cpn_definitions.specs.Lists.{with_items}
use Rattle.cpn_definitions.specs.Occurrence.{made_cmp}
use Rattle.cpn_core.specs.Inscriptions.{funs_view}
use Rattle.cpn_eval.specs.Terms.{term_view, terms_view}
use Rattle.cpn_jobs.specs.Gathered.{made_of, made_of_terms}
use Rattle.cpn_jobs.specs.Views.{work_arc_view}
use Rattle.cpn_jobs.specs.Work.{made_by_arc}
use Rattle.cpn_jobs.proofs.AddedTokens.{term_added}
use Rattle.cpn_jobs.proofs.ArcsLeft.{refused_then}
use Rattle.cpn_jobs.proofs.outputs.add_outputs.Goals as goal

pub loop-term-preserved : goal.loop-term-preserved
loop-term-preserved c =
    let next = c.in-Some.ensures.steps in
    let arc = work_arc_view c.args.arc.now in
    let time = c.args.time + c.args.delay in
    record {
      left = omega (arith, next.1, c.loop-term.invariant.left, ap length next.0);
      added =
          ap (with_items made_cmp (made_of_terms arc time (terms_view (into_iter_items c.next.new.self))))
          (c.in_ok-add_made.ensures.added ∙ ap (λ stamp. with_items made_cmp (replicate c.in-Some.term.count (made_of arc.place stamp (term_view c.in-Some.term))) c.loop-term.outputs) c.stamp_on-stamp.ensures.stamp)
          ∙ sym (term_added arc time (term_view c.in-Some.term) (terms_view (into_iter_items c.next.new.self)) c.loop-term.outputs)
          ∙ ap (λ terms. with_items made_cmp (made_of_terms arc time (terms_view terms)) c.loop-term.outputs) (sym next.0)
          ∙ c.loop-term.invariant.added;
    }

pub returns-in_err-terms : goal.returns-in_err-terms
returns-in_err-terms c =
    let p = err_from_is_err_and c.from_residual.result c.from_residual.ensures.1 in
    record { added = rw (p.1, p.2) (refused_then c.in_err-terms.field-0.0 (made_by_arc (funs_view c.args.funs.now) c.args.binding.now c.args.time c.args.delay (work_arc_view c.args.arc.now)) _ (refused_then c.in_err-terms.field-0.0 _ _ (rw c.deref.ensures at c.in_err-terms.ensures.terms))) }
