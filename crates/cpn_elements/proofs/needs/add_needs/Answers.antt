-- The tokens of the next term, and then those of the terms behind it.
use Rattle.std.proofs.Common.{length, sym, ap, ◌∙◌, arith}
use Rattle.std.specs.Vec.Iter.{into_iter_items}
use Rattle.cpn_definitions.specs.Lists.{with_items}
use Rattle.cpn_definitions.specs.Occurrence.{needed_cmp}
use Rattle.cpn_eval.specs.Terms.{term_view, terms_view}
use Rattle.cpn_elements.specs.Summed.{tokens_of}
use Rattle.cpn_elements.specs.Needs.{needed_of}
use Rattle.cpn_elements.proofs.GatheredTerms.{term_more}
use Rattle.cpn_elements.proofs.needs.add_needs.Goals as goal

pub loop-term-preserved : goal.loop-term-preserved
loop-term-preserved c =
    let next = c.in-Some.ensures.steps in
    record {
      left = omega (arith, next.1, c.loop-term.invariant.left, ap length next.0);
      added =
          ap (with_items needed_cmp (tokens_of (needed_of c.args.arc.now.place) (terms_view (into_iter_items c.next.new.self)))) c.in_ok-add_needed.ensures.added
          ∙ sym (term_more needed_cmp (needed_of c.args.arc.now.place) (term_view c.in-Some.term) (terms_view (into_iter_items c.next.new.self)) c.loop-term.needs)
          ∙ ap (λ terms. with_items needed_cmp (tokens_of (needed_of c.args.arc.now.place) (terms_view terms)) c.loop-term.needs) (sym next.0)
          ∙ c.loop-term.invariant.added;
    }
