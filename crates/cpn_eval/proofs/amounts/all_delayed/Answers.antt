-- Each term gets the delay more, unless one of them comes to more than the last time.
use Rattle.std.proofs.Common.{◌∷◌, [], length, sym, ap, ◌∙◌, arith}
use Rattle.std.proofs.lemmas.List.{map-append}
use Rattle.std.specs.Vec.Iter.{into_iter_items}
use Rattle.cpn_definitions.specs.Terms.{all_delayed}
use Rattle.cpn_eval.specs.Terms.{term_view, terms_view}
use Rattle.cpn_eval.proofs.TermAmounts.{behind, delayed_next}
use Rattle.cpn_eval.proofs.amounts.all_delayed.Goals as goal

pub loop-term-preserved : goal.loop-term-preserved
loop-term-preserved c =
    let next = c.in-Some.ensures.steps in
    record {
      left = omega (arith, next.1, c.loop-term.invariant.left, ap length next.0);
      delayed =
          ap (λ ds. behind ds (all_delayed (terms_view (into_iter_items c.next.new.self)) c.args.delay)) (ap terms_view c.in_ok-push.ensures.items ∙ map-append term_view c.loop-term.delayed.items (_ ∷ []))
          ∙ sym (delayed_next c.args.delay (term_view c.in-Some.term) (terms_view (into_iter_items c.next.new.self)) (terms_view c.loop-term.delayed.items) (omega (arith, c.if-later-gt-LAST_TIME.false)))
          ∙ ap (λ ts. behind (terms_view c.loop-term.delayed.items) (all_delayed (terms_view ts) c.args.delay)) (sym next.0)
          ∙ c.loop-term.invariant.delayed;
    }
