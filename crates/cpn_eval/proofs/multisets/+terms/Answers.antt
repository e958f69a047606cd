-- The terms of each form are the definition's, and the machine stays as it was.
use Rattle.std.proofs.Common.{ap, sym, ◌∙◌, true, false, rules, ◌≡◌, ◌+◌, ◌-◌, ◌^◌, ◌≤◌, min, map, arith, refl}
use Rattle.cpn_definitions.specs.Inscription.{later, stamped, selected, arc_arms_from, inscriptions_from}
use Rattle.cpn_core.specs.Inscriptions.{expr_view, multiset_view, arc_arm_view}
use Rattle.cpn_core.proofs.InscriptionLevels.{tokens_later, tokens_at, tokens_if, tokens_case}
use Rattle.cpn_eval.proofs.SumTerms.{form_told, chosen_told, kept_twice, sum_goes, sum_stops, few_with, count_is, count_goes}
use Rattle.std.proofs.lemmas.Result.{err_from_is_err_and}
use Rattle.cpn_definitions.specs.Terms.{tokens_in, most_tokens}
use Rattle.cpn_eval.specs.Terms.{terms_view, items_view, sum_at}
use Rattle.cpn_eval.proofs.KeptTerms.{stops_with, later_told, forgotten}
use Rattle.cpn_core.specs.Views.{value_view}
use Rattle.cpn_eval.specs.Held.{held_view}
use Rattle.cpn_eval.proofs.multisets.+terms.Goals as goal

pub terms_behind-returns-in-Later-clause-terms : goal.terms_behind-returns-in-Later-clause-terms
terms_behind-returns-in-Later-clause-terms t c =
    form_told c.of_later.result c.args.arc.now c.args.machine.now (multiset_view c.args.expr.now) (later (multiset_view c.deref.result.now) (expr_view c.in-Later.delay)) c.args.before
    (ap multiset_view c.in-Later.is ∙ tokens_later c.in-Later.inner c.in-Later.delay ∙ ap (λ x. later (multiset_view x) (expr_view c.in-Later.delay)) (sym c.deref.ensures))
    c.of_later.ensures.terms

pub terms_behind-returns-in-At-clause-terms : goal.terms_behind-returns-in-At-clause-terms
terms_behind-returns-in-At-clause-terms t c =
    form_told c.of_stamped.result c.args.arc.now c.args.machine.now (multiset_view c.args.expr.now) (stamped (multiset_view c.deref-in-At.result.now) c.in-At.stamp) c.args.before
    (ap multiset_view c.in-At.is ∙ tokens_at c.in-At.inner c.in-At.stamp ∙ ap (λ x. stamped (multiset_view x) c.in-At.stamp) (sym c.deref-in-At.ensures))
    c.of_stamped.ensures.terms

pub terms_behind-returns-then-branch-clause-terms : goal.terms_behind-returns-then-branch-clause-terms
terms_behind-returns-then-branch-clause-terms t c =
    chosen_told c.terms_behind.result c.args.arc.now c.args.machine.now c.holds.new.machine (multiset_view c.args.expr.now) (expr_view c.in-If.condition) (multiset_view c.in-If.yes.value) (multiset_view c.in-If.no.value) true c.args.before
    (ap multiset_view c.in-If.is ∙ tokens_if c.in-If.condition c.in-If.yes c.in-If.no)
    (c.in_ok-holds-in-If.ensures.truth ∙ search rules)
    c.in_ok-holds-in-If.ensures.kept
    (rw (sym c.deref-then-branch.ensures) c.terms_behind.ensures.terms)

pub terms_behind-returns-else-branch-clause-terms : goal.terms_behind-returns-else-branch-clause-terms
terms_behind-returns-else-branch-clause-terms t c =
    chosen_told c.terms_behind-else-branch.result c.args.arc.now c.args.machine.now c.holds.new.machine (multiset_view c.args.expr.now) (expr_view c.in-If.condition) (multiset_view c.in-If.yes.value) (multiset_view c.in-If.no.value) false c.args.before
    (ap multiset_view c.in-If.is ∙ tokens_if c.in-If.condition c.in-If.yes c.in-If.no)
    (c.in_ok-holds-in-If.ensures.truth ∙ search rules)
    c.in_ok-holds-in-If.ensures.kept
    (rw (sym c.deref-else-branch.ensures) c.terms_behind-else-branch.ensures.terms)

pub of_each-returns-in_err-more-clause-terms : goal.of_each-returns-in_err-more-clause-terms
of_each-returns-in_err-more-clause-terms t c =
    let p = err_from_is_err_and c.from_residual.result c.from_residual.ensures.1 in
    rw (p.1, p.2) (sum_stops c.in_err-more.field-0.0 c.args.arc.now c.args.machine.now c.loop-part.machine c.deref-part-items.result.now c.loop-part.part-index c.part-item.result c.loop-part.tokens (items_view c.loop-part.terms)
    (sum_at c.args.arc.now c.args.machine.now (inscriptions_from (map multiset_view c.args.parts.now.items)) c.args.before)
    (ap (λ ps. sum_at c.args.arc.now c.args.machine.now (inscriptions_from (map multiset_view ps)) c.args.before) (sym c.deref-part-items.ensures.value) ∙ c.loop-part.invariant.rest)
    c.loop-part.invariant.kept
    c.loop-part-test.true
    c.part-item.is
    c.in_err-more.ensures.terms)

pub of_each-overflow_add-tokens : goal.of_each-overflow_add-tokens
of_each-overflow_add-tokens t c =
    let few : c.loop-part.tokens + tokens_in (items_view c.in_ok-more.more) ≤ most_tokens =
    few_with c.args.arc.now c.loop-part.machine (multiset_view c.part-item.result) c.loop-part.tokens (items_view c.in_ok-more.more) c.loop-part.invariant.few c.in_ok-more.ensures.terms in
    let count : c.tokens_in-tokens.result ≡ min (tokens_in (items_view c.in_ok-more.more)) (2 ^ 64 - 1) =
    c.tokens_in-tokens.ensures.tokens ∙ ap (λ ts. min (tokens_in (terms_view ts)) (2 ^ 64 - 1)) c.deref.ensures.value in
    omega arith

pub of_each-loop-part-preserved : goal.of_each-loop-part-preserved
of_each-loop-part-preserved t c =
    let few : c.loop-part.tokens + tokens_in (items_view c.in_ok-more.more) ≤ most_tokens =
    few_with c.args.arc.now c.loop-part.machine (multiset_view c.part-item.result) c.loop-part.tokens (items_view c.in_ok-more.more) c.loop-part.invariant.few c.in_ok-more.ensures.terms in
    let count : c.tokens_in-tokens.result ≡ min (tokens_in (items_view c.in_ok-more.more)) (2 ^ 64 - 1) =
    c.tokens_in-tokens.ensures.tokens ∙ ap (λ ts. min (tokens_in (terms_view ts)) (2 ^ 64 - 1)) c.deref.ensures.value in
    let exact : c.loop-part.tokens + c.tokens_in-tokens.result ≡ c.loop-part.tokens + tokens_in (items_view c.in_ok-more.more) =
    count_is c.loop-part.tokens c.tokens_in-tokens.result (tokens_in (items_view c.in_ok-more.more)) count few in
    record {
      kept = kept_twice c.args.machine.now c.loop-part.machine c.terms_behind.new.machine c.loop-part.invariant.kept c.in_ok-more.ensures.kept;
      tokens = count_goes c.args.before c.loop-part.tokens c.tokens_in-tokens.result c.loop-part.terms.items c.in_ok-more.more.items c.append.new.self.items c.loop-part.invariant.tokens exact c.in_ok-append.ensures.items;
      few = omega arith;
      rest = c.loop-part.invariant.rest ∙ sum_goes c.args.arc.now c.args.machine.now c.loop-part.machine c.deref-part-items.result.now c.loop-part.part-index c.part-item.result c.loop-part.tokens c.tokens_in-tokens.result c.loop-part.terms.items c.in_ok-more.more.items c.append.new.self.items
          c.loop-part.invariant.kept
          c.loop-part-test.true
          c.part-item.is
          c.in_ok-more.ensures.terms
          exact
          c.in_ok-append.ensures.items;
    }

pub of_later-returns-clause-terms : goal.of_later-returns-clause-terms
of_later-returns-clause-terms t c =
    later_told c.then_delayed.result c.args.arc.now c.args.machine.now c.terms_behind.new.machine (multiset_view c.args.inner.now) (expr_view c.args.delay.now) c.args.before (items_view c.in_ok-terms.terms) (search rules) c.in_ok-terms.ensures.kept c.in_ok-terms.ensures.terms c.then_delayed.ensures.terms

pub of_result-returns-clause-kept : goal.of_result-returns-clause-kept
of_result-returns-clause-kept t c = record {
  no_frame = c.in_ok-terms.ensures.kept.no_frame;
  visible = c.in_ok-terms.ensures.kept.visible;
  locals = ap (map held_view) c.truncate.ensures.items
      ∙ forgotten c.args.machine.now.locals.items c.terms_behind.new.machine.locals.items (map value_view c.args.found.items) c.len-count.result (search rules) (c.in_ok-terms.ensures.kept.locals ∙ c.in_ok-hold_all.ensures.all);
}

pub terms_behind-returns-in-Case-clause-terms : goal.terms_behind-returns-in-Case-clause-terms
terms_behind-returns-in-Case-clause-terms t c =
    form_told c.of_arms.result c.args.arc.now c.args.machine.now (multiset_view c.args.expr.now) (selected (expr_view c.in-Case.subject) (arc_arms_from (map arc_arm_view c.in-Case.arms.items))) c.args.before
    (ap multiset_view c.in-Case.is ∙ tokens_case c.in-Case.subject c.in-Case.arms)
    c.of_arms.ensures.terms

pub of_result-returns-in_err-terms-clause-terms : goal.of_result-returns-in_err-terms-clause-terms
of_result-returns-in_err-terms-clause-terms t c =
    let p = err_from_is_err_and c.from_residual-in_err-terms.result c.from_residual-in_err-terms.ensures.1 in
    rw (p.1, p.2) (stops_with c.in_err-terms.field-0.0 c.args.arc.now c.args.machine.now (record c.args.machine.now { locals = c.hold_all.new.held }) (map value_view c.args.found.items) (multiset_view c.args.inner.now) c.args.before refl c.in_ok-hold_all.ensures.all c.in_err-terms.ensures.terms)
