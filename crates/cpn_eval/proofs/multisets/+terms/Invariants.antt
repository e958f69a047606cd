-- The terms so far are those of the parts so far.
use Rattle.std.proofs.Common.{◌≡◌, ◌+◌, ◌≤◌, drop, map}
use Rattle.cpn_definitions.specs.Inscription.{inscriptions_from}
use Rattle.cpn_definitions.specs.Terms.{tokens_in, most_tokens}
use Rattle.cpn_core.specs.Inscriptions.{multiset_view}
use Rattle.cpn_eval.specs.Frames.{Kept}
use Rattle.cpn_eval.specs.Terms.{items_view, sum_at}
use Rattle.cpn_eval.proofs.TermAmounts.{behind}
use Rattle.cpn_eval.proofs.multisets.+terms.Given as goal

abbrev pub invariant-of_each-loop-part : goal.invariant-of_each-loop-part
invariant-of_each-loop-part l = record {
  kept : Kept l.initial.machine l.machine;
  tokens : l.tokens ≡ l.initial.tokens + tokens_in (items_view l.terms);
  few : l.tokens ≤ most_tokens;
  rest : sum_at l.arc l.initial.machine (inscriptions_from (map multiset_view l.part-items)) l.initial.tokens
      ≡ behind (items_view l.terms) (sum_at l.arc l.initial.machine (inscriptions_from (map multiset_view (drop l.part-index l.part-items))) l.tokens);
}
