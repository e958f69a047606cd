-- Each turn writes the next pair, and a comma unless it is the last.
use Rattle.std.proofs.Common.{rules}
use Rattle.std.specs.Prelude.{codes}
use Rattle.std.specs.String.{string_bytes}
use Rattle.cpn_core.specs.Nets.{net_view}
use Rattle.cpn_core.specs.Views.{value_view}
use Rattle.cpn_report.specs.Lines.{pair_text}
use Rattle.cpn_report.specs.Printable.{is_bound}
use Rattle.cpn_report.proofs.PrintableNets.{passes_seen}
use Rattle.cpn_report.proofs.JoinedTexts.{joined_more, joined_last}
use Rattle.cpn_report.proofs.elements.push_pairs.Goals as goal
use Rattle.cpn_report.proofs.elements.push_pairs.Goals.{then-number-pairs+in_ok-push_str, else-number-pairs}

pub push_pair-requires-clause-bound : goal.push_pair-requires-clause-bound
push_pair-requires-clause-bound c = passes_seen (is_bound (net_view c.args.net.now)) (λ pair. (pair.variable, value_view pair.value)) c.args.pairs.now c.loop-number.number c.index-pairs-number.result c.loop-number-test.true c.index-pairs-number.is c.requires.bound

pub loop-number-preserved : goal.loop-number-preserved
loop-number-preserved c =
    elim c.if-number-pairs.branch [
      | then-number-pairs+in_ok-push_str w ↦ joined_more (codes ", ") (pair_text (net_view c.args.net.now)) (λ pair. (pair.variable, value_view pair.value)) c.args.pairs.now c.loop-number.number c.index-pairs-number.result (string_bytes c.loop-number.out) (string_bytes c.if-number-pairs.out) _ c.loop-number-test.true c.index-pairs-number.is w.if-number-pairs.true c.loop-number.invariant (search rules)
      | else-number-pairs w ↦ joined_last (codes ", ") (pair_text (net_view c.args.net.now)) (λ pair. (pair.variable, value_view pair.value)) c.args.pairs.now c.loop-number.number c.index-pairs-number.result (string_bytes c.loop-number.out) (string_bytes c.if-number-pairs.out) _ c.loop-number-test.true c.index-pairs-number.is w.if-number-pairs.false c.loop-number.invariant (search rules)
    ]
