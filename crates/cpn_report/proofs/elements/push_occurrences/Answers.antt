-- Each turn writes the line of the next occurrence.
use Rattle.std.proofs.Common.{map, refl}
use Rattle.cpn_core.specs.Nets.{net_view}
use Rattle.cpn_core.specs.Occurrences.{occurrence_view}
use Rattle.cpn_report.specs.Lines.{occurrence_line, occurrence_text, ended, lines_text}
use Rattle.cpn_report.specs.Printable.{is_occurrence}
use Rattle.cpn_report.proofs.PrintableNets.{passes_seen}
use Rattle.cpn_report.proofs.JoinedTexts.{written_more}
use Rattle.cpn_report.proofs.elements.push_occurrences.Goals as goal

pub push_occurrence_line-requires-clause-element : goal.push_occurrence_line-requires-clause-element
push_occurrence_line-requires-clause-element c = passes_seen (is_occurrence (net_view c.args.net.now)) occurrence_view c.args.occurrences.now c.loop-occurrence.occurrence-index c.occurrence-item.result c.loop-occurrence-test.true c.occurrence-item.is c.requires.elements

pub loop-occurrence-preserved : goal.loop-occurrence-preserved
loop-occurrence-preserved c =
    written_more
    (λ i os. lines_text (net_view c.args.net.now) (map occurrence_line (map occurrence_view os)))
    (λ i o. ended (occurrence_text (net_view c.args.net.now) (occurrence_view o)))
    (λ i o os. refl)
    c.args.occurrences.now c.loop-occurrence.occurrence-index c.occurrence-item.result _ _ _ c.loop-occurrence-test.true c.occurrence-item.is c.loop-occurrence.invariant c.in_ok-push_occurrence_line.ensures.written
