-- Each occurrence is one of a binding element, as all are.
use Rattle.cpn_core.specs.Nets.{net_view}
use Rattle.cpn_core.specs.Occurrences.{occurrence_view}
use Rattle.cpn_report.specs.Printable.{is_occurrence}
use Rattle.cpn_report.proofs.PrintableNets.{passes_seen}
use Rattle.cpn_test_program.proofs.ends.push_occurrences.Goals as goal

pub occurrence_text-requires-clause-element : goal.occurrence_text-requires-clause-element
occurrence_text-requires-clause-element c = passes_seen (is_occurrence (net_view c.args.net.now)) occurrence_view c.args.occurrences.now c.loop-occurrence.occurrence-index c.occurrence-item.result c.loop-occurrence-test.true c.occurrence-item.is c.requires.elements
