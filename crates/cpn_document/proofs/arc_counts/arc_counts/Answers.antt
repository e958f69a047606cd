-- Each arc is counted at its transition.
use Rattle.std.proofs.Common.{◌≡◌, map, take, arith, rules}
use Rattle.std.proofs.lemmas.List.{length-take-le}
use Rattle.std.proofs.lemmas.Grind.{text_counts}
use Rattle.cpn_document.specs.Document.{arcs_at}
use Rattle.cpn_document.specs.Views.{arc_view}
use Rattle.cpn_document.proofs.ArcCounts.{arcs_more, counted_at_most, two_at_most}
use Rattle.cpn_document.proofs.arc_counts.arc_counts.Goals as goal

pub overflow_add-count : goal.overflow_add-count
overflow_add-count c =
    let count : c.unwrap_or-count.result ≡ arcs_at c.as_str-name.result.now (map arc_view (take c.loop-arc.arc-index c.args.arcs.now)) = search (rules, c.loop-arc.invariant c.as_str-name.result.now) in
    omega (arith, count, counted_at_most c.as_str-name.result.now (take c.loop-arc.arc-index c.args.arcs.now), length-take-le c.loop-arc.arc-index c.args.arcs.now (omega arith), two_at_most c.arc-item.result.way, c.arcs_on.ensures.exact)

pub loop-arc-preserved : goal.loop-arc-preserved
loop-arc-preserved c = λ q. grind (arith, text_counts, arcs_more c.args.arcs.now c.loop-arc.arc-index c.arc-item.result c.loop-arc-test.true q, c.loop-arc.invariant q)
