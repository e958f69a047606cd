-- The next transition has few arcs, or too many.
use Rattle.std.proofs.Common.{◌≡◌, [], map, sym, ◌∙◌, arith, rules}
use Rattle.std.specs.Prelude.{slice_index_or}
use Rattle.cpn_document.specs.Document.{arcs_at}
use Rattle.cpn_document.specs.Views.{arc_view}
use Rattle.cpn_document.proofs.ArcCounts.{few_more, too_many}
use Rattle.cpn_document.proofs.arc_counts.have_few_arcs.Goals as goal

pub returns-then-count-gt-MOST_ARCS : goal.returns-then-count-gt-MOST_ARCS
returns-then-count-gt-MOST_ARCS c =
    let count : c.unwrap_or-count.result ≡ arcs_at (slice_index_or c.args.transitions.now c.loop-number.number []) (map arc_view c.args.arcs.now) = search (rules, c.in_ok-counts.ensures.counts c.name.result.now) in
    record { tells = sym (c.loop-number.invariant ∙ too_many c.args.transitions.now (map arc_view c.args.arcs.now) c.loop-number.number (omega arith) c.unwrap_or-count.result count c.if-count-gt-MOST_ARCS.true) }

pub loop-number-preserved : goal.loop-number-preserved
loop-number-preserved c =
    let count : c.unwrap_or-count.result ≡ arcs_at (slice_index_or c.args.transitions.now c.loop-number.number []) (map arc_view c.args.arcs.now) = search (rules, c.in_ok-counts.ensures.counts c.name.result.now) in
    c.loop-number.invariant ∙ few_more c.args.transitions.now (map arc_view c.args.arcs.now) c.loop-number.number (omega arith) c.unwrap_or-count.result count (omega arith)
