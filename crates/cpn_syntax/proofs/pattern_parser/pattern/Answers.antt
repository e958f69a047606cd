-- The arrow ends the pattern, and without it the text breaks off.
use Rattle.std.proofs.lemmas.Result.{err_from_is_err_and}
use Rattle.cpn_trees.specs.PatViews.{pat_view}
use Rattle.cpn_syntax.specs.Unread.{unread}
use Rattle.cpn_syntax.proofs.Progress.{leads_to_stop}
use Rattle.cpn_syntax.proofs.PatternEnds.{reads_pattern, whole_stops, breaks_pattern}
use Rattle.cpn_syntax.proofs.pattern_parser.pattern.Goals as goal

pub returns-in_err-tree-clause-stops : goal.returns-in_err-tree-clause-stops
returns-in_err-tree-clause-stops c =
    let p = err_from_is_err_and c.from_residual.result c.from_residual.ensures.1 in
    rw (p.1, p.2) (λ no_memory. breaks_pattern (c.in_err-tree.ensures.stops no_memory))

pub returns-in_err-take-clause-stops : goal.returns-in_err-take-clause-stops
returns-in_err-take-clause-stops c =
    let p = err_from_is_err_and c.from_residual-in_err-take.result c.from_residual-in_err-take.ensures.1 in
    let refused = c.in_err-take.ensures.refused in
    rw (p.1, p.2, refused.0) (λ no_memory. breaks_pattern (leads_to_stop c.in_ok-tree.ensures.comes.leads (whole_stops (pat_view c.in_ok-tree.tree) (unread c.whole_pattern.new.reader) refused.1)))

pub returns-clause-read : goal.returns-clause-read
returns-clause-read c =
    let taken = c.in_ok-take.ensures.taken in
    reads_pattern taken.0 (rw taken.2 at c.in_ok-tree.ensures.comes.leads) taken.1.0
