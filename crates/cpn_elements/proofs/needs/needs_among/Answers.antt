-- The next arc adds what it needs, or refuses the whole.
use Rattle.std.proofs.Common.{arith}
use Rattle.std.proofs.lemmas.Result.{err_from_is_err_and}
use Rattle.cpn_definitions.specs.Occurrence.{needed_cmp, needed_by}
use Rattle.cpn_core.specs.Inscriptions.{funs_view}
use Rattle.cpn_elements.proofs.ItemsLeft.{more_gathered, refused_gathered}
use Rattle.cpn_elements.proofs.needs.needs_among.Goals as goal

pub returns-in_err-add_needs : goal.returns-in_err-add_needs
returns-in_err-add_needs c =
    let p = err_from_is_err_and c.from_residual.result c.from_residual.ensures.1 in
    record {
      needs = rw (p.1, p.2) (refused_gathered needed_cmp (needed_by (funs_view c.args.funs.now) c.args.binding.now) c.args.arcs.now c.loop-arc.arc-index c.arc-item.result c.loop-arc.needs _ c.in_err-add_needs.field-0.0 (omega arith) c.arc-item.is c.loop-arc.invariant c.in_err-add_needs.ensures.added);
    }

pub loop-arc-preserved : goal.loop-arc-preserved
loop-arc-preserved c =
    more_gathered needed_cmp (needed_by (funs_view c.args.funs.now) c.args.binding.now) c.args.arcs.now c.loop-arc.arc-index c.arc-item.result c.loop-arc.needs _ c.add_needs.new.needs (omega arith) c.arc-item.is c.loop-arc.invariant c.in_ok-add_needs.ensures.added
