-- The next arc adds what it makes, or refuses the whole.
use Rattle.std.proofs.Common.{arith}
use Rattle.std.proofs.lemmas.Result.{err_from_is_err_and}
use Rattle.cpn_core.specs.Inscriptions.{funs_view}
use Rattle.cpn_jobs.specs.Work.{made_by_arc}
use Rattle.cpn_jobs.proofs.ArcsLeft.{more_made, refused_made}
use Rattle.cpn_jobs.proofs.outputs.outputs_among.Goals as goal

pub returns-in_err-add_outputs : goal.returns-in_err-add_outputs
returns-in_err-add_outputs c =
    let p = err_from_is_err_and c.from_residual.result c.from_residual.ensures.1 in
    record {
      outputs = rw (p.1, p.2) (refused_made (made_by_arc (funs_view c.args.funs.now) c.args.binding.now c.args.time c.args.delay) c.args.arcs.now c.loop-arc.arc-index c.arc-item.result c.loop-arc.outputs _ c.in_err-add_outputs.field-0.0 (omega arith) c.arc-item.is c.loop-arc.invariant c.in_err-add_outputs.ensures.added);
    }

pub loop-arc-preserved : goal.loop-arc-preserved
loop-arc-preserved c =
    more_made (made_by_arc (funs_view c.args.funs.now) c.args.binding.now c.args.time c.args.delay) c.args.arcs.now c.loop-arc.arc-index c.arc-item.result c.loop-arc.outputs _ c.add_outputs.new.outputs (omega arith) c.arc-item.is c.loop-arc.invariant c.in_ok-add_outputs.ensures.added
