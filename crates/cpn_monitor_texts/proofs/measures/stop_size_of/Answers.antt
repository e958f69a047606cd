-- What is named is there, or refuses the monitor.
use Rattle.std.proofs.lemmas.Result.{err_from_is_err_and}
use Rattle.cpn_core.specs.Nets.{net_view}
use Rattle.cpn_monitor_texts.specs.Answers.{monitor_refusal_of}
use Rattle.cpn_monitor_texts.proofs.CheckedSteps.{stop_size_read, stop_size_refused}
use Rattle.cpn_monitor_texts.proofs.measures.stop_size_of.Goals as goal

pub returns-in_err-place : goal.returns-in_err-place
returns-in_err-place c = record {
  reads = λ ds. let p = err_from_is_err_and c.from_residual.result c.from_residual.ensures.1 in rw (p.1, p.2) (stop_size_refused ds (net_view c.args.net.now) c.args.number c.args.name.now c.args.op c.args.n (monitor_refusal_of c.in_err-place.field-0.0) c.in_err-place.ensures.known);
}

pub returns : goal.returns
returns c = record { reads = λ ds. rw c.bound_of-bound.ensures.bound (stop_size_read ds (net_view c.args.net.now) c.args.number c.args.name.now c.args.op c.args.n c.in_ok-place.place c.in_ok-place.ensures.known) }
