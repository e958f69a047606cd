-- The fault is that of the evaluation.
use Rattle.std.proofs.Common.{sym, subst, [], ◌≡◌}
use Rattle.cpn_definitions.specs.Outcome.{Outcome, faults}
use Rattle.cpn_definitions.specs.Terms.{PlainTerm, terms_of}
use Rattle.cpn_core.specs.Faults.{fault_view}
use Rattle.cpn_core.specs.Inscriptions.{funs_view}
use Rattle.cpn_core.specs.Nets.{place_view}
use Rattle.cpn_accepted.specs.Views.{initial_view}
use Rattle.cpn_readings.specs.Relations.{RefusesBy}
use Rattle.std.specs.Prelude.{List}
use Rattle.cpn_flat.specs.InitialMarking.{terms_so}
use Rattle.cpn_flat.specs.Answers.{refusal_of}
use Rattle.cpn_flat.proofs.values.value_of.Goals as goal

pub returns : goal.returns
returns c = record {
  value = (
      let is : terms_of (funs_view c.args.funs.now) (initial_view c.args.initial.now).expr (initial_view c.args.initial.now).colour [] 0 ≡ faults (fault_view c.in-Fault.fault) = rw c.new-binding.ensures.empty at (rw c.in-Fault.is at c.in-Err.ensures.terms) in
      subst (λ (o : Outcome (List PlainTerm)). RefusesBy (terms_so (place_view c.args.place.now) o) (refusal_of c.faulted.result)) (sym is) c.faulted.ensures.refused);
}
