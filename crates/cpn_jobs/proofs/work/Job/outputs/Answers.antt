-- In a net the work of a transition makes the outputs of its element.
use Rattle.std.proofs.Common.{◌∙◌, ap, subst, List}
use Rattle.cpn_definitions.specs.Outcome.{Outcome}
use Rattle.cpn_definitions.specs.Occurrence.{Made}
use Rattle.cpn_core.specs.Elements.{element_view}
use Rattle.cpn_eval.specs.Answers.{Answers}
use Rattle.cpn_jobs.specs.declared.work.Work.{Work}
use Rattle.cpn_jobs.specs.Views.{work_view}
use Rattle.cpn_jobs.specs.Work.{PlainWork, outputs_by}
use Rattle.cpn_core.specs.declared.bindings.Element.{Element}
use Rattle.cpn_jobs.specs.OutputsByWork.{work_makes}
use Rattle.cpn_jobs.proofs.work.Job.outputs.Goals as goal

pub returns-clause-in_net : goal.returns-clause-in_net
returns-clause-in_net c n is =
    let job = c.args.self.now in
    subst (λ (o : Outcome (List Made)). Answers (λ (outputs : List Made). outputs) c.outputs_by.result o)
    (ap (λ (element : Element). outputs_by (work_view c.deref.result.now) element.binding job.time) c.deref-2.ensures ∙ ap (λ (work : Work). outputs_by (work_view work) job.element.value.binding job.time) c.deref.ensures ∙ ap (λ (work : PlainWork). outputs_by work job.element.value.binding job.time) is ∙ work_makes n (element_view job.element.value) job.time)
    c.outputs_by.ensures.outputs
