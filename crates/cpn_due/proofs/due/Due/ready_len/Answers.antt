-- The items that are marked are those that are due.
use Rattle.std.proofs.Common.{length, ap, ◌∙◌}
use Rattle.cpn_due.specs.Due.{due_at}
use Rattle.cpn_due.proofs.KeptElements.{due_number}
use Rattle.cpn_due.proofs.due.Due.ready_len.Goals as goal

pub returns : goal.returns
returns c =
    record { number = ap (λ s. s.due) c.summary.ensures.summary ∙ due_number c.self.inside.clock c.self.inside.tree.items c.self.invariant.0 ∙ ap (λ d. length (due_at d.clock d.elements)) c.self.view_is }
