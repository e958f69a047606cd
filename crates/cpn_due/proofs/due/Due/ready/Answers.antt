-- The items that are marked are those that are due.
use Rattle.std.proofs.Common.{◌<◌, length, slice_get, sym, ap, subst, ◌∙◌}
use Rattle.cpn_due.specs.Due.{due_at}
use Rattle.cpn_due.proofs.KeptElements.{due_are, due_number}
use Rattle.cpn_due.proofs.due.Due.ready.Goals as goal

pub due-requires : goal.due-requires
due-requires c =
    let number = due_number c.self.inside.clock c.self.inside.tree.items c.self.invariant.0 ∙ ap (λ d. length (due_at d.clock d.elements)) c.self.view_is in
    record { within = subst (λ n. c.args.k < n) (sym number) c.requires.within }

pub returns : goal.returns
returns c =
    record {
      element =
          ap (λ d. slice_get (due_at d.clock d.elements) c.args.k) (sym c.self.view_is)
          ∙ ap (λ xs. slice_get xs c.args.k) (sym (due_are c.self.inside.clock c.self.inside.tree.items c.self.invariant.0)) ∙ c.due.ensures.item;
    }
