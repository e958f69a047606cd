-- The next edit is there, and it is made.
use Rattle.std.proofs.Common.{length, sym, ap, ◌∙◌, subst}
use Rattle.cpn_core.specs.Nets.{net_view}
use Rattle.cpn_edit_texts.specs.Ready.{IsThere}
use Rattle.cpn_edit_texts.specs.Views.{edit_view}
use Rattle.cpn_edit_texts.proofs.MadeEdits.{its, net_made, initial_made, as_many_of_net, as_many_places}
use Rattle.cpn_edit_texts.proofs.making.after_edits.Goals as goal

pub make-requires : goal.make-requires
make-requires c =
    let item = c.edit-item.result in
    let now = length c.loop-edit.edited_marking in
    let there = its c.args.edits.now c.loop-edit.edit-index item c.loop-edit-test.true c.edit-item.is (IsThere (length c.args.net.now.transitions.items) (length c.args.marking.now)) c.requires.there in
    record {
      there = subst (IsThere (length c.loop-edit.edited.transitions.items) now) (sym c.in_ok-copy_of_edit.ensures.same)
          (subst (λ k. IsThere k now (edit_view item)) (sym c.loop-edit.invariant.transitions)
          (subst (λ k. IsThere (length c.args.net.now.transitions.items) k (edit_view item)) (sym c.loop-edit.invariant.places) there));
    }

pub loop-edit-preserved : goal.loop-edit-preserved
loop-edit-preserved c =
    let item = c.edit-item.result in
    let made = edit_view c.in_ok-copy_of_edit.field-0 in
    let before = c.loop-edit.invariant in
    record {
      net = net_made c.args.edits.now c.loop-edit.edit-index item c.loop-edit-test.true c.edit-item.is (net_view c.args.net.now) (net_view c.loop-edit.edited) (net_view c.make.new.net) made c.make.ensures.net before.net c.in_ok-copy_of_edit.ensures.same;
      initial = initial_made c.args.edits.now c.loop-edit.edit-index item c.loop-edit-test.true c.edit-item.is c.args.marking.now c.loop-edit.edited_marking c.make.new.initial made c.make.ensures.initial before.initial c.in_ok-copy_of_edit.ensures.same;
      transitions = as_many_of_net c.loop-edit.edited c.make.new.net made c.make.ensures.net ∙ before.transitions;
      places = ap length c.make.ensures.initial ∙ as_many_places c.loop-edit.edited_marking made ∙ before.places;
    }
