-- Both markings have as many places as the net; and the index that is told what changed is that of the new marking.
use Rattle.std.proofs.Common.{sym, ap, subst, ◌∙◌, length, arith}
use Rattle.cpn_definitions.specs.Marking.{Marking}
use Rattle.cpn_definitions.specs.Sound.{IsMarking}
use Rattle.cpn_definitions.proofs.Markings.{marking_length}
use Rattle.cpn_core.specs.Nets.{net_view}
use Rattle.cpn_test_program.proofs.held.Held.follow.Goals as goal

pub changes_between-requires-clause-few : goal.changes_between-requires-clause-few
changes_between-requires-clause-few c =
    let same = marking_length (net_view c.args.net.now).places c.args.self.now.marking c.requires.held.marking in
    let few = c.requires.held.sound.few_places in
    omega (arith, same, few)

pub changes_between-requires-clause-as_many : goal.changes_between-requires-clause-as_many
changes_between-requires-clause-as_many c =
    let places = (net_view c.args.net.now).places in
    ap (λ (m : Marking). length m) c.in_ok-marking.ensures.same ∙ marking_length places c.args.marking.now c.requires.marking ∙ sym (marking_length places c.args.self.now.marking c.requires.held.marking)

pub returns : goal.returns
returns c = record {
  held = record {
    sound = c.requires.held.sound;
    marking = subst (IsMarking (net_view c.args.net.now).places) (sym c.in_ok-marking.ensures.same) c.requires.marking;
    enabled = c.advance_to.ensures.index (net_view c.args.net.now) c.in_ok-marking.marking c.in_ok-follow_told.ensures.updated;
    at = c.advance_to.ensures.moved;
  };
}
