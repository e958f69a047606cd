-- With the token the marking stays one of the net, and nothing else changes.
use Rattle.std.proofs.Common.{sym, subst, ◌∙◌, arith}
use Rattle.cpn_definitions.specs.Sound.{IsMarking}
use Rattle.cpn_definitions.proofs.Markings.{marking_length}
use Rattle.cpn_core.specs.Nets.{net_view}
use Rattle.cpn_test_program.proofs.ChangedTokens.{others_stay_put, marking_put}
use Rattle.cpn_test_program.proofs.edited_nets.EditedNet.put.Goals as goal

pub add-requires-clause-in_range : goal.add-requires-clause-in_range
add-requires-clause-in_range g c =
    let same = marking_length (net_view c.args.self.now.net).places c.args.self.now.marking c.requires.held.marking in
    let within = c.may_be_put.ensures.within c.if-not-may_be_put.false in
    omega (arith, same, within)

pub update-requires-clause-marking : goal.update-requires-clause-marking
update-requires-clause-marking g c =
    subst (IsMarking (net_view c.args.self.now.net).places) (sym c.in_ok-add.ensures.added)
    (marking_put (net_view c.args.self.now.net).places c.args.place _ c.args.stamp c.args.self.now.marking c.requires.held.marking (c.may_be_put.ensures.held c.if-not-may_be_put.false))

pub update-requires-clause-follows : goal.update-requires-clause-follows
update-requires-clause-follows g c = record {
  old = c.args.self.now.marking;
  was = c.requires.held.enabled;
  stay =
      let same = marking_length (net_view c.args.self.now.net).places c.args.self.now.marking c.requires.held.marking in
      let within = c.may_be_put.ensures.within c.if-not-may_be_put.false in
      others_stay_put c.args.place _ c.args.stamp c.args.self.now.marking c.add.new.self _ (omega (arith, same, within)) c.in_ok-changes.ensures.told c.in_ok-add.ensures.added;
}

pub returns : goal.returns
returns g c = record {
  held = record {
    sound = c.requires.held.sound;
    marking =
        subst (IsMarking (net_view c.args.self.now.net).places) (sym c.in_ok-add.ensures.added)
        (marking_put (net_view c.args.self.now.net).places c.args.place _ c.args.stamp c.args.self.now.marking c.requires.held.marking (c.may_be_put.ensures.held c.if-not-may_be_put.false));
    enabled = c.in_ok-update.ensures.updated;
    at = c.in_ok-update.ensures.clock ∙ c.requires.held.at;
    editable = c.requires.held.editable;
  };
}
