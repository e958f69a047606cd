-- Without the token the marking stays one of the net, and nothing else changes.
use Rattle.std.proofs.Common.{sym, subst, ◌∙◌}
use Rattle.cpn_definitions.specs.Sound.{IsMarking}
use Rattle.cpn_core.specs.Nets.{net_view}
use Rattle.cpn_test_program.proofs.ChangedTokens.{others_stay_taken, marking_taken}
use Rattle.cpn_test_program.proofs.edited_nets.EditedNet.take.Goals as goal

pub update-requires-clause-marking : goal.update-requires-clause-marking
update-requires-clause-marking g c =
    subst (IsMarking (net_view c.args.self.now.net).places) (sym c.take.ensures.taken) (marking_taken (net_view c.args.self.now.net).places c.args.place _ c.args.latest c.args.self.now.marking c.requires.held.marking)

pub update-requires-clause-follows : goal.update-requires-clause-follows
update-requires-clause-follows g c = record {
  old = c.args.self.now.marking;
  was = c.requires.held.enabled;
  stay = others_stay_taken c.args.place _ c.args.latest c.args.self.now.marking c.take.new.self _ c.in_ok-changes.ensures.told c.take.ensures.taken;
}

pub returns : goal.returns
returns g c = record {
  held = record {
    sound = c.requires.held.sound;
    marking = subst (IsMarking (net_view c.args.self.now.net).places) (sym c.take.ensures.taken) (marking_taken (net_view c.args.self.now.net).places c.args.place _ c.args.latest c.args.self.now.marking c.requires.held.marking);
    enabled = c.in_ok-update.ensures.updated;
    at = c.in_ok-update.ensures.clock ∙ c.requires.held.at;
    editable = c.requires.held.editable;
  };
}
