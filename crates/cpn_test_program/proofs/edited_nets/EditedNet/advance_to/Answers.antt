-- The index is that of the same net and marking, at the new clock.
use Rattle.cpn_core.specs.Nets.{net_view}
use Rattle.cpn_test_program.proofs.edited_nets.EditedNet.advance_to.Goals as goal

pub returns : goal.returns
returns c = record {
  held = record {
    sound = c.requires.held.sound;
    marking = c.requires.held.marking;
    enabled = c.advance_to.ensures.index (net_view c.args.self.now.net) c.args.self.now.marking c.requires.held.enabled;
    at = c.advance_to.ensures.moved;
    editable = c.requires.held.editable;
  };
}
