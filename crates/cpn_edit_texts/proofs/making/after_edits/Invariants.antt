-- The edits so far are made; there are as many transitions, and as many places, as before.
use Rattle.std.proofs.Common.{◌≡◌, length, take}
use Rattle.cpn_core.specs.Nets.{net_view}
use Rattle.cpn_edit_texts.specs.Edits.{net_after_all, initial_after_all}
use Rattle.cpn_edit_texts.specs.Views.{edits_view}
use Rattle.cpn_edit_texts.proofs.making.after_edits.Given as goal

abbrev pub invariant-loop-edit : goal.invariant-loop-edit
invariant-loop-edit l =
    record {
      net : net_view l.edited ≡ net_after_all (net_view l.net) (edits_view (take l.edit-index l.edits));
      initial : l.edited_marking ≡ initial_after_all l.marking (edits_view (take l.edit-index l.edits));
      transitions : length l.edited.transitions.items ≡ length l.net.transitions.items;
      places : length l.edited_marking ≡ length l.marking;
    }
