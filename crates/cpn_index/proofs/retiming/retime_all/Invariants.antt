-- The list is retimed for what was told so far.
use Rattle.std.proofs.Common.{◌≡◌, ◌+◌, ◌≤◌, List, take}
use Rattle.cpn_definitions.specs.Net.{PlainNet}
use Rattle.cpn_definitions.specs.Enabled.{PlainEntry, Enabled}
use Rattle.cpn_definitions.specs.Sound.{IsMarking}
use Rattle.cpn_tmset.specs.ChangedViews.{change_views}
use Rattle.cpn_index.specs.Retimed.{AreOfNet, AreRetimed}
use Rattle.cpn_index.specs.UpdateWork.{gone_number}
use Rattle.cpn_index.proofs.retiming.retime_all.Given as goal

abbrev pub invariant-loop-change : goal.invariant-loop-change
invariant-loop-change g l = record {
  retimed : (n : PlainNet) → IsMarking n.places l.marking → AreOfNet n l.initial.elements.elements → AreRetimed n l.marking (change_views (take l.change-index l.changes)) l.initial.elements.elements l.elements.elements;
  fewer : (n : PlainNet) (final : List PlainEntry) → IsMarking n.places l.marking → AreOfNet n l.initial.elements.elements → Enabled n l.marking 0 final → l.steps + gone_number final l.elements.elements ≤ l.initial.steps + gone_number final l.initial.elements.elements;
  clock : l.elements.clock ≡ l.initial.elements.clock;
  places : l.elements.places ≡ l.initial.elements.places;
}
