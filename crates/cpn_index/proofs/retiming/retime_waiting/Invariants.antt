-- Of the elements so far each has its least time.
use Rattle.std.proofs.Common.{◌≡◌, ◌+◌, ◌≤◌, [], List, take}
use Rattle.cpn_definitions.specs.Net.{PlainNet}
use Rattle.cpn_definitions.specs.Enabled.{PlainEntry, Enabled}
use Rattle.cpn_definitions.specs.Sound.{IsMarking}
use Rattle.cpn_core.specs.Elements.{element_view}
use Rattle.cpn_index.specs.Retimed.{AreOfNet, AreRetimed}
use Rattle.cpn_index.specs.UpdateWork.{gone_number}
use Rattle.cpn_index.proofs.TakenAnew.{AreAnew}
use Rattle.cpn_index.proofs.retiming.retime_waiting.Given as goal

abbrev pub invariant-loop-element : goal.invariant-loop-element
invariant-loop-element g l = record {
  anew : (n : PlainNet) → IsMarking n.places l.marking → AreOfNet n l.initial.elements.elements → AreRetimed n l.marking [] l.initial.elements.elements l.elements.elements × AreAnew (λ e. element_view e.value) n l.marking (take l.element-index l.element-items) l.elements.elements;
  fewer : (n : PlainNet) (final : List PlainEntry) → IsMarking n.places l.marking → AreOfNet n l.initial.elements.elements → Enabled n l.marking 0 final → l.steps + gone_number final l.elements.elements ≤ l.initial.steps + gone_number final l.initial.elements.elements;
  clock : l.elements.clock ≡ l.initial.elements.clock;
  places : l.elements.places ≡ l.initial.elements.places;
}
