-- The elements so far, and the watchers that are left.
use Rattle.std.proofs.Common.{◌≡◌, ◌||◌}
use Rattle.std.specs.List.{list_any}
use Rattle.cpn_definitions.specs.Occurrence.{PlainElement}
use Rattle.cpn_core.specs.Elements.{element_view}
use Rattle.cpn_index.specs.Waiting.{same_element, has_watcher}
use Rattle.cpn_index.proofs.waiting.share_elements.Given as goal

abbrev pub invariant-loop-watcher : goal.invariant-loop-watcher
invariant-loop-watcher l = (e : PlainElement) → (list_any (λ element. same_element e (element_view element.value)) l.found.items || has_watcher e l.watcher-iterator) ≡ has_watcher e l.watchers.keys
