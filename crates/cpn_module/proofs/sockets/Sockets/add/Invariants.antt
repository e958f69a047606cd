-- The pairs are those that were there and those of the arcs so far.
use Rattle.std.proofs.Common.{◌≡◌, ℕ, ◌&&◌, ◌||◌, take, map}
use Rattle.std.specs.List.{list_any}
use Rattle.cpn_module.specs.Views.{ends_view}
use Rattle.cpn_module.specs.ModuleRules.{is_input, is_output, joins}
use Rattle.cpn_module.specs.Pairs.{has_pair}
use Rattle.cpn_module.proofs.sockets.Sockets.add.Given as goal

abbrev pub invariant-loop-arc : goal.invariant-loop-arc
invariant-loop-arc l = record {
  inputs : (p i : ℕ) → has_pair p i l.self.inputs ≡ (has_pair p i l.initial.self.inputs || list_any (λ arc. joins p i arc && is_input arc.way) (map ends_view (take l.arc-index l.arcs)));
  outputs : (p i : ℕ) → has_pair p i l.self.outputs ≡ (has_pair p i l.initial.self.outputs || list_any (λ arc. joins p i arc && is_output arc.way) (map ends_view (take l.arc-index l.arcs)));
}
