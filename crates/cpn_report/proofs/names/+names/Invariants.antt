-- The shapes, and the arguments of the constructors, have their names exactly where those that are left have.
use Rattle.std.proofs.Common.{◌≡◌, drop}
use Rattle.cpn_definitions.specs.Named.{have_names, arguments_have_names}
use Rattle.cpn_core.specs.Colours.{shapes_view, constructors_view}
use Rattle.cpn_core.specs.Nets.{net_view}
use Rattle.cpn_report.proofs.names.+names.Given as goal

abbrev pub invariant-are_named-loop-shape : goal.invariant-are_named-loop-shape
invariant-are_named-loop-shape l = have_names (net_view l.net) (shapes_view l.shape-items) ≡ have_names (net_view l.net) (shapes_view (drop l.shape-index l.shape-items))

abbrev pub invariant-arguments_are_named-loop-constructor : goal.invariant-arguments_are_named-loop-constructor
invariant-arguments_are_named-loop-constructor l = arguments_have_names (net_view l.net) (constructors_view l.constructor-items) ≡ arguments_have_names (net_view l.net) (constructors_view (drop l.constructor-index l.constructor-items))
