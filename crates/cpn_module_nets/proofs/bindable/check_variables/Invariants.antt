-- The variables of the transitions so far are bindable.
use Rattle.std.proofs.Common.{◌≡◌, drop, map}
use Rattle.cpn_definitions.specs.Net.{PlainNet}
use Rattle.cpn_core.specs.Nets.{transition_view}
use Rattle.cpn_declared.specs.DeclsViews.{decls_view}
use Rattle.cpn_module_nets.specs.Reading.{Reading}
use Rattle.std.specs.Prelude.{Bool}
use Rattle.cpn_module_nets.specs.Transitions.{AreBindable}
use Rattle.cpn_module_nets.proofs.bindable.check_variables.Given as goal

abbrev pub invariant-loop-number : goal.invariant-loop-number
invariant-loop-number l = (n : PlainNet) → n.variables ≡ (decls_view l.decls).variables → (r : Reading Bool) → AreBindable n l.of_module l.number (map transition_view (drop l.number l.transitions)) r → AreBindable n l.of_module 0 (map transition_view l.transitions) r
