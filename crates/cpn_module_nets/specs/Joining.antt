-- A transition to which an arc of the document is joined.
use Rattle.std.specs.Prelude.{ℕ, ◌<◌, [], ◌++◌}
use Rattle.cpn_definitions.specs.Net.{PlainTransition}
use Rattle.cpn_module.specs.declared.hierarchy.Node.{Node}
use Rattle.cpn_module.specs.declared.hierarchy.Node.TheVariants as nodes
use Rattle.cpn_module_nets.specs.Accepted.{Sides, with_first}

-- where an arc is at a transition, it is one of so many
abbrev pub IsAtOneOf : ℕ → Node → Type 0
IsAtOneOf many (nodes.Transition t) = t < many
IsAtOneOf many (nodes.Substitution i) = Unit {0}

abbrev pub joined_with : PlainTransition → Sides → PlainTransition
joined_with t arc =
    record t { inputs = t.inputs ++ with_first arc.input []; outputs = t.outputs ++ with_first arc.output [] }
