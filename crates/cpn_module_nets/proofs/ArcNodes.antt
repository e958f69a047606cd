-- Each arc of a module that is at a transition is at one of those that are read.
use Rattle.std.proofs.Common.{◌≡◌, ℕ, ◌<◌, ◌∙◌, List, [], ◌∷◌, length, sym, subst}
use Rattle.std.specs.List.{AllByRecursion}
use Rattle.cpn_definitions.specs.Net.{PlainTransition, Coloured}
use Rattle.cpn_typing.specs.Names.{Declared}
use Rattle.cpn_readings.specs.ItemByItem.{EachIs}
use Rattle.cpn_module.specs.declared.hierarchy.Node.{Node}
use Rattle.cpn_module.specs.declared.hierarchy.Node.TheVariants as nodes
use Rattle.cpn_module.specs.Hierarchy.{PlainEnds, PlainStructure}
use Rattle.cpn_module.specs.Ranges.{IsNode}
use Rattle.cpn_module_trees.specs.Trees.{ModuleTrees}
use Rattle.cpn_module_nets.specs.Reading.{read, each_from}
use Rattle.cpn_module_nets.specs.Accepted.{Sides, bare_transition, arc_of}
use Rattle.cpn_module_nets.specs.Fitting.{GoTogether}
use Rattle.cpn_module_nets.specs.Joining.{IsAtOneOf}
use Rattle.cpn_module_nets.proofs.AcceptedTexts.{each_from_long}
use Rattle.cpn_module_nets.proofs.FewArcs.{AreCounted, arcs_counted}

one_of : (s : PlainStructure) (node : Node) → IsNode s node → IsAtOneOf s.transitions node
one_of s (nodes.Transition t) is = is
one_of s (nodes.Substitution i) is = tt

each_one_of : (s : PlainStructure) (ends : List PlainEnds) (arcs : List Sides) → EachIs AreCounted ends arcs → AllByRecursion (λ (e : PlainEnds). IsNode s e.node) ends → AllByRecursion (λ (arc : Sides). IsAtOneOf s.transitions arc.node) arcs
each_one_of s [] [] are all = tt
each_one_of s [] (arc ∷ arcs) are all = absurd are
each_one_of s (e ∷ ends) [] are all = absurd are
each_one_of s (e ∷ ends) (arc ∷ arcs) are all = (subst (IsAtOneOf s.transitions) (sym are.0.node) (one_of s e.node all.0), each_one_of s ends arcs are.1 all.1)

pub at_transitions : (ds : Declared) (places : List Coloured) (m : ℕ) (s : PlainStructure) (trees : ModuleTrees) → GoTogether places s trees → (bares : List PlainTransition) → each_from (bare_transition ds m) 0 trees.transitions ≡ read bares
    → (arcs : List Sides) → each_from (arc_of ds places m s) 0 trees.arcs ≡ read arcs → AllByRecursion (λ (arc : Sides). IsAtOneOf (length bares) arc.node) arcs
at_transitions ds places m s trees together bares bares_are arcs arcs_are =
    subst (λ (many : ℕ). AllByRecursion (λ (arc : Sides). IsAtOneOf many arc.node) arcs) (sym (each_from_long (bare_transition ds m) 0 trees.transitions bares bares_are ∙ together.as_many_transitions))
    (each_one_of s s.arcs arcs (arcs_counted ds places m s trees.arcs arcs together.as_many_arcs arcs_are) together.at_nodes)
