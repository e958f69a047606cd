-- A transition has the name, or else a substitution transition.
use Rattle.std.proofs.Common.{◌∙◌, sym, ap}
use Rattle.cpn_module.specs.declared.hierarchy.Node.TheVariants as nodes
use Rattle.cpn_module.proofs.NameNumbers.{node_there, node_else, sub_there}
use Rattle.cpn_module.proofs.numbered.node_of.Goals as goal

pub number_there-requires : goal.number_there-requires
number_there-requires c = record { there = sub_there c.args.transitions.now c.args.subs.now c.args.name.now (sym c.in-None.ensures.number) c.requires.there }

pub returns-in-Some : goal.returns-in-Some
returns-in-Some c = record { exact = sym (node_there c.args.transitions.now c.args.subs.now c.args.name.now c.in-Some.number (sym c.in-Some.ensures.number)) }

pub returns-in-None : goal.returns-in-None
returns-in-None c = record { exact = ap nodes.Substitution c.number_there.ensures.number ∙ sym (node_else c.args.transitions.now c.args.subs.now c.args.name.now (sym c.in-None.ensures.number)) }
