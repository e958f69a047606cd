-- The plain nets that the nets of the program stand for.
use Rattle.std.specs.Prelude.{ℕ, List, map, string_bytes, String, Vec, Option}
use Rattle.std.specs.Option.{option_map}
use Rattle.std.specs.declared.sync.Arc.{Arc}
use Rattle.std.specs.declared.alloc.Global.{Global}
use Rattle.cpn_definitions.specs.Inscription.{PlainExpr}
use Rattle.cpn_definitions.specs.Net.{PlainArc, PlainTransition, Coloured, PlainNet}
use Rattle.cpn_core.specs.declared.inscriptions.Expr.{Expr}
use Rattle.cpn_core.specs.declared.nets.PlaceArc.{PlaceArc}
use Rattle.cpn_core.specs.declared.nets.Transition.{Transition}
use Rattle.cpn_core.specs.declared.nets.Place.{Place}
use Rattle.cpn_core.specs.declared.nets.Variable.{Variable}
use Rattle.cpn_core.specs.declared.nets.Net.{Net}
use Rattle.cpn_core.specs.Colours.{colour_view}
use Rattle.cpn_core.specs.Inscriptions.{expr_view, funs_view, multiset_view, term_view}

abbrev pub arc_view : PlaceArc → PlainArc
arc_view arc = record { place = arc.place; colour = colour_view arc.inscription.value.colour; expr = multiset_view arc.inscription.value.expr; terms = map term_view arc.inscription.value.terms.items }

-- the delay of a transition, where one is written
abbrev pub delay_view : Option (Arc Expr Global) → Option PlainExpr
delay_view delay = option_map (λ e. expr_view e.value) delay

abbrev pub transition_view : Transition → PlainTransition
transition_view t = record { name = string_bytes t.name; guard = map expr_view t.guard.value.conjuncts.items; delay = delay_view t.delay; inputs = map arc_view t.inputs.items; outputs = map arc_view t.outputs.items; vars = t.vars.items }

abbrev pub place_view : Place → Coloured
place_view place = record { name = string_bytes place.name; colour = colour_view place.colour }

abbrev pub variable_view : Variable → Coloured
variable_view x = record { name = string_bytes x.name; colour = colour_view x.colour }

-- the names of a list of lists of names
abbrev pub names_view : List (Vec (String Global) Global) → List (List (List ℕ))
names_view lists = map (λ names. map string_bytes names.items) lists

abbrev pub net_view : Net → PlainNet
net_view n = record { places = map place_view n.places.items; transitions = map transition_view n.transitions.items; variables = map variable_view n.variables.items; constants = names_view n.constants.items; constructors = names_view n.constructors.items; functions = funs_view n.funs.value }

abbrev pub arcs_view : List PlaceArc → List PlainArc
arcs_view arcs = map arc_view arcs
