-- What the trees of a document are accepted as, text by text. A text that has no tree is refused when it is met.
-- Source: own choice; arcs and markings are those of Jensen and Kristensen, chapter 4.
use Rattle.std.specs.Prelude.{ℕ, suc, ◌==◌, Bool, true, false, if◌then◌else◌, List, [], ◌∷◌, ◌++◌, slice_index_or, Option, Some, None}
use Rattle.cpn_definitions.specs.Colour.{PlainColour}
use Rattle.cpn_definitions.specs.Inscription.{PlainExpr}
use Rattle.cpn_definitions.specs.Net.{PlainArc, PlainTransition, Coloured}
use Rattle.cpn_trees.specs.Trees.{PlainAst, PlainAsts}
use Rattle.cpn_trees.specs.DeclTrees.{PlainDecl}
use Rattle.cpn_typing.specs.Names.{Declared, Checked, ok}
use Rattle.cpn_typing.specs.Names as checks
use Rattle.cpn_typing.specs.Declarations.{colour_of, declared}
use Rattle.cpn_typing.specs.Multisets.{Side, input, output, checked_arc, checked_init}
use Rattle.cpn_typing.specs.GuardsAndDelays.{checked_guard, checked_delay}
use Rattle.cpn_types.specs.Accepted.{terms_on}
use Rattle.cpn_document.specs.declared.document.Way.{Way}
use Rattle.cpn_document.specs.declared.document.Way.TheVariants.{ToTransition, ToPlace, Both}
use Rattle.cpn_document.specs.declared.pointers.Pointer.{Pointer}
use Rattle.cpn_document.specs.declared.pointers.Pointer.TheVariants.{Declaration}
use Rattle.cpn_module.specs.declared.hierarchy.Node.{Node}
use Rattle.cpn_module.specs.declared.hierarchy.Node.TheVariants as nodes
use Rattle.cpn_module.specs.Hierarchy.{PlainEnds, PlainStructure}
use Rattle.cpn_module_trees.specs.Parsing.{Parsing, parsed, unparsed}
use Rattle.cpn_module_trees.specs.Trees.{PlaceTrees, TransitionTrees, ModuleTrees}
use Rattle.cpn_accepted.specs.Nets.{Initial, colour_at}
use Rattle.cpn_text_refusals.specs.Refusals.{no_tree, typing}
use Rattle.cpn_module_nets.specs.Reading.{inscription, Reading, read, refused, ◌>>=◌, each_from}
use Rattle.cpn_module_nets.specs.Pointers.{expr_pointer, colour_pointer, initial_pointer, delay_pointer, guard_pointer}

-- the tree of a text at a pointer, or the refusal of the text
abbrev pub tree_at : {A : Type 0} → Pointer → Parsing A → Reading A
tree_at at (parsed tree) = read tree
tree_at at (unparsed r) = refused (inscription at (no_tree r))

-- what is accepted at a pointer, or the refusal by a rule of typing
abbrev pub accepted_at : {A : Type 0} → Pointer → Checked A → Reading A
accepted_at at (ok x) = read x
accepted_at at (checks.refused r) = refused (inscription at (typing r))

-- ---- declarations

-- what is declared after one declaration more, by its number
unfoldable pub declared_with : ℕ → Declared → Parsing PlainDecl → Reading Declared
declared_with i ds text = do
  tree ← tree_at (Declaration i) text
  accepted_at (Declaration i) (declared ds tree)

-- what is declared after declarations, which are numbered from i on, one after another
unfoldable pub declared_from : ℕ → Declared → List (Parsing PlainDecl) → Reading Declared
declared_from i ds [] = read ds
declared_from i ds (text ∷ texts) = do
  now ← declared_with i ds text
  declared_from (suc i) now texts

-- ---- places

-- a place, of a colour set that is declared, of the module of a number
unfoldable pub net_place : Declared → ℕ → ℕ → PlaceTrees → Reading Coloured
net_place ds m i place = do
  colour ← accepted_at (colour_pointer m i) (colour_of ds place.colour)
  read (record { name = place.name; colour = colour })

-- the places of a module
unfoldable pub places_of : Declared → ℕ → ModuleTrees → Reading (List Coloured)
places_of ds m of_module = each_from (net_place ds m) 0 of_module.places

-- an initial marking at a pointer, where one is written
unfoldable pub initial_at : Declared → PlainColour → Pointer → Option (Parsing PlainAst) → Reading (Option Initial)
initial_at ds colour at None = read None
initial_at ds colour at (Some text) = do
  tree ← tree_at at text
  expr ← accepted_at at (checked_init ds colour tree)
  read (Some (record { colour = colour; expr = expr }))

abbrev pub initial_of : Declared → List Coloured → ℕ → ℕ → PlaceTrees → Reading (Option Initial)
initial_of ds places m i place = initial_at ds (colour_at places i) (initial_pointer m i) place.initial

-- ---- transitions

-- the conjuncts of a guard at a pointer; none where none is written
unfoldable pub guard_at : Declared → Pointer → Option (Parsing PlainAsts) → Reading (List PlainExpr)
guard_at ds at None = read []
guard_at ds at (Some text) = do
  tree ← tree_at at text
  accepted_at at (checked_guard ds tree)

-- a delay at a pointer, where one is written
unfoldable pub delay_at : Declared → Pointer → Option (Parsing PlainAst) → Reading (Option PlainExpr)
delay_at ds at None = read None
delay_at ds at (Some text) = do
  tree ← tree_at at text
  delay ← accepted_at at (checked_delay ds tree)
  read (Some delay)

-- A transition before its arcs are joined to it and its variables are listed: its name, its guard and its delay.
unfoldable pub bare_transition : Declared → ℕ → ℕ → TransitionTrees → Reading PlainTransition
bare_transition ds m i transition = do
  guard ← guard_at ds (guard_pointer m i) transition.guard
  delay ← delay_at ds (delay_pointer m i) transition.delay
  read (record { name = transition.name; guard = guard; delay = delay; inputs = []; outputs = []; vars = [] })

-- ---- arcs

-- An arc of a module: what it joins a place to, and the input arc and the output arc of the net that it stands for.
pub record Sides : Type 0 where
  pub node : Node
  pub input : Option PlainArc
  pub output : Option PlainArc

-- an arc on a side of its transition, at the place of a number and a colour set, with the binding terms that it has there: an
-- output arc has none
unfoldable pub arc_at : Side → Declared → PlainColour → Pointer → ℕ → PlainAst → Reading PlainArc
arc_at side ds colour at p tree = do
  expr ← accepted_at at (checked_arc ds side colour tree)
  read (record { place = p; colour = colour; expr = expr; terms = terms_on side expr })

-- An arc that leads both ways is checked as an input arc, then as an output arc.
unfoldable pub sides_of : Way → Declared → PlainColour → Pointer → PlainEnds → PlainAst → Reading Sides
sides_of ToTransition ds colour at ends tree = do
  into ← arc_at input ds colour at ends.place tree
  read (record { node = ends.node; input = Some into; output = None })
sides_of ToPlace ds colour at ends tree = do
  out ← arc_at output ds colour at ends.place tree
  read (record { node = ends.node; input = None; output = Some out })
sides_of Both ds colour at ends tree = do
  into ← arc_at input ds colour at ends.place tree
  out ← arc_at output ds colour at ends.place tree
  read (record { node = ends.node; input = Some into; output = Some out })

-- whether a node is a transition
abbrev pub is_transition : Node → Bool
is_transition (nodes.Transition t) = true
is_transition (nodes.Substitution i) = false

-- what an arc of these ends stands for, with the tree of its inscription
unfoldable pub inscribed : Declared → List Coloured → Pointer → PlainEnds → Parsing PlainAst → Reading Sides
inscribed ds places at ends text = do
  tree ← tree_at at text
  sides_of ends.way ds (colour_at places ends.place) at ends tree

-- At a substitution transition the inscription of an arc is not looked at: it stands for no arc of the net.
unfoldable pub arc_with : Declared → List Coloured → Pointer → PlainEnds → Parsing PlainAst → Reading Sides
arc_with ds places at ends text =
    if is_transition ends.node then inscribed ds places at ends text else read (record { node = ends.node; input = None; output = None })

-- the ends of an arc, by its number
abbrev pub no_ends : PlainEnds
no_ends = record { place = 0; node = nodes.Substitution 0; way = Both }

abbrev pub ends_at : PlainStructure → ℕ → PlainEnds
ends_at s i = slice_index_or s.arcs i no_ends

abbrev pub arc_of : Declared → List Coloured → ℕ → PlainStructure → ℕ → Parsing PlainAst → Reading Sides
arc_of ds places m s i text = arc_with ds places (expr_pointer m i) (ends_at s i) text

-- ---- the transitions with their arcs

-- an item behind which others stand, where there is one
abbrev pub with_first : {A : Type 0} → Option A → List A → List A
with_first None xs = xs
with_first (Some x) xs = x ∷ xs

-- whether a node is the transition of a number
abbrev pub is_at : ℕ → Node → Bool
is_at t (nodes.Transition u) = t == u
is_at t (nodes.Substitution i) = false

-- the input arcs, and the output arcs, of a transition among arcs, in document order
abbrev pub inputs_of : ℕ → List Sides → List PlainArc
inputs_of t [] = []
inputs_of t (arc ∷ arcs) = if is_at t arc.node then with_first arc.input (inputs_of t arcs) else inputs_of t arcs

abbrev pub outputs_of : ℕ → List Sides → List PlainArc
outputs_of t [] = []
outputs_of t (arc ∷ arcs) = if is_at t arc.node then with_first arc.output (outputs_of t arcs) else outputs_of t arcs

-- transitions, numbered from t on, with their arcs behind those that they have
abbrev pub joined_from : ℕ → List PlainTransition → List Sides → List PlainTransition
joined_from t [] arcs = []
joined_from t (x ∷ xs) arcs =
    record x { inputs = x.inputs ++ inputs_of t arcs; outputs = x.outputs ++ outputs_of t arcs } ∷ joined_from (suc t) xs arcs
