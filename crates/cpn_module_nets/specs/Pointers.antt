-- The places in a document of what is checked: parts of the places, transitions and arcs of a module, all by their numbers.
use Rattle.std.specs.Prelude.{ℕ}
use Rattle.cpn_document.specs.declared.pointers.Pointer.{Pointer}
use Rattle.cpn_document.specs.declared.pointers.Pointer.TheVariants.{Module}
use Rattle.cpn_document.specs.declared.pointers.ModulePart.TheVariants.{Place, Transition, Arc}
use Rattle.cpn_document.specs.declared.pointers.PlacePart.TheVariants as of_place
use Rattle.cpn_document.specs.declared.pointers.TransitionPart.TheVariants as of_transition
use Rattle.cpn_document.specs.declared.pointers.ArcPart.TheVariants as of_arc

-- the colour set and the initial marking of a place
abbrev pub colour_pointer : ℕ → ℕ → Pointer
colour_pointer m i = Module m (Place i of_place.Colour)

abbrev pub initial_pointer : ℕ → ℕ → Pointer
initial_pointer m i = Module m (Place i of_place.Initial)

-- a transition, its guard and its delay
abbrev pub transition_pointer : ℕ → ℕ → Pointer
transition_pointer m i = Module m (Transition i of_transition.Whole)

abbrev pub guard_pointer : ℕ → ℕ → Pointer
guard_pointer m i = Module m (Transition i of_transition.Guard)

abbrev pub delay_pointer : ℕ → ℕ → Pointer
delay_pointer m i = Module m (Transition i of_transition.Delay)

-- the inscription of an arc
abbrev pub expr_pointer : ℕ → ℕ → Pointer
expr_pointer m i = Module m (Arc i of_arc.Expr)
