-- Nets, as plain data: places with their colour sets, transitions with their guard, delay and arcs, and what the
-- inscriptions name. Source: Jensen and Kristensen, chapter 4; several arcs between one place and one transition are our
-- own.
use Rattle.std.specs.Prelude.{ℕ, Bool, false, List, [], Option, None, slice_index_or}
use Rattle.cpn_definitions.specs.Colour.{PlainColour, unit_shape}
use Rattle.cpn_definitions.specs.Inscription.{PlainPattern, PlainExpr, ArcInscription, Functions}

-- A binding term of an input arc: so many tokens that the pattern fits.
pub record BindingTerm : Type 0 where
  pub count : ℕ
  pub pattern : PlainPattern

-- An arc between its transition and a place: the place's number and colour set, the arc's inscription,
-- and, on an input arc, its binding terms.
pub record PlainArc : Type 0 where
  pub place : ℕ
  pub colour : PlainColour
  pub expr : ArcInscription
  pub terms : List BindingTerm

-- A transition: its name, the conjuncts of its guard, its delay where one is written, its input and
-- output arcs in document order, and the numbers of its variables in declaration order.
pub record PlainTransition : Type 0 where
  pub name : List ℕ
  pub guard : List PlainExpr
  pub delay : Option PlainExpr
  pub inputs : List PlainArc
  pub outputs : List PlainArc
  pub vars : List ℕ

-- A place or a variable: its name and colour set.
pub record Coloured : Type 0 where
  pub name : List ℕ
  pub colour : PlainColour

-- A net: its places, transitions and variables, the names of the constants of each enumeration and of the constructors of
-- each union, by their numbers, and its functions.
pub record PlainNet : Type 0 where
  pub places : List Coloured
  pub transitions : List PlainTransition
  pub variables : List Coloured
  pub constants : List (List (List ℕ))
  pub constructors : List (List (List ℕ))
  pub functions : Functions

-- what stands at a number past the last one
abbrev pub no_colour : PlainColour
no_colour = record { shape = unit_shape; timed = false }

abbrev pub nothing : Coloured
nothing = record { name = []; colour = no_colour }

abbrev pub no_transition : PlainTransition
no_transition = record { name = []; guard = []; delay = None; inputs = []; outputs = []; vars = [] }

-- the place, the variable and the transition of a number
abbrev pub place_at : PlainNet → ℕ → Coloured
place_at n p = slice_index_or n.places p nothing

abbrev pub variable_at : PlainNet → ℕ → Coloured
variable_at n x = slice_index_or n.variables x nothing

abbrev pub transition_at : PlainNet → ℕ → PlainTransition
transition_at n t = slice_index_or n.transitions t no_transition

-- whether a place keeps time stamps
abbrev pub is_timed : PlainNet → ℕ → Bool
is_timed n p = (place_at n p).colour.timed
