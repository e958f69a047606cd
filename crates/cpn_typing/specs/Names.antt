-- What has been declared, what a name means, and the refusals. Colour sets are one name space; variables, constants of
-- `with`, constructors of `union`, `val` and `fun` are another. Locals (of `let`, `case` and `foldl`, and parameters) hide
-- outer names. Source: own choice, after CPN ML.
use Rattle.std.specs.Prelude.{ℕ, suc, Bool, false, if◌then◌else◌, ◌||◌, List, [], ◌∷◌, codes, Option, Some, None}
use Rattle.std.specs.Str.{bytes_eq}
use Rattle.cpn_definitions.specs.Colour.{PlainColour}
use Rattle.cpn_definitions.specs.Inscription.{Operation, head, tail, list_length, reversal, membership, string_size, Functions}
use Rattle.cpn_definitions.specs.Net.{Coloured}
use Rattle.cpn_typing.specs.Types.{PlainTy, PlainTys, no_types, more_types}

abbrev pub Name : Type 0
Name = List ℕ

-- ---- what is declared

-- What a declared name means: a variable, by its number, with its type; a constant, by the number of its enumeration and its
-- position; a constructor, by the number of its union and its position, with the type of its argument where it has one; a
-- function, by its number, with the types of its parameters and of its result. A `val` is a function without parameters.
pub data Meant : Type 0 where
  a_variable : ℕ → PlainTy → Meant
  a_constant : ℕ → ℕ → Meant
  a_constructor : ℕ → ℕ → Option PlainTy → Meant
  a_function : ℕ → PlainTys → PlainTy → Meant

-- A colour set under its name; a name with what it means; a constructor, with the type of its argument where it has one.
pub record NamedColour : Type 0 where
  pub name : Name
  pub colour : PlainColour

pub record NamedMeaning : Type 0 where
  pub name : Name
  pub meant : Meant

pub record NamedConstructor : Type 0 where
  pub name : Name
  pub argument : Option PlainTy

-- What has been declared: the colour sets, and the other names, each in their order; by their numbers the variables, the
-- constants of each enumeration, the constructors of each union, and the functions.
pub record Declared : Type 0 where
  pub colours : List NamedColour
  pub names : List NamedMeaning
  pub variables : List Coloured
  pub enumerations : List (List Name)
  pub unions : List (List NamedConstructor)
  pub functions : Functions

-- before the first declaration
abbrev pub nothing_declared : Declared
nothing_declared = record { colours = []; names = []; variables = []; enumerations = []; unions = []; functions = [] }

-- the colour set of a name
abbrev pub colour_among : Name → List NamedColour → Option PlainColour
colour_among n [] = None
colour_among n (c ∷ cs) = if bytes_eq n c.name then Some c.colour else colour_among n cs

abbrev pub colour_named : Name → Declared → Option PlainColour
colour_named n ds = colour_among n ds.colours

-- what a name means among those declared
abbrev pub meant_among : Name → List NamedMeaning → Option Meant
meant_among n [] = None
meant_among n (d ∷ names) = if bytes_eq n d.name then Some d.meant else meant_among n names

-- the predeclared function of a name
abbrev pub predeclared_named : Name → Option Operation
predeclared_named n =
    if bytes_eq n (codes "hd") then Some head
    else if bytes_eq n (codes "tl") then Some tail
    else if bytes_eq n (codes "length") then Some list_length
    else if bytes_eq n (codes "rev") then Some reversal
    else if bytes_eq n (codes "mem") then Some membership
    else if bytes_eq n (codes "size") then Some string_size
    else None

-- ---- scopes

-- A local, with its type.
pub record Local : Type 0 where
  pub name : Name
  pub type_of : PlainTy

-- The locals of a tree in the order of their numbers, the outermost first.
abbrev pub Scope : Type 0
Scope = List Local

abbrev pub local_of : Name → PlainTy → Local
local_of n t = record { name = n; type_of = t }

-- the types of the locals of a scope
abbrev pub types_of_scope : Scope → PlainTys
types_of_scope [] = no_types
types_of_scope (l ∷ ls) = more_types l.type_of (types_of_scope ls)

-- one local further in
abbrev pub further : Option (ℕ × PlainTy) → Option (ℕ × PlainTy) → Option (ℕ × PlainTy)
further (Some l) here = Some (suc l.0, l.1)
further None here = here

-- the number and the type of the innermost local of a name
abbrev pub local_named : Name → Scope → Option (ℕ × PlainTy)
local_named n [] = None
local_named n (l ∷ ls) = further (local_named n ls) (if bytes_eq n l.name then Some (0, l.type_of) else None)

-- whether one of the locals has the name
abbrev pub is_local : Name → Scope → Bool
is_local n [] = false
is_local n (l ∷ ls) = bytes_eq n l.name || is_local n ls

-- What a name means where it stands: a local, by its number; a predeclared function; what is declared; nothing.
pub data Found : Type 0 where
  a_local : ℕ → PlainTy → Found
  predeclared : Operation → Found
  declared : Meant → Found
  nothing : Found

abbrev pub found_in : Option (ℕ × PlainTy) → Option Operation → Option Meant → Found
found_in (Some l) o m = a_local l.0 l.1
found_in None (Some o) m = predeclared o
found_in None None (Some m) = declared m
found_in None None None = nothing

-- A name means its innermost local, else the predeclared function, else what is declared under it.
abbrev pub found : Name → Scope → Declared → Found
found n sc ds = found_in (local_named n sc) (predeclared_named n) (meant_among n ds.names)

-- ---- refusals

-- what there are too many of: nested colour sets, parts of a colour set, variables of a transition
pub data Limit : Type 0 where
  depth : Limit
  nodes : Limit
  variables : Limit

-- Why a text is not accepted: a name that is not there or is of another kind than its context needs; a name that its space or
-- its pattern has already; a form, by its first token, whose type is not the wanted one; a variable in a closed text; a
-- variable that is not bindable; `@+` on an input arc, by the sign; `@`, `@+` or `time` where none may stand, by the sign or
-- word; more than a limit allows; a colour set of integers without a value.
pub data Refusal : Type 0 where
  unknown : Name → Refusal
  duplicate : Name → Refusal
  mismatch : ℕ → Refusal
  not_closed : Name → Refusal
  not_bindable : Name → Refusal
  input_delay : ℕ → Refusal
  time_not_allowed : ℕ → Refusal
  too_many : Limit → Refusal
  empty_colour : Name → Refusal

-- What a check gives: what is accepted, or the first refusal.
pub data Checked (A : Type 0) : Type 0 where
  ok : A → Checked A
  refused : Refusal → Checked A

-- the first refusal counts
infixl 10 ◌>>=◌
abbrev pub ◌>>=◌ : {A B : Type 0} → Checked A → (A → Checked B) → Checked B
(ok x) >>= f = f x
(refused r) >>= f = refused r

-- what is accepted if a condition holds
abbrev pub accepted_if : {A : Type 0} → Bool → Refusal → A → Checked A
accepted_if b r x = if b then ok x else refused r

-- what is there, or the refusal
abbrev pub required : {A : Type 0} → Option A → Refusal → Checked A
required None r = refused r
required (Some x) r = ok x
