-- What is declared, with one thing more or with several names more; and what was there before.
use Rattle.std.specs.Prelude.{◌≡◌, ℕ, ◌+◌, List, [], ◌∷◌, ◌++◌, length, take}
use Rattle.cpn_definitions.specs.Colour.{PlainColour}
use Rattle.cpn_definitions.specs.Inscription.{PlainFunction}
use Rattle.cpn_definitions.specs.Net.{Coloured}
use Rattle.cpn_typing.specs.Names.{Name, Meant, NamedMeaning, NamedConstructor, Declared}
use Rattle.cpn_typing.specs.ColourSets.{Shaped}

abbrev pub with_names : Declared → List NamedMeaning → Declared
with_names ds more = record { colours = ds.colours; names = ds.names ++ more; variables = ds.variables; enumerations = ds.enumerations; unions = ds.unions; functions = ds.functions }

abbrev pub with_one_colour : Declared → Name → PlainColour → Declared
with_one_colour ds n colour = record { colours = ds.colours ++ record { name = n; colour = colour } ∷ []; names = ds.names; variables = ds.variables; enumerations = ds.enumerations; unions = ds.unions; functions = ds.functions }

abbrev pub with_more_variables : Declared → List Coloured → Declared
with_more_variables ds more = record { colours = ds.colours; names = ds.names; variables = ds.variables ++ more; enumerations = ds.enumerations; unions = ds.unions; functions = ds.functions }

abbrev pub with_one_enumeration : Declared → List Name → Declared
with_one_enumeration ds constants = record { colours = ds.colours; names = ds.names; variables = ds.variables; enumerations = ds.enumerations ++ constants ∷ []; unions = ds.unions; functions = ds.functions }

abbrev pub with_one_union : Declared → List NamedConstructor → Declared
with_one_union ds constructors = record { colours = ds.colours; names = ds.names; variables = ds.variables; enumerations = ds.enumerations; unions = ds.unions ++ constructors ∷ []; functions = ds.functions }

abbrev pub with_one_function : Declared → PlainFunction → Declared
with_one_function ds function = record { colours = ds.colours; names = ds.names; variables = ds.variables; enumerations = ds.enumerations; unions = ds.unions; functions = ds.functions ++ function ∷ [] }

-- names in order, each with what a kind gives at its position, from a position on
abbrev pub named_from : (ℕ → Meant) → ℕ → List Name → List NamedMeaning
named_from kind k [] = []
named_from kind k (n ∷ ns) = record { name = n; meant = kind k } ∷ named_from kind (k + 1) ns

-- the names, the last of them first, before those that are taken
abbrev pub all_before : List Name → List Name → List Name
all_before [] taken = taken
all_before (n ∷ ns) taken = all_before ns (n ∷ taken)

-- with what a body brings
abbrev pub with_shaped : Declared → Shaped → Declared
with_shaped ds new = record { colours = ds.colours; names = ds.names ++ new.names; variables = ds.variables; enumerations = ds.enumerations ++ new.enumerations; unions = ds.unions ++ new.unions; functions = ds.functions }

-- ---- what was there before

-- How many there are of each.
pub record Counts : Type 0 where
  pub colours : ℕ
  pub names : ℕ
  pub variables : ℕ
  pub enumerations : ℕ
  pub unions : ℕ
  pub functions : ℕ

abbrev pub counts_of : Declared → Counts
counts_of ds = record { colours = length ds.colours; names = length ds.names; variables = length ds.variables; enumerations = length ds.enumerations; unions = length ds.unions; functions = length ds.functions }

-- the first so many of each
abbrev pub first_of : Counts → Declared → Declared
first_of n ds = record { colours = take n.colours ds.colours; names = take n.names ds.names; variables = take n.variables ds.variables; enumerations = take n.enumerations ds.enumerations; unions = take n.unions ds.unions; functions = take n.functions ds.functions }

-- All that was there is there, and what is new stands behind it.
abbrev pub Grows : Declared → Declared → Type 0
Grows old new = first_of (counts_of old) new ≡ old
