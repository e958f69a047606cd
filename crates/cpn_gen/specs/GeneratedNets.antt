-- The generated nets: places in a ring, each with one token, and between each two neighbours a transition that moves tokens on. The net of a
-- number is a document. Source: own choice.
use Rattle.std.specs.Prelude.{ℕ, ◌+◌, ◌%◌, List, [], ◌∷◌, ◌++◌, map, codes, decimal}
use Rattle.std.specs.List.{flat_map, range_with_len}
use Rattle.serde_json.specs.Data as json
use Rattle.serde_json.specs.Data.{Data, unsigned, string, array, object, Members, no_members, member}
use Rattle.serde_json.specs.View.{items_of}
use Rattle.serde_json.specs.Written.{compact_text}

-- ---- JSON values

-- a list of values
abbrev pub list : List Data → Data
list values = array (items_of values)

-- the members of an object, in the order of their keys
abbrev pub members : List (List ℕ × Data) → Members
members [] = no_members
members (m ∷ ms) = member m.0 m.1 (members ms)

-- an object whose members are texts
abbrev pub texts : List (List ℕ × List ℕ) → Data
texts pairs = object (members (map (λ p. (p.0, string p.1)) pairs))

-- ---- the parts of a net, by their numbers

-- the first n numbers
abbrev pub numbers_below : ℕ → List ℕ
numbers_below n = range_with_len 0 n

-- the name of a place: `P0`, `P1` and so on
abbrev pub place_name : ℕ → List ℕ
place_name i = codes "P" ++ decimal i

-- the name of a transition: `t0`, `t1` and so on
abbrev pub transition_name : ℕ → List ℕ
transition_name i = codes "t" ++ decimal i

-- one token of a value and a time stamp
abbrev pub one_token : ℕ → ℕ → List ℕ
one_token value stamp = codes "1`" ++ decimal value ++ codes "@" ++ decimal stamp

-- a place, with a token: its value is the number of the place, and its time stamp is that number modulo 7
abbrev pub place : ℕ → Data
place i = texts ((codes "colour", codes "T") ∷ (codes "initial", one_token i (i % 7)) ∷ (codes "name", place_name i) ∷ [])

-- a transition, with a delay of 1 to 5
abbrev pub transition : ℕ → Data
transition i = texts ((codes "delay", decimal (1 + i % 5)) ∷ (codes "name", transition_name i) ∷ [])

-- an arc between a place and a transition, to the one that `to` says: it moves a token of whatever value
abbrev pub arc : ℕ → ℕ → List ℕ → Data
arc i t to = texts ((codes "expr", codes "x") ∷ (codes "place", place_name i) ∷ (codes "to", to) ∷ (codes "transition", transition_name t) ∷ [])

-- the number of the next place in a ring of n: after the last one comes the first
abbrev pub next : ℕ → ℕ → ℕ
next n i = (i + 1) % n

-- the arcs of a transition in a ring of n: from the place of its number, and to the next place
abbrev pub arcs_of : ℕ → ℕ → List Data
arcs_of n i = arc i i (codes "transition") ∷ arc (next n i) i (codes "place") ∷ []

-- ---- the net

-- the module with these arcs, places and transitions
abbrev pub module_of : Data → Data → Data → Data
module_of arcs places transitions =
    object (members ((codes "arcs", arcs) ∷ (codes "name", string (codes "Top")) ∷ (codes "places", places) ∷ (codes "transitions", transitions) ∷ []))

-- the ring of n places
abbrev pub ring : ℕ → Data
ring n = module_of (list (flat_map (arcs_of n) (numbers_below n))) (list (map place (numbers_below n))) (list (map transition (numbers_below n)))

-- the declarations: values are integers with a time stamp, and a variable stands for one
abbrev pub declarations : Data
declarations = list (string (codes "colset T = int timed;") ∷ string (codes "var x : T;") ∷ [])

-- the document with this module
abbrev pub document_of : Data → Data
document_of top =
    object (members ((codes "declarations", declarations) ∷ (codes "modules", list (top ∷ [])) ∷ (codes "top", string (codes "Top")) ∷ (codes "version", json.number (unsigned 1)) ∷ []))

-- how many places the net of a number has, and how many transitions: 1 to 1,000
abbrev pub size_of : ℕ → ℕ
size_of number = number % 1000 + 1

-- the document of a ring of n places
abbrev pub document : ℕ → Data
document n = document_of (ring n)

-- Generated: the text of the net of a number, which is its document, written without blanks.
unfoldable pub generated : ℕ → List ℕ
generated number = compact_text (document (size_of number))
