-- What names name, from the lists of the names alone. Source: own choice.
use Rattle.std.specs.Prelude.{◌≡◌, ℕ, suc, if◌then◌else◌, List, [], ◌∷◌, length, map, slice_index_or, Option, Some, None, option_map}
use Rattle.std.specs.Borrow.{Bor}
use Rattle.std.specs.BTreeMap.{BTreeMap, get_by}
use Rattle.std.specs.Cmp.Lexicographic.{slice_cmp}
use Rattle.std.specs.Ordering.{nat_cmp}
use Rattle.std.specs.Str.{bytes_eq}
use Rattle.cpn_document.specs.Document.{RawSub, RawModule, RawMember, RawFusion, RawDocument}
use Rattle.cpn_module.specs.Hierarchy.{PlainSubstitution, PlainStructure, PlainMember}
use Rattle.cpn_module.specs.Named.{position, module_names, place_names, ends_in, assignment_among}

-- the texts that the program refers to, as lists of bytes
abbrev pub texts_of : List (Bor (List ℕ)) → List (List ℕ)
texts_of names = map (λ name. name.now) names

-- the number of a name among names, where it is there
abbrev pub number_of : List ℕ → List (List ℕ) → Option ℕ
number_of name [] = None
number_of name (n ∷ ns) = if bytes_eq name n then Some 0 else option_map (λ i. suc i) (number_of name ns)

-- a map that has the number of each name of a list, and no other names
abbrev pub Numbers : List (List ℕ) → BTreeMap (Bor (List ℕ)) ℕ → Type 0
Numbers names numbers = (name : List ℕ) → get_by (λ k. slice_cmp nat_cmp name k.now) numbers ≡ number_of name names

-- the list of names at a number; past the last there is no name
abbrev pub names_at : List (List (List ℕ)) → ℕ → List (List ℕ)
names_at lists m = slice_index_or lists m []

-- The names of the modules of a document, and those of the places of each.
pub record AreNamesOf (d : RawDocument) (modules : List (List ℕ)) (places : List (List (List ℕ))) : Type 0 where
  pub modules_are : modules ≡ module_names d
  pub places_are : places ≡ map place_names d.modules

-- everything by its number, given the names of the modules and those of the places of each module
abbrev pub substitution_among : List (List ℕ) → List (List (List ℕ)) → List (List ℕ) → RawSub → PlainSubstitution
substitution_among modules places sockets sub = record { submodule = position sub.submodule modules; assignments = map (assignment_among sockets (names_at places (position sub.submodule modules))) sub.assign }

abbrev pub structure_among : List (List ℕ) → List (List (List ℕ)) → RawModule → PlainStructure
structure_among modules places m = record { ports = map (λ p. p.port) m.places; transitions = length m.transitions; arcs = map (ends_in m) m.arcs; substitutions = map (substitution_among modules places (place_names m)) m.subs }

abbrev pub member_among : List (List ℕ) → List (List (List ℕ)) → RawMember → PlainMember
member_among modules places member = record { of_module = position member.of_module modules; place = position member.place (names_at places (position member.of_module modules)) }

abbrev pub fusion_among : List (List ℕ) → List (List (List ℕ)) → RawFusion → List PlainMember
fusion_among modules places fusion = map (member_among modules places) fusion.members
