-- Nets in which a name tells one thing apart from all others of its kind, and how names are spelled. Source: own choice; that
-- places and transitions have names of their own is Jensen and Kristensen, chapter 4.
use Rattle.std.specs.Prelude.{◌≡◌, ℕ, Bool, true, false, ◌&&◌, ◌||◌, ◌==◌, nat_le, List, [], ◌∷◌, map}
use Rattle.std.specs.List.{AllByRecursion, IsDistinct, list_all}
use Rattle.std.specs.Str.{bytes_eq}
use Rattle.cpn_definitions.specs.Net.{PlainNet}

-- no two of the names are the same
abbrev pub AreDistinct : List (List ℕ) → Type 0
AreDistinct names = IsDistinct bytes_eq names

-- the names of the places, of the transitions and of the variables of a net
abbrev pub place_names : PlainNet → List (List ℕ)
place_names n = map (λ place. place.name) n.places

abbrev pub transition_names : PlainNet → List (List ℕ)
transition_names n = map (λ transition. transition.name) n.transitions

abbrev pub variable_names : PlainNet → List (List ℕ)
variable_names n = map (λ variable. variable.name) n.variables

-- Distinct names: no two places have one name, and no two transitions, no two variables, no two constants of an enumeration and no
-- two constructors of a union.
pub record HasDistinctNames (n : PlainNet) : Type 0 where
  pub places : AreDistinct (place_names n)
  pub transitions : AreDistinct (transition_names n)
  pub variables : AreDistinct (variable_names n)
  pub constants : AllByRecursion AreDistinct n.constants
  pub constructors : AllByRecursion AreDistinct n.constructors

-- ---- how names are spelled

abbrev pub is_letter : ℕ → Bool
is_letter byte = (nat_le 0x41 byte && nat_le byte 0x5A) || (nat_le 0x61 byte && nat_le byte 0x7A)

abbrev pub is_digit : ℕ → Bool
is_digit byte = nat_le 0x30 byte && nat_le byte 0x39

-- a byte of a word: a letter, a digit or `_`
abbrev pub is_word_byte : ℕ → Bool
is_word_byte byte = is_letter byte || is_digit byte || byte == 0x5F

-- a byte of a path: a byte of a word, `-`, a space, or the `/` between the names of a path
abbrev pub is_path_byte : ℕ → Bool
is_path_byte byte = is_word_byte byte || byte == 0x2D || byte == 0x20 || byte == 0x2F

-- a word: a letter, and then bytes of a word
abbrev pub is_word : List ℕ → Bool
is_word [] = false
is_word (first ∷ rest) = is_letter first && list_all is_word_byte rest

-- a path: a letter, and then bytes of a path
abbrev pub is_path : List ℕ → Bool
is_path [] = false
is_path (first ∷ rest) = is_letter first && list_all is_path_byte rest

-- Well spelled: the names of places and transitions are paths, and those of variables, constants and constructors are words.
pub record HasWellSpelledNames (n : PlainNet) : Type 0 where
  pub places : list_all is_path (place_names n) ≡ true
  pub transitions : list_all is_path (transition_names n) ≡ true
  pub variables : list_all is_word (variable_names n) ≡ true
  pub constants : list_all (list_all is_word) n.constants ≡ true
  pub constructors : list_all (list_all is_word) n.constructors ≡ true
