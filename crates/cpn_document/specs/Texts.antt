-- The names of modules, places and transitions, and flattened names. Source: own choice.
use Rattle.std.specs.Prelude.{ℕ, ◌-◌, ◌==◌, Bool, not, ◌&&◌, ◌||◌, nat_le, List, length, slice_index}
use Rattle.std.specs.List.{list_all, slice_split}

-- bytes of each kind
abbrev pub is_digit : ℕ → Bool
is_digit byte = nat_le 0x30 byte && nat_le byte 0x39

abbrev pub is_letter : ℕ → Bool
is_letter byte = (nat_le 0x41 byte && nat_le byte 0x5A) || (nat_le 0x61 byte && nat_le byte 0x7A)

-- a byte of a name: a letter, a digit, `_`, `-` or a space
abbrev pub is_name_byte : ℕ → Bool
is_name_byte byte = is_letter byte || is_digit byte || byte == 0x5F || byte == 0x2D || byte == 0x20

-- A name of a module, a place or a transition: 1 to 64 such bytes, the first a letter, the last no space.
unfoldable pub is_name : List ℕ → Bool
is_name text = is_letter (slice_index text 0) && list_all is_name_byte text && not (slice_index text (length text - 1) == 0x20) && nat_le (length text) 64

-- A flattened name: names joined by `/`.
unfoldable pub is_flat_name : List ℕ → Bool
is_flat_name text = list_all is_name (slice_split (λ byte. byte == 0x2F) text)
