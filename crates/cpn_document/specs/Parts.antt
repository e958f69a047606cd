-- The parts of a JSON value, and the rules of what stands at a key. What is not there, or is of another kind, is as if it
-- were empty: a rule says that it has to be there. Source: own choice.
use Rattle.std.specs.Prelude.{ℕ, suc, Bool, true, false, not, ◌&&◌, nat_le, List, [], ◌∷◌, ◌++◌, map, Option, Some, None, option_map, option_and_then, is_some, codes}
use Rattle.std.specs.Option.{unwrap_or}
use Rattle.std.specs.List.{list_any}
use Rattle.std.specs.Str.{bytes_eq}
use Rattle.serde_json.specs.Data.{Data, Items, no_items, item, Members, no_members, member}
use Rattle.serde_json.specs.Find.{get, as_number, as_str, as_u64, as_array, as_object}
use Rattle.cpn_document.specs.Refusals.{shape, bad_number, bad_name, limit}
use Rattle.cpn_document.specs.Rules.{Rule}
use Rattle.cpn_document.specs.Texts.{is_name, is_flat_name}
use Rattle.cpn_document.specs.declared.pointers.Pointer.{Pointer}
use Rattle.cpn_document.specs.declared.refusals.Limit.{Limit}

-- ---- parts

-- whether a text is one of the texts
abbrev pub is_one_of : List ℕ → List (List ℕ) → Bool
is_one_of text texts = list_any (bytes_eq text) texts

-- whether the keys of the members of an object are all among these
abbrev pub are_among : List (List ℕ) → Members → Bool
are_among keys no_members = true
are_among keys (member key d ms) = is_one_of key keys && are_among keys ms

-- the items of a list
abbrev pub items_of : Items → List Data
items_of no_items = []
items_of (item d ds) = d ∷ items_of ds

-- the members of an object, the text that a value is, the text and the items of the list at a key
abbrev pub members_in : Data → Members
members_in d = unwrap_or (as_object d) no_members

unfoldable pub text_in : Data → List ℕ
text_in d = unwrap_or (as_str d) []

unfoldable pub text_at : List ℕ → Data → List ℕ
text_at key d = unwrap_or (option_and_then as_str (get key d)) []

unfoldable pub items_at : List ℕ → Data → List Data
items_at key d = items_of (unwrap_or (option_and_then as_array (get key d)) no_items)

-- the text at a key, or none where the key is missing
unfoldable pub optional_text_at : List ℕ → Data → Option (List ℕ)
optional_text_at key d = option_map text_in (get key d)

-- the number at a key, where a whole number from 0 to 2^64 - 1 stands there
unfoldable pub number_at : List ℕ → Data → Option ℕ
number_at key d = option_and_then as_u64 (option_and_then as_number (get key d))

-- the names of items
abbrev pub names_in : List Data → List (List ℕ)
names_in ds = map (text_at (codes "name")) ds

-- ---- rules

-- a value is an object with no other keys than these
unfoldable pub object_rules : List (List ℕ) → Pointer → Data → List Rule
object_rules keys here d =
    record { kept = is_some (as_object d); refusal = shape here }
    ∷ record { kept = are_among keys (members_in d); refusal = shape here }
    ∷ []

-- a value is a text
unfoldable pub text_in_rules : Pointer → Data → List Rule
text_in_rules here d = record { kept = is_some (as_str d); refusal = shape here } ∷ []

-- a key is there in the object `whole`
abbrev pub there_rule : List ℕ → Pointer → Data → Rule
there_rule key whole d = record { kept = is_some (get key d); refusal = shape whole }

-- a text stands at a key, of the object `whole`
unfoldable pub text_rules : List ℕ → Pointer → Pointer → Data → List Rule
text_rules key whole here d = there_rule key whole d ∷ record { kept = is_some (option_and_then as_str (get key d)); refusal = shape here } ∷ []

-- a name stands at a key
unfoldable pub name_rules : List ℕ → Pointer → Pointer → Data → List Rule
name_rules key whole here d = text_rules key whole here d ++ record { kept = is_name (text_at key d); refusal = bad_name here } ∷ []

-- a name stands at a key that none of those before it is
unfoldable pub new_name_rules : List ℕ → Pointer → Pointer → List (List ℕ) → Data → List Rule
new_name_rules key whole here earlier d = name_rules key whole here d ++ record { kept = not (is_one_of (text_at key d) earlier); refusal = bad_name here } ∷ []

-- a flattened name stands at a key
unfoldable pub flat_name_rules : List ℕ → Pointer → Pointer → Data → List Rule
flat_name_rules key whole here d = text_rules key whole here d ++ record { kept = is_flat_name (text_at key d); refusal = bad_name here } ∷ []

-- whether a number is one from the first to the last
abbrev pub is_within : ℕ → ℕ → ℕ → Bool
is_within first last n = nat_le first n && nat_le n last

-- a whole number from the first to the last stands at a key
unfoldable pub number_rules : ℕ → ℕ → List ℕ → Pointer → Pointer → Data → List Rule
number_rules first last key whole here d =
    there_rule key whole d
    ∷ record { kept = unwrap_or (option_map (is_within first last) (number_at key d)) false; refusal = bad_number here }
    ∷ []

-- one of these words stands at a key
unfoldable pub word_rules : List (List ℕ) → List ℕ → Pointer → Pointer → Data → List Rule
word_rules words key whole here d = text_rules key whole here d ++ record { kept = is_one_of (text_at key d) words; refusal = shape here } ∷ []

-- a list stands at a key
unfoldable pub list_rules : List ℕ → Pointer → Pointer → Data → List Rule
list_rules key whole here d = there_rule key whole d ∷ record { kept = is_some (option_and_then as_array (get key d)); refusal = shape here } ∷ []

-- what may be missing: rules of what stands at a key count where something does
unfoldable pub where_there : List ℕ → Data → List Rule → List Rule
where_there key d rules = if_there (get key d)
  where
    if_there : Option Data → List Rule
    if_there None = []
    if_there (Some e) = rules

-- the rules of each item of a list of things that have names, by its number from a number on and the names of those before it
unfoldable pub each_named : (ℕ → List (List ℕ) → Data → List Rule) → ℕ → List (List ℕ) → List Data → List Rule
each_named rules i earlier [] = []
each_named rules i earlier (d ∷ ds) = rules i earlier d ++ each_named rules (suc i) (earlier ++ text_at (codes "name") d ∷ []) ds

-- there are not too many of something
unfoldable pub limit_rules : Bool → Limit → List Rule
limit_rules few kind = record { kept = few; refusal = limit kind } ∷ []
