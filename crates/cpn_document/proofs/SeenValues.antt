-- What the members of an object and the items of a list are, seen through the values of the program.
use Rattle.std.proofs.Common.{◌≡◌, ℕ, List, [], ◌∷◌, ◌&&◌, length, map, refl, ap, string_bytes}
use Rattle.std.specs.List.{list_all, list_any}
use Rattle.std.specs.Borrow.{Bor}
use Rattle.std.specs.Str.{bytes_eq}
use Rattle.std.proofs.lemmas.Cmp.{nat_list_eq_equiv}
use Rattle.std.proofs.lemmas.List.{length-map}
use Rattle.cpn_document.specs.Names.{texts_of}
use Rattle.serde_json.specs.View.{view, members_view, items_view}
use Rattle.serde_json.specs.declared.value.Value.{Value}
use Rattle.serde_json.proofs.Views.{Entry}
use Rattle.cpn_document.specs.Parts.{is_one_of, are_among, items_of}

pub items_of_view : (vs : List Value) → items_of (items_view vs) ≡ map view vs
items_of_view [] = refl
items_of_view (v ∷ vs) = ap (λ ds. view v ∷ ds) (items_of_view vs)

pub length_seen : (vs : List Value) → length (map view vs) ≡ length vs
length_seen vs = simp length-map

-- the keys of an object are among these where each key of the map is one of them
pub keys_seen : (ks : List (List ℕ)) (es : List Entry) → are_among ks (members_view es) ≡ list_all (λ key. is_one_of (string_bytes key) ks) (map (λ e. e.0) es)
keys_seen ks [] = refl
keys_seen ks (e ∷ es) = ap (λ b. is_one_of (string_bytes e.0) ks && b) (keys_seen ks es)

-- a text that is one of the texts, seen from each of them
pub contains_seen : (text : List ℕ) (texts : List (Bor (List ℕ))) → list_any (λ t. bytes_eq t.now text) texts ≡ is_one_of text (texts_of texts)
contains_seen text [] = refl
contains_seen text (t ∷ texts) = rw (nat_list_eq_equiv.symm t.now text, contains_seen text texts) refl
