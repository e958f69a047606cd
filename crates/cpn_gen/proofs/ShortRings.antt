-- The text of a ring is short: each byte of a text is written with at most six, and the numbers in it have at most three digits.
use Rattle.std.proofs.Common.{◌≡◌, ℕ, zero, suc, ◌+◌, ◌*◌, ◌/◌, ◌%◌, ◌^◌, ◌<◌, ◌≤◌, List, [], ◌∷◌, ◌++◌, length, map, Bool, true, false, cond, nat_lt, codes, decimal, arith}
use Rattle.std.proofs.lemmas.List.{length-append}
use Rattle.std.proofs.lemmas.Fmt.{length-decimal-le}
use Rattle.std.proofs.lemmas.Nat.{mod_below}
use Rattle.std.specs.Char.{digit_char}
use Rattle.std.specs.List.{flat_map, range_with_len}
use Rattle.json.specs.Print.{escape_byte, escape_letter, escape, quoted}
use Rattle.serde_json.specs.Data as values
use Rattle.serde_json.specs.Data.{Data, unsigned, string}
use Rattle.serde_json.specs.View.{items_of}
use Rattle.serde_json.specs.Written.{comma_if, compact_text, items_text, members_text}
use Rattle.cpn_gen.specs.GeneratedNets.{list, members, numbers_below, place_name, transition_name, one_token, place, transition, arc, next, arcs_of, ring, declarations, size_of, document, generated}

-- ---- values

by_cases : (b : ℕ) (named small : Bool) → length (cond named (92 ∷ escape_letter b ∷ []) (cond small (92 ∷ 117 ∷ 48 ∷ 48 ∷ digit_char (b / 16) ∷ digit_char (b % 16) ∷ []) (b ∷ []))) ≤ 6
by_cases b true small = omega arith
by_cases b false true = omega arith
by_cases b false false = omega arith

byte_short : (b : ℕ) → length (escape_byte b) ≤ 6
unfolding escape_byte
byte_short b = by_cases b (nat_lt 0 (escape_letter b)) (nat_lt b 32)

escaped_short : (text : List ℕ) → length (escape text) ≤ 6 * length text
escaped_short [] = omega arith
escaped_short (b ∷ text) = omega (arith, length-append (escape_byte b) (escape text), byte_short b, escaped_short text)

text_short : (text : List ℕ) → length (quoted text) ≤ 6 * length text + 2
text_short text = omega (arith, length-append (escape text) (34 ∷ []), escaped_short text)

comma_short : (later : Bool) → length (comma_if later) ≤ 1
comma_short true = omega arith
comma_short false = omega arith

-- at most so long are members
abbrev weight : List (List ℕ × Data) → ℕ
weight [] = 1
weight (m ∷ ms) = 6 * length m.0 + length (compact_text m.1) + 4 + weight ms

members_short : (later : Bool) (ms : List (List ℕ × Data)) → length (members_text later (members ms)) ≤ weight ms
members_short later [] = omega arith
members_short later (m ∷ ms) =
    let rest = members_text true (members ms) in
    let value = compact_text m.1 in
    omega (
      arith,
      length-append (comma_if later) (quoted m.0 ++ 58 ∷ (value ++ rest)),
      length-append (quoted m.0) (58 ∷ (value ++ rest)),
      length-append value rest,
      comma_short later,
      text_short m.0,
      members_short true ms,
    )

-- ---- the parts of a ring

three_digits : (i : ℕ) → i < 1000 → length (decimal i) ≤ 3
three_digits i few = length-decimal-le 3 i (omega arith) few (omega arith)

token_length : (value stamp : ℕ) → length (one_token value stamp) ≡ length (decimal value) + length (decimal stamp) + 3
token_length value stamp = omega (arith, length-append (codes "1`" ++ decimal value ++ codes "@") (decimal stamp), length-append (decimal value) (codes "@"))

place_short : (i : ℕ) → i < 1000 → length (compact_text (place i)) < 300
place_short i few =
    let stamp : i % 7 < 1000 = omega arith in
    omega (
      arith,
      members_short false ((codes "colour", string (codes "T")) ∷ (codes "initial", string (one_token i (i % 7))) ∷ (codes "name", string (place_name i)) ∷ []),
      text_short (codes "T"),
      text_short (one_token i (i % 7)),
      token_length i (i % 7),
      text_short (place_name i),
      three_digits i few,
      three_digits (i % 7) stamp,
    )

transition_short : (i : ℕ) → i < 1000 → length (compact_text (transition i)) < 300
transition_short i few =
    let delay : 1 + i % 5 < 1000 = omega arith in
    omega (
      arith,
      members_short false ((codes "delay", string (decimal (1 + i % 5))) ∷ (codes "name", string (transition_name i)) ∷ []),
      text_short (decimal (1 + i % 5)),
      text_short (transition_name i),
      three_digits i few,
      three_digits (1 + i % 5) delay,
    )

arc_short : (i t : ℕ) (to : List ℕ) → i < 1000 → t < 1000 → length to ≤ 10 → length (compact_text (arc i t to)) < 300
arc_short i t to few few_too short =
    omega (
      arith,
      members_short false ((codes "expr", string (codes "x")) ∷ (codes "place", string (place_name i)) ∷ (codes "to", string to) ∷ (codes "transition", string (transition_name t)) ∷ []),
      text_short (codes "x"),
      text_short (place_name i),
      text_short to,
      text_short (transition_name t),
      three_digits i few,
      three_digits t few_too,
    )

-- ---- its lists

parts_short : (f : ℕ → Data) → ((i : ℕ) → i < 1000 → length (compact_text (f i)) < 300) → (later : Bool) (a n : ℕ) → a + n ≤ 1000 → length (items_text later (items_of (map f (range_with_len a n)))) ≤ 300 * n + 1
parts_short f each later a zero within = omega arith
parts_short f each later a (suc n) within =
    let rest = items_text true (items_of (map f (range_with_len (a + 1) n))) in
    omega (
      arith,
      length-append (comma_if later) (compact_text (f a) ++ rest),
      length-append (compact_text (f a)) rest,
      comma_short later,
      each a (omega arith),
      parts_short f each true (a + 1) n (omega arith),
    )

arcs_short : (size : ℕ) → 0 < size → size ≤ 1000 → (later : Bool) (a n : ℕ) → a + n ≤ 1000 → length (items_text later (items_of (flat_map (arcs_of size) (range_with_len a n)))) ≤ 600 * n + 1
arcs_short size some few later a zero within = omega arith
arcs_short size some few later a (suc n) within =
    let rest = items_text true (items_of (flat_map (arcs_of size) (range_with_len (a + 1) n))) in
    let first = compact_text (arc a a (codes "transition")) in
    let second = compact_text (arc (next size a) a (codes "place")) in
    let after : next size a < 1000 = omega (arith, mod_below (a + 1) size some) in
    omega (
      arith,
      length-append (comma_if later) (first ++ (comma_if true ++ (second ++ rest))),
      length-append first (comma_if true ++ (second ++ rest)),
      length-append second rest,
      comma_short later,
      arc_short a a (codes "transition") (omega arith) (omega arith) (omega arith),
      arc_short (next size a) a (codes "place") after (omega arith) (omega arith),
      arcs_short size some few true (a + 1) n (omega arith),
    )

-- ---- the whole text

ring_short : (n : ℕ) → 0 < n → n ≤ 1000 → length (compact_text (ring n)) ≤ 1200 * n + 200
ring_short n some few =
    let arcs = list (flat_map (arcs_of n) (numbers_below n)) in
    let places = list (map place (numbers_below n)) in
    let transitions = list (map transition (numbers_below n)) in
    omega (
      arith,
      members_short false ((codes "arcs", arcs) ∷ (codes "name", string (codes "Top")) ∷ (codes "places", places) ∷ (codes "transitions", transitions) ∷ []),
      text_short (codes "Top"),
      arcs_short n some few false 0 n (omega arith),
      parts_short place place_short false 0 n (omega arith),
      parts_short transition transition_short false 0 n (omega arith),
    )

-- a list of one value
one_short : (value : Data) → length (compact_text (list (value ∷ []))) ≤ length (compact_text value) + 2
one_short value = omega (arith, length-append (compact_text value) (93 ∷ []))

-- the texts of the declarations have 22 and 10 bytes
declarations_short : length (compact_text declarations) ≤ 300
declarations_short =
    let first = quoted (codes "colset T = int timed;") in
    let second = quoted (codes "var x : T;") in
    omega (arith, length-append first (44 ∷ (second ++ 93 ∷ [])), length-append second (93 ∷ []), text_short (codes "colset T = int timed;"), text_short (codes "var x : T;"))

document_short : (n : ℕ) → 0 < n → n ≤ 1000 → length (compact_text (document n)) < 2 ^ 21
document_short n some few =
    let modules = list (ring n ∷ []) in
    omega (
      arith,
      members_short false ((codes "declarations", declarations) ∷ (codes "modules", modules) ∷ (codes "top", string (codes "Top")) ∷ (codes "version", values.number (unsigned 1)) ∷ []),
      declarations_short,
      one_short (ring n),
      ring_short n some few,
      text_short (codes "Top"),
      three_digits 1 (omega arith),
    )

pub short : (number : ℕ) → length (generated number) < 2 ^ 21
unfolding generated
short number = document_short (size_of number) (omega arith) (omega (arith, mod_below number 1000 (omega arith)))
