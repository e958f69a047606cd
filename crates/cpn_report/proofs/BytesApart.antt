-- Texts that are told apart from what follows them: bytes of one kind end before a byte of another, and a string in quotes
-- ends at the first quote that has no backslash in front.
use Rattle.std.proofs.Common.{◌≡◌, ◌∙◌, refl, sym, ap, ap₂, true≢false, ℕ, zero, suc, ◌+◌, ◌<◌, ◌^◌, ◌%◌, ◌/◌, ◌==◌, ◌||◌, Bool, true, false, if◌then◌else◌, nat_lt, nat_le, ℤ, pos, negsuc, int_le, List, [], ◌∷◌, ◌++◌, length, drop, get_or, append_assoc, arith}
use Rattle.std.specs.Prelude.{codes}
use Rattle.std.specs.List.{list_all, flat_map}
use Rattle.std.specs.Fmt.{decimal, digits, digits_onto, digit_glyph}
use Rattle.std.proofs.lemmas.Bool.{and_parts, and_from, or_left, or_right, le-leb, lt-ltb, leb-true, ltb-true}
use Rattle.std.proofs.lemmas.Fmt.{decimal_nonempty, decimal_injective}
use Rattle.cpn_definitions.specs.DistinctNames.{is_letter, is_digit, is_word_byte, is_path_byte, is_word, is_path}
use Rattle.cpn_definitions.specs.Integers.{has_64_bits}
use Rattle.cpn_report.specs.ValueText.{byte_text, int_text, truth_text, string_text}

-- ---- bytes of one kind

-- what each byte of a list passes, it passes by a weaker test
pub all_weaker : (test weaker : ℕ → Bool) → ((byte : ℕ) → test byte ≡ true → weaker byte ≡ true) → (xs : List ℕ) → list_all test xs ≡ true → list_all weaker xs ≡ true
all_weaker test weaker so [] all = refl
all_weaker test weaker so (x ∷ xs) all =
    let parts = and_parts (test x) (list_all test xs) all in
    and_from (weaker x) (list_all weaker xs) (so x parts.0) (all_weaker test weaker so xs parts.1)

-- bytes that pass are the same, and what follows them, where the byte that follows does not pass
pub bytes_apart : (test : ℕ → Bool) (xs ys r s : List ℕ) → list_all test xs ≡ true → list_all test ys ≡ true → test (get_or r 0 0) ≡ false → test (get_or s 0 0) ≡ false → xs ++ r ≡ ys ++ s → (xs ≡ ys) × (r ≡ s)
bytes_apart test [] [] r s all others er es e = (refl, e)
bytes_apart test [] (y ∷ ys) r s all others er es e =
    let first : get_or r 0 0 ≡ y = ap (λ t. get_or t 0 0) e in
    absurd (true≢false (sym (and_parts (test y) (list_all test ys) others).0 ∙ ap test (sym first) ∙ er))
bytes_apart test (x ∷ xs) [] r s all others er es e =
    let first : x ≡ get_or s 0 0 = ap (λ t. get_or t 0 0) e in
    absurd (true≢false (sym (and_parts (test x) (list_all test xs) all).0 ∙ ap test first ∙ es))
bytes_apart test (x ∷ xs) (y ∷ ys) r s all others er es e =
    let first : x ≡ y = ap (λ t. get_or t 0 0) e in
    let rest = bytes_apart test xs ys r s (and_parts (test x) (list_all test xs) all).1 (and_parts (test y) (list_all test ys) others).1 er es (ap (drop 1) e) in
    (ap₂ (λ z zs. z ∷ zs) first rest.0, rest.1)

-- a text that is not empty begins with one of its bytes
pub begins_so : (test : ℕ → Bool) (xs r : List ℕ) → list_all test xs ≡ true → 0 < length xs → test (get_or (xs ++ r) 0 0) ≡ true
begins_so test [] r all some = absurd (omega arith)
begins_so test (x ∷ xs) r all some = (and_parts (test x) (list_all test xs) all).0

-- ---- words and paths

digit_is_word : (byte : ℕ) → is_digit byte ≡ true → is_word_byte byte ≡ true
digit_is_word byte is = or_left (is_letter byte || is_digit byte) (byte == 0x5F) (or_right (is_letter byte) (is_digit byte) is)

letter_is_word : (byte : ℕ) → is_letter byte ≡ true → is_word_byte byte ≡ true
letter_is_word byte is = or_left (is_letter byte || is_digit byte) (byte == 0x5F) (or_left (is_letter byte) (is_digit byte) is)

word_is_path : (byte : ℕ) → is_word_byte byte ≡ true → is_path_byte byte ≡ true
word_is_path byte is = or_left (is_word_byte byte || byte == 0x2D || byte == 0x20) (byte == 0x2F) (or_left (is_word_byte byte || byte == 0x2D) (byte == 0x20) (or_left (is_word_byte byte) (byte == 0x2D) is))

pub word_bytes : (name : List ℕ) → is_word name ≡ true → list_all is_word_byte name ≡ true
word_bytes [] is = cc
word_bytes (c ∷ cs) is = let parts = and_parts (is_letter c) (list_all is_word_byte cs) is in and_from (is_word_byte c) (list_all is_word_byte cs) (letter_is_word c parts.0) parts.1

pub path_bytes : (name : List ℕ) → is_path name ≡ true → list_all is_path_byte name ≡ true
path_bytes [] is = cc
path_bytes (c ∷ cs) is = let parts = and_parts (is_letter c) (list_all is_path_byte cs) is in and_from (is_path_byte c) (list_all is_path_byte cs) (word_is_path c (letter_is_word c parts.0)) parts.1

-- a word begins with a letter
pub word_begins : (name r : List ℕ) → is_word name ≡ true → is_letter (get_or (name ++ r) 0 0) ≡ true
word_begins [] r is = cc
word_begins (c ∷ cs) r is = (and_parts (is_letter c) (list_all is_word_byte cs) is).0

-- ---- numbers

glyph_is_digit : (d : ℕ) → d < 10 → is_digit (digit_glyph false d) ≡ true
glyph_is_digit d small = by (nat_lt d 10) refl
  where
    by : (b : Bool) → nat_lt d 10 ≡ b → is_digit (if b then 48 + d else 87 + d) ≡ true
    by true e = and_from (nat_le 0x30 (48 + d)) (nat_le (48 + d) 0x39) (le-leb 0x30 (48 + d) (omega arith)) (le-leb (48 + d) 0x39 (omega arith))
    by false e = absurd (true≢false (sym (lt-ltb d 10 small) ∙ e))

onto_digits : (k n : ℕ) (acc : List ℕ) → list_all is_digit acc ≡ true → list_all is_digit (digits_onto k 10 false n acc) ≡ true
onto_digits zero n acc all = all
onto_digits (suc k) n acc all =
    let more : list_all is_digit (digit_glyph false (n % 10) ∷ acc) ≡ true = and_from (is_digit (digit_glyph false (n % 10))) (list_all is_digit acc) (glyph_is_digit (n % 10) (omega arith)) all in
    either (n / 10 == 0) (digit_glyph false (n % 10) ∷ acc) (digits_onto k 10 false (n / 10) (digit_glyph false (n % 10) ∷ acc)) more (onto_digits k (n / 10) (digit_glyph false (n % 10) ∷ acc) more)
  where
    either : (b : Bool) (xs ys : List ℕ) → list_all is_digit xs ≡ true → list_all is_digit ys ≡ true → list_all is_digit (if b then xs else ys) ≡ true
    either true xs ys p q = p
    either false xs ys p q = q

pub decimal_digits : (n : ℕ) → list_all is_digit (decimal n) ≡ true
unfolding digits
decimal_digits n = onto_digits 64 n [] refl

pub decimal_bytes : (n : ℕ) → list_all is_word_byte (decimal n) ≡ true
decimal_bytes n = all_weaker is_digit is_word_byte digit_is_word (decimal n) (decimal_digits n)

-- a number begins with a digit
pub decimal_begins : (n : ℕ) (r : List ℕ) → n < 2 ^ 64 → is_digit (get_or (decimal n ++ r) 0 0) ≡ true
decimal_begins n r small = begins_so is_digit (decimal n) r (decimal_digits n) (decimal_nonempty n small)

-- two numbers are the same, and what follows them, where no byte of a word follows
pub numbers_apart : (j k : ℕ) (r s : List ℕ) → j < 2 ^ 64 → k < 2 ^ 64 → is_word_byte (get_or r 0 0) ≡ false → is_word_byte (get_or s 0 0) ≡ false → decimal j ++ r ≡ decimal k ++ s → (j ≡ k) × (r ≡ s)
numbers_apart j k r s lj lk er es e =
    let apart = bytes_apart is_word_byte (decimal j) (decimal k) r s (decimal_bytes j) (decimal_bytes k) er es e in
    (decimal_injective j k lj lk apart.0, apart.1)

-- what is an integer of 64 bits, in natural numbers
abbrev pub IsShort : ℤ → Type 0
IsShort (pos n) = n < 2 ^ 63
IsShort (negsuc n) = n < 2 ^ 63

-- an integer between two of 64 bits is one
pub short_between : (low high z : ℤ) → has_64_bits low ≡ true → has_64_bits high ≡ true → int_le low z ≡ true → int_le z high ≡ true → IsShort z
short_between low (pos h) (pos n) sl sh l h' = omega (arith, ltb-true h (2 ^ 63) sh, leb-true n h h')
short_between low (negsuc h) (pos n) sl sh l h' = cc
short_between (pos m) high (negsuc n) sl sh l h' = cc
short_between (negsuc m) high (negsuc n) sl sh l h' = omega (arith, ltb-true m (2 ^ 63) sl, leb-true n m l)

-- two integers are the same, and what follows them, where no byte of a word follows
pub integers_apart : (y z : ℤ) (r s : List ℕ) → IsShort y → IsShort z → is_word_byte (get_or r 0 0) ≡ false → is_word_byte (get_or s 0 0) ≡ false → int_text y ++ r ≡ int_text z ++ s → (y ≡ z) × (r ≡ s)
integers_apart (pos m) (pos n) r s sy sz er es e = let apart = numbers_apart m n r s (omega arith) (omega arith) er es e in (ap pos apart.0, apart.1)
integers_apart (pos m) (negsuc n) r s sy sz er es e = absurd (true≢false (sym (decimal_begins m r (omega arith)) ∙ ap (λ t. is_digit (get_or t 0 0)) e))
integers_apart (negsuc m) (pos n) r s sy sz er es e = absurd (true≢false (sym (decimal_begins n s (omega arith)) ∙ ap (λ t. is_digit (get_or t 0 0)) (sym e)))
integers_apart (negsuc m) (negsuc n) r s sy sz er es e =
    let apart = numbers_apart (suc m) (suc n) r s (omega arith) (omega arith) er es (ap (drop 1) e) in
    (ap negsuc (omega (arith, apart.0)), apart.1)

-- ---- truth values

pub truths_apart : (b c : Bool) (r s : List ℕ) → truth_text b ++ r ≡ truth_text c ++ s → (b ≡ c) × (r ≡ s)
truths_apart false false r s e = (refl, ap (drop 5) e)
truths_apart true true r s e = (refl, ap (drop 4) e)
truths_apart false true r s e = let first : 102 ≡ 116 = ap (λ t. get_or t 0 0) e in absurd (omega (arith, first))
truths_apart true false r s e = let first : 116 ≡ 102 = ap (λ t. get_or t 0 0) e in absurd (omega (arith, first))

-- ---- strings

-- whether a byte has a backslash in front
abbrev is_marked : ℕ → Bool
is_marked byte = (byte == 0x22) || (byte == 0x5C)

abbrev marked : Bool → ℕ → List ℕ
marked mark byte = if mark then 0x5C ∷ byte ∷ [] else byte ∷ []

-- no byte is written as the quote that ends a string
no_quote : (mark : Bool) (y : ℕ) (r : List ℕ) → is_marked y ≡ mark → get_or (marked mark y ++ r) 0 0 ≡ 0x22 → ⊥
no_quote true y r is e = omega (arith, e)
no_quote false y r is e = true≢false (sym (ap is_marked e) ∙ is)

one_byte : (mark other : Bool) (x y : ℕ) (r s : List ℕ) → is_marked x ≡ mark → is_marked y ≡ other → marked mark x ++ r ≡ marked other y ++ s → (x ≡ y) × (r ≡ s)
one_byte true true x y r s ix iy e = (ap (λ t. get_or t 1 0) e, ap (drop 2) e)
one_byte false false x y r s ix iy e = (ap (λ t. get_or t 0 0) e, ap (drop 1) e)
one_byte true false x y r s ix iy e = let first : 0x5C ≡ y = ap (λ t. get_or t 0 0) e in absurd (true≢false (ap is_marked first ∙ iy))
one_byte false true x y r s ix iy e = let first : x ≡ 0x5C = ap (λ t. get_or t 0 0) e in absurd (true≢false (sym (ap is_marked first) ∙ ix))

quoted_apart : (xs ys r s : List ℕ) → flat_map byte_text xs ++ (0x22 ∷ r) ≡ flat_map byte_text ys ++ (0x22 ∷ s) → (xs ≡ ys) × (r ≡ s)
quoted_apart [] [] r s e = (refl, ap (drop 1) e)
quoted_apart [] (y ∷ ys) r s e =
    let assoc = append_assoc (byte_text y) (flat_map byte_text ys) (0x22 ∷ s) in
    absurd (no_quote (is_marked y) y (flat_map byte_text ys ++ (0x22 ∷ s)) refl (ap (λ t. get_or t 0 0) (sym (e ∙ assoc))))
quoted_apart (x ∷ xs) [] r s e =
    let assoc = append_assoc (byte_text x) (flat_map byte_text xs) (0x22 ∷ r) in
    absurd (no_quote (is_marked x) x (flat_map byte_text xs ++ (0x22 ∷ r)) refl (ap (λ t. get_or t 0 0) (sym assoc ∙ e)))
quoted_apart (x ∷ xs) (y ∷ ys) r s e =
    let one = one_byte (is_marked x) (is_marked y) x y (flat_map byte_text xs ++ (0x22 ∷ r)) (flat_map byte_text ys ++ (0x22 ∷ s)) refl refl
    (sym (append_assoc (byte_text x) (flat_map byte_text xs) (0x22 ∷ r)) ∙ e ∙ append_assoc (byte_text y) (flat_map byte_text ys) (0x22 ∷ s)) in
    let rest = quoted_apart xs ys r s one.1 in
    (ap₂ (λ z zs. z ∷ zs) one.0 rest.0, rest.1)

-- two strings are the same, and what follows them
pub strings_apart : (xs ys r s : List ℕ) → string_text xs ++ r ≡ string_text ys ++ s → (xs ≡ ys) × (r ≡ s)
strings_apart xs ys r s e =
    quoted_apart xs ys r s (sym (append_assoc (flat_map byte_text xs) (codes "\"") r) ∙ ap (drop 1) e ∙ append_assoc (flat_map byte_text ys) (codes "\"") s)
