-- A string is closed at one offset alone, means one text, and isn't both closed and broken.
use Rattle.std.proofs.Common.{◌≡◌, ℕ, ◌+◌, Bool, true, false, if◌then◌else◌, List, [], ◌∷◌, ◌++◌, length, refl, sym, ap, ◌∙◌, arith}
use Rattle.std.specs.Prelude.{Result, Ok, Err}
use Rattle.std.proofs.lemmas.List.{append-nil}
use Rattle.std.proofs.lemmas.Bool.Decides.{nat_tests}
use Rattle.cpn_lex.specs.declared.refusals.LexError.{LexError}
use Rattle.cpn_lex.specs.declared.refusals.LexError.TheVariants.{BadByte, OpenString}
use Rattle.cpn_lex.specs.Lexis.{is_quote, is_backslash, is_escapable, is_plain, Closes, closed, plain, escaped}
use Rattle.cpn_lex.specs.Refusals.{BreaksString, ends, ends_escaped, bad, bad_escaped, past, past_escaped}

-- a byte in front of what was read
abbrev with_byte : ℕ → Result (List ℕ × List ℕ) LexError → Result (List ℕ × List ℕ) LexError
with_byte byte (Ok read) = Ok (byte ∷ read.0, read.1)
with_byte byte (Err refusal) = Err refusal

-- a meaning, and what follows
abbrev read_as : List ℕ → List ℕ → Result (List ℕ × List ℕ) LexError
read_as meant rest = Ok (meant, rest)

-- what a string means, and what follows it, or the rule that it breaks; told whether the byte before is a
-- backslash that escapes
abbrev reading : ℕ → ℕ → Bool → List ℕ → Result (List ℕ × List ℕ) LexError
reading opened at escaping [] = Err (OpenString opened)
reading opened at true (byte ∷ rest) =
    if is_escapable byte then with_byte byte (reading opened (at + 1) false rest) else Err (BadByte at)
reading opened at false (byte ∷ rest) =
    if is_quote byte then Ok ([], rest)
    else (if is_backslash byte then reading opened (at + 1) true rest
    else (if is_plain byte then with_byte byte (reading opened (at + 1) false rest) else Err (BadByte at)))

plain_is : (byte : ℕ) → is_plain byte ≡ true → (is_quote byte ≡ false) × (is_backslash byte ≡ false)
plain_is byte p = (grind (arith, nat_tests), grind (arith, nat_tests))

backslash_is : (byte : ℕ) → is_backslash byte ≡ true → is_quote byte ≡ false
backslash_is byte b = grind (arith, nat_tests)

bad_is : (byte : ℕ) → is_escapable byte ≡ false → (is_quote byte ≡ false) × (is_backslash byte ≡ false)
bad_is byte e = (grind (arith, nat_tests), grind (arith, nat_tests))

reading_closed : (opened at : ℕ) (xs meant rest : List ℕ) → Closes xs meant → reading opened at false (xs ++ rest) ≡ Ok (meant, rest)
reading_closed opened at xs meant rest (closed quote q) = rw q refl
reading_closed opened at xs meant rest (plain byte ys m p h) =
    let e = reading_closed opened (at + 1) ys m rest h in
    let n = plain_is byte p in
    rw (p, n.0, n.1, e) refl
reading_closed opened at xs meant rest (escaped backslash byte ys m b e h) =
    let f = reading_closed opened (at + 1 + 1) ys m rest h in
    rw (backslash_is backslash b, b, e, f) refl

reading_broken : (opened at : ℕ) (xs : List ℕ) (refusal : LexError) → BreaksString opened at xs refusal → reading opened at false xs ≡ Err refusal
reading_broken opened at xs refusal (ends at') = refl
reading_broken opened at xs refusal (ends_escaped at' backslash b) = rw (backslash_is backslash b, b) refl
reading_broken opened at xs refusal (bad at' byte rest p e) = let n = bad_is byte e in rw (p, n.0, n.1) refl
reading_broken opened at xs refusal (bad_escaped at' backslash byte rest b e) = rw (backslash_is backslash b, b, e) refl
reading_broken opened at xs refusal (past at' byte rest f p h) =
    let e = reading_broken opened (at + 1) rest refusal h in
    let n = plain_is byte p in
    rw (p, n.0, n.1, e) refl
reading_broken opened at xs refusal (past_escaped at' backslash byte rest f b e h) =
    let g = reading_broken opened (at + 1 + 1) rest refusal h in
    rw (backslash_is backslash b, b, e, g) refl

same_read : (a b c d : List ℕ) → read_as a b ≡ read_as c d → (a ≡ c) × (b ≡ d)
same_read a b c d e =
    let both : (a, b) ≡ (c, d) = cc in
    (ap (λ (read : List ℕ × List ℕ). read.0) both, ap (λ (read : List ℕ × List ℕ). read.1) both)

-- no string is the front of a longer one
pub closes_longest : (xs meant : List ℕ) (byte : ℕ) (more other : List ℕ) → Closes xs meant → Closes (xs ++ byte ∷ more) other → ⊥
closes_longest xs meant byte more other h k =
    let e = reading_closed 0 0 xs meant (byte ∷ more) h in
    let f = reading_closed 0 0 (xs ++ byte ∷ more) other [] k in
    let g = rw append-nil at f in
    let both = same_read meant (byte ∷ more) other [] (sym e ∙ g) in
    let none = both.1 in
    absurd (omega (arith, ap length none))

-- a string means one text
pub closes_once : (xs meant other : List ℕ) → Closes xs meant → Closes xs other → meant ≡ other
closes_once xs meant other h k =
    let e = reading_closed 0 0 xs meant [] h in
    let f = reading_closed 0 0 xs other [] k in
    (same_read meant [] other [] (sym e ∙ f)).0

-- what is closed doesn't break a rule
pub closed_or_broken : (opened at : ℕ) (xs meant rest : List ℕ) (refusal : LexError) → Closes xs meant → BreaksString opened at (xs ++ rest) refusal → ⊥
closed_or_broken opened at xs meant rest refusal h k =
    let e = reading_closed opened at xs meant rest h in
    let f = reading_broken opened at (xs ++ rest) refusal k in
    let both : read_as meant rest ≡ Err refusal = sym e ∙ f in
    absurd cc

-- a string breaks one rule first
pub broken_once : (opened at : ℕ) (xs : List ℕ) (refusal other : LexError) → BreaksString opened at xs refusal → BreaksString opened at xs other → refusal ≡ other
broken_once opened at xs refusal other h k =
    let e = reading_broken opened at xs refusal h in
    let f = reading_broken opened at xs other k in
    cc
