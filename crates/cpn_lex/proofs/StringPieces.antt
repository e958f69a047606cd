-- Reading a string byte by byte, from its opening quote on.
use Rattle.std.proofs.Common.{◌≡◌, ℕ, ◌+◌, ◌-◌, ◌<◌, ◌≤◌, true, List, [], ◌∷◌, ◌++◌, length, take, drop, get_or, refl, sym, ap, ◌∙◌, subst, arith, append_assoc, add_assoc, add-zero}
use Rattle.std.proofs.lemmas.List.{append-nil, drop_more, drop_all, take_all, length-drop, get_or-drop}
use Rattle.cpn_lex.specs.declared.refusals.LexError.{LexError}
use Rattle.cpn_lex.specs.declared.refusals.LexError.TheVariants.{BadByte, OpenString}
use Rattle.cpn_lex.specs.Token.{text}
use Rattle.cpn_lex.specs.Lexis.{is_quote, Closes, closed, plain, escaped, a_string, IsLongest}
use Rattle.cpn_lex.specs.Refusals.{BreaksString, ends, ends_escaped, bad, bad_escaped, past, past_escaped, BreaksAt, no_string}
use Rattle.cpn_lex.specs.declared.strings.Piece.TheVariants.{Plain, Escaped, Quote, Bad, BadEscape, End}
use Rattle.cpn_lex.specs.Pieces.{IsPiece}
use Rattle.cpn_lex.specs.Fronts.{Begins, begins_with}
use Rattle.cpn_lex.proofs.FirstBytes.{after_quote}
use Rattle.cpn_lex.proofs.StringEnds.{closes_longest}
use Rattle.cpn_lex.proofs.ByteRuns.{begins}

-- Whatever closes the string, or breaks a rule in it, from here on does so from its opening quote on.
pub record IsInside (at : ℕ) (bytes : List ℕ) (read : ℕ) (meant : List ℕ) : Type 0 where
  pub opened : 1 ≤ read
  pub within : read ≤ length bytes
  pub closes : (front rest more : List ℕ) → drop read bytes ≡ front ++ rest → Closes front more →
      (whole : List ℕ) × Closes whole (meant ++ more) × (drop 1 bytes ≡ whole ++ rest) × (length whole + 1 ≡ read + length front)
  pub breaks : (refusal : LexError) → BreaksString at (at + read) (drop read bytes) refusal → BreaksString at (at + 1) (drop 1 bytes) refusal

pub inside_starts : (at : ℕ) (bytes : List ℕ) → begins_with is_quote bytes ≡ true → IsInside at bytes 1 []
inside_starts at [] q = absurd cc
inside_starts at (quote ∷ rest) q = record {
  opened = omega arith;
  within = omega arith;
  closes = λ front after more e h. (front, h, e, omega arith);
  breaks = λ refusal h. h;
}

-- ---- what follows a byte

-- the bytes after the one at an offset
abbrev pub after_byte : List ℕ → ℕ → List ℕ
after_byte bytes read = take (length bytes - (read + 1)) (drop (read + 1) bytes)

after_is : (bytes : List ℕ) (read : ℕ) → after_byte bytes read ≡ drop (read + 1) bytes
after_is bytes read = take_all (length bytes - (read + 1)) (drop (read + 1) bytes) (omega (arith, length-drop (read + 1) bytes))

next_is : (bytes : List ℕ) (read : ℕ) → get_or (after_byte bytes read) 0 0 ≡ get_or bytes (read + 1) 0
next_is bytes read = rw (after_is bytes read, get_or-drop (read + 1) bytes 0 0, add-zero) refl

next_within : (bytes : List ℕ) (read : ℕ) → 0 < length (after_byte bytes read) → read + 1 < length bytes
next_within bytes read h = omega (arith, h, ap length (after_is bytes read), length-drop (read + 1) bytes)

-- ---- one more piece of it

pub inside_plain : (at : ℕ) (bytes : List ℕ) (read : ℕ) (meant : List ℕ) → IsInside at bytes read meant → read < length bytes → (byte : ℕ) → IsPiece (get_or bytes read 0) (after_byte bytes read) (Plain byte) → IsInside at bytes (read + 1) (meant ++ byte ∷ [])
inside_plain at bytes read meant h lt byte p =
    let first = get_or bytes read 0 in
    let here = drop_more bytes read 0 lt in
    record {
      opened = omega arith;
      within = omega arith;
      closes = λ front rest more e k.
          let all = h.closes (first ∷ front) rest (byte ∷ more) (here ∙ ap (λ ys. first ∷ ys) e) (rw (p.1) (plain first front more p.0 k)) in
          (all.0, rw (append_assoc meant (byte ∷ []) more) all.1, all.2, omega (arith, all.3));
      breaks = λ refusal k. h.breaks refusal (rw here (past (at + read) first (drop (read + 1) bytes) refusal p.0 (rw (add_assoc at read 1) k)));
    }

-- a backslash, and the byte after it
escape_at : (bytes : List ℕ) (read : ℕ) → read + 1 < length bytes → drop read bytes ≡ get_or bytes read 0 ∷ get_or bytes (read + 1) 0 ∷ drop (read + 2) bytes
escape_at bytes read lt =
    drop_more bytes read 0 (omega arith) ∙ ap (λ ys. get_or bytes read 0 ∷ ys) (drop_more bytes (read + 1) 0 lt ∙ ap (λ i. get_or bytes (read + 1) 0 ∷ drop i bytes) (add_assoc read 1 1))

pub inside_escaped : (at : ℕ) (bytes : List ℕ) (read : ℕ) (meant : List ℕ) → IsInside at bytes read meant → (byte : ℕ) → IsPiece (get_or bytes read 0) (after_byte bytes read) (Escaped byte) → IsInside at bytes (read + 2) (meant ++ byte ∷ [])
inside_escaped at bytes read meant h byte p =
    let backslash = get_or bytes read 0 in
    let lt = next_within bytes read p.1 in
    let here : drop read bytes ≡ backslash ∷ byte ∷ drop (read + 2) bytes = escape_at bytes read lt ∙ ap (λ b. backslash ∷ b ∷ drop (read + 2) bytes) (sym (p.2 ∙ next_is bytes read)) in
    record {
      opened = omega arith;
      within = omega arith;
      closes = λ front rest more f k.
          let all = h.closes (backslash ∷ byte ∷ front) rest (byte ∷ more) (here ∙ ap (λ ys. backslash ∷ byte ∷ ys) f) (escaped backslash byte front more p.0 p.3 k) in
          (all.0, rw (append_assoc meant (byte ∷ []) more) all.1, all.2, omega (arith, all.3));
      breaks = λ refusal k. h.breaks refusal (rw here (past_escaped (at + read) backslash byte (drop (read + 2) bytes) refusal p.0 p.3 (subst (λ i. BreaksString at i (drop (read + 2) bytes) refusal) (omega arith) k)));
    }

-- ---- its end

string_is_longest : (quote : ℕ) (whole rest meant : List ℕ) → is_quote quote ≡ true → Closes whole meant → IsLongest (quote ∷ whole) rest
string_is_longest quote whole rest meant q h = λ byte more after kind e spelled.
    let other = after_quote quote (whole ++ byte ∷ more) kind spelled q in
    closes_longest whole meant byte more other.0 h other.1

pub inside_closed : (at : ℕ) (bytes : List ℕ) (read : ℕ) (meant : List ℕ) → IsInside at bytes read meant → begins_with is_quote bytes ≡ true → read < length bytes → IsPiece (get_or bytes read 0) (after_byte bytes read) Quote → Begins bytes (text meant) (read + 1)
inside_closed at [] read meant h q lt p = absurd cc
inside_closed at (quote ∷ inside) read meant h q lt p =
    let byte = get_or (quote ∷ inside) read 0 in
    let all = h.closes (byte ∷ []) (drop (read + 1) (quote ∷ inside)) [] (drop_more (quote ∷ inside) read 0 lt) (closed byte p) in
    let whole : Closes all.0 meant = rw (append-nil meant) at all.1 in
    begins (quote ∷ inside) (quote ∷ all.0) (drop (read + 1) (quote ∷ inside)) (text meant) (read + 1) (ap (λ ys. quote ∷ ys) all.2) (omega (arith, all.3))
    (record { spelled = a_string (quote ∷ all.0) meant (q, whole); longest = string_is_longest quote all.0 (drop (read + 1) (quote ∷ inside)) meant q whole })

-- ---- a rule that it breaks

broken : (at : ℕ) (bytes : List ℕ) (refusal : LexError) → begins_with is_quote bytes ≡ true → BreaksString at (at + 1) (drop 1 bytes) refusal → BreaksAt at bytes refusal
broken at [] refusal q k = absurd cc
broken at (quote ∷ rest) refusal q k = no_string at quote rest refusal q k

pub inside_ends : (at : ℕ) (bytes : List ℕ) (read : ℕ) (meant : List ℕ) → IsInside at bytes read meant → begins_with is_quote bytes ≡ true → length bytes ≤ read → BreaksAt at bytes (OpenString at)
inside_ends at bytes read meant h q over = broken at bytes _ q (h.breaks _ (rw (drop_all read bytes over) (ends (at + read))))

pub inside_ends_escaped : (at : ℕ) (bytes : List ℕ) (read : ℕ) (meant : List ℕ) → IsInside at bytes read meant → begins_with is_quote bytes ≡ true → read < length bytes → IsPiece (get_or bytes read 0) (after_byte bytes read) End → BreaksAt at bytes (OpenString at)
inside_ends_escaped at bytes read meant h q lt p =
    let none : drop (read + 1) bytes ≡ [] = drop_all (read + 1) bytes (omega (arith, p.1, ap length (after_is bytes read), length-drop (read + 1) bytes)) in
    let here = drop_more bytes read 0 lt ∙ ap (λ ys. get_or bytes read 0 ∷ ys) none in
    broken at bytes _ q (h.breaks _ (rw here (ends_escaped (at + read) (get_or bytes read 0) p.0)))

pub inside_bad : (at : ℕ) (bytes : List ℕ) (read : ℕ) (meant : List ℕ) → IsInside at bytes read meant → begins_with is_quote bytes ≡ true → read < length bytes → IsPiece (get_or bytes read 0) (after_byte bytes read) Bad → BreaksAt at bytes (BadByte (at + read))
inside_bad at bytes read meant h q lt p =
    broken at bytes _ q (h.breaks _ (rw (drop_more bytes read 0 lt) (bad (at + read) (get_or bytes read 0) (drop (read + 1) bytes) p.0 p.1)))

pub inside_bad_escape : (at : ℕ) (bytes : List ℕ) (read : ℕ) (meant : List ℕ) → IsInside at bytes read meant → begins_with is_quote bytes ≡ true → IsPiece (get_or bytes read 0) (after_byte bytes read) BadEscape → BreaksAt at bytes (BadByte (at + read + 1))
inside_bad_escape at bytes read meant h q p =
    let may_not = rw (next_is bytes read) at p.2 in
    broken at bytes _ q (h.breaks _ (rw (escape_at bytes read (next_within bytes read p.1)) (bad_escaped (at + read) (get_or bytes read 0) (get_or bytes (read + 1) 0) (drop (read + 2) bytes) p.0 may_not)))
