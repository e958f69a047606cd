-- What the first byte of a token says of its other bytes.
use Rattle.std.proofs.Common.{◌≡◌, ◌≢◌, ℕ, ◌≤◌, Bool, true, false, not, ◌&&◌, ◌||◌, cond, if◌then◌else◌, nat_le, List, [], ◌∷◌, length, Option, Some, None, ◌⊎◌, inl, inr, refl, arith}
use Rattle.std.proofs.lemmas.Bool.Decides.{nat_tests}
use Rattle.std.proofs.lemmas.Slice.Eq.{bytes_eq-Decides}
use Rattle.std.specs.List.{list_all}
use Rattle.std.specs.Str.{bytes_eq}
use Rattle.cpn_lex.specs.declared.symbols.Symbol.{Symbol}
use Rattle.cpn_lex.specs.declared.symbols.Symbol.TheVariants.{Colset}
use Rattle.cpn_lex.specs.Symbols.{spelling, signs, words}
use Rattle.cpn_lex.specs.Token.{PlainKind, text}
use Rattle.cpn_lex.specs.Lexis.{is_blank, is_digit, is_letter, is_name_byte, is_tilde, is_quote, not_negative, negative, Closes, Spells, a_name, a_number, a_string, a_symbol}
use Rattle.cpn_lex.specs.Lookup.{symbol_in}
use Rattle.cpn_lex.specs.Fronts.{begins_with}

-- ---- the spellings of the symbols, one by one

-- the spelling of a word is all letters; a sign has one byte or two, and no first byte of another token
abbrev pub is_spelling : List ℕ → Bool
is_spelling [] = false
is_spelling (first ∷ rest) =
    if is_letter first then list_all is_name_byte rest
    else not (is_digit first) && not (is_quote first) && not (is_blank first) && nat_le (length rest) 1 && (not (is_tilde first) || nat_le (length rest) 0)

spelled : (s : Symbol) → is_spelling (spelling s) ≡ true
spelled Colset = refl
spelled s = refl

-- the symbol of a spelling is found among the words or among the signs
abbrev pub symbol_of : List ℕ → Option Symbol
symbol_of bytes = if begins_with is_letter bytes then symbol_in words bytes else symbol_in signs bytes

pub symbol_of-spelling : (s : Symbol) → symbol_of (spelling s) ≡ Some s
unfolding symbol_in
symbol_of-spelling Colset = refl
symbol_of-spelling s = refl

chosen : (b : Bool) (t s : Symbol) (others : Option Symbol) → cond b (Some t) others ≡ Some s → ((b ≡ true) × (t ≡ s)) ⊎ ((b ≡ false) × (others ≡ Some s))
chosen true t s others e = inl (refl, cc)
chosen false t s others e = inr (refl, e)

-- what is found by its spelling is spelled so
pub symbol_in-spells : (symbols : List Symbol) (bytes : List ℕ) (s : Symbol) → symbol_in symbols bytes ≡ Some s → spelling s ≡ bytes
unfolding symbol_in
symbol_in-spells [] bytes s e = cc
symbol_in-spells (t ∷ symbols) bytes s e =
    elim (chosen (bytes_eq (spelling t) bytes) t s (symbol_in symbols bytes) e)
    [ inl h ↦ rw (← h.1) ((bytes_eq-Decides (spelling t) bytes).0 h.0) | inr h ↦ symbol_in-spells symbols bytes s h.1 ]

-- ---- bytes of one kind are none of another

letter_or_digit : (b : ℕ) → is_letter b ≡ true → is_digit b ≡ true → ⊥
letter_or_digit b l d = grind (arith, nat_tests)

letter_or_tilde : (b : ℕ) → is_letter b ≡ true → is_tilde b ≡ true → ⊥
letter_or_tilde b l d = grind (arith, nat_tests)

letter_or_quote : (b : ℕ) → is_letter b ≡ true → is_quote b ≡ true → ⊥
letter_or_quote b l d = grind (arith, nat_tests)

letter_or_blank : (b : ℕ) → is_letter b ≡ true → is_blank b ≡ true → ⊥
letter_or_blank b l d = grind (arith, nat_tests)

digit_or_quote : (b : ℕ) → is_digit b ≡ true → is_quote b ≡ true → ⊥
digit_or_quote b l d = grind (arith, nat_tests)

digit_or_blank : (b : ℕ) → is_digit b ≡ true → is_blank b ≡ true → ⊥
digit_or_blank b l d = grind (arith, nat_tests)

digit_or_tilde : (b : ℕ) → is_digit b ≡ true → is_tilde b ≡ true → ⊥
digit_or_tilde b l d = grind (arith, nat_tests)

-- ---- what a first byte says

-- a fact of each spelling is one of the bytes that are it
pub spelled_as : (s : Symbol) (bytes : List ℕ) → spelling s ≡ bytes → is_spelling bytes ≡ true
spelled_as s bytes e = rw e at (spelled s)

letter_spelling : (first : ℕ) (rest : List ℕ) → is_spelling (first ∷ rest) ≡ true → is_letter first ≡ true → list_all is_name_byte rest ≡ true
letter_spelling first rest h l = grind (arith, nat_tests)

digit_spelling : (first : ℕ) (rest : List ℕ) → is_spelling (first ∷ rest) ≡ true → is_digit first ≡ true → ⊥
digit_spelling first rest h d = grind (arith, nat_tests)

quote_spelling : (first : ℕ) (rest : List ℕ) → is_spelling (first ∷ rest) ≡ true → is_quote first ≡ true → ⊥
quote_spelling first rest h d = grind (arith, nat_tests)

blank_spelling : (first : ℕ) (rest : List ℕ) → is_spelling (first ∷ rest) ≡ true → is_blank first ≡ true → ⊥
blank_spelling first rest h d = grind (arith, nat_tests)

tilde_spelling : (first : ℕ) (rest : List ℕ) → is_spelling (first ∷ rest) ≡ true → is_tilde first ≡ true → length rest ≤ 0
tilde_spelling first rest h d = grind (arith, nat_tests)

pub sign_spelling : (first : ℕ) (rest : List ℕ) → is_spelling (first ∷ rest) ≡ true → is_letter first ≡ false → length rest ≤ 1
sign_spelling first rest h d = grind (arith, nat_tests)

-- after a letter a token goes on by bytes of names
pub after_letter : (first : ℕ) (rest : List ℕ) (kind : PlainKind) → Spells (first ∷ rest) kind → is_letter first ≡ true → list_all is_name_byte rest ≡ true
after_letter first rest kind (a_name bytes h new) l = h.1
after_letter first rest kind (a_number bytes z (not_negative digits h)) l = absurd (letter_or_digit first l h.0)
after_letter first rest kind (a_number bytes z (negative tilde digits t h)) l = absurd (letter_or_tilde first l t)
after_letter first rest kind (a_string bytes meant h) l = absurd (letter_or_quote first l h.0)
after_letter first rest kind (a_symbol bytes s e) l = letter_spelling first rest (spelled_as s (first ∷ rest) e) l

-- after a digit a token goes on by digits
pub after_digit : (first : ℕ) (rest : List ℕ) (kind : PlainKind) → Spells (first ∷ rest) kind → is_digit first ≡ true → list_all is_digit rest ≡ true
after_digit first rest kind (a_name bytes h new) d = absurd (letter_or_digit first h.0 d)
after_digit first rest kind (a_number bytes z (not_negative digits h)) d = h.1
after_digit first rest kind (a_number bytes z (negative tilde digits t h)) d = absurd (digit_or_tilde first d t)
after_digit first rest kind (a_string bytes meant h) d = absurd (digit_or_quote first d h.0)
after_digit first rest kind (a_symbol bytes s e) d = absurd (digit_spelling first rest (spelled_as s (first ∷ rest) e) d)

-- after a quote a token is a string
pub after_quote : (first : ℕ) (rest : List ℕ) (kind : PlainKind) → Spells (first ∷ rest) kind → is_quote first ≡ true → (meant : List ℕ) × Closes rest meant × (kind ≡ text meant)
after_quote first rest kind (a_name bytes h new) q = absurd (letter_or_quote first h.0 q)
after_quote first rest kind (a_number bytes z (not_negative digits h)) q = absurd (digit_or_quote first h.0 q)
after_quote first rest kind (a_number bytes z (negative tilde digits t h)) q = absurd (grind (arith, nat_tests))
after_quote first rest kind (a_string bytes meant h) q = (meant, h.1, refl)
after_quote first rest kind (a_symbol bytes s e) q = absurd (quote_spelling first rest (spelled_as s (first ∷ rest) e) q)

-- no token begins with a blank
pub after_blank : (first : ℕ) (rest : List ℕ) (kind : PlainKind) → Spells (first ∷ rest) kind → is_blank first ≡ true → ⊥
after_blank first rest kind (a_name bytes h new) b = letter_or_blank first h.0 b
after_blank first rest kind (a_number bytes z (not_negative digits h)) b = digit_or_blank first h.0 b
after_blank first rest kind (a_number bytes z (negative tilde digits t h)) b = grind (arith, nat_tests)
after_blank first rest kind (a_string bytes meant h) b = let q = h.0 in grind (arith, nat_tests)
after_blank first rest kind (a_symbol bytes s e) b = blank_spelling first rest (spelled_as s (first ∷ rest) e) b

-- after `~` a token goes on by digits, one or more, or is the sign
pub after_tilde : (first : ℕ) (rest : List ℕ) (kind : PlainKind) → Spells (first ∷ rest) kind → is_tilde first ≡ true → list_all is_digit rest ≡ true
after_tilde first rest kind (a_name bytes h new) t = absurd (letter_or_tilde first h.0 t)
after_tilde first rest kind (a_number bytes z (not_negative digits h)) t = absurd (digit_or_tilde first h.0 t)
after_tilde first (d ∷ rest) kind (a_number bytes z (negative tilde digits u h)) t = rw (h.0, h.1) refl
after_tilde first [] kind (a_number bytes z (negative tilde digits u h)) t = refl
after_tilde first rest kind (a_string bytes meant h) t = let q = h.0 in absurd (grind (arith, nat_tests))
after_tilde first [] kind (a_symbol bytes s e) t = refl
after_tilde first (d ∷ rest) kind (a_symbol bytes s e) t = absurd (omega (arith, tilde_spelling first (d ∷ rest) (spelled_as s (first ∷ d ∷ rest) e) t))

-- no token is empty
pub not_empty : (kind : PlainKind) → Spells [] kind → ⊥
not_empty kind (a_name bytes h new) = h
not_empty kind (a_number bytes z (not_negative digits h)) = h
not_empty kind (a_string bytes meant h) = h
not_empty kind (a_symbol bytes s e) = let h = spelled_as s [] e in cc

pub symbol_of-spells : (bytes : List ℕ) (s : Symbol) → symbol_of bytes ≡ Some s → spelling s ≡ bytes
symbol_of-spells bytes s e = by_first (begins_with is_letter bytes) e
  where
    by_first : (b : Bool) → (if b then symbol_in words bytes else symbol_in signs bytes) ≡ Some s → spelling s ≡ bytes
    by_first true h = symbol_in-spells words bytes s h
    by_first false h = symbol_in-spells signs bytes s h

pub new_name : (bytes : List ℕ) → ((s : Symbol) → spelling s ≢ bytes) → symbol_of bytes ≡ None
new_name bytes new = elim (symbol_of bytes) as (λ o. (symbol_of bytes ≡ o) → o ≡ None) [ None ↦ λ e. refl | Some s ↦ λ e. absurd (new s (symbol_of-spells bytes s e)) ] refl
