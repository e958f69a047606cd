-- The longest sign at the front of a text that begins no name, number or string.
use Rattle.std.proofs.Common.{◌≡◌, ℕ, ◌≤◌, true, false, List, [], ◌∷◌, ◌++◌, length, get_or, Some, None, refl, sym, ◌∙◌, subst, arith}
use Rattle.std.proofs.lemmas.Bool.Decides.{nat_tests}
use Rattle.cpn_lex.specs.declared.symbols.Symbol.{Symbol}
use Rattle.cpn_lex.specs.Symbols.{spelling, signs}
use Rattle.cpn_lex.specs.Lookup.{symbol_in}
use Rattle.cpn_lex.specs.Token.{PlainKind, symbol}
use Rattle.cpn_lex.specs.Lexis.{is_digit, is_letter, is_tilde, not_negative, negative, Spells, a_name, a_number, a_string, a_symbol, HasNoToken}
use Rattle.cpn_lex.specs.Fronts.{Begins, begins_number, BeginsSign, long_sign}
use Rattle.cpn_lex.proofs.FirstBytes.{symbol_of-spelling, symbol_in-spells, spelled_as, sign_spelling, not_empty}
use Rattle.cpn_lex.proofs.ByteRuns.{begins}

number_again : (first d : ℕ) (rest : List ℕ) → is_tilde first ≡ true → is_digit d ≡ true → begins_number (first ∷ d ∷ rest) ≡ true
number_again first d rest t h = grind (arith, nat_tests)

digit_again : (first : ℕ) (rest : List ℕ) → is_digit first ≡ true → begins_number (first ∷ rest) ≡ true
digit_again first rest h = rw h refl

-- such a front that spells a token spells a sign
sign_only : (first : ℕ) (front after : List ℕ) (kind : PlainKind) → Spells (first ∷ front) kind → BeginsSign (first ∷ (front ++ after)) → (s : Symbol) × (spelling s ≡ first ∷ front) × (kind ≡ symbol s)
sign_only first front after kind (a_name bytes h new) b = absurd (let l = h.0 in let m = b.no_letter in cc)
sign_only first front after kind (a_number bytes z (not_negative digits h)) b = absurd (let n = b.no_number in let m = digit_again first (front ++ after) h.0 in cc)
sign_only first [] after kind (a_number bytes z (negative tilde digits t h)) b = absurd h
sign_only first (d ∷ front) after kind (a_number bytes z (negative tilde digits t h)) b = absurd (let n = b.no_number in let m = number_again first d (front ++ after) t h.0 in cc)
sign_only first front after kind (a_string bytes meant h) b = absurd (let q = h.0 in let n = b.no_quote in cc)
sign_only first front after kind (a_symbol bytes s e) b = (s, e, refl)

-- a sign has one byte or two, and is found among the signs
sign_short : (first : ℕ) (front : List ℕ) (s : Symbol) → spelling s ≡ first ∷ front → is_letter first ≡ false → length front ≤ 1
sign_short first front s e l = sign_spelling first front (spelled_as s (first ∷ front) e) l

sign_found : (first : ℕ) (front : List ℕ) (s : Symbol) → spelling s ≡ first ∷ front → is_letter first ≡ false → symbol_in signs (first ∷ front) ≡ Some s
sign_found first front s e l = rw (e, l) at (symbol_of-spelling s)

some_or_none : (s : Symbol) → Some s ≡ None → ⊥
some_or_none s e = absurd cc

-- A sign of two bytes is the token.
pub two_begin : (bytes : List ℕ) (s : Symbol) → long_sign bytes ≡ Some s → BeginsSign bytes → Begins bytes (symbol s) 2
two_begin [] s found b = absurd cc
two_begin (first ∷ []) s found b = absurd cc
two_begin (first ∷ second ∷ rest) s found b =
    begins (first ∷ second ∷ rest) (first ∷ second ∷ []) rest (symbol s) 2 refl refl
    (record {
      spelled = a_symbol _ s (symbol_in-spells signs (first ∷ second ∷ []) s found);
      longest = λ byte more after kind e spelled.
          let only = sign_only first (second ∷ byte ∷ more) after kind spelled (subst (λ bytes. BeginsSign (first ∷ second ∷ bytes)) e b) in
          let short = sign_short first (second ∷ byte ∷ more) only.0 only.1 b.no_letter in
          absurd (omega arith);
    })

-- where no sign of two bytes stands, no token of two or more does
two_only : (first : ℕ) (rest : List ℕ) (kind : PlainKind) (byte : ℕ) (more after : List ℕ) → rest ≡ byte ∷ more ++ after → Spells (first ∷ byte ∷ more) kind → BeginsSign (first ∷ rest) → long_sign (first ∷ rest) ≡ None → ⊥
two_only first rest kind byte [] after e spelled b none =
    let only = sign_only first (byte ∷ []) after kind spelled (subst (λ bytes. BeginsSign (first ∷ bytes)) e b) in
    let found = sign_found first (byte ∷ []) only.0 only.1 b.no_letter in
    let missing : symbol_in signs (first ∷ byte ∷ []) ≡ None = subst (λ bytes. long_sign (first ∷ bytes) ≡ None) e none in
    absurd (some_or_none only.0 (sym found ∙ missing))
two_only first rest kind byte (x ∷ more) after e spelled b none =
    let only = sign_only first (byte ∷ x ∷ more) after kind spelled (subst (λ bytes. BeginsSign (first ∷ bytes)) e b) in
    let short = sign_short first (byte ∷ x ∷ more) only.0 only.1 b.no_letter in
    absurd (omega arith)

-- A sign of one byte is the token where none of two stands.
pub one_begins : (bytes : List ℕ) (s : Symbol) → symbol_in signs (get_or bytes 0 0 ∷ []) ≡ Some s → long_sign bytes ≡ None → BeginsSign bytes → Begins bytes (symbol s) 1
one_begins [] s found none b = absurd (omega (arith, b.some))
one_begins (first ∷ rest) s found none b =
    begins (first ∷ rest) (first ∷ []) rest (symbol s) 1 refl refl
    (record {
      spelled = a_symbol _ s (symbol_in-spells signs (first ∷ []) s found);
      longest = λ byte more after kind e spelled. two_only first rest kind byte more after e spelled b none;
    })

-- Where neither stands there is no token.
pub none_begins : (bytes : List ℕ) → symbol_in signs (get_or bytes 0 0 ∷ []) ≡ None → long_sign bytes ≡ None → BeginsSign bytes → HasNoToken bytes
none_begins [] no_one no_two b front after kind e spelled = omega (arith, b.some)
none_begins (first ∷ rest) no_one no_two b [] after kind e spelled = not_empty kind spelled
none_begins (first ∷ rest) no_one no_two b (x ∷ []) after kind e spelled =
    let same : first ≡ x = cc in
    let tails : rest ≡ after = cc in
    let only = sign_only first [] after kind (subst (λ y. Spells (y ∷ []) kind) (sym same) spelled) (subst (λ bytes. BeginsSign (first ∷ bytes)) tails b) in
    let found = sign_found first [] only.0 only.1 b.no_letter in
    some_or_none only.0 (sym found ∙ no_one)
none_begins (first ∷ rest) no_one no_two b (x ∷ byte ∷ more) after kind e spelled =
    let same : first ≡ x = cc in
    let tails : rest ≡ byte ∷ more ++ after = cc in
    two_only first rest kind byte more after tails (subst (λ y. Spells (y ∷ byte ∷ more) kind) (sym same) spelled) b no_two
