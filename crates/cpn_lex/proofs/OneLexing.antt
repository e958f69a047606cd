-- A text has one list of tokens, or breaks one rule first, and not both.
use Rattle.std.proofs.Common.{◌≡◌, ℕ, ◌+◌, ℤ, true, List, [], ◌∷◌, ◌++◌, length, ◌⊎◌, inl, inr, refl, sym, subst, arith}
use Rattle.std.proofs.lemmas.Bool.Decides.{nat_tests}
use Rattle.cpn_lex.specs.declared.refusals.LexError.{LexError}
use Rattle.cpn_lex.specs.declared.refusals.LexError.TheVariants.{NumberTooLarge}
use Rattle.cpn_lex.specs.Token.{PlainKind, PlainToken, number}
use Rattle.cpn_lex.specs.Lexis.{is_blank, is_quote, IsToken, Fits}
use Rattle.cpn_lex.specs.Tokens.{Goes, stops, blank, token, Lexes}
use Rattle.cpn_lex.specs.Refusals.{BreaksAt, no_token, no_string, too_large, Breaks}
use Rattle.cpn_lex.proofs.FirstBytes.{after_blank, after_quote, not_empty}
use Rattle.cpn_lex.proofs.StringEnds.{closed_or_broken, broken_once}
use Rattle.cpn_lex.proofs.FrontTokens.{token_once}

-- ---- at one offset

quote_or_blank : (byte : ℕ) → is_quote byte ≡ true → is_blank byte ≡ true → ⊥
quote_or_blank byte q b = grind (arith, nat_tests)

blank_or_broken : (at : ℕ) (bytes : List ℕ) (refusal : LexError) → BreaksAt at bytes refusal → (byte : ℕ) (rest : List ℕ) → bytes ≡ byte ∷ rest → is_blank byte ≡ true → ⊥
blank_or_broken at bytes refusal (no_token at' first others nb nq none) byte rest e b = let same : first ≡ byte = cc in absurd cc
blank_or_broken at bytes refusal (no_string at' quote others refusal' q broken) byte rest e b =
    let same : quote ≡ byte = cc in quote_or_blank byte (rw same at q) b
blank_or_broken at bytes refusal (too_large at' [] others z t large) byte rest e b = not_empty (number z) t.spelled
blank_or_broken at bytes refusal (too_large at' (x ∷ front) others z t large) byte rest e b =
    let same : x ≡ byte = cc in after_blank x front (number z) t.spelled (rw (← same) at b)

token_or_broken : (at : ℕ) (bytes : List ℕ) (refusal : LexError) → BreaksAt at bytes refusal → (front rest : List ℕ) (kind : PlainKind) → bytes ≡ front ++ rest → IsToken front rest kind → Fits kind → ⊥
token_or_broken at bytes refusal (no_token at' first others nb nq none) front rest kind e t fits = none front rest kind e t.spelled
token_or_broken at bytes refusal (no_string at' quote others refusal' q broken) [] rest kind e t fits = not_empty kind t.spelled
token_or_broken at bytes refusal (no_string at' quote others refusal' q broken) (x ∷ front) rest kind e t fits =
    let same : quote ≡ x = cc in
    let tails : others ≡ front ++ rest = cc in
    let string = after_quote x front kind t.spelled (rw same at q) in
    closed_or_broken at (at + 1) front string.0 rest refusal string.1 (rw tails at broken)
token_or_broken at bytes refusal (too_large at' front' rest' z t' large) front rest kind e t fits =
    let same = token_once front' rest' front rest (number z) kind t' t e in
    large (subst Fits (sym same.2) fits)

large_only : (at : ℕ) (bytes : List ℕ) (refusal : LexError) → BreaksAt at bytes refusal → (front rest : List ℕ) (z : ℤ) → bytes ≡ front ++ rest → IsToken front rest (number z) → refusal ≡ NumberTooLarge at
large_only at bytes refusal (no_token at' first others nb nq none) front rest z e t = absurd (none front rest (number z) e t.spelled)
large_only at bytes refusal (no_string at' quote others refusal' q broken) [] rest z e t = absurd (not_empty (number z) t.spelled)
large_only at bytes refusal (no_string at' quote others refusal' q broken) (x ∷ front) rest z e t =
    let same : quote ≡ x = cc in
    let string = after_quote x front (number z) t.spelled (rw same at q) in
    let kinds = string.2 in
    cc
large_only at bytes refusal (too_large at' front' rest' y t' large) front rest z e t = refl

broken_at_once : (at : ℕ) (bytes : List ℕ) (refusal : LexError) → BreaksAt at bytes refusal → (bytes' : List ℕ) (refusal' : LexError) → BreaksAt at bytes' refusal' → bytes ≡ bytes' → refusal ≡ refusal'
broken_at_once at bytes refusal (too_large at' front rest z t large) bytes' refusal' k e = sym (large_only at bytes' refusal' k front rest z (sym e) t)
broken_at_once at bytes refusal h bytes' refusal' (too_large at' front rest z t large) e = large_only at bytes refusal h front rest z e t
broken_at_once at bytes refusal (no_token at' first others nb nq none) bytes' refusal' (no_token at'' first' others' nb' nq' none') e = refl
broken_at_once at bytes refusal (no_token at' first others nb nq none) bytes' refusal' (no_string at'' quote others' f q broken) e = let same : first ≡ quote = cc in cc
broken_at_once at bytes refusal (no_string at' quote others f q broken) bytes' refusal' (no_token at'' first' others' nb' nq' none') e = let same : quote ≡ first' = cc in cc
broken_at_once at bytes refusal (no_string at' quote others f q broken) bytes' refusal' (no_string at'' quote' others' f' q' broken') e =
    let tails : others ≡ others' = cc in
    broken_once at (at + 1) others' refusal refusal' (rw tails at broken) broken'

at_no_end : (at : ℕ) (bytes : List ℕ) (refusal : LexError) → BreaksAt at bytes refusal → bytes ≡ [] → ⊥
at_no_end at bytes refusal (no_token at' first others nb nq none) e = absurd cc
at_no_end at bytes refusal (no_string at' quote others f q broken) e = absurd cc
at_no_end at bytes refusal (too_large at' [] rest z t large) e = not_empty (number z) t.spelled
at_no_end at bytes refusal (too_large at' (x ∷ front) rest z t large) e = absurd cc

-- ---- over the whole text

-- a text ends, or breaks a rule
abbrev IsOver : ℕ → List ℕ → Type 0
IsOver at rest = (rest ≡ []) ⊎ ((refusal : LexError) × BreaksAt at rest refusal)

blank_goes_on : (at byte : ℕ) (rest : List ℕ) → IsOver at (byte ∷ rest) → is_blank byte ≡ true → ⊥
blank_goes_on at byte rest (inl e) b = absurd cc
blank_goes_on at byte rest (inr h) b = blank_or_broken at (byte ∷ rest) h.0 h.1 byte rest refl b

token_goes_on : (at : ℕ) (bytes front rest : List ℕ) (kind : PlainKind) → IsOver at bytes → bytes ≡ front ++ rest → IsToken front rest kind → Fits kind → ⊥
token_goes_on at bytes [] rest kind (inl h) e t fits = not_empty kind t.spelled
token_goes_on at bytes (x ∷ front) rest kind (inl h) e t fits = absurd cc
token_goes_on at bytes front rest kind (inr h) e t fits = token_or_broken at bytes h.0 h.1 front rest kind e t fits

-- how a text may go on
data GoesOn (at : ℕ) (bytes : List ℕ) (tokens : List PlainToken) (end : ℕ) (rest : List ℕ) : Type 0 where
  over : tokens ≡ [] → end ≡ at → rest ≡ bytes → GoesOn at bytes tokens end rest
  by_blank : (byte : ℕ) (others : List ℕ) → bytes ≡ byte ∷ others → is_blank byte ≡ true → Goes (at + 1) others tokens end rest → GoesOn at bytes tokens end rest
  by_token : (front others : List ℕ) (kind : PlainKind) (later : List PlainToken) → bytes ≡ front ++ others → IsToken front others kind → Fits kind → tokens ≡ record { kind = kind; at = at } ∷ later → Goes (at + length front) others later end rest → GoesOn at bytes tokens end rest

goes_on : (at : ℕ) (bytes : List ℕ) (tokens : List PlainToken) (end : ℕ) (rest : List ℕ) → Goes at bytes tokens end rest → GoesOn at bytes tokens end rest
goes_on at bytes tokens end rest (stops at' bytes') = over refl refl refl
goes_on at bytes tokens end rest (blank at' byte others tokens' end' rest' b h) = by_blank byte others refl b h
goes_on at bytes tokens end rest (token at' front others kind later end' rest' t fits h) = by_token front others kind later refl t fits refl h

no_blank : (byte : ℕ) (others front rest : List ℕ) (kind : PlainKind) → byte ∷ others ≡ front ++ rest → IsToken front rest kind → is_blank byte ≡ true → ⊥
no_blank byte others [] rest kind e t b = not_empty kind t.spelled
no_blank byte others (x ∷ front) rest kind e t b = let same : byte ≡ x = cc in after_blank x front kind t.spelled (rw same at b)

-- Two ways to go over a text to where it is over are one.
pub goes_once : (at : ℕ) (bytes : List ℕ) (tokens : List PlainToken) (end : ℕ) (rest : List ℕ) → Goes at bytes tokens end rest → IsOver end rest →
    (tokens' : List PlainToken) (end' : ℕ) (rest' : List ℕ) → Goes at bytes tokens' end' rest' → IsOver end' rest' → (tokens ≡ tokens') × (end ≡ end') × (rest ≡ rest')
goes_once at bytes tokens end rest (stops at' bytes') last tokens' end' rest' k last' =
    elim (goes_on at bytes tokens' end' rest' k) [
      | over t e r ↦ (sym t, sym e, sym r)
      | by_blank byte others e b h ↦ absurd (blank_goes_on at byte others (subst (IsOver at) e last) b)
      | by_token front others kind later e t fits m h ↦ absurd (token_goes_on at bytes front others kind last e t fits)
    ]
goes_once at bytes tokens end rest (blank at' byte others tokens'' end'' rest'' b h) last tokens' end' rest' k last' =
    elim (goes_on at (byte ∷ others) tokens' end' rest' k) [
      | over t e r ↦ absurd (blank_goes_on at byte others (rw (← e, ← r) last') b)
      | by_blank byte' others' e b' h' ↦
          let tails : others' ≡ others = cc in
          goes_once (at + 1) others tokens end rest h last tokens' end' rest' (rw tails at h') last'
      | by_token front others' kind later e t fits m h' ↦ absurd (no_blank byte others front others' kind e t b)
    ]
goes_once at bytes tokens end rest (token at' front others kind later end'' rest'' t fits h) last tokens' end' rest' k last' =
    elim (goes_on at (front ++ others) tokens' end' rest' k) [
      | over u e r ↦ absurd (token_goes_on at (front ++ others) front others kind (rw (← e, ← r) last') refl t fits)
      | by_blank byte' others' e b' h' ↦ absurd (no_blank byte' others' front others kind (sym e) t b')
      | by_token front' others' kind' later' e t' fits' m h' ↦
          let same = token_once front' others' front others kind' kind t' t (sym e) in
          let tail = goes_once (at + length front) others later end rest h last later' end' rest' (rw (same.0, same.1) at h') last' in
          (rw (m, same.2, ← tail.0) refl, tail.1, tail.2)
    ]

-- A text has one list of tokens.
pub lexes_once : (bytes : List ℕ) (tokens tokens' : List PlainToken) → Lexes bytes tokens → Lexes bytes tokens' → tokens ≡ tokens'
lexes_once bytes tokens tokens' h k = (goes_once 0 bytes tokens (length bytes) [] h (inl refl) tokens' (length bytes) [] k (inl refl)).0

-- A text with tokens breaks no rule.
pub lexes_or_breaks : (bytes : List ℕ) (tokens : List PlainToken) (refusal : LexError) → Lexes bytes tokens → Breaks bytes refusal → ⊥
lexes_or_breaks bytes tokens refusal h k =
    let same = goes_once 0 bytes tokens (length bytes) [] h (inl refl) k.tokens k.at k.rest k.goes (inr (refusal, k.breaks)) in
    at_no_end k.at k.rest refusal k.breaks (sym same.2)

-- A text breaks one rule first.
pub breaks_once : (bytes : List ℕ) (refusal refusal' : LexError) → Breaks bytes refusal → Breaks bytes refusal' → refusal ≡ refusal'
breaks_once bytes refusal refusal' h k =
    let same = goes_once 0 bytes h.tokens h.at h.rest h.goes (inr (refusal, h.breaks)) k.tokens k.at k.rest k.goes (inr (refusal', k.breaks)) in
    broken_at_once k.at h.rest refusal (rw same.1 at h.breaks) k.rest refusal' k.breaks same.2
