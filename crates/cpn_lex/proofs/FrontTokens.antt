-- A text has at most one token at its front.
use Rattle.std.proofs.Common.{◌≡◌, ℕ, pos, neg_ℤ, Bool, true, false, ◌&&◌, if◌then◌else◌, List, [], ◌∷◌, ◌++◌, Option, Some, None, ◌⊎◌, inl, inr, refl, sym, ap, ◌∙◌, subst, arith}
use Rattle.std.specs.Prelude.{option_map}
use Rattle.std.proofs.lemmas.Bool.Decides.{nat_tests}
use Rattle.std.specs.Str.Parse.{digits_value}
use Rattle.cpn_lex.specs.declared.symbols.Symbol.{Symbol}
use Rattle.cpn_lex.specs.declared.symbols.Symbol.TheVariants.{Colset}
use Rattle.cpn_lex.specs.Symbols.{spelling}
use Rattle.cpn_lex.specs.Token.{PlainKind, number, text, symbol}
use Rattle.cpn_lex.specs.Lexis.{is_digit, is_letter, is_tilde, is_quote, not_negative, negative, Spells, a_name, a_number, a_string, a_symbol, IsToken}
use Rattle.cpn_lex.specs.Lookup.{symbol_in}
use Rattle.cpn_lex.specs.Fronts.{begins_with, named}
use Rattle.cpn_lex.proofs.FirstBytes.{symbol_of, new_name, after_quote, not_empty}
use Rattle.cpn_lex.proofs.StringEnds.{closes_once}

-- One text is the front of the other, or they are the same.
compared : (a b c d : List ℕ) → a ++ b ≡ c ++ d → ((a ≡ c) × (b ≡ d)) ⊎ (((x : ℕ) × (xs : List ℕ) × (c ≡ a ++ x ∷ xs) × (b ≡ x ∷ xs ++ d)) ⊎ ((x : ℕ) × (xs : List ℕ) × (a ≡ c ++ x ∷ xs) × (d ≡ x ∷ xs ++ b)))
compared [] b [] d e = inl (refl, e)
compared [] b (x ∷ xs) d e = inr (inl (x, xs, refl, e))
compared (x ∷ xs) b [] d e = inr (inr (x, xs, refl, sym e))
compared (x ∷ a) b (y ∷ c) d e =
    let same : x ≡ y = cc in
    let tails : a ++ b ≡ c ++ d = cc in
    elim (compared a b c d tails) [
      | inl h ↦ inl (cc (h.0), h.1)
      | inr h ↦ elim h [
        | inl k ↦ inr (inl (k.0, k.1, cc (k.2), k.3))
        | inr k ↦ inr (inr (k.0, k.1, cc (k.2), k.3))
      ]
    ]

-- at most one front of a text is longest
pub longest_once : (front rest front' rest' : List ℕ) (kind kind' : PlainKind) → IsToken front rest kind → IsToken front' rest' kind' → front ++ rest ≡ front' ++ rest' → (front ≡ front') × (rest ≡ rest')
longest_once front rest front' rest' kind kind' h k e =
    elim (compared front rest front' rest' e) [
      | inl s ↦ s
      | inr m ↦ elim m [
        | inl l ↦ absurd (h.longest l.0 l.1 rest' kind' l.3 (subst (λ bytes. Spells bytes kind') l.2 k.spelled))
        | inr l ↦ absurd (k.longest l.0 l.1 rest kind l.3 (subst (λ bytes. Spells bytes kind) l.2 h.spelled))
      ]
    ]

-- ---- what it is

-- what bytes spell that don't begin with a quote
abbrev kind_of : List ℕ → Option PlainKind
kind_of [] = None
kind_of (first ∷ rest) =
    if is_letter first then Some (named (symbol_of (first ∷ rest)) (first ∷ rest))
    else (if is_digit first then Some (number (pos (digits_value 10 (first ∷ rest))))
    else (if is_tilde first && begins_with is_digit rest then Some (number (neg_ℤ (pos (digits_value 10 rest))))
    else option_map symbol (symbol_of (first ∷ rest))))

kind_of-spelling : (s : Symbol) → kind_of (spelling s) ≡ Some (symbol s)
unfolding symbol_in
kind_of-spelling Colset = refl
kind_of-spelling s = refl

digit_is : (first : ℕ) → is_digit first ≡ true → is_letter first ≡ false
digit_is first d = grind (arith, nat_tests)

tilde_is : (first : ℕ) → is_tilde first ≡ true → (is_letter first ≡ false) × (is_digit first ≡ false)
tilde_is first t = (grind (arith, nat_tests), grind (arith, nat_tests))

unquoted : (first : ℕ) (rest : List ℕ) (kind : PlainKind) → Spells (first ∷ rest) kind → is_quote first ≡ false → kind_of (first ∷ rest) ≡ Some kind
unquoted first rest kind (a_name bytes h new) q = rw (new_name (first ∷ rest) new, h.0) refl
unquoted first rest kind (a_number bytes z (not_negative digits h)) q = rw (digit_is first h.0, h.0) refl
unquoted first [] kind (a_number bytes z (negative tilde digits t h)) q = absurd h
unquoted first (d ∷ rest) kind (a_number bytes z (negative tilde digits t h)) q =
    let n = tilde_is first t in rw (n.0, n.1, t, h.0) refl
unquoted first rest kind (a_string bytes meant h) q = absurd (let p = h.0 in cc)
unquoted first rest kind (a_symbol bytes s e) q = ap kind_of (sym e) ∙ kind_of-spelling s

-- bytes spell one token
pub spells_once : (bytes : List ℕ) (kind kind' : PlainKind) → Spells bytes kind → Spells bytes kind' → kind ≡ kind'
spells_once [] kind kind' h k = absurd (not_empty kind h)
spells_once (first ∷ rest) kind kind' h k = by_quote (is_quote first) refl
  where
    by_quote : (b : Bool) → is_quote first ≡ b → kind ≡ kind'
    by_quote true q =
        let a = after_quote first rest kind h q in
        let b = after_quote first rest kind' k q in
        a.2 ∙ ap text (closes_once rest a.0 b.0 a.1 b.1) ∙ sym b.2
    by_quote false q =
        let a = unquoted first rest kind h q in
        let b = unquoted first rest kind' k q in
        cc

-- A text has one token at its front.
pub token_once : (front rest front' rest' : List ℕ) (kind kind' : PlainKind) → IsToken front rest kind → IsToken front' rest' kind' → front ++ rest ≡ front' ++ rest' → (front ≡ front') × (rest ≡ rest') × (kind ≡ kind')
token_once front rest front' rest' kind kind' h k e =
    let same = longest_once front rest front' rest' kind kind' h k e in
    (same.0, same.1, spells_once front' kind kind' (subst (λ bytes. Spells bytes kind) same.0 h.spelled) k.spelled)
