-- A text has at most as many tokens as bytes; each token that is a name is spelled as one, and each that is a number has 64 bits.
use Rattle.std.proofs.Common.{ℕ, ◌+◌, ◌<◌, ◌≤◌, List, [], ◌∷◌, length, arith}
use Rattle.std.specs.List.{AllByRecursion}
use Rattle.std.proofs.lemmas.List.{length-append}
use Rattle.cpn_lex.specs.Token.{PlainKind, PlainToken, name, number, text, symbol}
use Rattle.cpn_lex.specs.Lexis.{IsName, Spells, a_name, a_number, a_string, a_symbol, Fits}
use Rattle.cpn_lex.specs.Tokens.{Goes, stops, blank, token, Lexes}
use Rattle.cpn_lex.proofs.FirstBytes.{not_empty}

some_bytes : (front : List ℕ) (kind : PlainKind) → Spells front kind → 0 < length front
some_bytes [] kind h = absurd (not_empty kind h)
some_bytes (byte ∷ front) kind h = omega arith

few_up_to : (at : ℕ) (bytes : List ℕ) (tokens : List PlainToken) (end : ℕ) (rest : List ℕ) → Goes at bytes tokens end rest → length tokens + length rest ≤ length bytes
few_up_to at bytes tokens end rest (stops at' bytes') = omega arith
few_up_to at bytes tokens end rest (blank at' byte later tokens' end' rest' is goes) = let few = few_up_to (at' + 1) later tokens' end' rest' goes in omega (arith, few)
few_up_to at bytes tokens end rest (token at' front later kind tokens' end' rest' is fits goes) =
    let few = few_up_to (at' + length front) later tokens' end' rest' goes in
    let some = some_bytes front kind is.spelled in
    let all = length-append front later in
    omega (arith, few, some, all)

-- A text has at most as many tokens as bytes.
pub few_tokens : (bytes : List ℕ) (tokens : List PlainToken) → Lexes bytes tokens → length tokens ≤ length bytes
few_tokens bytes tokens h = let few = few_up_to 0 bytes tokens (length bytes) [] h in omega (arith, few)

-- a name is spelled as one
abbrev pub IsSpelled : PlainKind → Type 0
IsSpelled (name bytes) = IsName bytes
IsSpelled (number z) = Unit {0}
IsSpelled (text meant) = Unit {0}
IsSpelled (symbol s) = Unit {0}

spelled : (front : List ℕ) (kind : PlainKind) → Spells front kind → IsSpelled kind
spelled front kind (a_name bytes is other) = is
spelled front kind (a_number bytes z is) = tt
spelled front kind (a_string bytes meant is) = tt
spelled front kind (a_symbol bytes s is) = tt

spelled_up_to : (at : ℕ) (bytes : List ℕ) (tokens : List PlainToken) (end : ℕ) (rest : List ℕ) → Goes at bytes tokens end rest → AllByRecursion (λ t. IsSpelled t.kind) tokens
spelled_up_to at bytes tokens end rest (stops at' bytes') = tt
spelled_up_to at bytes tokens end rest (blank at' byte later tokens' end' rest' is goes) = spelled_up_to (at' + 1) later tokens' end' rest' goes
spelled_up_to at bytes tokens end rest (token at' front later kind tokens' end' rest' is fits goes) = (spelled front kind is.spelled, spelled_up_to (at' + length front) later tokens' end' rest' goes)

-- Each name among the tokens of a text is spelled as one.
pub names_spelled : (bytes : List ℕ) (tokens : List PlainToken) → Lexes bytes tokens → AllByRecursion (λ t. IsSpelled t.kind) tokens
names_spelled bytes tokens h = spelled_up_to 0 bytes tokens (length bytes) [] h

fitting_up_to : (at : ℕ) (bytes : List ℕ) (tokens : List PlainToken) (end : ℕ) (rest : List ℕ) → Goes at bytes tokens end rest → AllByRecursion (λ t. Fits t.kind) tokens
fitting_up_to at bytes tokens end rest (stops at' bytes') = tt
fitting_up_to at bytes tokens end rest (blank at' byte later tokens' end' rest' is goes) = fitting_up_to (at' + 1) later tokens' end' rest' goes
fitting_up_to at bytes tokens end rest (token at' front later kind tokens' end' rest' is fits goes) = (fits, fitting_up_to (at' + length front) later tokens' end' rest' goes)

-- Each number among the tokens of a text has 64 bits.
pub numbers_fit : (bytes : List ℕ) (tokens : List PlainToken) → Lexes bytes tokens → AllByRecursion (λ t. Fits t.kind) tokens
numbers_fit bytes tokens h = fitting_up_to 0 bytes tokens (length bytes) [] h
