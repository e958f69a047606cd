-- Going over a text token by token.
use Rattle.std.proofs.Common.{◌≡◌, ℕ, ◌+◌, ◌<◌, true, false, List, [], ◌∷◌, ◌++◌, length, take, drop, get_or, arith}
use Rattle.std.proofs.lemmas.Bool.Decides.{nat_tests}
use Rattle.std.proofs.lemmas.List.{append-nil, drop_more, take-append-drop, length-take-le, drop-drop}
use Rattle.cpn_lex.specs.declared.refusals.LexError.TheVariants.{BadByte}
use Rattle.cpn_lex.specs.Token.{PlainKind, PlainToken}
use Rattle.cpn_lex.specs.Lexis.{is_blank, is_quote, HasNoToken, Fits}
use Rattle.cpn_lex.specs.Tokens.{Goes, stops, blank, token}
use Rattle.cpn_lex.specs.Refusals.{BreaksAt, no_token}
use Rattle.cpn_lex.specs.Fronts.{Begins, begins_with}

-- one way, and another from its end
joined : (at : ℕ) (bytes : List ℕ) (tokens : List PlainToken) (end : ℕ) (rest : List ℕ) → Goes at bytes tokens end rest →
    (later : List PlainToken) (last : ℕ) (left : List ℕ) → Goes end rest later last left → Goes at bytes (tokens ++ later) last left
joined at bytes tokens end rest (stops at' bytes') later last left k = k
joined at bytes tokens end rest (blank at' byte others tokens' end' rest' b h) later last left k =
    blank at byte others (tokens ++ later) last left b (joined (at + 1) others tokens end rest h later last left k)
joined at bytes tokens end rest (token at' front others kind tokens' end' rest' t fits h) later last left k =
    token at front others kind (tokens' ++ later) last left t fits (joined (at + length front) others tokens' end rest h later last left k)

-- past one blank
pub goes_blank : (bytes : List ℕ) (tokens : List PlainToken) (at : ℕ) → Goes 0 bytes tokens at (drop at bytes) → at < length bytes → is_blank (get_or bytes at 0) ≡ true → Goes 0 bytes tokens (at + 1) (drop (at + 1) bytes)
goes_blank bytes tokens at h lt b =
    let step = blank at (get_or bytes at 0) (drop (at + 1) bytes) [] (at + 1) (drop (at + 1) bytes) b (stops (at + 1) (drop (at + 1) bytes)) in
    let here = rw (← (drop_more bytes at 0 lt)) at step in
    rw append-nil at (joined 0 bytes tokens at (drop at bytes) h [] (at + 1) (drop (at + 1) bytes) here)

-- past one token
pub goes_token : (bytes : List ℕ) (tokens : List PlainToken) (at : ℕ) (kind : PlainKind) (len : ℕ) → Goes 0 bytes tokens at (drop at bytes) → Begins (drop at bytes) kind len → Fits kind → Goes 0 bytes (tokens ++ record { kind = kind; at = at } ∷ []) (at + len) (drop (at + len) bytes)
goes_token bytes tokens at kind len h t fits =
    let rest = drop at bytes in
    let one = token at (take len rest) (drop len rest) kind [] (at + length (take len rest)) (drop len rest) t.token fits (stops (at + length (take len rest)) (drop len rest)) in
    let here = rw (take-append-drop len rest, length-take-le len rest t.within, drop-drop len at bytes) at one in
    joined 0 bytes tokens at rest h (record { kind = kind; at = at } ∷ []) (at + len) (drop (at + len) bytes) here

-- where no token begins
not_quote : (byte : ℕ) → (byte ≡ 34 → ⊥) → is_quote byte ≡ false
not_quote byte q = grind (arith, nat_tests)

pub none_at : (at : ℕ) (bytes : List ℕ) → 0 < length bytes → begins_with is_blank bytes ≡ false → (get_or bytes 0 0 ≡ 34 → ⊥) → HasNoToken bytes → BreaksAt at bytes (BadByte at)
none_at at [] long b q none = absurd (omega (arith, long))
none_at at (byte ∷ rest) long b q none = no_token at byte rest b (not_quote byte q) none
