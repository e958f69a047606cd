-- Tokens of a part that are read one by one.
use Rattle.std.proofs.Common.{◌≡◌, ℕ, ℤ, List, [], ◌∷◌, pos, String, Global, refl, ap}
use Rattle.cpn_lex.specs.Token.{PlainToken, kind_view, token_view}
use Rattle.cpn_lex.specs.declared.tokens.Kind.{Kind}
use Rattle.cpn_lex.specs.declared.tokens.Token.{Token}
use Rattle.cpn_lex.specs.Token as token
use Rattle.cpn_lex.specs.declared.symbols.Symbol.{Symbol}
use Rattle.cpn_syntax.specs.declared.refusals.SyntaxError.{SyntaxError}
use Rattle.cpn_syntax.specs.Texts.{Text, Is, IsName, IsNumber}
use Rattle.cpn_syntax.specs.Faults.{fault_at}
use Rattle.cpn_syntax.specs.Unread.{Reads, Begins}
use Rattle.cpn_syntax.specs.Phrases.{One, one, Names, last_one}
use Rattle.cpn_syntax.specs.Endings.{Anything}
use Rattle.cpn_syntax.specs.Fragments.{Leaves, ReadsAs, Halts}
use Rattle.cpn_syntax.proofs.Fragments.{Then, next, Sign, Can, one_read, one_halts, leaves_next, halts_next}

pub a_name : List ℕ → PlainToken
a_name n = record { kind = token.name n; at = 0 }

pub is_a_name : (n : List ℕ) → IsName n (a_name n)
unfolding a_name
is_a_name n = refl

a_number : ℤ → PlainToken
a_number z = record { kind = token.number z; at = 0 }

pub a_sign : Symbol → PlainToken
a_sign s = record { kind = token.symbol s; at = 0 }

pub is_sign : (s : Symbol) → Is s (a_sign s)
unfolding a_sign
is_sign s = refl

one_name : (m n : List ℕ) (t : PlainToken) → IsName m t → IsName n t → m ≡ n
one_name m n t x y = cc

one_number : (m n : ℤ) (t : PlainToken) → IsNumber m t → IsNumber n t → m ≡ n
one_number m n t x y = cc

module _ {Ends : Text → Type 0} {from : Text} where
  pub name_read : {to : Text} {n : List ℕ} → Reads (IsName n) from to → ReadsAs (One IsName) Ends from to n
  name_read = one_read one_name

  pub name_halts : {e : SyntaxError} → (e ≡ fault_at from) × ((n : List ℕ) → Begins (IsName n) from → ⊥) → Halts (One IsName) Ends from e
  unfolding a_name
  name_halts (is, refused) = one_halts [] (a_name []) refl is refused

-- ---- in front of what is left of a part

module _ {B : Type 0} {Ends : Text → Type 0} {from : Text} where
  pub sign_next : {s : Symbol} {Rest : B → Text → Type 0} {to : Text} {at : ℕ} → Reads (λ t. Is s t × (at ≡ t.at)) from to → Leaves (Then (Sign s) (λ _. Rest)) Rest Ends from to
  sign_next (t, is, split) = leaves_next {Within = Anything} (λ a b u v r e. tt) (one_read {a = tt} (λ a b t x y. refl) (t, is.0, split))

  pub no_sign_next : {s : Symbol} {Rest : B → Text → Type 0} {e : SyntaxError} → Can Rest → (e ≡ fault_at from) × (Begins (Is s) from → ⊥) → Halts (Then (Sign s) (λ _. Rest)) Ends from e
  no_sign_next {s} can (is, refused) = halts_next {Within = Anything} (λ a b u v r e. tt) (λ a. can) (one_halts tt (a_sign s) (is_sign s) is (λ a. refused))

  pub name_next : {Rest : List ℕ → B → Text → Type 0} {to : Text} {n : List ℕ} → Reads (IsName n) from to → Leaves (Then (One IsName) Rest) (Rest n) Ends from to
  name_next read = leaves_next {Within = Anything} (λ a b u v r e. tt) (name_read read)

  pub no_name_next : {Rest : List ℕ → B → Text → Type 0} {e : SyntaxError} → ((n : List ℕ) → Can (Rest n)) → (e ≡ fault_at from) × ((n : List ℕ) → Begins (IsName n) from → ⊥) → Halts (Then (One IsName) Rest) Ends from e
  no_name_next can refused = halts_next {Within = Anything} (λ a b u v r e. tt) can (name_halts refused)

  pub number_next : {Rest : ℤ → B → Text → Type 0} {to : Text} {z : ℤ} → Reads (IsNumber z) from to → Leaves (Then (One IsNumber) Rest) (Rest z) Ends from to
  number_next read = leaves_next {Within = Anything} (λ a b u v r e. tt) (one_read one_number read)

  pub no_number_next : {Rest : ℤ → B → Text → Type 0} {e : SyntaxError} → ((z : ℤ) → Can (Rest z)) → (e ≡ fault_at from) × ((z : ℤ) → Begins (IsNumber z) from → ⊥) → Halts (Then (One IsNumber) Rest) Ends from e
  unfolding a_number
  no_number_next can (is, refused) = halts_next {Within = Anything} (λ a b u v r e. tt) can (one_halts (pos 0) (a_number (pos 0)) refl is refused)

-- ---- a text for what is left

module _ {B : Type 0} where
  pub can_sign : {s : Symbol} {Rest : B → Text → Type 0} → Can Rest → Can (Then (Sign s) (λ _. Rest))
  can_sign {s} can = (can.0, a_sign s ∷ can.1, next (a_sign s ∷ []) can.1 (one (a_sign s) (is_sign s)) can.2)

  pub can_name : {Rest : List ℕ → B → Text → Type 0} → ((n : List ℕ) → Can (Rest n)) → Can (Then (One IsName) Rest)
  unfolding a_name
  can_name can = let r = can [] in (r.0, a_name [] ∷ r.1, next (a_name [] ∷ []) r.1 (one (a_name []) refl) r.2)

  pub can_number : {Rest : ℤ → B → Text → Type 0} → ((z : ℤ) → Can (Rest z)) → Can (Then (One IsNumber) Rest)
  unfolding a_number
  can_number can = let r = can (pos 0) in (r.0, a_number (pos 0) ∷ r.1, next (a_number (pos 0) ∷ []) r.1 (one (a_number (pos 0)) refl) r.2)

  pub can_names : {s : Symbol} {Rest : List (List ℕ) → B → Text → Type 0} → ((ns : List (List ℕ)) → Can (Rest ns)) → Can (Then (Names s) Rest)
  unfolding a_name
  can_names can = let r = can ([] ∷ []) in (r.0, a_name [] ∷ r.1, next (a_name [] ∷ []) r.1 (last_one (a_name [] ∷ []) (one (a_name []) refl)) r.2)

-- ---- the kinds of tokens

-- a token of the program that is a name, and one that is a symbol
pub is_name_token : (t : Token) (n : List ℕ) → IsName n (token_view t) → (s : String Global) × (t.kind ≡ Kind.Name s)
is_name_token t n is = named t.kind n is where
  named : (k : Kind) (n : List ℕ) → kind_view k ≡ token.name n → (s : String Global) × (k ≡ Kind.Name s)
  named (Kind.Name s) n is = (s, refl)
  named _ n is = cc

pub is_symbol_token : (t : Token) (s : Symbol) → Is s (token_view t) → t.kind ≡ Kind.Symbol s
is_symbol_token t s is = symbol t.kind s is where
  symbol : (k : Kind) (s : Symbol) → kind_view k ≡ token.symbol s → k ≡ Kind.Symbol s
  symbol (Kind.Symbol r) s is = let e : r ≡ s = cc in ap Kind.Symbol e
  symbol _ s is = cc

pub symbol_token : (t : Token) (s : Symbol) → t.kind ≡ Kind.Symbol s → token_view t ≡ record { kind = token.symbol s; at = t.at }
symbol_token t s is = rw is refl
