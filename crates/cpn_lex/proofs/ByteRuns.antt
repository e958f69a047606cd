-- The longest run of bytes of one kind at the front of a text: names and numbers.
use Rattle.std.proofs.Common.{◌≡◌, ℕ, ◌+◌, pos, neg_ℤ, Bool, true, false, ◌&&◌, cond, List, [], ◌∷◌, ◌++◌, length, drop, Option, Some, None, refl, sym, ap, ◌∙◌, arith, add-zero, zero-add, get_or, true≢false}
use Rattle.std.proofs.lemmas.Bool.Decides.{nat_tests}
use Rattle.std.proofs.lemmas.List.Folds.{list_all-append, length-prefix_len}
use Rattle.std.proofs.lemmas.List.Sums.{take_while-cons, prefix_len_stops}
use Rattle.std.proofs.lemmas.List.{length-drop, length-append, get_or-drop, take-append-drop, take_at, drop_at}
use Rattle.std.specs.List.{list_all, prefix_len, take_while}
use Rattle.std.specs.Str.Parse.{digits_value}
use Rattle.std.proofs.lemmas.Bool.{and_parts}
use Rattle.cpn_lex.specs.declared.symbols.Symbol.{Symbol}
use Rattle.cpn_lex.specs.Symbols.{spelling, words}
use Rattle.cpn_lex.specs.Lookup.{symbol_in}
use Rattle.cpn_lex.specs.Token.{PlainKind, number}
use Rattle.cpn_lex.specs.Lexis.{is_digit, is_letter, is_name_byte, is_tilde, AreDigits, not_negative, negative, Spells, a_name, a_number, a_symbol, IsLongest, IsToken}
use Rattle.cpn_lex.specs.Fronts.{Begins, begins_with, begins_number, named, signed}
use Rattle.cpn_lex.proofs.FirstBytes.{after_letter, after_digit, after_tilde, not_empty, symbol_of, symbol_of-spelling, symbol_in-spells}

-- ---- runs

-- each byte of the run passes
pub run_passes : (p : ℕ → Bool) (xs : List ℕ) → list_all p (take_while p xs) ≡ true
run_passes p [] = refl
run_passes p (x ∷ xs) = rw (take_while-cons p x xs) (elim (p x) as (λ b. (p x ≡ b) → list_all p (cond b (x ∷ take_while p xs) []) ≡ true)
    [ true ↦ λ h. rw (h, run_passes p xs) refl | false ↦ λ h. refl ] refl)

-- the byte after the run doesn't
pub run_stops : (p : ℕ → Bool) (xs : List ℕ) (byte : ℕ) (more : List ℕ) → drop (prefix_len p xs) xs ≡ byte ∷ more → p byte ≡ false
run_stops p xs byte more e =
    let long = ap length e in
    let here : byte ≡ get_or xs (prefix_len p xs) byte = ap (λ ys. get_or ys 0 byte) (sym e) ∙ get_or-drop (prefix_len p xs) xs 0 byte ∙ ap (λ i. get_or xs i byte) (add-zero (prefix_len p xs)) in
    ap p here ∙ prefix_len_stops p xs byte (omega (arith, length-drop (prefix_len p xs) xs))

-- A run is longest where tokens go on by bytes that pass.
pub run_is_longest : (p : ℕ → Bool) (first : ℕ) (run rest : List ℕ) → ((more : List ℕ) (kind : PlainKind) → Spells (first ∷ more) kind → list_all p more ≡ true) → ((byte : ℕ) (more : List ℕ) → rest ≡ byte ∷ more → p byte ≡ false) → IsLongest (first ∷ run) rest
run_is_longest p first run rest goes stops = λ byte more after kind e spelled.
    let passes = goes (run ++ byte ∷ more) kind spelled in
    let both = rw (list_all-append p run (byte ∷ more)) at passes in
    let here = and_parts (list_all p run) (p byte && list_all p more) both in
    let last = and_parts (p byte) (list_all p more) here.1 in
    absurd (true≢false (sym last.0 ∙ stops byte (more ++ after) e))

-- ---- the front of a text

-- a token that is the front of a text, by its length
pub begins : (bytes front rest : List ℕ) (kind : PlainKind) (len : ℕ) → bytes ≡ front ++ rest → len ≡ length front → IsToken front rest kind → Begins bytes kind len
begins bytes [] rest kind len e l t = absurd (not_empty kind t.spelled)
begins bytes (x ∷ front) rest kind len e l t = record {
  some = omega (arith, l);
  within = omega (arith, l, ap length e, length-append (x ∷ front) rest);
  token = rw (e, take_at (x ∷ front) rest len (sym l), drop_at (x ∷ front) rest len (sym l)) t;
}

-- a first byte and the run after it, with what follows them
split : (p : ℕ → Bool) (first : ℕ) (rest : List ℕ) → first ∷ rest ≡ (first ∷ take_while p rest) ++ drop (prefix_len p rest) rest
split p first rest = ap (λ ys. first ∷ ys) (sym (take-append-drop (prefix_len p rest) rest))

-- what a name spells: a reserved word, or no such word
named_spells : (first : ℕ) (rest : List ℕ) → is_letter first ≡ true → list_all is_name_byte rest ≡ true → (found : Option Symbol) → symbol_in words (first ∷ rest) ≡ found → Spells (first ∷ rest) (named found (first ∷ rest))
named_spells first rest l h (Some s) e = a_symbol (first ∷ rest) s (symbol_in-spells words (first ∷ rest) s e)
named_spells first rest l h None e = a_name (first ∷ rest) (l, h) (λ s f. no_word s f (symbol_of-spelling s))
  where
    no_word : (s : Symbol) → spelling s ≡ first ∷ rest → symbol_of (spelling s) ≡ Some s → ⊥
    no_word s f g = let h = rw (f, l, e) at g in absurd cc

-- A letter and the bytes of names after it are a name or a reserved word.
pub name_begins : (bytes : List ℕ) → begins_with is_letter bytes ≡ true → Begins bytes (named (symbol_in words (take_while is_name_byte bytes)) (take_while is_name_byte bytes)) (prefix_len is_name_byte bytes)
name_begins [] l = absurd cc
name_begins (first ∷ rest) l =
    let is_byte : is_name_byte first ≡ true = grind (arith, nat_tests) in
    let run = take_while-cons is_name_byte first rest ∙ ap (λ b. cond b (first ∷ take_while is_name_byte rest) []) is_byte in
    let long : prefix_len is_name_byte (first ∷ rest) ≡ length (first ∷ take_while is_name_byte rest) = sym (length-prefix_len is_name_byte (first ∷ rest)) ∙ ap length run in
    rw run (begins (first ∷ rest) (first ∷ take_while is_name_byte rest) (drop (prefix_len is_name_byte rest) rest) _ _ (split is_name_byte first rest) long
    (record {
      spelled = named_spells first (take_while is_name_byte rest) l (run_passes is_name_byte rest) _ refl;
      longest = run_is_longest is_name_byte first (take_while is_name_byte rest) (drop (prefix_len is_name_byte rest) rest) (λ more kind s. after_letter first more kind s l) (run_stops is_name_byte rest);
    }))

-- Digits are a number.
digits_begin : (first : ℕ) (rest : List ℕ) → is_digit first ≡ true → Begins (first ∷ rest) (number (pos (digits_value 10 (take_while is_digit (first ∷ rest))))) (length (take_while is_digit (first ∷ rest)))
digits_begin first rest d =
    let run = take_while-cons is_digit first rest ∙ ap (λ b. cond b (first ∷ take_while is_digit rest) []) d in
    rw run (begins (first ∷ rest) (first ∷ take_while is_digit rest) (drop (prefix_len is_digit rest) rest) _ _ (split is_digit first rest) refl
    (record {
      spelled = a_number _ _ (not_negative (first ∷ take_while is_digit rest) (d, run_passes is_digit rest));
      longest = run_is_longest is_digit first (take_while is_digit rest) (drop (prefix_len is_digit rest) rest) (λ more kind s. after_digit first more kind s d) (run_stops is_digit rest);
    }))

are_digits : (rest : List ℕ) → begins_with is_digit rest ≡ true → AreDigits (take_while is_digit rest)
are_digits [] d = absurd cc
are_digits (first ∷ rest) d = rw (take_while-cons is_digit first rest ∙ ap (λ b. cond b (first ∷ take_while is_digit rest) []) d) (d, run_passes is_digit rest)

-- `~` and digits are a number.
tilde_begins : (first : ℕ) (rest : List ℕ) → is_tilde first ≡ true → begins_with is_digit rest ≡ true → Begins (first ∷ rest) (number (neg_ℤ (pos (digits_value 10 (take_while is_digit rest))))) (1 + length (take_while is_digit rest))
tilde_begins first rest t d =
    begins (first ∷ rest) (first ∷ take_while is_digit rest) (drop (prefix_len is_digit rest) rest) _ _ (split is_digit first rest) (omega arith)
    (record {
      spelled = a_number _ _ (negative first (take_while is_digit rest) t (are_digits rest d));
      longest = run_is_longest is_digit first (take_while is_digit rest) (drop (prefix_len is_digit rest) rest) (λ more kind s. after_tilde first more kind s t) (run_stops is_digit rest);
    })

after_sign : (first : ℕ) (rest : List ℕ) → begins_number (first ∷ rest) ≡ true → is_tilde first ≡ true → begins_with is_digit rest ≡ true
after_sign first rest h t = grind (arith, nat_tests)

no_sign : (first : ℕ) (rest : List ℕ) → begins_number (first ∷ rest) ≡ true → is_tilde first ≡ false → is_digit first ≡ true
no_sign first rest h t = grind (arith, nat_tests)

-- Digits, or `~` and digits, are a number, told whether it is negative.
pub number_begins : (bytes : List ℕ) → begins_number bytes ≡ true → (b : Bool) → begins_with is_tilde bytes ≡ b → (k : ℕ) → k ≡ cond b 1 0 →
    Begins bytes (number (signed b (digits_value 10 (take_while is_digit (drop k bytes))))) (k + length (take_while is_digit (drop k bytes)))
number_begins [] h b t k e = absurd cc
number_begins (first ∷ rest) h true t k e = rw e (tilde_begins first rest t (after_sign first rest h t))
number_begins (first ∷ rest) h false t k e = rw (e, zero-add (length (take_while is_digit (first ∷ rest)))) (digits_begin first rest (no_sign first rest h t))
