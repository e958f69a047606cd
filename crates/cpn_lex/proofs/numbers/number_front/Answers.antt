-- The longest run of digits is a number; it fits an `i64` exactly where the size that was counted does.
use Rattle.std.proofs.Common.{◌≡◌, ℕ, ◌+◌, ◌-◌, ◌^◌, ◌==◌, Bool, true, false, cond, min, List, [], ◌∷◌, length, take, drop, get_or, refl, sym, ap, ◌∙◌, subst, arith}
use Rattle.std.proofs.lemmas.Int.{ints, to_z-of_z}
use Rattle.std.proofs.lemmas.List.{length-drop, take_all, take-append-drop}
use Rattle.std.specs.Prelude.{FitsSigned}
use Rattle.std.specs.Int.{w64}
use Rattle.std.specs.List.{take_while}
use Rattle.std.specs.Str.Parse.{digits_value}
use mir.Val.{bool_byte}
use Rattle.cpn_lex.specs.Token.{number}
use Rattle.cpn_lex.specs.Lexis.{is_digit, is_tilde}
use Rattle.cpn_lex.specs.Fronts.{Begins, begins_with, begins_number, signed}
use Rattle.cpn_lex.specs.Refusals.{BreaksAt, too_large}
use Rattle.cpn_lex.specs.declared.refusals.LexError.TheVariants.{NumberTooLarge}
use Rattle.cpn_lex.proofs.ByteRuns.{run_passes, number_begins}
use Rattle.cpn_lex.proofs.numbers.number_front.Goals as goal

counted : (b : Bool) (n : ℕ) → FitsSigned w64 (signed b (min n (2 ^ 64 - 1))) → min n (2 ^ 64 - 1) ≡ n
counted true n h = omega (arith, ints, h.sfits)
counted false n h = omega (arith, ints, h.sfits)

fitting : (b : Bool) (n : ℕ) → FitsSigned w64 (signed b n) → min n (2 ^ 64 - 1) ≡ n
fitting true n h = omega (arith, ints, h.sfits)
fitting false n h = omega (arith, ints, h.sfits)

-- what follows the sign
abbrev digits_after : ℕ → List ℕ → List ℕ
digits_after k text = take_while is_digit (take (length text - k) (drop k text))

byte_of : (b : Bool) → bool_byte b ≡ cond b 1 0
byte_of true = refl
byte_of false = refl

first_is : (text : List ℕ) → begins_number text ≡ true → begins_with is_tilde text ≡ (get_or text 0 0 == 126)
first_is [] h = absurd cc
first_is (first ∷ rest) h = refl

number_read : (text digits : List ℕ) (k : ℕ) (b : Bool) → begins_number text ≡ true → digits ≡ digits_after k text → k ≡ bool_byte b → b ≡ (get_or text 0 0 == 126) →
    Begins text (number (signed b (digits_value 10 digits))) (k + length digits)
number_read text digits k b h d e t =
    let whole : take (length text - k) (drop k text) ≡ drop k text = take_all (length text - k) (drop k text) (omega (arith, length-drop k text)) in
    rw (d, whole) (number_begins text h b (first_is text h ∙ sym t) k (e ∙ byte_of b))

too_large_at : (at : ℕ) (text : List ℕ) (b : Bool) (n len : ℕ) → Begins text (number (signed b n)) len → (FitsSigned w64 (signed b (min n (2 ^ 64 - 1))) → ⊥) → BreaksAt at text (NumberTooLarge at)
too_large_at at text b n len read large =
    subst (λ bytes. BreaksAt at bytes (NumberTooLarge at)) (take-append-drop len text)
    (too_large at (take len text) (drop len text) (signed b n) read.token (λ fits. large (rw (fitting b n fits) fits)))

pub size_of-requires : goal.size_of-requires
size_of-requires c = rw c.leading_digits-digits.ensures (run_passes is_digit (take (length c.args.text.now - c.from-sign_length.result) (drop c.from-sign_length.result c.args.text.now)))

pub returns-in-Some-clause-ok : goal.returns-in-Some-clause-ok
returns-in-Some-clause-ok c =
    let b = get_or c.args.text.now 0 0 == 126 in
    let read = number_read c.args.text.now c.leading_digits-digits.result.now c.from-sign_length.result b c.requires c.leading_digits-digits.ensures c.from-sign_length.ensures refl in
    let fits = rw c.size_of.ensures at c.in-Some.ensures.fits in
    let size = counted b (digits_value 10 c.leading_digits-digits.result.now) fits in
    let is = c.in-Some.ensures.number ∙ ap (signed b) (c.size_of.ensures ∙ size) in
    let within : FitsSigned w64 c.in-Some.number = rw c.in-Some.ensures.number c.in-Some.ensures.fits in
    rw (to_z-of_z w64 c.in-Some.number within, is) read

pub returns-in-None-clause-err : goal.returns-in-None-clause-err
returns-in-None-clause-err c =
    let b = get_or c.args.text.now 0 0 == 126 in
    let read = number_read c.args.text.now c.leading_digits-digits.result.now c.from-sign_length.result b c.requires c.leading_digits-digits.ensures c.from-sign_length.ensures refl in
    too_large_at c.args.at c.args.text.now b (digits_value 10 c.leading_digits-digits.result.now) (c.from-sign_length.result + length c.leading_digits-digits.result.now) read (rw c.size_of.ensures at c.in-None.ensures.too_large)
