-- A further digit makes the number ten times larger, and adds its value.
use Rattle.std.proofs.Common.{◌≡◌, ℕ, ◌-◌, true, get_or, arith}
use Rattle.std.proofs.lemmas.Bool.Decides.{nat_tests}
use Rattle.std.proofs.lemmas.Int.Digits.{digits_value_more}
use Rattle.std.proofs.lemmas.List.Sums.{AllPass-from_list_all}
use Rattle.std.specs.Char.{digit_value}
use Rattle.cpn_lex.specs.Lexis.{is_digit}
use Rattle.cpn_lex.proofs.numbers.size_of.Goals as goal

digit_is_value : (byte : ℕ) → is_digit byte ≡ true → digit_value byte ≡ byte - 48
digit_is_value byte h = grind (arith, nat_tests)

pub loop-digit-preserved : goal.loop-digit-preserved
loop-digit-preserved c =
    let xs = c.args.digits.now in
    let i = c.loop-digit.digit-index in
    let more = digits_value_more 10 xs i c.loop-digit-test.true in
    let value = digit_is_value (get_or xs i 0) (AllPass-from_list_all is_digit xs c.requires i 0 c.loop-digit-test.true) in
    omega (arith, more, value)
