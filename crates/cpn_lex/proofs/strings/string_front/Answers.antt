-- Each piece goes on inside the string, closes it, or breaks a rule.
use Rattle.std.proofs.Common.{◌≡◌, ℕ, ◌<◌, true, List, [], ◌∷◌, ◌++◌, get_or, refl, arith}
use Rattle.std.proofs.lemmas.Bool.Decides.{nat_tests}
use Rattle.cpn_lex.specs.Lexis.{is_escapable, is_plain}
use Rattle.cpn_lex.proofs.StringPieces.{inside_starts, inside_plain, inside_escaped, inside_closed, inside_ends, inside_ends_escaped, inside_bad, inside_bad_escape}
use Rattle.cpn_lex.proofs.strings.string_front.Goals as goal

-- an ASCII byte as a character is that byte
pushed : (old new encoded : List ℕ) (char byte : ℕ) → new ≡ old ++ encoded → (char < 128 → encoded ≡ char ∷ []) → char ≡ byte → byte < 128 → new ≡ old ++ byte ∷ []
pushed old new encoded char byte n ascii same lt = rw (n, ascii (rw same lt), same) refl

ascii_plain : (byte : ℕ) → is_plain byte ≡ true → byte < 128
ascii_plain byte e = grind (arith, nat_tests)

ascii_escapable : (byte : ℕ) → is_escapable byte ≡ true → byte < 128
ascii_escapable byte e = grind (arith, nat_tests)

pub inside-init : goal.inside-init
inside-init c = rw c.new-meant.ensures.bytes (inside_starts c.args.at c.args.text.now c.requires.quoted)

pub inside-preserved-in-Plain : goal.inside-preserved-in-Plain
inside-preserved-in-Plain c =
    let small : c.in-Plain.byte < 128 = rw c.in-Plain.ensures.1 (ascii_plain (get_or c.args.text.now c.inside.read 0) c.in-Plain.ensures.0) in
    let is = pushed _ _ _ _ c.in-Plain.byte c.in_ok-push-in-Plain.ensures.bytes c.in_ok-push-in-Plain.ensures.ascii c.from.ensures small in
    rw is (inside_plain c.args.at c.args.text.now c.inside.read _ c.inside.invariant c.inside-test.true c.in-Plain.byte c.in-Plain.ensures)

pub inside-preserved : goal.inside-preserved
inside-preserved c =
    let is = pushed _ _ _ _ c.in-Escaped.byte c.in_ok-push-in-Escaped.ensures.bytes c.in_ok-push-in-Escaped.ensures.ascii c.from-in-Escaped.ensures (ascii_escapable c.in-Escaped.byte c.in-Escaped.ensures.3) in
    rw is (inside_escaped c.args.at c.args.text.now c.inside.read _ c.inside.invariant c.in-Escaped.byte c.in-Escaped.ensures)

pub returns-in-Quote-clause-ok : goal.returns-in-Quote-clause-ok
returns-in-Quote-clause-ok c = inside_closed c.args.at c.args.text.now c.inside.read _ c.inside.invariant c.requires.quoted c.inside-test.true c.in-Quote.ensures

pub returns-in-Bad-clause-err : goal.returns-in-Bad-clause-err
returns-in-Bad-clause-err c = inside_bad c.args.at c.args.text.now c.inside.read _ c.inside.invariant c.requires.quoted c.inside-test.true c.in-Bad.ensures

pub returns-in-BadEscape-clause-err : goal.returns-in-BadEscape-clause-err
returns-in-BadEscape-clause-err c = inside_bad_escape c.args.at c.args.text.now c.inside.read _ c.inside.invariant c.requires.quoted c.in-BadEscape.ensures

pub returns-in-End-clause-err : goal.returns-in-End-clause-err
returns-in-End-clause-err c = inside_ends_escaped c.args.at c.args.text.now c.inside.read _ c.inside.invariant c.requires.quoted c.inside-test.true c.in-End.ensures

pub returns-clause-err : goal.returns-clause-err
returns-clause-err c = inside_ends c.args.at c.args.text.now c.inside.read _ c.inside.invariant c.requires.quoted c.inside-test.false
