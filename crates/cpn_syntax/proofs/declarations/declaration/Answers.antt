-- Reads a declaration with its semicolon.
use Rattle.std.proofs.Common.{[], refl}
use Rattle.std.proofs.lemmas.Result.{err_from_is_err_and}
use Rattle.cpn_lex.specs.Token.{token_view}
use Rattle.cpn_syntax.specs.Completions.{Closes, semicolon}
use Rattle.cpn_syntax.specs.Fragments.{whole}
use Rattle.cpn_syntax.proofs.Fragments.{leaves_on, leaves_to_halt, leaves_next, halts_next}
use Rattle.cpn_syntax.proofs.Phrases.{is_symbol_token, symbol_token, sign_next, no_sign_next, can_sign}
use Rattle.cpn_syntax.proofs.DeclarationParts.{decl_begins, semicolon_ends, no_decl_at_end, no_decl_of}
use Rattle.cpn_syntax.proofs.declarations.declaration.Goals as goal

pub returns-in_default-clause-stops : goal.returns-in_default-clause-stops
returns-in_default-clause-stops c = λ no. rw (c.in_default.ensures.none refl) no_decl_at_end

pub returns-in_default-kind : goal.returns-in_default-kind
returns-in_default-kind c = let t = c.in-Some.token.now in record {
  read = tt;
  stops = λ no. rw c.in-Some.ensures.some (no_decl_of (token_view t) (λ s is. c.in_default-kind.not-Symbol s (is_symbol_token t s is)));
}

pub returns-in_err-form-clause-stops : goal.returns-in_err-form-clause-stops
returns-in_err-form-clause-stops c =
    let p = err_from_is_err_and c.from_residual.result c.from_residual.ensures.1 in
    rw (p.1, p.2) (λ no. rw (c.in-Some.ensures.some, symbol_token c.in-Some.token.now c.in-Symbol.symbol c.in-Symbol.is)
    (leaves_to_halt decl_begins (halts_next {Within = Closes semicolon} semicolon_ends (λ d. can_sign (_, [], whole)) (c.in_err-form.ensures.stops no))))

pub returns-in_err-take-clause-stops : goal.returns-in_err-take-clause-stops
returns-in_err-take-clause-stops c =
    let p = err_from_is_err_and c.from_residual-in_err-take.result c.from_residual-in_err-take.ensures.1 in
    rw (p.1, p.2) (λ no. rw (c.in-Some.ensures.some, symbol_token c.in-Some.token.now c.in-Symbol.symbol c.in-Symbol.is)
    (leaves_to_halt decl_begins (leaves_to_halt (leaves_next semicolon_ends c.in_ok-form.ensures.read) (no_sign_next (_, [], whole) c.in_err-take.ensures.refused))))

pub returns-clause-read : goal.returns-clause-read
returns-clause-read c =
    rw (c.in-Some.ensures.some, symbol_token c.in-Some.token.now c.in-Symbol.symbol c.in-Symbol.is)
    (leaves_on decl_begins (leaves_on (leaves_next semicolon_ends c.in_ok-form.ensures.read) (sign_next c.in_ok-take.ensures.taken)))
