-- The body of a colour set.
use Rattle.std.proofs.Common.{refl, ap, sym, ◌∙◌}
use Rattle.cpn_lex.specs.Token as token
use Rattle.cpn_lex.specs.Token.{token_view, kind_view}
use Rattle.cpn_syntax.proofs.Phrases.{is_name_token, is_symbol_token}
use Rattle.cpn_syntax.proofs.DeclarationParts.{named_read, no_body_at_end, no_body_of}
use Rattle.cpn_syntax.proofs.declarations.body.Goals as goal

pub returns-in_default-clause-stops : goal.returns-in_default-clause-stops
returns-in_default-clause-stops c = λ no. rw (c.in_default.ensures.none refl) no_body_at_end

pub returns-in_ok-from_str-in-Name-clause-read : goal.returns-in_ok-from_str-in-Name-clause-read
returns-in_ok-from_str-in-Name-clause-read c =
    rw c.in-Some.ensures.some (named_read (token_view c.in-Some.token.now) _ (ap kind_view c.in-Name.is ∙ ap token.name (sym (c.in_ok-from_str-in-Name.ensures.ok ∙ c.as_str.ensures.value))))

pub returns-in_default-kind-clause-stops : goal.returns-in_default-kind-clause-stops
returns-in_default-kind-clause-stops c = λ no.
    let t = c.in-Some.token.now in
    rw c.in-Some.ensures.some (no_body_of (token_view t)
    (λ n is. let s = is_name_token t n is in c.in_default-kind.not-Name s.0 s.1)
    (λ s is. c.in_default-kind.not-Symbol s (is_symbol_token t s is)))
