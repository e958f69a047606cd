-- A text has one list of tokens, or breaks one rule first, and not both: so what was answered is it.
use Rattle.std.proofs.Common.{◌≡◌, ◌⊎◌, inl, inr, refl, ap, List, ℕ, Vec, Global}
use Rattle.std.specs.Prelude.{Result, Ok, Err, IfOk, IfErr, IsErrOf, MatchResult}
use Rattle.cpn_lex.specs.declared.tokens.Token.{Token}
use Rattle.cpn_lex.specs.declared.refusals.LexError.{LexError}
use Rattle.cpn_lex.specs.declared.refusals.LexError.TheVariants.{Memory, TooLong, BadByte, OpenString, NumberTooLarge}
use Rattle.cpn_lex.specs.Token.{PlainToken, tokens_view}
use Rattle.cpn_lex.specs.Tokens.{Lexes}
use Rattle.cpn_lex.specs.Refusals.{Breaks}
use Rattle.cpn_lex.specs.Fronts.{Says}
use Rattle.cpn_lex.proofs.OneLexing.{lexes_once, lexes_or_breaks, breaks_once}
use Rattle.cpn_lex.proofs.lexing.lex.Goals as goal

only_tokens : (bytes : List ℕ) (r : Result (Vec Token Global) LexError) → IfOk r (λ found. Lexes bytes (tokens_view found.items)) → IfErr r (Says (Breaks bytes)) →
    (tokens : List PlainToken) → Lexes bytes tokens → MatchResult r (λ found. tokens_view found.items ≡ tokens) (λ e. e ≡ Memory)
only_tokens bytes (Ok found) ok err tokens h = lexes_once bytes (tokens_view found.items) tokens ok h
only_tokens bytes (Err Memory) ok err tokens h = refl
only_tokens bytes (Err TooLong) ok err tokens h = absurd err
only_tokens bytes (Err (BadByte at)) ok err tokens h = absurd (lexes_or_breaks bytes tokens _ h err)
only_tokens bytes (Err (OpenString at)) ok err tokens h = absurd (lexes_or_breaks bytes tokens _ h err)
only_tokens bytes (Err (NumberTooLarge at)) ok err tokens h = absurd (lexes_or_breaks bytes tokens _ h err)

only_refusal : (bytes : List ℕ) (r : Result (Vec Token Global) LexError) → IfOk r (λ found. Lexes bytes (tokens_view found.items)) → IfErr r (Says (Breaks bytes)) →
    (refusal : LexError) → Breaks bytes refusal → IsErrOf r refusal ⊎ IsErrOf r Memory
only_refusal bytes (Ok found) ok err refusal h = absurd (lexes_or_breaks bytes (tokens_view found.items) refusal ok h)
only_refusal bytes (Err Memory) ok err refusal h = inr refl
only_refusal bytes (Err TooLong) ok err refusal h = absurd err
only_refusal bytes (Err (BadByte at)) ok err refusal h = inl (ap Err (breaks_once bytes _ refusal err h))
only_refusal bytes (Err (OpenString at)) ok err refusal h = inl (ap Err (breaks_once bytes _ refusal err h))
only_refusal bytes (Err (NumberTooLarge at)) ok err refusal h = inl (ap Err (breaks_once bytes _ refusal err h))

pub returns-clause-complete : goal.returns-clause-complete
returns-clause-complete c tokens short h = only_tokens c.args.text.now c.tokens_of.result c.tokens_of.ensures.ok c.tokens_of.ensures.err tokens h

pub returns-clause-refused : goal.returns-clause-refused
returns-clause-refused c refusal short h = only_refusal c.args.text.now c.tokens_of.result c.tokens_of.ensures.ok c.tokens_of.ensures.err refusal h

pub returns-clause-one_list : goal.returns-clause-one_list
returns-clause-one_list c = lexes_once c.args.text.now

pub returns-clause-one_rule : goal.returns-clause-one_rule
returns-clause-one_rule c = breaks_once c.args.text.now

pub returns-clause-not_both : goal.returns-clause-not_both
returns-clause-not_both c = lexes_or_breaks c.args.text.now

pub returns-then-text-gt-MOST_BYTES-clause-one_list : goal.returns-then-text-gt-MOST_BYTES-clause-one_list
returns-then-text-gt-MOST_BYTES-clause-one_list c = lexes_once c.args.text.now

pub returns-then-text-gt-MOST_BYTES-clause-one_rule : goal.returns-then-text-gt-MOST_BYTES-clause-one_rule
returns-then-text-gt-MOST_BYTES-clause-one_rule c = breaks_once c.args.text.now

pub returns-then-text-gt-MOST_BYTES-clause-not_both : goal.returns-then-text-gt-MOST_BYTES-clause-not_both
returns-then-text-gt-MOST_BYTES-clause-not_both c = lexes_or_breaks c.args.text.now
