-- A blank is passed over, and a token is added.
use Rattle.std.proofs.Common.{◌≡◌, ◌-◌, [], ◌∷◌, length, take, drop, sym, ◌∙◌, arith}
use Rattle.std.proofs.lemmas.List.{length-drop, take_all, map-append}
use Rattle.cpn_lex.specs.Token.{kind_view, token_view, tokens_view}
use Rattle.cpn_lex.specs.Tokens.{stops}
use Rattle.cpn_lex.proofs.Goes.{goes_blank, goes_token}
use Rattle.cpn_lex.proofs.lexing.tokens_of.Goals as goal

pub text-init : goal.text-init
text-init c = record { within = omega arith; goes = rw c.new-tokens.ensures.items (stops 0 c.args.text.now) }

pub text-preserved-then-is_blank : goal.text-preserved-then-is_blank
text-preserved-then-is_blank c = record {
  within = omega arith;
  goes = goes_blank c.args.text.now (tokens_view c.text.tokens.items) c.text.at c.text.invariant.goes c.text-test.true (sym c.is_blank.ensures ∙ c.if-is_blank.true);
}

pub text-preserved : goal.text-preserved
text-preserved c =
    let text = c.args.text.now in
    let whole : take (length text - c.text.at) (drop c.text.at text) ≡ drop c.text.at text = take_all (length text - c.text.at) (drop c.text.at text) (omega (arith, length-drop c.text.at text)) in
    let begins = rw whole at c.in_ok-front.ensures.ok in
    let going = goes_token text (tokens_view c.text.tokens.items) c.text.at (kind_view c.in_ok-front.front.kind) c.in_ok-front.front.length c.text.invariant.goes begins c.in_ok-front.ensures.fits in
    record {
      within = omega (arith, begins.within, length-drop c.text.at text);
      goes = rw (c.in_ok-push.ensures.items, map-append token_view c.text.tokens.items (record { kind = c.in_ok-front.front.kind; at = c.text.at } ∷ [])) going;
    }
