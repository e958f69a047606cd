-- `[]`, or the bracket of a list.
use Rattle.std.proofs.Common.{refl}
use Rattle.cpn_lex.specs.Token as token
use Rattle.cpn_lex.specs.declared.symbols.Symbol.TheVariants as sign
use Rattle.cpn_trees.proofs.FormViews as levels
use Rattle.cpn_syntax.proofs.FirstSteps as starting
use Rattle.cpn_syntax.proofs.first_tokens.begin_bracket.Goals as goal

pub returns-then-accept-clause-begun : goal.returns-then-accept-clause-begun
returns-then-accept-clause-begun c st =
    let next = c.accept.ensures.yes c.if-accept.true in
    rw (c.operand.ensures st, next.2, levels.view_list c.new.result, c.new.ensures.items) (starting.comes_no_items st _ (record { kind = token.symbol sign.OpenBracket; at = c.args.at }) next.0 refl next.1)

pub returns-clause-begun : goal.returns-clause-begun
returns-clause-begun c st =
    let other = c.accept.ensures.no c.if-accept.false in
    rw (other.0, c.new-2.ensures.items) (starting.comes_items st _ (record { kind = token.symbol sign.OpenBracket; at = c.args.at }) refl other.1)
