-- A name alone, or with the parenthesis of a call behind it.
use Rattle.std.proofs.Common.{refl}
use Rattle.cpn_lex.specs.Token as token
use Rattle.cpn_trees.proofs.FormViews as levels
use Rattle.cpn_syntax.proofs.FirstSteps as starting
use Rattle.cpn_syntax.proofs.first_tokens.begin_name.Goals as goal

pub returns-then-not-accept-clause-begun : goal.returns-then-not-accept-clause-begun
returns-then-not-accept-clause-begun c st =
    let other = c.accept.ensures.no c.if-not-accept.true in
    rw (c.operand.ensures st, other.0, levels.view_name c.args.name) (starting.comes_name st _ (record { kind = token.name _; at = c.args.at }) refl other.1)

pub returns-clause-begun : goal.returns-clause-begun
returns-clause-begun c st =
    let next = c.accept.ensures.yes c.if-not-accept.false in
    rw (next.2, c.new.ensures.items) (starting.comes_call st _ (record { kind = token.name _; at = c.args.at }) next.0 refl next.1)
