-- Reads the tokens that begin a part which has to bind so tightly.
use Rattle.std.proofs.Common.{rules, refl, sym, ap, ◌∙◌, [], ◌∷◌, subst}
use Rattle.cpn_lex.specs.Token as token
use Rattle.cpn_lex.specs.Token.{token_view}
use Rattle.cpn_trees.specs.Trees.{ast, number}
use Rattle.cpn_syntax.specs.ReadForms.{want, have, Takes}
use Rattle.cpn_syntax.specs.Steps.{Comes}
use Rattle.cpn_syntax.specs.Unread.{unread}
use Rattle.cpn_syntax.proofs.Wants.{begins_never}
use Rattle.cpn_trees.proofs.FormViews as levels
use Rattle.cpn_syntax.proofs.FirstSteps as starting
use Rattle.cpn_syntax.proofs.first_tokens.begin.Goals as goal

pub returns-in_default-clause-stops : goal.returns-in_default-clause-stops
returns-in_default-clause-stops c other st least =
    rw (c.in_default.ensures.none refl) (starting.breaks (want st) [] (λ r w agrees takes. begins_never (subst (Takes (want st) r) agrees takes)))

pub returns-in-Number-clause-begun : goal.returns-in-Number-clause-begun
returns-in-Number-clause-begun c st least =
    rw (c.operand.ensures st, c.in-Some.ensures.some) (subst (λ f. Comes (want st) (token_view c.in-Some.token.now ∷ unread c.next.new.self) (have c.in-Some.token.now.at 11 (ast c.in-Some.token.now.at f) st) (unread c.next.new.self)) (ap number (search rules) ∙ sym (levels.view_number _))
    (starting.comes_number st _ (token_view c.in-Some.token.now) (ap token.kind_view c.in-Number.is)))

pub returns-in_ok-text-in-Text-clause-begun : goal.returns-in_ok-text-in-Text-clause-begun
returns-in_ok-text-in-Text-clause-begun c st least =
    let text = c.in_ok-text-in-Text.ensures.ok ∙ c.as_str.ensures.value in
    rw (c.operand-in-Text.ensures st, c.in-Some.ensures.some, levels.view_text c.in_ok-text-in-Text.text, text)
    (starting.comes_text st _ (token_view c.in-Some.token.now) (ap token.kind_view c.in-Text.is))
