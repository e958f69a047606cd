-- The rules of the list and of its length, and behind them those of the texts.
use Rattle.cpn_document.specs.Document.{declarations_rules, each_declaration}
use Rattle.cpn_document.proofs.SeenValues.{length_seen}
use Rattle.cpn_document.proofs.BrokenRules.{refused_or, is_refused, is_kept, broken_here, error_breaks, gives_later}
use Rattle.cpn_document.proofs.form.declarations_in.Goals as goal

pub returns-in-Some : goal.returns-in-Some
unfolding declarations_rules each_declaration
returns-in-Some c =
    let few = rw (← length_seen c.list_or_empty-list.result.now, c.list_or_empty-list.ensures.exact) at c.limit_refusal-few.ensures.exact in
    let all = refused_or _ _ _ _ _ c.or.ensures c.list_refusal-texts.ensures.exact few in
    record { gives = error_breaks _ _ _ c.from.ensures (broken_here _ _ _ (is_refused _ _ _ all c.in-Some.is)) }

pub returns : goal.returns
unfolding declarations_rules each_declaration
returns c =
    let few = rw (← length_seen c.list_or_empty-list.result.now, c.list_or_empty-list.ensures.exact) at c.limit_refusal-few.ensures.exact in
    let all = refused_or _ _ _ _ _ c.or.ensures c.list_refusal-texts.ensures.exact few in
    record { gives = gives_later _ _ _ _ _ (is_kept _ _ all c.in_default.is) (rw c.list_or_empty-list.ensures.exact at c.items_of.ensures.gives) }
