-- The refusals of the groups of rules, one behind the other.
use Rattle.cpn_document.specs.Document.{arc_rules}
use Rattle.cpn_document.proofs.BrokenRules.{refused_or}
use Rattle.cpn_document.proofs.arcs.arc_refusal.Goals as goal

pub returns : goal.returns
unfolding arc_rules
returns c =
    let keys = rw (c.arc_keys.ensures.exact, c.at_arc-whole.ensures.exact) at c.keys_refusal.ensures.exact in
    let place = rw (c.at_arc-whole.ensures.exact, c.at_arc-at_place.ensures.exact) at c.name_refusal.ensures.exact in
    let transition = rw (c.at_arc-whole.ensures.exact, c.at_arc-at_transition.ensures.exact) at c.name_refusal-2.ensures.exact in
    let way = rw (c.at_arc-whole.ensures.exact, c.at_arc-at_way.ensures.exact) at c.word_refusal.ensures.exact in
    let expr = rw (c.at_arc-whole.ensures.exact, c.at_arc-at_expr.ensures.exact) at c.optional_text_refusal.ensures.exact in
    record { exact = refused_or _ _ _ _ _ c.or-4.ensures (refused_or _ _ _ _ _ c.or-3.ensures (refused_or _ _ _ _ _ c.or-2.ensures (refused_or _ _ _ _ _ c.or.ensures keys place) transition) way) expr }
