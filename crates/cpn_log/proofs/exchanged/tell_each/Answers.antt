-- One token more is told.
use Rattle.std.proofs.Common.{◌≡◌, ◌+◌, ◌∷◌, ◌++◌, [], append_assoc, map, sym, ap, ◌∙◌, take, arith}
use Rattle.cpn_core.specs.OutputsViews.{made_view, made_views}
use Rattle.cpn_log.specs.Gathered.{and_then, each_once, made_change}
use Rattle.cpn_log.proofs.EachOnce.{each_once_more}
use Rattle.cpn_log.proofs.ToldItems.{seen_more}
use Rattle.cpn_definitions.proofs.ListItems.{map_more}
use Rattle.cpn_log.proofs.exchanged.tell_each.Goals as goal

pub loop-token-preserved : goal.loop-token-preserved
loop-token-preserved c =
    λ told so.
    let token = made_view c.token-item.result in
    let change = made_change token in
    let i = c.loop-token.token-index in
    let tokens = c.args.tokens.now in
    let before = map made_change (made_views (take i tokens)) in
    let behind : told ++ map made_change (made_views (take (i + 1) tokens)) ≡ (told ++ before) ++ change ∷ [] =
    ap (λ xs. told ++ map made_change xs) (seen_more made_view tokens i c.token-item.result (omega arith) c.token-item.is) ∙ ap (λ xs. told ++ xs) (map_more made_change (made_views (take i tokens)) token) ∙ sym (append_assoc told before (change ∷ [])) in
    c.in_ok-tell.ensures ∙ ap (and_then change) (c.loop-token.invariant told so) ∙ sym (each_once_more change (told ++ before)) ∙ ap each_once (sym behind)
