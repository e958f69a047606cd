-- The values with one more.
use Rattle.std.proofs.Common.{map, ap, ◌++◌, ◌∷◌, []}
use Rattle.std.proofs.lemmas.List.{map-append}
use Rattle.cpn_trees.specs.AstViews.{local_view}
use Rattle.cpn_trees.proofs.FormViews as levels
use Rattle.cpn_syntax.proofs.following_tokens.with_value.Goals as goal

pub returns : goal.returns
returns c =
    rw (c.in_ok-push.ensures.items, map-append) (ap (λ one. map local_view c.args.values.items ++ one ∷ []) (levels.view_local (record { name = c.args.name; value = c.args.value })))
