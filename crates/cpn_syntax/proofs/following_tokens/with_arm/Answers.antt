-- The arms with one more.
use Rattle.std.proofs.Common.{map, ap, ◌++◌, ◌∷◌, []}
use Rattle.std.proofs.lemmas.List.{map-append}
use Rattle.cpn_trees.specs.AstViews.{arm_view}
use Rattle.cpn_trees.proofs.FormViews as levels
use Rattle.cpn_syntax.proofs.following_tokens.with_arm.Goals as goal

pub returns : goal.returns
returns c =
    rw (c.in_ok-push.ensures.items, map-append) (ap (λ one. map arm_view c.args.arms.items ++ one ∷ []) (levels.view_arm (record { pattern = c.args.pattern; result = c.args.tree })))
