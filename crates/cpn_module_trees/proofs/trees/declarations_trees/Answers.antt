-- The tree of the next text comes behind those so far.
use Rattle.std.proofs.Common.{subst}
use Rattle.std.specs.Prelude.{string_bytes}
use Rattle.cpn_module_trees.specs.Parsing.{IsDeclaration}
use Rattle.cpn_module_trees.specs.TreesViews.{declared_view}
use Rattle.cpn_module_trees.proofs.NextTrees.{each_is_seen}
use Rattle.cpn_module_trees.proofs.trees.declarations_trees.Goals as goal

pub loop-text-preserved : goal.loop-text-preserved
loop-text-preserved c =
    rw c.in_ok-push.ensures.items (each_is_seen IsDeclaration string_bytes declared_view c.args.texts.now c.loop-text.text-index c.text-item.result c.loop-text-test.true c.text-item.is c.loop-text.trees.items c.in_ok-declaration_in.field-0 c.loop-text.invariant (subst (λ t. IsDeclaration t (declared_view c.in_ok-declaration_in.field-0)) c.as_str.ensures.value c.in_ok-declaration_in.ensures.parsed))
