-- The constructor with one argument more.
use Rattle.std.proofs.Common.{◌++◌, map, append-nil, sym, ap, ◌∙◌}
use Rattle.cpn_definitions.specs.Value.{applied}
use Rattle.cpn_core.specs.Views.{value_view}
use Rattle.cpn_core.proofs.ValueLevels.{view_con_some}
use Rattle.cpn_core.proofs.ListedValues.{pushed, applied_more}
use Rattle.cpn_core.proofs.small.push_applied.Goals as goal

pub loop-argument-init : goal.loop-argument-init
loop-argument-init c = sym (append-nil (map value_view c.args.values.now.items))

pub loop-argument-preserved : goal.loop-argument-preserved
loop-argument-preserved c =
    let before = map value_view c.args.values.now.items in
    pushed c.loop-argument.values.items c.push.new.self.items _ (before ++ map (applied c.args.position) (map value_view c.loop-argument.yielded)) _ (applied c.args.position (value_view c.in-Some.argument)) c.in_ok-push.ensures.items
    (view_con_some c.args.position c.in_ok-new.field-0 ∙ ap (λ v. applied c.args.position (value_view v)) c.in_ok-new.ensures.ok)
    (applied_more c.args.position before c.loop-argument.yielded c.in-Some.argument) c.loop-argument.invariant
