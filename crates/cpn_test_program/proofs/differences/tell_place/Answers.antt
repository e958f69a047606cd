-- The old values and the new ones are told.
use Rattle.std.proofs.Common.{subst, ap, ◌∙◌}
use Rattle.cpn_tmset.specs.ChangedViews.{changes_view}
use Rattle.cpn_tmset.specs.ListedViews.{pointed_view}
use Rattle.cpn_test_program.proofs.ToldValues.{AreTold, all_told}
use Rattle.cpn_test_program.proofs.differences.tell_place.Goals as goal

pub returns-clause-told : goal.returns-clause-told
returns-clause-told c =
    let old = c.args.old.now in
    let new = c.args.new.now in
    let place = c.args.place in
    all_told place old new (changes_view c.tell_values.new.changes) (changes_view c.tell_values-2.new.changes)
    (subst (λ vs. AreTold place old new vs (changes_view c.tell_values.new.changes)) (ap pointed_view c.deref.ensures.value ∙ c.in_ok-before.ensures.values) c.in_ok-tell_values.ensures.told)
    (subst (λ vs. AreTold place old new vs (changes_view c.tell_values-2.new.changes)) (ap pointed_view c.deref-2.ensures.value ∙ c.in_ok-after.ensures.values) c.in_ok-tell_values-2.ensures.told)
    c.in_ok-tell_values-2.ensures.more
