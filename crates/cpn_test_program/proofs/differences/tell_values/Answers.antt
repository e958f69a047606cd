-- One value more is told, or has the same stamps.
use Rattle.std.proofs.Common.{◌≡◌, ◌+◌, take, sym, ap, subst, ◌∙◌, [], ◌∷◌, ◌++◌}
use Rattle.cpn_core.specs.Views.{value_view}
use Rattle.cpn_definitions.specs.Value.{PlainValue}
use Rattle.cpn_tmset.specs.Changed.{is_told}
use Rattle.cpn_tmset.specs.ChangedViews.{changes_view}
use Rattle.cpn_tmset.specs.ListedViews.{pointed_view}
use Rattle.cpn_test_program.proofs.ToldValues.{AreTold, one_told, one_same, told_still, values_more}
use Rattle.cpn_test_program.proofs.differences.tell_values.Goals as goal
use Rattle.cpn_test_program.proofs.differences.tell_values.Goals.{then-not-have_same_stamps+in_ok-copy+in_ok-push, else-not-have_same_stamps}

pub loop-value-preserved : goal.loop-value-preserved
loop-value-preserved c =
    let old = c.args.old.now in
    let new = c.args.new.now in
    let place = c.args.place in
    let seen = pointed_view (take c.loop-value.value-index c.args.values.now) in
    let w = value_view c.value-item.result.now in
    let before = changes_view c.loop-value.changes in
    let more = values_more c.args.values.now c.loop-value.value-index c.value-item.result c.loop-value-test.true c.value-item.is in
    elim c.if-not-have_same_stamps.branch [
      | then-not-have_same_stamps+in_ok-copy+in_ok-push t ↦
          let told : changes_view c.if-not-have_same_stamps.changes ≡ before ++ record { place = place; value = w } ∷ [] = ap changes_view t.changes-is ∙ t.in_ok-push.ensures.pushed ∙ ap (λ (u : PlainValue). before ++ record { place = place; value = u } ∷ []) t.in_ok-copy.ensures.same in
          record {
            told = subst (λ cs. AreTold place old new (pointed_view (take (c.loop-value.value-index + 1) c.args.values.now)) cs) (sym told) (subst (λ vs. AreTold place old new vs (before ++ record { place = place; value = w } ∷ [])) (sym more) (one_told place old new seen w before c.loop-value.invariant.told));
            more = λ p v untold. c.loop-value.invariant.more p v (told_still p v before (record { place = place; value = w } ∷ []) (ap (is_told p v) (sym told) ∙ untold));
          }
      | else-not-have_same_stamps t ↦
          record {
            told = subst (λ cs. AreTold place old new (pointed_view (take (c.loop-value.value-index + 1) c.args.values.now)) cs) (sym (ap changes_view t.changes-is)) (subst (λ vs. AreTold place old new vs before) (sym more) (one_same place old new seen w before (c.have_same_stamps.ensures.same t.if-not-have_same_stamps.false) c.loop-value.invariant.told));
            more = λ p v untold. c.loop-value.invariant.more p v (ap (is_told p v) (sym (ap changes_view t.changes-is)) ∙ untold);
          }
    ]
