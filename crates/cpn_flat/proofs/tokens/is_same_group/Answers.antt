-- Groups are the same where their values, stamps and counts are.
use Rattle.std.proofs.Common.{◌≡◌, ◌∙◌, sym}
use Rattle.cpn_tmset.specs.Listed.{same_token}
use Rattle.cpn_tmset.specs.ListedViews.{group_view}
use Rattle.cpn_flat.proofs.EqualGroups.{counts_decide, tokens_differ}
use Rattle.cpn_flat.proofs.tokens.is_same_group.Goals.{then-eq, else-eq}
use Rattle.cpn_flat.proofs.tokens.is_same_group.Goals as goal

pub returns-then-group-other : goal.returns-then-group-other
returns-then-group-other c =
    let same : c.if-eq.value ≡ same_token (group_view c.args.group.now).token (group_view c.args.other.now).token = elim c.if-eq.branch [
      | then-eq w ↦ rw (w.value-is, ← c.eq.ensures, w.if-eq.true)
      | else-eq w ↦ rw (w.value-is, ← c.eq.ensures, w.if-eq.false)
    ] in
    record { exact = counts_decide (group_view c.args.group.now) (group_view c.args.other.now) (sym same ∙ c.if-group-other.true) }

pub returns-else-group-other : goal.returns-else-group-other
returns-else-group-other c =
    let same : c.if-eq.value ≡ same_token (group_view c.args.group.now).token (group_view c.args.other.now).token = elim c.if-eq.branch [
      | then-eq w ↦ rw (w.value-is, ← c.eq.ensures, w.if-eq.true)
      | else-eq w ↦ rw (w.value-is, ← c.eq.ensures, w.if-eq.false)
    ] in
    record { exact = tokens_differ (group_view c.args.group.now) (group_view c.args.other.now) c.if-eq.value (sym same ∙ c.if-group-other.false) c.if-group-other.false }
