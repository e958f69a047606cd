-- The stamps are the same where both lists end at one rank with none that differs ahead of it.
use Rattle.std.proofs.Common.{◌≡◌, None, not, sym, ap, ◌∙◌}
use Rattle.cpn_definitions.specs.Marking.{stamps}
use Rattle.cpn_core.specs.Views.{value_view}
use Rattle.cpn_test_program.proofs.StampLists.{same_by_ranks, alike_at_rank, is_none_there}
use Rattle.cpn_test_program.proofs.differences.have_same_stamps.Goals as goal

pub returns-then-is_none : goal.returns-then-is_none
returns-then-is_none c =
    let v = value_view c.args.value.now in
    let none : c.stamp-stamp.result ≡ None = is_none_there c.stamp-stamp.result (c.is_none.ensures ∙ ap not c.if-is_none.true) in
    let alike = alike_at_rank c.stamp-stamp.result c.stamp.result (sym c.ne.ensures ∙ c.if-ne.false) in
    record { same = λ _. same_by_ranks (stamps v c.args.old.now) (stamps v c.args.new.now) c.loop-rank.rank c.loop-rank.invariant (sym c.stamp-stamp.ensures.stamp ∙ none) (sym c.stamp.ensures.stamp ∙ sym alike ∙ none) }
