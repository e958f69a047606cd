-- The stamps are the same where both lists end at one rank with none that differs ahead of it.
use Rattle.std.proofs.Common.{◌≡◌, ℕ, Option, Some, None, true, false, not, refl, sym, ap, ◌∙◌, arith}
use Rattle.std.specs.Option.{is_some}
use Rattle.cpn_definitions.specs.Marking.{stamps, tokens_at}
use Rattle.cpn_core.specs.Views.{value_view}
use Rattle.cpn_log.proofs.StampLists.{alike_at_rank, differ_at_rank, ended_at_rank, ended_with_tokens, unlike_at_rank}
use Rattle.cpn_log.proofs.gathered.have_same_stamps.Goals as goal

is_none_there : (o : Option ℕ) → is_some o ≡ false → o ≡ None
is_none_there None h = refl
is_none_there (Some s) h = cc

pub returns-then-ne : goal.returns-then-ne
returns-then-ne c =
    let v = value_view c.args.change.now.value in
    let p = c.args.change.now.place in
    sym (differ_at_rank (stamps v (tokens_at c.args.old.now p)) (stamps v (tokens_at c.args.new.now p)) c.loop-rank.rank
    (λ same. unlike_at_rank c.stamp_at-stamp.result c.stamp_at.result (sym c.ne.ensures ∙ c.if-ne.true) (c.stamp_at-stamp.ensures ∙ same ∙ sym c.stamp_at.ensures)))

pub returns-then-is_none : goal.returns-then-is_none
returns-then-is_none c =
    let v = value_view c.args.change.now.value in
    let p = c.args.change.now.place in
    let none : c.stamp_at-stamp.result ≡ None = is_none_there c.stamp_at-stamp.result (c.is_none.ensures ∙ ap not c.if-is_none.true) in
    let alike = alike_at_rank c.stamp_at-stamp.result c.stamp_at.result (sym c.ne.ensures ∙ c.if-ne.false) in
    ended_at_rank (stamps v (tokens_at c.args.old.now p)) (stamps v (tokens_at c.args.new.now p)) c.loop-rank.rank c.stamp_at-stamp.result true c.loop-rank.invariant (sym c.stamp_at-stamp.ensures ∙ none) (alike ∙ c.stamp_at.ensures) (ap is_some none)

pub returns : goal.returns
returns c =
    let v = value_view c.args.change.now.value in
    let p = c.args.change.now.place in
    let most = c.tokens_on-most.result in
    ended_at_rank (stamps v (tokens_at c.args.old.now p)) (stamps v (tokens_at c.args.new.now p)) most c.stamp_at-2.result c.is_none-2.result (λ k lt. c.loop-rank.invariant k (omega (arith, lt, c.loop-rank-test.false))) (ended_with_tokens v (tokens_at c.args.old.now p) most c.tokens_on-most.ensures) c.stamp_at-2.ensures c.is_none-2.ensures
