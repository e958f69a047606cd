-- No more are due than there are.
use Rattle.std.proofs.Common.{ap, arith}
use Rattle.cpn_due.specs.Marked.{plain_marked}
use Rattle.cpn_due.proofs.SummaryLaws.{due_at_most, count_joined}
use Rattle.cpn_due.proofs.summaries.summarize.Goals as goal

pub overflow_add-result-4 : goal.overflow_add-result-4
overflow_add-result-4 c =
    let most = due_at_most c.args.left.now.items (plain_marked c.args.root.now) c.args.right.now.items in
    let joined = count_joined c.args.left.now.items (plain_marked c.args.root.now) c.args.right.now.items in
    let left = ap (λ s. s.due) c.summary-before.ensures.summary in
    omega (arith, most, joined, left, c.due_count.ensures.count, c.requires.few)

pub overflow_add-result-5 : goal.overflow_add-result-5
overflow_add-result-5 c =
    let most = due_at_most c.args.left.now.items (plain_marked c.args.root.now) c.args.right.now.items in
    let joined = count_joined c.args.left.now.items (plain_marked c.args.root.now) c.args.right.now.items in
    let left = ap (λ s. s.due) c.summary-before.ensures.summary in
    let right = ap (λ s. s.due) c.summary-after.ensures.summary in
    omega (arith, most, joined, left, right, c.due_count.ensures.count, c.requires.few)
