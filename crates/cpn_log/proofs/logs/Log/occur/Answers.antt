-- Both markings are one, and make the exchange of the claim.
use Rattle.std.proofs.Common.{◌≡◌, sym, ap, subst, ◌∙◌}
use Rattle.cpn_core.specs.Elements.{element_view}
use Rattle.cpn_definitions.specs.Lists.{in_order}
use Rattle.cpn_definitions.specs.Marking.{Marking}
use Rattle.cpn_definitions.specs.Occurrence.{made_cmp}
use Rattle.cpn_tmset.specs.StampsTaken.{stamps_taken}
use Rattle.cpn_tmset.specs.Changed.{AreChanges}
use Rattle.cpn_tmset.specs.ChangedViews.{changes_view}
use Rattle.cpn_log.specs.Exchanges.{exchanged}
use Rattle.cpn_log.specs.Gathered.{differing, each_once, tokens_taken}
use Rattle.cpn_log.specs.Kept.{IsKept}
use Rattle.cpn_log.specs.Logs.{PlainHead, PlainLog, made_and_done}
use Rattle.cpn_log.specs.ClaimViews.{head_for}
use Rattle.cpn_log.specs.LogViews.{log_view}
use Rattle.cpn_log.proofs.KeptLogs.{kept_with_occurred, settled_where_all, room_for_one, unclaimed_sorted}
use Rattle.cpn_log.proofs.LogSteps.{occurred_is}
use Rattle.cpn_log.proofs.ExchangedStamps.{changes_by_exchange}
use Rattle.cpn_log.proofs.logs.Log.occur.Goals as goal

pub exchange-requires-clause-one : goal.exchange-requires-clause-one
exchange-requires-clause-one c = settled_where_all (log_view c.args.self.now) c.requires.kept c.requires.all_committed

pub exchange-requires-clause-room : goal.exchange-requires-clause-room
exchange-requires-clause-room c = room_for_one (log_view c.args.self.now) c.args.outputs c.requires.kept c.requires.room c.requires.few

pub returns-clause-occurred : goal.returns-clause-occurred
returns-clause-occurred c =
    let log = c.args.self.now in
    let says = c.in_ok-head.ensures.says ∙ ap (head_for c.args.seat) c.deref.ensures in
    let exchanged_at = λ (h : PlainHead). exchanged c.args.needs.now h.time c.args.outputs (log_view log).settled in
    occurred_is log c.in_ok-head.head c.push.new.self.items _ _ (made_and_done c.args.seat (element_view c.args.job.value.element.value) c.args.job.value.time c.args.needs.now c.args.outputs)
    c.requires.all_committed
    c.in_ok-push.ensures.items
    says
    (c.in_ok-changes.ensures.unclaimed ∙ ap exchanged_at says)
    (c.in_ok-changes.ensures.settled ∙ ap exchanged_at says)

pub returns-clause-kept : goal.returns-clause-kept
returns-clause-kept c =
    let log = log_view c.args.self.now in
    subst IsKept (sym (returns-clause-occurred c))
    (kept_with_occurred log (made_and_done c.args.seat (element_view c.args.job.value.element.value) c.args.job.value.time c.args.needs.now c.args.outputs) c.requires.kept c.requires.all_committed c.requires.room c.requires.few)

pub returns-clause-changes : goal.returns-clause-changes
returns-clause-changes c =
    let log = log_view c.args.self.now in
    let told = changes_view c.in_ok-changes.changes in
    let one : log.settled ≡ log.unclaimed = settled_where_all log c.requires.kept c.requires.all_committed in
    let changes =
    changes_by_exchange c.args.job.value.time c.args.needs.now c.args.outputs log.unclaimed (unclaimed_sorted log c.requires.kept) c.in_ok-changes.ensures.needs_in_order c.requires.covered c.in_ok-changes.ensures.outputs_in_order
    c.requires.in_range in
    let says = c.in_ok-head.ensures.says ∙ ap (head_for c.args.seat) c.deref.ensures in
    let is_told = c.in_ok-changes.ensures.changes ∙ ap (λ (h : PlainHead). each_once (differing (in_order made_cmp (tokens_taken c.args.needs.now (stamps_taken h.time c.args.needs.now log.unclaimed))) c.args.outputs)) says in
    subst (λ (l : PlainLog). AreChanges log.unclaimed l.unclaimed told) (sym (returns-clause-occurred c))
    (subst (λ (m : Marking). AreChanges log.unclaimed (exchanged c.args.needs.now c.args.job.value.time c.args.outputs m) told) (sym one) (subst (AreChanges log.unclaimed (exchanged c.args.needs.now c.args.job.value.time c.args.outputs log.unclaimed)) (sym is_told) changes))
