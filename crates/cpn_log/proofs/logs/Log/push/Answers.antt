-- One claim more keeps the log, its picks stand last, and its needs are what changes.
use Rattle.std.proofs.Common.{◌≡◌, ℕ, [], ◌∷◌, ◌++◌, map, sym, ap, subst, ◌∙◌}
use Rattle.cpn_definitions.specs.Occurrence.{threshold, subtract}
use Rattle.cpn_definitions.proofs.ListItems.{map_more}
use Rattle.cpn_core.specs.Elements.{element_view}
use Rattle.cpn_runs.specs.HoleRun.{open_claim, picks_of}
use Rattle.cpn_tmset.specs.Changed.{AreChanges}
use Rattle.cpn_tmset.specs.ChangedViews.{changes_view}
use Rattle.cpn_tmset.specs.StampsTaken.{stamps_taken}
use Rattle.cpn_log.specs.Logs.{PlainHead, opened}
use Rattle.cpn_log.specs.ClaimViews.{claim_view, head_for, head_view, picked_with, taken_view}
use Rattle.cpn_log.specs.LogViews.{log_view}
use Rattle.cpn_log.specs.MarkingViews.{settled_in, unclaimed_in}
use Rattle.cpn_log.specs.declared.claims.Claim.{Claim}
use Rattle.cpn_log.specs.declared.claims.Course.TheVariants as courses
use Rattle.cpn_log.proofs.TouchedStamps.{taken_changes}
use Rattle.cpn_log.proofs.KeptLogs.{unclaimed_sorted}
use Rattle.cpn_log.proofs.TakenPicks.{picks_are}
use Rattle.cpn_log.proofs.ClaimStandings.{opened_stands}
use Rattle.cpn_log.proofs.LogSteps.{kept_pushed, seen}
use Rattle.cpn_log.proofs.logs.Log.push.Goals as goal
use Rattle.cpn_log.proofs.logs.Log.push.Goals.{In_ok-push_back}

abbrev made : In_ok-push_back → Claim
made c = record { head = c.in_ok-head.head; job = c.args.job; needs = c.args.needs; stamps = c.in_ok-stamps.stamps; course = courses.Open }

says : (c : In_ok-push_back) → head_view c.in_ok-head.head ≡ head_for c.args.seat c.args.job.value
says c = c.in_ok-head.ensures.says ∙ ap (head_for c.args.seat) c.deref.ensures

claim_is : (c : In_ok-push_back) → claim_view (made c) ≡ opened c.args.seat (element_view c.args.job.value.element.value) c.args.job.value.time c.args.needs
claim_is c = ap (λ (h : PlainHead). record { seat = h.seat; element = h.element; time = h.time; needs = c.args.needs; status = open_claim }) (says c)

time_is : (c : In_ok-push_back) → c.in_ok-head.head.time ≡ c.args.job.value.time
time_is c = ap (λ (h : PlainHead). h.time) (says c)

left_is : (c : In_ok-push_back) → unclaimed_in c.take.new.self ≡ subtract (threshold c.args.job.value.time) c.args.needs (log_view c.args.self.now).unclaimed
left_is c = c.in_ok-stamps.ensures.taken ∙ ap (λ (t : ℕ). subtract (threshold t) c.args.needs (log_view c.args.self.now).unclaimed) (time_is c)

picks_so : (c : In_ok-push_back) → taken_view (made c) ≡ picks_of c.args.job.value.time c.args.needs (log_view c.args.self.now).unclaimed
picks_so c =
    let log = log_view c.args.self.now in
    ap (picked_with c.in_ok-head.head.time c.args.needs) c.in_ok-stamps.ensures.stamps ∙ ap (λ (t : ℕ). picked_with t c.args.needs (stamps_taken t c.args.needs log.unclaimed)) (time_is c)
    ∙ picks_are c.args.job.value.time c.args.needs log.unclaimed (unclaimed_sorted log c.requires.kept) c.changes_of_needs.ensures.in_order c.requires.covered

pub returns-clause-pushed : goal.returns-clause-pushed
returns-clause-pushed c =
    let log = c.args.self.now in
    let own = (goal.at.returns-clause-pushed c).In_ok-push_back in
    ap (map claim_view) c.in_ok-push_back.ensures.items ∙ map_more claim_view log.claims.items (made own) ∙ ap (λ k. (log_view log).claims ++ k ∷ []) (claim_is own)

pub returns-clause-taken : goal.returns-clause-taken
returns-clause-taken c = left_is (goal.at.returns-clause-taken c).In_ok-push_back

pub returns-clause-picks : goal.returns-clause-picks
returns-clause-picks c =
    let log = c.args.self.now in
    let own = (goal.at.returns-clause-picks c).In_ok-push_back in
    ap (map taken_view) c.in_ok-push_back.ensures.items ∙ map_more taken_view log.claims.items (made own) ∙ ap (λ ps. (log_view log).picks ++ ps ∷ []) (picks_so own)

pub returns-clause-kept : goal.returns-clause-kept
returns-clause-kept c =
    let own = (goal.at.returns-clause-kept c).In_ok-push_back in
    let job = c.args.job.value in
    kept_pushed c.args.self.now c.reserve.new.self.items (made own) c.push_back.new.self.items (settled_in c.take.new.self) (unclaimed_in c.take.new.self) c.args.seat (element_view job.element.value) job.time c.args.needs
    c.reserve.ensures.items (claim_is own) c.in_ok-push_back.ensures.items c.take.ensures.settled
    (picks_so own) (left_is own) c.requires.kept c.requires.room c.requires.in_time c.changes_of_needs.ensures.in_order c.requires.covered

pub returns-clause-changes : goal.returns-clause-changes
returns-clause-changes c =
    let log = log_view c.args.self.now in
    let changes = taken_changes c.args.job.value.time c.args.needs log.unclaimed (unclaimed_sorted log c.requires.kept) c.changes_of_needs.ensures.in_order c.requires.covered in
    subst (λ m. AreChanges log.unclaimed m (changes_view c.in_ok-changes.changes)) (sym (left_is (goal.at.returns-clause-changes c).In_ok-push_back)) (rw c.in_ok-changes.ensures.told changes)

pub returns-clause-stands : goal.returns-clause-stands
returns-clause-stands c =
    let log = c.args.self.now in
    let own = (goal.at.returns-clause-stands c).In_ok-push_back in
    let job = c.args.job.value in
    opened_stands (log_view log) (seen c.reserve.new.self.items c.push_back.new.self.items (settled_in c.take.new.self) (unclaimed_in c.take.new.self)) c.args.seat (element_view job.element.value) job.time c.args.needs
    (ap (map head_view) c.reserve.ensures.items)
    (ap (map claim_view) c.in_ok-push_back.ensures.items ∙ map_more claim_view log.claims.items (made own) ∙ ap (λ k. (log_view log).claims ++ k ∷ []) (claim_is own))
