-- The claims ahead of the number stay, and what they leave; what those behind touch and what differs is what changes.
use Rattle.std.proofs.Common.{◌≡◌, ◌-◌, length, take, drop, map, sym, ap, subst, ◌∙◌, arith}
use Rattle.std.specs.List.{AllByRecursion, filter}
use Rattle.std.specs.List.Sorted.{IsPermutation}
use Rattle.std.proofs.lemmas.List.{take-map, drop-map}
use Rattle.cpn_tmset.specs.Changed.{AreChanges}
use Rattle.cpn_tmset.specs.ChangedViews.{change_view, change_views, changes_view}
use Rattle.cpn_tmset.specs.Limits.{HaveRoomFor}
use Rattle.cpn_log.specs.Exchanges.{after_claims, number_added}
use Rattle.cpn_log.specs.Gathered.{differs, each_once, touched}
use Rattle.cpn_log.specs.Kept.{IsInRange}
use Rattle.cpn_log.specs.ClaimViews.{claim_view}
use Rattle.cpn_log.specs.LogViews.{log_view}
use Rattle.cpn_log.specs.MarkingViews.{settled_in, unclaimed_in}
use Rattle.cpn_log.specs.declared.claims.Claim.{Claim}
use Rattle.cpn_log.proofs.ChangeOrder.{sorted_in_order}
use Rattle.cpn_log.proofs.CutClaims.{cut_changes}
use Rattle.cpn_log.proofs.Completions.{taken_in_range, room_for_taken}
use Rattle.cpn_log.proofs.LogSteps.{kept_cut, whole_rest}
use Rattle.cpn_log.proofs.logs.Log.cut.Goals as goal
use Rattle.cpn_log.proofs.logs.Log.cut.Goals.{After-make_contiguous, In_ok-left, After-truncate}

-- the claims ahead of the number
ahead : (c : After-make_contiguous) → map claim_view (take c.position-position.result c.make_contiguous.result.now) ≡ take (c.args.number - length (log_view c.args.self.now).committed) (log_view c.args.self.now).claims
ahead c =
    let place = c.args.number - length (log_view c.args.self.now).committed in
    ap (λ k. map claim_view (take k c.make_contiguous.result.now)) c.position-position.ensures
    ∙ ap (λ cs. map claim_view (take place cs)) c.make_contiguous.ensures.value
    ∙ sym (take-map claim_view place c.args.self.now.claims.items)

pub replayed-requires-clause-in_range : goal.replayed-requires-clause-in_range
replayed-requires-clause-in_range c =
    let log = log_view c.args.self.now in
    subst (AllByRecursion IsInRange) (sym (ahead (goal.at.replayed-requires-clause-in_range c).After-make_contiguous)) (taken_in_range log (c.args.number - length log.committed) c.requires.kept)

pub replayed-requires-clause-room : goal.replayed-requires-clause-room
replayed-requires-clause-room c =
    let log = log_view c.args.self.now in
    subst (HaveRoomFor _) (sym c.settled.ensures.same)
    (subst (λ cs. HaveRoomFor (number_added cs) log.settled) (sym (ahead (goal.at.replayed-requires-clause-room c).After-make_contiguous)) (room_for_taken log (c.args.number - length log.committed) c.requires.kept))

-- what they leave
left_is
    : (c : In_ok-left)
    → map claim_view (take c.position-position.result c.make_contiguous.result.now) ≡ take (c.args.number - length (log_view c.args.self.now).committed) (log_view c.args.self.now).claims
    → c.in_ok-left.left ≡ after_claims (take (c.args.number - length (log_view c.args.self.now).committed) (log_view c.args.self.now).claims) (log_view c.args.self.now).settled
left_is c first =
    c.in_ok-left.ensures.left ∙ ap (λ cs. after_claims cs c.settled.result.now) first
    ∙ ap (after_claims (take (c.args.number - length (log_view c.args.self.now).committed) (log_view c.args.self.now).claims)) c.settled.ensures.same

-- the claims that are left
items_are : (c : After-truncate) → c.truncate.new.self.items ≡ take (c.args.number - length (log_view c.args.self.now).committed) c.args.self.now.claims.items
items_are c =
    c.truncate.ensures.items
    ∙ ap (take c.position-position.result) (c.make_contiguous.ensures.writes_back c.make_contiguous.result.now c.make_contiguous.ensures.len ∙ c.make_contiguous.ensures.value)
    ∙ ap (λ k. take k c.args.self.now.claims.items) c.position-position.ensures

pub returns-clause-cut : goal.returns-clause-cut
returns-clause-cut c =
    let log = c.args.self.now in
    ap (map claim_view) (items_are (goal.at.returns-clause-cut c).After-truncate) ∙ sym (take-map claim_view (c.args.number - length (log_view log).committed) log.claims.items)

pub returns-clause-jobs : goal.returns-clause-jobs
returns-clause-jobs c =
    let log = c.args.self.now in
    ap (map (λ (claim : Claim). claim.job.value)) (items_are (goal.at.returns-clause-jobs c).After-truncate) ∙ sym (take-map (λ (claim : Claim). claim.job.value) (c.args.number - length (log_view log).committed) log.claims.items)

pub returns-clause-kept : goal.returns-clause-kept
returns-clause-kept c =
    let log = c.args.self.now in
    kept_cut log (c.args.number - length (log_view log).committed) c.truncate.new.self.items (settled_in c.replace.new.self) (unclaimed_in c.replace.new.self) (omega (arith, c.requires.within))
    (items_are (goal.at.returns-clause-kept c).After-truncate) c.replace.ensures.settled (c.replace.ensures.unclaimed ∙ left_is (goal.at.returns-clause-kept c).In_ok-left (ahead (goal.at.returns-clause-kept c).After-make_contiguous)) c.requires.kept

pub returns-clause-changes : goal.returns-clause-changes
returns-clause-changes c =
    let log = c.args.self.now in
    let place = c.args.number - length (log_view log).committed in
    let held = c.make_contiguous.result.now in
    let items = c.in_ok-touched.touched.items in
    let rest : map claim_view (take (length held - c.position-position.result) (drop c.position-position.result held)) ≡ drop place (log_view log).claims =
    ap (map claim_view) (whole_rest c.position-position.result held) ∙ ap (λ k. map claim_view (drop k held)) c.position-position.ensures
    ∙ ap (λ cs. map claim_view (drop place cs)) c.make_contiguous.ensures.value ∙ sym (drop-map claim_view place log.claims.items) in
    let same = subst (λ cs. IsPermutation (touched cs) (change_views items)) rest c.in_ok-touched.ensures.same in
    let changes = cut_changes (log_view log) place c.in_ok-left.left (change_views items) c.requires.kept (left_is (goal.at.returns-clause-changes c).In_ok-left (ahead (goal.at.returns-clause-changes c).After-make_contiguous)) same (sorted_in_order change_view items c.in_ok-touched.ensures.in_order) in
    let told : changes_view c.in_ok-changes.changes ≡ each_once (filter (differs (log_view log).unclaimed c.in_ok-left.left) (change_views items)) =
    c.in_ok-changes.ensures ∙ ap (λ m. each_once (filter (differs m c.in_ok-left.left) (change_views c.as_slice.result.now))) c.unclaimed.ensures ∙ ap (λ xs. each_once (filter (differs (log_view log).unclaimed c.in_ok-left.left) (change_views xs))) c.as_slice.ensures.value in
    subst (λ m. AreChanges (log_view log).unclaimed m (changes_view c.in_ok-changes.changes)) (sym c.replace.ensures.unclaimed) (subst (AreChanges (log_view log).unclaimed c.in_ok-left.left) (sym told) changes)
