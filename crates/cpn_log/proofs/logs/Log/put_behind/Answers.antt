-- The claims behind the position take what the outputs were carried past.
use Rattle.std.proofs.Common.{◌≡◌, suc, ◌+◌, ◌-◌, ◌++◌, List, length, map, take, drop, sym, ap, ap₂, subst, ◌∙◌, arith}
use Rattle.std.specs.List.{AllByRecursion}
use Rattle.std.proofs.lemmas.List.{take-append-drop, drop-map}
use Rattle.cpn_definitions.specs.Marking.{Marking}
use Rattle.cpn_definitions.specs.Occurrence.{add_made}
use Rattle.cpn_definitions.proofs.ListItems.{all_parts}
use Rattle.cpn_runs.specs.HoleRun.{PlainPick}
use Rattle.cpn_runs.specs.Filling.{carried_past, picks_after}
use Rattle.cpn_log.specs.ClaimViews.{claim_view, taken_view, taken_views}
use Rattle.cpn_log.specs.Kept.{IsInRange}
use Rattle.cpn_log.specs.LogViews.{log_view}
use Rattle.cpn_log.specs.declared.claims.Claim.{Claim}
use Rattle.cpn_log.proofs.LogParts.{behind_is}
use Rattle.cpn_log.proofs.LogSteps.{picks_now, whole_rest}
use Rattle.cpn_log.proofs.logs.Log.put_behind.Goals as goal

pub put_ahead-requires-clause-in_range : goal.put_ahead-requires-clause-in_range
put_ahead-requires-clause-in_range c =
    let items = c.args.self.now.claims.items in
    let claims = (log_view c.args.self.now).claims in
    let n = c.args.position + 1 in
    let held = c.make_contiguous-claims.result.now in
    let behind : AllByRecursion IsInRange (drop n claims) = (all_parts IsInRange (take n claims) (drop n claims) (subst (AllByRecursion IsInRange) (sym (take-append-drop n claims)) c.requires.in_range)).1 in
    let rest : take (length held - n) (drop n held) ≡ drop n items = whole_rest n held ∙ ap (drop n) c.make_contiguous-claims.ensures.value in
    subst (AllByRecursion IsInRange) (drop-map claim_view n items ∙ sym (ap (map claim_view) rest)) behind

pub returns-clause-run : goal.returns-clause-run
returns-clause-run c =
    let log = c.args.self.now in
    let picks = (log_view log).picks in
    let items = log.claims.items in
    let place = c.args.position in
    let n = place + 1 in
    let held = c.make_contiguous-claims.result.now in
    let value = c.make_contiguous-claims.ensures.value in
    let next : n ≡ suc place = omega arith in
    let within = behind_is log in
    let rest : take (length held - n) (drop n held) ≡ drop n items = whole_rest n held ∙ ap (drop n) value in
    let later : taken_views (take (length held - n) (drop n held)) ≡ drop (suc place) picks = ap taken_views rest ∙ sym (drop-map taken_view n items) ∙ ap (λ k. drop k picks) next in
    let taken = c.in_ok-put_ahead.ensures.taken ∙ ap (picks_after c.args.outputs.now) later in
    ap₂ (λ (m : Marking) (ps : List (List PlainPick)). record { marking = m; picks = ps })
    (c.in_ok-put_ahead.ensures.unclaimed ∙ ap (λ ps. add_made (carried_past c.args.outputs.now ps) (log_view log).unclaimed) later)
    (picks_now items place log.claims.len held c.put_ahead.new.later value (omega (arith, within, c.requires.within)) (sym c.make_contiguous-claims.ensures.len ∙ ap (λ (cs : List Claim). length cs) value) c.put_ahead.ensures.same (picks_after c.args.outputs.now (drop (suc place) picks)) taken
    ∙ ap (λ k. take k picks ++ picks_after c.args.outputs.now (drop (suc place) picks)) next)
