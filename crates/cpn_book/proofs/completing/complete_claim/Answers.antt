-- A completion is a claim that is done, what is committed then, and the cut that is owed.
use Rattle.std.proofs.Common.{◌≡◌, ◌++◌, ◌∷◌, [], map, None, refl, sym, ap, ◌∙◌, subst, slice_get, slice_set, append_assoc}
use Rattle.std.specs.Option.{option_map}
use Rattle.cpn_runs.specs.FinishedViews.{setup_view}
use Rattle.cpn_runs.specs.State.{claim_completed}
use Rattle.cpn_runs.specs.GivingBack.{OnlyGivenBack}
use Rattle.cpn_runs.specs.Views.{event_view}
use Rattle.cpn_book.specs.Standings.{cut_view, events_in}
use Rattle.cpn_book.specs.States.{cut_events}
use Rattle.cpn_book.specs.Tickets.{evaluated_number}
use Rattle.cpn_book.proofs.CommittedStandings.{same_but_journal, still_at, still_through}
use Rattle.cpn_book.proofs.OwedCuts.{told_of, adds_completion}
use Rattle.cpn_book.proofs.HeldSeats.{where_ok, either, freed}
use Rattle.cpn_log.specs.LogViews.{log_view}
use Rattle.cpn_tmset.specs.ChangedViews.{changes_view}
use Rattle.cpn_book.proofs.ToldChanges.{tells_same}
use Rattle.cpn_book.proofs.completing.complete_claim.Goals as goal

pub fill_claim-requires-clause-at : goal.fill_claim-requires-clause-at
fill_claim-requires-clause-at c = same_but_journal (setup_view c.args.setup.now) c.args.standing.now _ c.requires.at refl c.reserve.ensures.items

pub make_owed_cut-requires-clause-only_given_back : goal.make_owed_cut-requires-clause-only_given_back
make_owed_cut-requires-clause-only_given_back c = subst (λ cut. OnlyGivenBack (option_map cut_view cut)) (sym c.commit_all.ensures.cut) c.fill_claim.ensures.only_given_back

pub returns-clause-events : goal.returns-clause-events
returns-clause-events c =
    let s = setup_view c.args.setup.now in
    let old = events_in c.args.standing.now in
    let done = claim_completed c.args.seat (evaluated_number c.args.done) in
    let filled : events_in c.fill_claim.new.standing ≡ old ++ done ∷ [] = c.in_ok-fill_claim.ensures.events ∙ ap (λ es. map event_view es ++ done ∷ []) c.reserve.ensures.items in
    let committed : events_in c.commit_all.new.standing ≡ old ++ done ∷ [] = ap (λ es. map event_view es.items) c.commit_all.ensures.journal ∙ filled in
    where_ok c.make_owed_cut.result _ _
    (λ adds. adds_completion s c.args.seat (evaluated_number c.args.done) c.args.standing.now c.commit_all.new.standing c.make_owed_cut.new.standing committed (adds s c.in_ok-stop.ensures.no_more))
    c.make_owed_cut.ensures.events

pub returns-clause-begins : goal.returns-clause-begins
returns-clause-begins c =
    let s = setup_view c.args.setup.now in
    let old = events_in c.args.standing.now in
    let done = claim_completed c.args.seat (evaluated_number c.args.done) in
    let filled : events_in c.fill_claim.new.standing ≡ old ++ done ∷ [] = c.in_ok-fill_claim.ensures.events ∙ ap (λ es. map event_view es ++ done ∷ []) c.reserve.ensures.items in
    let committed : events_in c.commit_all.new.standing ≡ old ++ done ∷ [] = ap (λ es. map event_view es.items) c.commit_all.ensures.journal ∙ filled in
    either c.make_owed_cut.result _ _ _ c.make_owed_cut.ensures.events c.make_owed_cut.ensures.stays
    (λ adds. let a = adds s c.in_ok-stop.ensures.no_more in (done ∷ cut_events a.owed, a.events ∙ ap (λ es. es ++ cut_events a.owed) committed ∙ append_assoc old (done ∷ []) (cut_events a.owed)))
    (λ same. (done ∷ [], ap (λ es. map event_view es.items) same ∙ committed))

pub returns-clause-frees : goal.returns-clause-frees
returns-clause-frees c =
    where_ok c.make_owed_cut.result _ _
    (λ frees. λ s k holds.
    let filled : c.commit_all.new.standing.held.items ≡ slice_set c.args.standing.now.held.items c.args.seat None = ap (λ hs. hs.items) c.commit_all.ensures.held ∙ c.in_ok-fill_claim.ensures.held in
    freed (setup_view c.args.setup.now).limits.seats c.requires.at.at.state.claims c.args.standing.now.held.items c.requires.at.at.told.holds c.args.seat (evaluated_number c.args.done) c.requires.held s k
    (ap (λ hs. slice_get hs s) (sym filled) ∙ frees s k holds))
    c.make_owed_cut.ensures.frees

pub returns-clause-told : goal.returns-clause-told
returns-clause-told c =
    let filled = tells_same (changes_view c.fill_claim.new.told) (log_view c.fill_claim.new.standing.log).unclaimed (log_view c.commit_all.new.standing.log).unclaimed c.in_ok-stop.ensures.unclaimed in
    where_ok c.make_owed_cut.result _ _
    (λ cut. λ m stayed. cut m (filled m (c.in_ok-fill_claim.ensures.told m stayed)))
    c.make_owed_cut.ensures.told

pub returns-clause-committed : goal.returns-clause-committed
returns-clause-committed c =
    let s = setup_view c.args.setup.now in
    let first = c.fill_claim.ensures.committed in
    still_through s c.args.standing.now c.fill_claim.new.standing c.make_owed_cut.new.standing (record { committed = first.committed; more = first.more; occurrences = first.occurrences })
    (still_through s c.fill_claim.new.standing c.commit_all.new.standing c.make_owed_cut.new.standing c.commit_all.ensures.committed (c.make_owed_cut.ensures.committed s (told_of s c.commit_all.new.standing c.in_ok-stop.stop c.in_ok-stop.ensures.no_more)))

pub returns-in_err-reserve-clause-committed : goal.returns-in_err-reserve-clause-committed
returns-in_err-reserve-clause-committed c = still_at (setup_view c.args.setup.now) c.args.standing.now _ c.requires.at.at refl refl refl

pub returns-in_err-stop-clause-committed : goal.returns-in_err-stop-clause-committed
returns-in_err-stop-clause-committed c =
    let first = c.fill_claim.ensures.committed in
    still_through (setup_view c.args.setup.now) c.args.standing.now c.fill_claim.new.standing c.commit_all.new.standing (record { committed = first.committed; more = first.more; occurrences = first.occurrences }) c.commit_all.ensures.committed
