-- No seat holds a claim before, and none after.
use Rattle.std.proofs.Common.{[], ◌∷◌, ◌++◌, Some, sym, ap, ◌∙◌, subst, append_assoc, arith, slice_get}
use Rattle.cpn_runs.specs.FinishedViews.{setup_view}
use Rattle.cpn_runs.specs.State.{claim_made, claim_completed, IsState}
use Rattle.cpn_book.specs.Standings.{events_in}
use Rattle.cpn_book.specs.States.{cut_events}
use Rattle.cpn_book.proofs.GoingAlone.{one_round, round_gives_none}
use Rattle.cpn_book.proofs.HeldSeats.{where_ok, in_any_case}
use Rattle.cpn_book.proofs.CommittedStandings.{still_through}
use Rattle.cpn_book.proofs.OwedCuts.{told_of}
use Rattle.cpn_book.proofs.OccurredStandings.{free_now}
use Rattle.cpn_book.proofs.PlayedRounds.{none_open_after, none_open_still}
use Rattle.cpn_book.proofs.occurring.play_drawn.Goals as goal
use Rattle.cpn_definitions.proofs.ListItems.{set_there}

pub make_claim-requires-clause-free : goal.make_claim-requires-clause-free
make_claim-requires-clause-free c = free_now (setup_view c.args.setup.now) c.args.standing.now c.args.done.number c.args.done.job.value c.args.needs.now c.requires.drawn c.requires.playable c.requires.none_open

pub complete_claim-requires-clause-held : goal.complete_claim-requires-clause-held
complete_claim-requires-clause-held c =
    let long = c.requires.drawn.at.at.told.holds.each in
    let some = c.requires.playable.some_seat in
    ap (λ hs. slice_get hs 0) c.in_ok-make_claim-in-Err.ensures.holds ∙ set_there c.args.standing.now.held.items 0 (Some c.args.done.number) (omega (arith, long, some))

pub returns-in_ok-make_claim-in-Err-clause-none_open : goal.returns-in_ok-make_claim-in-Err-clause-none_open
returns-in_ok-make_claim-in-Err-clause-none_open c =
    let long = c.requires.drawn.at.at.told.holds.each in
    let some = c.requires.playable.some_seat in
    where_ok c.complete_claim.result _ _
    (λ frees. none_open_after c.args.standing.now.held.items c.make_claim.new.standing.held.items c.complete_claim.new.standing.held.items c.args.done.number c.requires.none_open c.in_ok-make_claim-in-Err.ensures.holds (omega (arith, long, some)) frees)
    c.complete_claim.ensures.frees

pub returns-in_ok-make_claim-in-Err-clause-rounds : goal.returns-in_ok-make_claim-in-Err-clause-rounds
returns-in_ok-make_claim-in-Err-clause-rounds c =
    let s = setup_view c.args.setup.now in
    let n = c.args.done.number in
    let old = c.args.standing.now in
    let claimed = c.in_ok-make_claim-in-Err.ensures.events in
    where_ok c.complete_claim.result _ _
    (λ adds. (
      claim_made 0 n ∷ claim_completed 0 n ∷ cut_events adds.owed,
      adds.events ∙ ap (λ es. es ++ claim_completed 0 n ∷ cut_events adds.owed) claimed ∙ append_assoc (events_in old) (claim_made 0 n ∷ []) (claim_completed 0 n ∷ cut_events adds.owed),
      one_round n adds.owed,
      round_gives_none s (events_in old) 0 n adds.owed (λ after is. adds.owed_is after (subst (λ es. IsState s es after) (sym (ap (λ es. es ++ claim_completed 0 n ∷ []) claimed ∙ append_assoc (events_in old) (claim_made 0 n ∷ []) (claim_completed 0 n ∷ []))) is)),
    ))
    c.complete_claim.ensures.events

pub returns-in_ok-stop-in-Ok-clause-none_open : goal.returns-in_ok-stop-in-Ok-clause-none_open
returns-in_ok-stop-in-Ok-clause-none_open c =
    where_ok c.make_owed_cut.result _ _
    (λ frees. none_open_still c.args.standing.now.held.items c.make_owed_cut.new.standing.held.items c.requires.none_open (λ s k holds. ap (λ hs. slice_get hs.items s) (sym c.occur.ensures.held) ∙ frees s k holds))
    c.make_owed_cut.ensures.frees

pub returns-in_ok-stop-in-Ok-clause-rounds : goal.returns-in_ok-stop-in-Ok-clause-rounds
returns-in_ok-stop-in-Ok-clause-rounds c =
    let s = setup_view c.args.setup.now in
    let n = c.args.done.number in
    let old = c.args.standing.now in
    let occurred = c.in_ok-stop-in-Ok.ensures.events in
    where_ok c.make_owed_cut.result _ _
    (λ makes. let adds = makes s c.in_ok-stop-in-Ok.ensures.no_more in (
      claim_made 0 n ∷ claim_completed 0 n ∷ cut_events adds.owed,
      adds.events ∙ ap (λ es. es ++ cut_events adds.owed) occurred ∙ append_assoc (events_in old) (claim_made 0 n ∷ claim_completed 0 n ∷ []) (cut_events adds.owed),
      one_round n adds.owed,
      round_gives_none s (events_in old) 0 n adds.owed (λ after is. adds.owed_is after (subst (λ es. IsState s es after) (sym occurred) is)),
    ))
    c.make_owed_cut.ensures.events

pub returns-in_ok-stop-in-Ok-clause-committed : goal.returns-in_ok-stop-in-Ok-clause-committed
returns-in_ok-stop-in-Ok-clause-committed c =
    let s = setup_view c.args.setup.now in
    in_any_case c.make_owed_cut.result _
    (still_through s c.args.standing.now c.occur.new.standing c.make_owed_cut.new.standing c.in_ok-stop-in-Ok.ensures.committed
    (c.make_owed_cut.ensures.committed s (told_of s c.occur.new.standing c.in_ok-stop-in-Ok.stop c.in_ok-stop-in-Ok.ensures.no_more)))

pub returns-in_ok-make_claim-in-Err-clause-told : goal.returns-in_ok-make_claim-in-Err-clause-told
returns-in_ok-make_claim-in-Err-clause-told c =
    where_ok c.complete_claim.result _ _
    (λ completed. λ m stayed. completed m (c.in_ok-make_claim-in-Err.ensures.told m stayed))
    c.complete_claim.ensures.told

pub returns-in_ok-stop-in-Ok-clause-told : goal.returns-in_ok-stop-in-Ok-clause-told
returns-in_ok-stop-in-Ok-clause-told c =
    where_ok c.make_owed_cut.result _ _
    (λ cut. λ m stayed. cut m (c.in_ok-stop-in-Ok.ensures.told m stayed))
    c.make_owed_cut.ensures.told
