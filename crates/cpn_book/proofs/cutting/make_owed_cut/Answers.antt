-- Where a cut is owed, all claims behind the committed ones are cut off.
use Rattle.std.proofs.Common.{◌≡◌, true, Option, Some, None, map, refl, ap, subst, arith}
use Rattle.std.specs.Option.{is_some}
use Rattle.std.specs.Prelude.{vec_len}
use Rattle.cpn_core.specs.Occurrences.{occurrence_view}
use Rattle.cpn_runs.specs.State.{PlainSetup}
use Rattle.cpn_runs.specs.declared.events.End.{End}
use Rattle.cpn_book.specs.Committing.{CommitsNoMore, OwesCut}
use Rattle.cpn_book.specs.declared.standings.Cut.{Cut}
use Rattle.cpn_book.specs.declared.standings.Standing.{Standing}
use Rattle.cpn_book.proofs.CommittedStandings.{stands_so, still_at}
use Rattle.cpn_book.proofs.HeldSeats.{where_ok, either}
use Rattle.cpn_book.proofs.OwedCuts.{adds_none, may_make, adds_cut}
use Rattle.cpn_book.proofs.cutting.make_owed_cut.Goals as goal

-- where none is owed the run stands there, and the journal is as it was
owes_nothing : (setup : PlainSetup) (s : Standing) (cause : Option End) → ((other : End) → cause ≡ Some other → ⊥) → OwesCut setup s cause → OwesCut setup s None
owes_nothing setup s None none owes = owes
owes_nothing setup s (Some cause) none owes = absurd (none cause refl)

pub returns-in_default : goal.returns-in_default
returns-in_default c =
    let old = c.args.standing.now in
    let room = c.requires.room in
    let owes : (setup : PlainSetup) → CommitsNoMore setup c.args.standing.now c.args.stop → OwesCut setup c.args.standing.now None = λ setup no_more.
    owes_nothing setup c.args.standing.now c.in_ok-cause.field-0 c.in_default.not-Some (c.in_ok-cause.ensures.owed setup no_more c.requires.only_given_back) in
    record {
      at = λ setup no_more. let none = owes setup no_more in stands_so setup old none.0 none.1 none.2;
      clock = refl;
      events = λ setup no_more. adds_none setup old (owes setup no_more);
      stays = tt;
      made = λ _. refl;
      few = omega arith;
      frees = λ s i holds. holds;
      room = omega (arith, room);
      told = λ m stayed. stayed;
      committed = λ setup at. still_at setup old old at refl refl refl;
    }

pub cut_off-requires-clause-behind : goal.cut_off-requires-clause-behind
cut_off-requires-clause-behind c = let number = c.committed-number.ensures in omega (arith, number)

pub returns-clause-at : goal.returns-clause-at
returns-clause-at c = where_ok c.cut_off.result _ _
    (λ at. λ setup no_more.
    let old = c.args.standing.now in
    let owes : OwesCut setup c.args.standing.now (Some c.in-Some.cause) = subst (OwesCut setup c.args.standing.now) c.in-Some.is (c.in_ok-cause.ensures.owed setup no_more c.requires.only_given_back) in
    at setup (may_make setup old c.in-Some.cause c.committed-number.result c.committed-number.ensures owes))
    c.cut_off.ensures.at

pub returns-clause-events : goal.returns-clause-events
returns-clause-events c = where_ok c.cut_off.result _ _
    (λ events. λ setup no_more.
    let old = c.args.standing.now in
    let owes : OwesCut setup c.args.standing.now (Some c.in-Some.cause) = subst (OwesCut setup c.args.standing.now) c.in-Some.is (c.in_ok-cause.ensures.owed setup no_more c.requires.only_given_back) in
    adds_cut setup old _ c.in-Some.cause c.committed-number.result c.committed-number.ensures owes events)
    c.cut_off.ensures.events

-- a cut stands then
not_made : (o : Option Cut) → is_some o ≡ true → o ≡ None → ⊥
not_made None is none = cc
not_made (Some cut) is none = cc

pub returns-clause-made : goal.returns-clause-made
returns-clause-made c = where_ok c.cut_off.result _ _ (λ is. λ none. absurd (not_made c.cut_off.new.standing.cut is none)) c.cut_off.ensures.cut

pub returns-clause-room : goal.returns-clause-room
returns-clause-room c =
    let room = c.requires.room in
    let same = c.cut_off.ensures.capacity in
    either c.cut_off.result _ _ _ c.cut_off.ensures.len c.cut_off.ensures.stays
    (λ long. omega (arith, room, same, long))
    (λ stays. let e = ap vec_len stays in omega (arith, room, same, e))

pub returns-in_err-cause-clause-committed : goal.returns-in_err-cause-clause-committed
returns-in_err-cause-clause-committed c = λ setup at. still_at setup c.args.standing.now _ at refl refl refl

pub returns-clause-committed : goal.returns-clause-committed
returns-clause-committed c = λ setup at. still_at setup c.args.standing.now _ at c.cut_off.ensures.committed c.cut_off.ensures.settled (ap (λ os. map occurrence_view os.items) c.cut_off.ensures.occurrences)
