-- The monitor stands in the list of what it looks at.
use Rattle.std.proofs.Common.{subst, sym}
use Rattle.std.proofs.lemmas.Result.{on_ok_weaker}
use Rattle.cpn_monitor.specs.Views.{look_view, watched_view}
use Rattle.cpn_monitor.specs.Watched.{WatchesMore, IsKnown}
use Rattle.cpn_monitor.proofs.WatchedNets.{watches_transition, watches_place}
use Rattle.cpn_monitor.proofs.watched.Watched.push.Goals as goal

pub returns-in-AtTransition : goal.returns-in-AtTransition
returns-in-AtTransition c = record {
  more = on_ok_weaker c.push.result (λ with.
      subst (λ look. WatchesMore (look_view look) c.args.number (watched_view c.args.self.now) (record (watched_view c.args.self.now) { of_transition = c.push.new.self })) (sym c.in-AtTransition.is)
      (watches_transition c.in-AtTransition.transition c.args.number (watched_view c.args.self.now) c.push.new.self (subst (λ look. IsKnown (watched_view c.args.self.now) (look_view look)) c.in-AtTransition.is c.requires.known) with)) c.push.ensures.with;
}

pub returns-in-AtPlace : goal.returns-in-AtPlace
returns-in-AtPlace c = record {
  more = on_ok_weaker c.push-in-AtPlace.result (λ with.
      subst (λ look. WatchesMore (look_view look) c.args.number (watched_view c.args.self.now) (record (watched_view c.args.self.now) { of_place = c.push-in-AtPlace.new.self })) (sym c.in-AtPlace.is)
      (watches_place c.in-AtPlace.place c.args.number (watched_view c.args.self.now) c.push-in-AtPlace.new.self (subst (λ look. IsKnown (watched_view c.args.self.now) (look_view look)) c.in-AtPlace.is c.requires.known) with)) c.push-in-AtPlace.ensures.with;
}
