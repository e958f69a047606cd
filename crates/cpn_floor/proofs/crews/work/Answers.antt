use Rattle.std.proofs.Common.{◌∙◌}
use Rattle.cpn_book.proofs.LaterRuns.{later_trans}
use Rattle.cpn_floor.proofs.crews.work.Goals as goal

pub loop-preserved-in-Ok : goal.loop-preserved-in-Ok
loop-preserved-in-Ok g c =
    let i = c.loop.invariant in
    let d = c.claim.ensures in
    let e = c.complete.ensures in record {
      can = tt;
      finite = tt;
      keeps = e.keeps;
      later = later_trans _ _ _ (later_trans _ _ _ i.later d.later) e.later;
      numbers = e.numbers ∙ d.numbers ∙ i.numbers;
      seat = e.seat ∙ d.seat ∙ i.seat;
      book = e.book ∙ d.book ∙ i.book;
    }

pub loop-preserved-in-Err : goal.loop-preserved-in-Err
loop-preserved-in-Err g c =
    let i = c.loop.invariant in
    let d = c.claim.ensures in
    let e = c.give_back.ensures in record {
      can = tt;
      finite = tt;
      keeps = e.keeps;
      later = later_trans _ _ _ (later_trans _ _ _ i.later d.later) e.later;
      numbers = e.numbers ∙ d.numbers ∙ i.numbers;
      seat = e.seat ∙ d.seat ∙ i.seat;
      book = e.book ∙ d.book ∙ i.book;
    }

pub loop-preserved-in-Moved : goal.loop-preserved-in-Moved
loop-preserved-in-Moved g c =
    let i = c.loop.invariant in
    let d = c.claim.ensures in
    let e = c.advance.ensures in record {
      can = tt;
      finite = tt;
      keeps = e.keeps;
      later = later_trans _ _ _ (later_trans _ _ _ i.later d.later) e.later;
      numbers = e.numbers ∙ d.numbers ∙ i.numbers;
      seat = e.seat ∙ d.seat ∙ i.seat;
      book = e.book ∙ d.book ∙ i.book;
    }

pub loop-preserved-in-Open : goal.loop-preserved-in-Open
loop-preserved-in-Open g c =
    let i = c.loop.invariant in
    let d = c.claim.ensures in
    let e = c.advance.ensures in
    let f = c.rest.ensures in record {
      can = tt;
      finite = tt;
      keeps = f.keeps;
      later = later_trans _ _ _ (later_trans _ _ _ (later_trans _ _ _ i.later d.later) e.later) f.later;
      numbers = f.numbers ∙ e.numbers ∙ d.numbers ∙ i.numbers;
      seat = f.seat ∙ e.seat ∙ d.seat ∙ i.seat;
      book = f.book ∙ e.book ∙ d.book ∙ i.book;
    }

pub returns-in_default-advance : goal.returns-in_default-advance
returns-in_default-advance g c =
    let i = c.loop.invariant in
    let d = c.claim.ensures in
    let e = c.advance.ensures in record {
      keeps = e.keeps;
      later = later_trans _ _ _ (later_trans _ _ _ i.later d.later) e.later;
      numbers = e.numbers ∙ d.numbers ∙ i.numbers;
      seat = e.seat ∙ d.seat ∙ i.seat;
      book = e.book ∙ d.book ∙ i.book;
    }
