use Rattle.std.proofs.Common.{[], ◌∷◌, refl}
use Rattle.cpn_book.specs.Seen.{seen_in}
use Rattle.cpn_book.proofs.SeatCalls.{looks_itself}
use Rattle.cpn_book.proofs.desks.OneSeatDesk.rest.Goals as goal

pub returns-clause-looks : goal.returns-clause-looks
returns-clause-looks c =
    let b = c.args.self.now.book.now in
    (seen_in b, refl, looks_itself (c.args.self.now.seat ∷ []) b c.requires.keeps.is_book)
