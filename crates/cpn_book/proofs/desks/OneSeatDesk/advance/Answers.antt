use Rattle.std.proofs.Common.{[], ◌∷◌, refl}
use Rattle.cpn_book.specs.Seen.{seen_in}
use Rattle.cpn_book.proofs.SeatCalls.{comes_itself, sees_call, is_later, advance_makes, advances_at}
use Rattle.cpn_book.proofs.desks.OneSeatDesk.advance.Goals as goal

pub returns-clause-answer : goal.returns-clause-answer
returns-clause-answer c =
    let e = c.advance.ensures in
    let b = c.args.self.now.book.now in
    let s = c.args.self.now.seat in
    let m = advance_makes s b c.advance.new.self c.advance.result e.kept e.setup e.events e.spent_still in
    (seen_in c.advance.new.self, refl, advances_at (s ∷ []) s (seen_in b) b c.advance.new.self c.advance.result c.requires.keeps.is_book (comes_itself (s ∷ []) b) m e.answer e.spent e.spent_still)

pub returns-clause-later : goal.returns-clause-later
returns-clause-later c =
    let e = c.advance.ensures in
    let b = c.args.self.now.book.now in
    let s = c.args.self.now.seat in
    let m = advance_makes s b c.advance.new.self c.advance.result e.kept e.setup e.events e.spent_still in
    (seen_in c.advance.new.self, refl, is_later (s ∷ []) (seen_in b) (seen_in c.advance.new.self) _ (sees_call (s ∷ []) s (seen_in b) b c.advance.new.self _ (comes_itself (s ∷ []) b) m))
