use Rattle.std.proofs.Common.{[], ◌∷◌, refl}
use Rattle.cpn_book.specs.declared.answers.GivenBack.{GivenBack}
use Rattle.cpn_book.specs.Seen.{seen_in, GivesBackAt}
use Rattle.cpn_book.proofs.SeatCalls.{comes_itself, sees_call, is_later, give_back_makes, gives_back_at, giving_back_answers, wants_memory_by, answers_seen, wants_memory_seen}
use Rattle.cpn_book.proofs.desks.OneSeatDesk.give_back.Goals as goal

pub returns-clause-answer : goal.returns-clause-answer
returns-clause-answer c =
    let e = c.give_back.ensures in
    let b = c.args.self.now.book.now in
    let s = c.args.self.now.seat in
    let d = c.args.ticket in
    let m = give_back_makes s b c.give_back.new.self d c.give_back.result c.requires.keeps.is_book e.kept e.setup e.answer e.events_stay e.spent_same in
    answers_seen GivenBack (GivesBackAt (s ∷ []) s d) (seen_in b) (seen_in c.give_back.new.self) c.give_back.result (gives_back_at (s ∷ []) s (seen_in b) b c.give_back.new.self d c.give_back.result (comes_itself (s ∷ []) b) m e.unspent e.unspent_still)

pub returns-clause-none : goal.returns-clause-none
returns-clause-none c =
    let e = c.give_back.ensures in
    let b = c.args.self.now.book.now in
    let s = c.args.self.now.seat in
    let d = c.args.ticket in
    let m = give_back_makes s b c.give_back.new.self d c.give_back.result c.requires.keeps.is_book e.kept e.setup e.answer e.events_stay e.spent_same in
    wants_memory_seen GivenBack (s ∷ []) (seen_in b) (seen_in c.give_back.new.self) c.give_back.result (wants_memory_by GivenBack (giving_back_answers s d) (s ∷ []) s (seen_in b) b c.give_back.new.self c.give_back.result (comes_itself (s ∷ []) b) m e.spent)

pub returns-clause-later : goal.returns-clause-later
returns-clause-later c =
    let e = c.give_back.ensures in
    let b = c.args.self.now.book.now in
    let s = c.args.self.now.seat in
    let d = c.args.ticket in
    let m = give_back_makes s b c.give_back.new.self d c.give_back.result c.requires.keeps.is_book e.kept e.setup e.answer e.events_stay e.spent_same in
    (seen_in c.give_back.new.self, refl, is_later (s ∷ []) (seen_in b) (seen_in c.give_back.new.self) m.own (sees_call (s ∷ []) s (seen_in b) b c.give_back.new.self m.own (comes_itself (s ∷ []) b) m.makes))
