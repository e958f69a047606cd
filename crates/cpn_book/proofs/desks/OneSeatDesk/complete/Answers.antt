use Rattle.std.proofs.Common.{[], ◌∷◌, refl}
use Rattle.cpn_book.specs.declared.answers.Completed.{Completed}
use Rattle.cpn_book.specs.Seen.{seen_in, CompletesAt}
use Rattle.cpn_book.proofs.SeatCalls.{comes_itself, sees_call, is_later, complete_makes, completes_at, completion_answers, wants_memory_by, answers_seen, wants_memory_seen}
use Rattle.cpn_book.proofs.desks.OneSeatDesk.complete.Goals as goal

pub returns-clause-answer : goal.returns-clause-answer
returns-clause-answer c =
    let e = c.complete.ensures in
    let b = c.args.self.now.book.now in
    let s = c.args.self.now.seat in
    let d = c.args.done in
    let m = complete_makes s b c.complete.new.self d c.complete.result c.requires.keeps.is_book e.kept e.setup e.answer e.events_stay e.spent_same in
    answers_seen Completed (CompletesAt (s ∷ []) s d) (seen_in b) (seen_in c.complete.new.self) c.complete.result (completes_at (s ∷ []) s (seen_in b) b c.complete.new.self d c.complete.result (comes_itself (s ∷ []) b) m e.unspent e.unspent_still)

pub returns-clause-none : goal.returns-clause-none
returns-clause-none c =
    let e = c.complete.ensures in
    let b = c.args.self.now.book.now in
    let s = c.args.self.now.seat in
    let d = c.args.done in
    let m = complete_makes s b c.complete.new.self d c.complete.result c.requires.keeps.is_book e.kept e.setup e.answer e.events_stay e.spent_same in
    wants_memory_seen Completed (s ∷ []) (seen_in b) (seen_in c.complete.new.self) c.complete.result (wants_memory_by Completed (completion_answers s d) (s ∷ []) s (seen_in b) b c.complete.new.self c.complete.result (comes_itself (s ∷ []) b) m e.spent)

pub returns-clause-later : goal.returns-clause-later
returns-clause-later c =
    let e = c.complete.ensures in
    let b = c.args.self.now.book.now in
    let s = c.args.self.now.seat in
    let d = c.args.done in
    let m = complete_makes s b c.complete.new.self d c.complete.result c.requires.keeps.is_book e.kept e.setup e.answer e.events_stay e.spent_same in
    (seen_in c.complete.new.self, refl, is_later (s ∷ []) (seen_in b) (seen_in c.complete.new.self) m.own (sees_call (s ∷ []) s (seen_in b) b c.complete.new.self m.own (comes_itself (s ∷ []) b) m.makes))
