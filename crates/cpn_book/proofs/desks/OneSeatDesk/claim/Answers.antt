use Rattle.std.proofs.Common.{[], ◌∷◌, refl}
use Rattle.cpn_book.specs.declared.answers.Claimed.{Claimed}
use Rattle.cpn_book.specs.Seen.{seen_in, ClaimsAt}
use Rattle.cpn_book.proofs.SeatCalls.{comes_itself, sees_call, is_later, claim_makes, claims_at, claim_fails, answers_seen, wants_memory_seen}
use Rattle.cpn_book.proofs.desks.OneSeatDesk.claim.Goals as goal

pub returns-clause-answer : goal.returns-clause-answer
returns-clause-answer c =
    let e = c.claim.ensures in
    let b = c.args.self.now.book.now in
    let s = c.args.self.now.seat in
    let m = claim_makes s b c.claim.new.self c.claim.result e.kept e.setup e.events e.events_stay e.spent_same in
    answers_seen Claimed (ClaimsAt (s ∷ []) s) (seen_in b) (seen_in c.claim.new.self) c.claim.result (claims_at (s ∷ []) s (seen_in b) b c.claim.new.self c.claim.result (comes_itself (s ∷ []) b) m e.answer e.unspent e.unspent_still)

pub returns-clause-none : goal.returns-clause-none
returns-clause-none c =
    let e = c.claim.ensures in
    let b = c.args.self.now.book.now in
    let s = c.args.self.now.seat in
    let m = claim_makes s b c.claim.new.self c.claim.result e.kept e.setup e.events e.events_stay e.spent_same in
    wants_memory_seen Claimed (s ∷ []) (seen_in b) (seen_in c.claim.new.self) c.claim.result (claim_fails (s ∷ []) s (seen_in b) b c.claim.new.self c.claim.result (comes_itself (s ∷ []) b) m e.spent)

pub returns-clause-later : goal.returns-clause-later
returns-clause-later c =
    let e = c.claim.ensures in
    let b = c.args.self.now.book.now in
    let s = c.args.self.now.seat in
    let m = claim_makes s b c.claim.new.self c.claim.result e.kept e.setup e.events e.events_stay e.spent_same in
    (seen_in c.claim.new.self, refl, is_later (s ∷ []) (seen_in b) (seen_in c.claim.new.self) _ (sees_call (s ∷ []) s (seen_in b) b c.claim.new.self _ (comes_itself (s ∷ []) b) m))
