use Rattle.cpn_seats.proofs.WantsOfMemory.{wants_of_memory_are_seen, spent_stays_seen, split_seats_see_spent, spent_claims, spent_completions, spent_giving_back, spent_moves}
use Rattle.cpn_seats.proofs.laws.want_of_memory_stays.Goals as goal

pub returns-clause-seen : goal.returns-clause-seen
returns-clause-seen c = wants_of_memory_are_seen

pub returns-clause-stays : goal.returns-clause-stays
returns-clause-stays c = spent_stays_seen

pub returns-clause-split : goal.returns-clause-split
returns-clause-split c = split_seats_see_spent

pub returns-clause-claims : goal.returns-clause-claims
returns-clause-claims c = spent_claims

pub returns-clause-completions : goal.returns-clause-completions
returns-clause-completions c = spent_completions

pub returns-clause-giving_back : goal.returns-clause-giving_back
returns-clause-giving_back c = spent_giving_back

pub returns-clause-moves : goal.returns-clause-moves
returns-clause-moves c = spent_moves
