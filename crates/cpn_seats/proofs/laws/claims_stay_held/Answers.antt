use Rattle.cpn_seats.proofs.StillHeld.{claims_keep_held, completions_keep_others_held, refused_completions_keep_held, giving_back_keeps_held, moves_keep_held, looks_keep_held, wants_of_memory_keep_held}
use Rattle.cpn_seats.proofs.laws.claims_stay_held.Goals as goal

pub returns-clause-claims : goal.returns-clause-claims
returns-clause-claims c = claims_keep_held

pub returns-clause-completions : goal.returns-clause-completions
returns-clause-completions c = completions_keep_others_held

pub returns-clause-refused : goal.returns-clause-refused
returns-clause-refused c = refused_completions_keep_held

pub returns-clause-giving_back : goal.returns-clause-giving_back
returns-clause-giving_back c = giving_back_keeps_held

pub returns-clause-moves : goal.returns-clause-moves
returns-clause-moves c = moves_keep_held

pub returns-clause-looks : goal.returns-clause-looks
returns-clause-looks c = looks_keep_held

pub returns-clause-memory : goal.returns-clause-memory
returns-clause-memory c = wants_of_memory_keep_held
