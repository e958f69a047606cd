-- The marking is made of the tokens alone.
use Rattle.cpn_test_calls.proofs.StartedMarkings.{room_in_none, sorted_from_none, few_from_none}
use Rattle.cpn_test_calls.proofs.logs.marking.Goals as goal

pub add_made-requires : goal.add_made-requires
add_made-requires c = record { room = room_in_none c.in_ok-outputs.outputs c.in_ok-marking.marking c.in_ok-marking.ensures.empty c.in_ok-outputs.ensures.few }

pub returns-clause-sorted : goal.returns-clause-sorted
returns-clause-sorted c = sorted_from_none c.in_ok-outputs.outputs c.in_ok-marking.marking c.add_made.new.self c.in_ok-marking.ensures.empty c.in_ok-add_made.ensures.added

pub returns-clause-few : goal.returns-clause-few
returns-clause-few c = few_from_none c.in_ok-outputs.outputs c.in_ok-marking.marking c.add_made.new.self c.in_ok-marking.ensures.empty c.in_ok-add_made.ensures.added c.in_ok-outputs.ensures.few
