use Rattle.std.proofs.Common.{◌≡◌, ℕ, ◌%◌, ◌^◌, []}
use Rattle.cpn_seats.specs.Turns.{with_turn}
use Rattle.cpn_seats.proofs.seats.SeatDesk.take_turn.Given as goal

abbrev pub invariant-loop : goal.invariant-loop
invariant-loop g l = record {
  can : (goal.iterator-loop g).can_next l.iterator';
  finite : (goal.iterator-loop g).is_finite l.iterator';
  own : l.token.table_id ≡ l.fn.token.table_id;
  drawn : (turn : ℕ) × (l.number ≡ turn % 2 ^ 64) × (l.token.me ≡ (with_turn l.fn.token.me.0 turn, []));
}
