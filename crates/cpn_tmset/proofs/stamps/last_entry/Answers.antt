-- The last entry of the range up to the threshold is the latest.
use Rattle.std.proofs.Common.{◌≡◌, ℕ, ◌≤◌, false, is_gt, nat_cmp, arith}
use Rattle.std.proofs.lemmas.Bool.Decides.{nat_tests}
use Rattle.std.proofs.lemmas.Map.Keys.{le_from_not_gt, ge_from_not_lt}
use Rattle.cpn_tmset.proofs.stamps.last_entry.Goals as goal

up_to : (q t : ℕ) → q ≤ t → is_gt (nat_cmp q t) ≡ false
up_to q t le = grind (arith, nat_tests)

pub returns : goal.returns
returns c =
    let range = c.range.ensures.in_range tt in
    let e : ℕ × ℕ = (c.in_ok-stamp.stamp.now, c.in_ok-stamp.count.now) in
    let held = range.3 e c.next_back.new.self c.in_ok-stamp.ensures.steps in
    record {
      last = (
        le_from_not_gt e.0 c.args.latest held.0.1,
        held.1,
        λ s le some. ge_from_not_lt e.0 s (range.4 e c.next_back.new.self c.in_ok-stamp.ensures.steps s (tt, up_to s c.args.latest le) some),
      );
    }
