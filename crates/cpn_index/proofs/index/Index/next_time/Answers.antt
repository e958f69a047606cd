-- The next time is the least time of all, or the clock where that is later.
use Rattle.std.proofs.Common.{◌≡◌, ℕ, max, Some, option_map, arith, sym, ap, ◌∙◌}
use Rattle.cpn_due.specs.Due.{entries_in}
use Rattle.cpn_index.specs.Index.{kept_in, clock_in}
use Rattle.cpn_index.proofs.ClockedLists.{next_from_clock}
use Rattle.cpn_index.proofs.index.Index.next_time.Goals as goal

pub returns-in_err-first : goal.returns-in_err-first
returns-in_err-first c = record { next = c.from_residual.ensures ∙ ap (option_map (max (clock_in c.args.self.now))) c.in_err-first.ensures.first ∙ sym (next_from_clock (clock_in c.args.self.now) (entries_in (kept_in c.args.self.now))) }

swapped : (i j : ℕ) → max i j ≡ max j i
swapped i j = omega arith

pub returns : goal.returns
returns c =
    record { next = ap (λ (k : ℕ). Some k) (c.max.ensures ∙ swapped c.in_ok-first.first c.clock.result ∙ ap (λ (k : ℕ). max k c.in_ok-first.first) c.clock.ensures.clock) ∙ ap (option_map (max (clock_in c.args.self.now))) c.in_ok-first.ensures.first ∙ sym (next_from_clock (clock_in c.args.self.now) (entries_in (kept_in c.args.self.now))) }
