use Rattle.std.proofs.Common.{◌+◌, ◌%◌, ◌^◌, arith}
use mathlib.Core.Option as core
use Rattle.atomic_table.specs.Table.{step}
use Rattle.cpn_seats.proofs.Keeping.{counts_on}
use Rattle.cpn_seats.proofs.seats.SeatDesk.raise.Goals as goal

pub fetch_add-requires : goal.fetch_add-requires
fetch_add-requires c =
    let words = c.args.self.now.words in
    let at = c.requires.counts in
    (c.requires.own, omega arith, counts_on _ _ _ _ c.args.word (λ n. (n + 1) % 2 ^ 64) (step c.args.self.now.table.shared.table_id.slots c.args.word 1 0 core.none) at.0)
