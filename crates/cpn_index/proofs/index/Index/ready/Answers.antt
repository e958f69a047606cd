-- A position among those that are ready is one among those that are due.
use Rattle.std.proofs.Common.{arith}
use Rattle.cpn_index.specs.Index.{kept_in, clock_in}
use Rattle.cpn_index.proofs.ReadyElements.{ready_number}
use Rattle.cpn_index.proofs.index.Index.ready.Goals as goal

pub ready-requires : goal.ready-requires
ready-requires c =
    let number = ready_number (clock_in c.args.self.now) (kept_in c.args.self.now) in
    let within = c.requires.within in
    record { within = omega (arith, number, within) }
