-- As many are ready as are due.
use Rattle.std.proofs.Common.{◌∙◌}
use Rattle.cpn_index.specs.Index.{kept_in, clock_in}
use Rattle.cpn_index.proofs.ReadyElements.{ready_number}
use Rattle.cpn_index.proofs.index.Index.ready_len.Goals as goal

pub returns : goal.returns
returns c = record { number = c.ready_len.ensures.number ∙ ready_number (clock_in c.args.self.now) (kept_in c.args.self.now) }
