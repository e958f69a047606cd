-- Unless the run has ended, what its book shows can be printed; and what is held is the index of the net.
use Rattle.std.specs.Prelude.{IfSome}
use Rattle.cpn_core.specs.Nets.{net_view}
use Rattle.cpn_test_program.specs.Held.{IsHeld}
use Rattle.cpn_test_program.specs.Shown.{IsShown}
use Rattle.cpn_test_program.proofs.plays.Table.lines.Given as goal

abbrev pub invariant-loop-line : goal.invariant-loop-line
invariant-loop-line l = record {
  shown : IfSome l.run (λ book. IsShown (net_view l.net) book);
  held : IfSome l.held (λ held. IsHeld (net_view l.net) held.marking held.index held.clock);
}
