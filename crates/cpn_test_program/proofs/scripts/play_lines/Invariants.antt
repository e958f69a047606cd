-- What is held is the index of its net and marking.
use Rattle.cpn_test_program.specs.EditedNets.{IsEditedNet}
use Rattle.cpn_test_program.proofs.scripts.play_lines.Given as goal

abbrev pub invariant-loop-line : goal.invariant-loop-line
invariant-loop-line g l = IsEditedNet l.held
