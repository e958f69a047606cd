-- The ledger is the one that was made.
use Rattle.cpn_test_program.proofs.held.follow_told.Given as goal

abbrev pub ghosts-follow_on : goal.ghosts-follow_on
ghosts-follow_on a = record { name = a.blank.name; parts = a.blank.parts }
