-- The exit status of each way in which the program ends. Source: own choice.
use Rattle.std.specs.Prelude.{ℕ}
use Rattle.cpn_simulation.specs.declared.statuses.Status.{Status}
use Rattle.cpn_simulation.specs.declared.statuses.Status.TheVariants as statuses

abbrev pub exit_number : Status → ℕ
exit_number statuses.Done = 0
exit_number statuses.BadWords = 1
exit_number statuses.ReadFault = 2
exit_number statuses.BadDocument = 3
exit_number statuses.BadInscription = 4
exit_number statuses.BadNet = 5
exit_number statuses.RunFault = 6
exit_number statuses.WriteFault = 7
exit_number statuses.Memory = 8
exit_number statuses.TooLong = 9
