-- The plain fault that a fault of the program stands for.
use Rattle.cpn_definitions.specs.Outcome as plain
use Rattle.cpn_core.specs.declared.faults.EvalFault.{EvalFault}
use Rattle.cpn_core.specs.declared.faults.EvalFault.TheVariants as faults

abbrev pub fault_view : EvalFault → plain.Fault
fault_view faults.Overflow = plain.overflow
fault_view faults.DivideByZero = plain.divide_by_zero
fault_view faults.EmptyList = plain.empty_list
fault_view faults.NoCase = plain.no_case
fault_view faults.NotInColour = plain.not_in_colour
fault_view faults.BadCoefficient = plain.bad_coefficient
fault_view faults.BadDelay = plain.bad_delay
fault_view faults.TooLarge = plain.too_large
