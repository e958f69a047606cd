-- Where an inscription of the program stands.
use Rattle.cpn_typing.specs.Contexts.{in_function, on_input, on_output, in_marking, in_guard, in_delay, in_monitor}
use Rattle.cpn_typing.specs.Contexts as rules
use Rattle.cpn_typing.specs.Multisets.{input, output, initial}
use Rattle.cpn_typing.specs.Multisets as multisets
use Rattle.cpn_forms.specs.declared.contexts.Side.{Side}
use Rattle.cpn_forms.specs.declared.contexts.Side.TheVariants as sides
use Rattle.cpn_forms.specs.declared.contexts.Context.{Context}
use Rattle.cpn_forms.specs.declared.contexts.Context.TheVariants as contexts

abbrev pub side_view : Side → multisets.Side
side_view sides.Input = input
side_view sides.Output = output
side_view sides.Initial = initial

abbrev pub context_view : Context → rules.Context
context_view contexts.Function = in_function
context_view contexts.Input = on_input
context_view contexts.Output = on_output
context_view contexts.Initial = in_marking
context_view contexts.Guard = in_guard
context_view contexts.Delay = in_delay
context_view contexts.Monitor = in_monitor
