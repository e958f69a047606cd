-- The plain options that those of the program stand for.
use Rattle.cpn_simulation.specs.Options.{PlainOptions}
use Rattle.cpn_simulation.specs.declared.options.Options.{Options}

abbrev pub options_view : Options → PlainOptions
options_view o = record { mode = o.mode; seed = o.seed; workers = o.workers; steps = o.steps; until = o.until; trace = o.trace }
