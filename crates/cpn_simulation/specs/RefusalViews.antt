-- The plain refusal that one of the program stands for; want of memory is none.
use Rattle.std.specs.Prelude.{Option, Some, None, option_map}
use Rattle.cpn_model.specs.Answers.{model_refusal_of}
use Rattle.cpn_simulation.specs.Causes.{PlainRefusal, bad_words, read_fault, too_long, bad_document}
use Rattle.cpn_simulation.specs.declared.refusals.Refusal.{Refusal}
use Rattle.cpn_simulation.specs.declared.refusals.Refusal.TheVariants as refusals

abbrev pub refusal_view : Refusal → Option PlainRefusal
refusal_view refusals.Words = Some bad_words
refusal_view refusals.Read = Some read_fault
refusal_view refusals.Long = Some too_long
refusal_view (refusals.Document error) = option_map bad_document (model_refusal_of error)
refusal_view refusals.Memory = None
