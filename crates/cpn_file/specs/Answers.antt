-- How a call of the reader answers what a document is read as.
use Rattle.std.specs.Prelude.{◌≡◌, Option, Some, None, option_map, Result, Ok, Err}
pub use Rattle.cpn_readings.specs.Reading.{Refuses}
pub use Rattle.cpn_readings.specs.Relations.{RefusesBy}
use Rattle.cpn_document.specs.Answers.{refusal_of}
use Rattle.cpn_module.specs.Answers.{refusal_of as module_refusal_of}
use Rattle.cpn_text_refusals.specs.Answers.{text_refusal_of}
use Rattle.cpn_module_nets.specs.Reading.{of_modules, inscription}
use Rattle.cpn_flat.specs.Answers.{refusal_of as flat_refusal_of}
use Rattle.cpn_file.specs.Reading.{Refusal, of_form, of_net, of_flat, Reading, read}
use Rattle.cpn_file.specs.declared.refusals.LoadError.{LoadError}
use Rattle.cpn_file.specs.declared.refusals.LoadError.TheVariants as loads

-- the refusal of a document that an error is; want of memory is none
abbrev pub load_refusal_of : LoadError → Option Refusal
load_refusal_of loads.Memory = None
load_refusal_of (loads.Document e) = option_map of_form (refusal_of e)
load_refusal_of (loads.Inscription pointer e) = option_map (λ r. of_net (inscription pointer r)) (text_refusal_of e)
load_refusal_of (loads.Module e) = option_map (λ r. of_net (of_modules r)) (module_refusal_of e)
load_refusal_of (loads.Flat e) = option_map of_flat (flat_refusal_of e)

-- an answer gives the value that was to be read, as it is seen, or its refusal
abbrev pub Loads : {X Y : Type 0} → (X → Y) → Result X LoadError → Reading Y → Type 0
Loads view (Ok x) reading = reading ≡ read (view x)
Loads view (Err e) reading = Refuses (load_refusal_of e) reading

-- the same of what relates to readings
abbrev pub LoadsBy : {X Y : Type 0} → (X → Y) → Result X LoadError → (Reading Y → Type 0) → Type 0
LoadsBy view (Ok x) Reads = Reads (read (view x))
LoadsBy view (Err e) Reads = RefusesBy Reads (load_refusal_of e)
