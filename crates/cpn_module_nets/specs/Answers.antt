-- How a call answers what a document, or a part of one, is read as.
use Rattle.std.specs.Prelude.{◌≡◌, ℕ, List, Option, Some, None, option_map, Result, Ok, Err}
use Rattle.cpn_typing.specs.Names.{unknown}
pub use Rattle.cpn_readings.specs.Reading.{Refuses}
pub use Rattle.cpn_readings.specs.Relations.{RefusesBy}
use Rattle.cpn_module.specs.Answers.{refusal_of as module_refusal_of}
use Rattle.cpn_text_refusals.specs.Refusals.{typing}
use Rattle.cpn_text_refusals.specs.Answers.{text_refusal_of}
use Rattle.cpn_module_nets.specs.Reading.{NetRefusal, of_modules, inscription, Reading, read}
use Rattle.cpn_module_nets.specs.Pointers.{colour_pointer}
use Rattle.cpn_module_nets.specs.declared.refusals.NetError.{NetError}
use Rattle.cpn_module_nets.specs.declared.refusals.NetError.TheVariants as nets

-- the refusal of the nets of a document that an error is
abbrev pub net_refusal_of : NetError → Option NetRefusal
net_refusal_of nets.Memory = None
net_refusal_of (nets.Modules e) = option_map of_modules (module_refusal_of e)
net_refusal_of (nets.Inscription at e) = option_map (inscription at) (text_refusal_of e)

-- an answer gives the value that was to be read, as it is seen, or its refusal
abbrev pub Loads : {X Y : Type 0} → (X → Y) → Result X NetError → Reading Y → Type 0
Loads view (Ok x) reading = reading ≡ read (view x)
Loads view (Err e) reading = Refuses (net_refusal_of e) reading

-- the same of what relates to readings
abbrev pub LoadsBy : {X Y : Type 0} → (X → Y) → Result X NetError → (Reading Y → Type 0) → Type 0
LoadsBy view (Ok x) Reads = Reads (read (view x))
LoadsBy view (Err e) Reads = RefusesBy Reads (net_refusal_of e)

-- an error that a place's colour set is unknown; want of memory says nothing
abbrev pub IsUnknownOrNone : ℕ → ℕ → List ℕ → Option NetRefusal → Type 0
IsUnknownOrNone m i name None = Unit {0}
IsUnknownOrNone m i name (Some refusal) = refusal ≡ inscription (colour_pointer m i) (typing (unknown name))

abbrev pub IsUnknown : ℕ → ℕ → List ℕ → NetError → Type 0
IsUnknown m i name e = IsUnknownOrNone m i name (net_refusal_of e)
