-- How a call answers for what modules have to keep.
use Rattle.std.specs.Prelude.{◌≡◌, List, Option, Some, None, Result, Ok, Err}
use Rattle.cpn_readings.specs.Rules.{first_broken, Breaks}
use Rattle.cpn_module.specs.Refusals.{ModuleRefusal, unknown_module, unknown_place, unknown_transition, cycle, socket_type, colour_differs, port_twice, port_in_fusion, two_fusions}
use Rattle.cpn_module.specs.ModuleRules.{Rule}
use Rattle.cpn_module.specs.declared.refusals.ModuleError.{ModuleError}
use Rattle.cpn_module.specs.declared.refusals.ModuleError.TheVariants as errors

-- the refusal that an error is; want of memory is none
abbrev pub refusal_of : ModuleError → Option ModuleRefusal
refusal_of errors.Memory = None
refusal_of (errors.UnknownModule at) = Some (unknown_module at)
refusal_of (errors.UnknownPlace at) = Some (unknown_place at)
refusal_of (errors.UnknownTransition at) = Some (unknown_transition at)
refusal_of (errors.Cycle at) = Some (cycle at)
refusal_of (errors.SocketType at) = Some (socket_type at)
refusal_of (errors.ColourDiffers at) = Some (colour_differs at)
refusal_of (errors.PortTwice at) = Some (port_twice at)
refusal_of (errors.PortInFusion at) = Some (port_in_fusion at)
refusal_of (errors.TwoFusions at) = Some (two_fusions at)

-- An answer comes where the rules are all kept; else the refusal of the first that is broken.
abbrev pub Checks : {X : Type 0} → Result X ModuleError → List Rule → Type 0
Checks (Ok x) rules = first_broken rules ≡ None
Checks (Err e) rules = Breaks (refusal_of e) rules
