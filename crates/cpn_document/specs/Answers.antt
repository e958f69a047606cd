-- How a call answers for what has to keep rules.
use Rattle.std.specs.Prelude.{◌≡◌, List, Option, Some, None, Result, Ok, Err}
pub use Rattle.cpn_readings.specs.Rules.{Breaks}
use Rattle.cpn_document.specs.Refusals.{FormRefusal, not_json, shape, bad_number, bad_name, version, limit}
use Rattle.cpn_document.specs.Rules.{Rule, first_broken}
use Rattle.cpn_document.specs.declared.refusals.Refused.{Refused}
use Rattle.cpn_document.specs.declared.refusals.Refused.TheVariants as parts
use Rattle.cpn_document.specs.declared.refusals.DocError.{DocError}
use Rattle.cpn_document.specs.declared.refusals.DocError.TheVariants as errors

-- what a part of a document is refused for
abbrev pub refused_view : Refused → FormRefusal
refused_view (parts.Shape place) = shape place
refused_view (parts.BadNumber place) = bad_number place
refused_view (parts.BadName place) = bad_name place
refused_view parts.Version = version
refused_view (parts.Limit kind) = limit kind

-- the refusal that an error is; want of memory is none
abbrev pub refusal_of : DocError → Option FormRefusal
refusal_of errors.Memory = None
refusal_of errors.NotJson = Some not_json
refusal_of (errors.Shape place) = Some (shape place)
refusal_of (errors.BadNumber place) = Some (bad_number place)
refusal_of (errors.BadName place) = Some (bad_name place)
refusal_of errors.Version = Some version
refusal_of (errors.Limit kind) = Some (limit kind)

-- An answer is the value, as it is seen, where the rules are all kept; else the refusal of the first that is broken.
abbrev pub Gives : {X Y : Type 0} → (X → Y) → Result X DocError → Y → List Rule → Type 0
Gives view (Ok x) value rules = (view x ≡ value) × (first_broken rules ≡ None)
Gives view (Err e) value rules = Breaks (refusal_of e) rules

-- the same of a call that takes no memory
abbrev pub Finds : {X Y : Type 0} → (X → Y) → Result X Refused → Y → List Rule → Type 0
Finds view (Ok x) value rules = (view x ≡ value) × (first_broken rules ≡ None)
Finds view (Err refused) value rules = first_broken rules ≡ Some (refused_view refused)
