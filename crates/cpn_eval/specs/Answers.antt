-- What an answer of the program tells of a meaning.
use Rattle.std.specs.Prelude.{◌≡◌, Bool, if◌then◌else◌, List, ◌++◌, Option, Some, None, Result, Ok, Err}
use Rattle.std.specs.Option.{option_map}
use Rattle.cpn_definitions.specs.Outcome.{Outcome, gives, faults, no_meaning}
use Rattle.cpn_core.specs.Faults.{fault_view}
use Rattle.cpn_eval.specs.declared.refusals.Refused.{Refused}
use Rattle.cpn_eval.specs.declared.refusals.Refused.TheVariants as refused
use Rattle.cpn_eval.specs.declared.refusals.NoValue.{NoValue}
use Rattle.cpn_eval.specs.declared.refusals.NoValue.TheVariants as reasons

-- what a refusal tells: its fault; want of memory tells nothing
abbrev pub Refuses : {A : Type 0} → Refused → Outcome A → Type 0
Refuses refused.Memory outcome = Unit {0}
Refuses (refused.Fault fault) outcome = outcome ≡ faults (fault_view fault)

-- a value is the meaning's, as it is seen, and a fault is the meaning's
abbrev pub Answers : {X A : Type 0} → (X → A) → Result X Refused → Outcome A → Type 0
Answers view (Ok x) outcome = outcome ≡ gives (view x)
Answers view (Err refusal) outcome = Refuses refusal outcome

-- the same of an inscription that may have no meaning
abbrev pub Stops : {A : Type 0} → NoValue → Outcome A → Type 0
Stops reasons.Memory outcome = Unit {0}
Stops reasons.Untyped outcome = outcome ≡ no_meaning
Stops (reasons.Fault fault) outcome = outcome ≡ faults (fault_view fault)

abbrev pub Tells : {X A : Type 0} → (X → A) → Result X NoValue → Outcome A → Type 0
Tells view (Ok x) outcome = outcome ≡ gives (view x)
Tells view (Err reason) outcome = Stops reason outcome

-- the same of a value that may be left to be found in another way
abbrev pub MayTell : {X A : Type 0} → (X → A) → Result (Option X) NoValue → Outcome A → Type 0
MayTell view (Ok None) outcome = Unit {0}
MayTell view (Ok (Some x)) outcome = outcome ≡ gives (view x)
MayTell view (Err reason) outcome = Stops reason outcome

-- a list, if it is given, behind what came before it
abbrev pub with_front : {A : Type 0} → List A → Option (List A) → Option (List A)
with_front front rest = option_map (λ xs. front ++ xs) rest

-- whether a pattern matches, and what it binds behind what was bound before it
abbrev pub Matches : {A E : Type 0} → Result Bool E → List A → List A → Option (List A) → Type 0
Matches (Ok fits) before after bound = with_front before bound ≡ (if fits then Some after else None)
Matches (Err e) before after bound = Unit {0}
