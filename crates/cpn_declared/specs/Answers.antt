-- How a call of the checker answers what the rules say.
use Rattle.std.specs.Prelude.{Option, Some, None, Result, Ok, Err, string_bytes}
use Rattle.cpn_typing.specs.Names as rules
use Rattle.cpn_typing.specs.Names.{Refusal, Checked, ok}
use Rattle.cpn_typing.specs.Answers.{AnswersWith, RefusesBy}
use Rattle.cpn_declared.specs.declared.refusals.Limit.{Limit}
use Rattle.cpn_declared.specs.declared.refusals.Limit.TheVariants as limits
use Rattle.cpn_declared.specs.declared.refusals.TypeError.{TypeError}
use Rattle.cpn_declared.specs.declared.refusals.TypeError.TheVariants as errors

abbrev pub limit_view : Limit → rules.Limit
limit_view limits.Depth = rules.depth
limit_view limits.Nodes = rules.nodes
limit_view limits.Variables = rules.variables

-- the refusal that an error is; want of memory is none
abbrev pub refusal_of : TypeError → Option Refusal
refusal_of errors.Memory = None
refusal_of (errors.Unknown n) = Some (rules.unknown (string_bytes n))
refusal_of (errors.Duplicate n) = Some (rules.duplicate (string_bytes n))
refusal_of (errors.Mismatch at) = Some (rules.mismatch at)
refusal_of (errors.NotClosed n) = Some (rules.not_closed (string_bytes n))
refusal_of (errors.NotBindable n) = Some (rules.not_bindable (string_bytes n))
refusal_of (errors.InputDelay at) = Some (rules.input_delay at)
refusal_of (errors.TimeNotAllowed at) = Some (rules.time_not_allowed at)
refusal_of (errors.TooMany limit) = Some (rules.too_many (limit_view limit))
refusal_of (errors.EmptyColour n) = Some (rules.empty_colour (string_bytes n))

-- an answer is what the rules accept, as it is seen, or the first refusal
abbrev pub Answers : {X Y : Type 0} → (X → Y) → Result X TypeError → Checked Y → Type 0
Answers = AnswersWith refusal_of

-- the same of a rule that relates: the answer is one that it has
abbrev pub AnswersBy : {X Y : Type 0} → (Checked Y → Type 0) → (X → Y) → Result X TypeError → Type 0
AnswersBy Rule view (Ok x) = Rule (ok (view x))
AnswersBy Rule view (Err e) = RefusesBy Rule (refusal_of e)
