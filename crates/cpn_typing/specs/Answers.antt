-- How an answer is what the rules say. An answer is accepted, or has an error; an error is a refusal, or want of memory,
-- which is none.
use Rattle.std.specs.Prelude.{◌≡◌, Option, Some, None, Result, Ok, Err}
use Rattle.cpn_typing.specs.Names.{Refusal, Checked, ok, refused}

-- what a refusal says of what was to be checked: that it is the first one; want of memory says nothing
abbrev pub Refuses : {Y : Type 0} → Option Refusal → Checked Y → Type 0
Refuses None checked = Unit {0}
Refuses (Some refusal) checked = checked ≡ refused refusal

-- an answer is what the rules accept, as it is seen, or the first refusal
abbrev pub AnswersWith : {X Y E : Type 0} → (E → Option Refusal) → (X → Y) → Result X E → Checked Y → Type 0
AnswersWith refusal_of view (Ok x) checked = checked ≡ ok (view x)
AnswersWith refusal_of view (Err e) checked = Refuses (refusal_of e) checked

-- of a rule that relates: a refusal is one that it has
abbrev pub RefusesBy : {Y : Type 0} → (Checked Y → Type 0) → Option Refusal → Type 0
RefusesBy Rule None = Unit {0}
RefusesBy Rule (Some refusal) = Rule (refused refusal)
