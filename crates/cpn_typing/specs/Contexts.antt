-- Where an inscription stands, and what may not stand there. Source: own choice.
use Rattle.std.specs.Prelude.{ℕ, Bool, true, false}
use Rattle.cpn_typing.specs.Names.{Refusal, mismatch, time_not_allowed}

-- The context of an inscription: the text of a `val` or a `fun`; within the inscription of an input arc, of an output arc, of
-- an initial marking; a guard; a delay; what a monitor measures.
pub data Context : Type 0 where
  in_function : Context
  on_input : Context
  on_output : Context
  in_marking : Context
  in_guard : Context
  in_delay : Context
  in_monitor : Context

-- Closed texts: `val`, `fun` and initial markings use no variable.
abbrev pub is_closed : Context → Bool
is_closed in_function = true
is_closed in_marking = true
is_closed on_input = false
is_closed on_output = false
is_closed in_guard = false
is_closed in_delay = false
is_closed in_monitor = false

-- Time: `time` may stand on output arcs and in delays alone.
abbrev pub may_tell_time : Context → Bool
may_tell_time on_output = true
may_tell_time in_delay = true
may_tell_time in_function = false
may_tell_time on_input = false
may_tell_time in_marking = false
may_tell_time in_guard = false
may_tell_time in_monitor = false

-- `@+` where no multiset may stand, by the form's first token and by the sign: in guards, delays and monitors it is refused
-- at the sign, elsewhere the form is
abbrev pub misplaced_delay : Context → ℕ → ℕ → Refusal
misplaced_delay in_guard at s = time_not_allowed s
misplaced_delay in_delay at s = time_not_allowed s
misplaced_delay in_monitor at s = time_not_allowed s
misplaced_delay in_function at s = mismatch at
misplaced_delay on_input at s = mismatch at
misplaced_delay on_output at s = mismatch at
misplaced_delay in_marking at s = mismatch at

-- `@` with a time stamp: the same, and in a `val` or a `fun` it is refused at the sign too
abbrev pub misplaced_stamp : Context → ℕ → ℕ → Refusal
misplaced_stamp in_guard at s = time_not_allowed s
misplaced_stamp in_delay at s = time_not_allowed s
misplaced_stamp in_monitor at s = time_not_allowed s
misplaced_stamp in_function at s = time_not_allowed s
misplaced_stamp on_input at s = mismatch at
misplaced_stamp on_output at s = mismatch at
misplaced_stamp in_marking at s = mismatch at
