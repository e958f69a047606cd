-- What the two probes of the program count of the occurrences that they are told. Source: own choice.
use Rattle.std.specs.Prelude.{ℕ, ◌+◌, ◌-◌, ◌^◌, ◌==◌, Bool, false, if◌then◌else◌, max, min, Option, Some, None}
use Rattle.cpn_definitions.specs.Legal.{PlainOccurrence}

-- one more, up to the last number of 64 bits
abbrev pub one_more : ℕ → ℕ
one_more n = min (n + 1) (2 ^ 64 - 1)

-- whether the latest number, if there is one, is this
abbrev pub is_latest : Option ℕ → ℕ → Bool
is_latest None n = false
is_latest (Some latest) n = latest == n

-- Moments: how many occurrences had another time than the one before them, or none before them; and the latest time.
pub record PlainMoments : Type 0 where
  pub count : ℕ
  pub latest : Option ℕ

-- of none
abbrev pub no_moments : PlainMoments
no_moments = record { count = 0; latest = None }

-- of those and one more
abbrev pub moments_after : PlainMoments → PlainOccurrence → PlainMoments
moments_after m o = record { count = if is_latest m.latest o.time then m.count else one_more m.count; latest = Some o.time }

-- Streak: the length of the longest stretch of occurrences of one transition; that of the latest stretch; and its transition.
pub record PlainStreak : Type 0 where
  pub longest : ℕ
  pub length : ℕ
  pub transition : Option ℕ

-- of none
abbrev pub no_streak : PlainStreak
no_streak = record { longest = 0; length = 0; transition = None }

-- the length of the latest stretch after an occurrence
abbrev pub length_after : PlainStreak → PlainOccurrence → ℕ
length_after s o = if is_latest s.transition o.element.transition then one_more s.length else 1

-- of those and one more
abbrev pub streak_after : PlainStreak → PlainOccurrence → PlainStreak
streak_after s o = record { longest = max s.longest (length_after s o); length = length_after s o; transition = Some o.element.transition }
