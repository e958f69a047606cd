-- The range of times. Source: own choice.
use Rattle.std.specs.Prelude.{ℕ, ◌^◌}

-- Times, time stamps and delays are whole numbers from 0 to this one.
abbrev pub last_time : ℕ
last_time = 2 ^ 62
