-- What the probes of the program stand for.
use Rattle.cpn_sim.specs.Probing.{PlainMoments, PlainStreak}
use Rattle.cpn_sim.specs.declared.moments.Moments.{Moments}
use Rattle.cpn_sim.specs.declared.streaks.Streak.{Streak}

abbrev pub moments_view : Moments → PlainMoments
moments_view m = record { count = m.count; latest = m.latest }

abbrev pub streak_view : Streak → PlainStreak
streak_view s = record { longest = s.longest; length = s.length; transition = s.transition }
