-- An end that is not for want of memory is told as one that is not.
use Rattle.std.proofs.Common.{◌≡◌, ◌≢◌, refl}
use Rattle.cpn_runs.specs.State.{wants_memory}
use Rattle.cpn_runs.specs.Views.{end_view}
use Rattle.cpn_runs.specs.declared.events.End.{End}
use Rattle.cpn_runs.specs.declared.events.End.TheVariants as ends

pub told_end : (cause : End) → (cause ≡ ends.Memory → ⊥) → end_view cause ≢ wants_memory
told_end ends.Dead other is = absurd cc
told_end ends.Steps other is = absurd cc
told_end (ends.Until time) other is = absurd cc
told_end (ends.Stop monitor) other is = absurd cc
told_end ends.Memory other is = other refl
told_end (ends.Fault element fault) other is = absurd cc
