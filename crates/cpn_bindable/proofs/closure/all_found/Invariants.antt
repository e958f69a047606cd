-- What is found from here is what is found from the start.
use Rattle.std.proofs.Common.{◌≡◌, ℕ, length, vec_len}
use Rattle.cpn_typing.specs.Closure.{found_in}
use Rattle.cpn_bindable.specs.Equations.{equations_view}
use Rattle.cpn_bindable.specs.Known.{unlisted, is_listed}
use Rattle.cpn_bindable.proofs.closure.all_found.Given as goal

abbrev pub invariant-loop-index : goal.invariant-loop-index
invariant-loop-index l =
    (x : ℕ) → is_listed (found_in (length l.equations.items) unlisted l.known.items (equations_view l.equations.items)) x
    ≡ is_listed (found_in (length l.initial.equations.items) unlisted l.initial.known.items (equations_view l.initial.equations.items)) x

abbrev pub decreases-loop-index : goal.decreases-loop-index
decreases-loop-index l = vec_len l.equations
