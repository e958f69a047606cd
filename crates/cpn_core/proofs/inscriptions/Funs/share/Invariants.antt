-- The functions so far are the same.
use Rattle.std.proofs.Common.{◌≡◌, map, take}
use Rattle.cpn_core.specs.Inscriptions.{function_view}
use Rattle.cpn_core.proofs.inscriptions.Funs.share.Given as goal

abbrev pub invariant-loop-function : goal.invariant-loop-function
invariant-loop-function l = map function_view l.functions.items ≡ map function_view (take l.function-index l.self.functions.items)
