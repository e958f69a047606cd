-- All numbers are those below the number of values.
use Rattle.std.proofs.Common.{◌↔◌, ℕ, ◌<◌, subst, arith}
use Rattle.std.specs.Prelude.{Contains}
use Rattle.std.proofs.lemmas.List.{length-map}
use Rattle.std.proofs.lemmas.Result.{IfOk-weaker}
use Rattle.cpn_monitor.specs.Views.{value_view}
use Rattle.cpn_monitor.proofs.measuring.Measuring.looked_at.Goals as goal

pub returns-else-self-clause-all : goal.returns-else-self-clause-all
returns-else-self-clause-all c =
    IfOk-weaker c.numbers_below.result _ _ (λ numbers below loud. subst (λ (n : ℕ). (k : ℕ) → Contains numbers.items k ↔ (k < n)) (let many = length-map c.args.self.now.values.values.items value_view in omega (arith, many)) below) c.numbers_below.ensures.below
