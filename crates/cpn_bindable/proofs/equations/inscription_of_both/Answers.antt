-- Other than two parts make no equation.
use Rattle.std.proofs.Common.{arith}
use Rattle.cpn_bindable.proofs.EquationForms.{not_at_both}
use Rattle.cpn_bindable.proofs.equations.inscription_of_both.Goals as goal

pub returns-then-len-ne2 : goal.returns-then-len-ne2
returns-then-len-ne2 c = record { reached = rw (not_at_both c.args.parts.now.items (λ two. c.if-len-ne2.true (omega (arith, c.args.parts.now.ok.0)))) (omega arith) }
