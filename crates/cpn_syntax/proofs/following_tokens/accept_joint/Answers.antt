-- Reads the sign that takes the part before it as its left operand: the part binds so tightly, and stands in one that
-- has to bind so tightly at least.
use Rattle.std.proofs.Common.{arith, refl, ap}
use Rattle.cpn_syntax.specs.Joints.{joint_sign, joint_left, joint_precedence}
use Rattle.cpn_syntax.proofs.Joints.{one_symbol, joins_as}
use Rattle.cpn_syntax.proofs.following_tokens.accept_joint.Goals as goal
use Rattle.cpn_syntax.proofs.following_tokens.accept_joint.Goals.{then-left-precedence-via-then-left-precedence, then-left-precedence-via-else-left-precedence+then-precedence-least}

pub returns-in_err-symbol-clause-none : goal.returns-in_err-symbol-clause-none
returns-in_err-symbol-clause-none c _ = (refl, λ j joined begins. c.in_err-symbol.ensures.none refl (joint_sign j) begins)

pub returns-in_err-joint-clause-none : goal.returns-in_err-joint-clause-none
returns-in_err-joint-clause-none c _ = (refl, λ j joined begins. c.in_err-joint.ensures.none refl j (one_symbol _ _ _ c.in_ok-symbol.ensures.some begins))

pub returns-then-left-precedence-clause-none : goal.returns-then-left-precedence-clause-none
returns-then-left-precedence-clause-none c _ = (
  refl,
  λ j joined begins.
      let same = joins_as c.in_ok-joint.joint j c.in_ok-symbol.symbol _ c.in_ok-symbol.ensures.some c.in_ok-joint.ensures.some begins in
      let l = ap joint_left same in
      let p = ap joint_precedence same in
      elim c.then-left-precedence.branch [
        | then-left-precedence-via-then-left-precedence w ↦ omega arith
        | then-left-precedence-via-else-left-precedence+then-precedence-least w ↦ omega arith
      ],
)
