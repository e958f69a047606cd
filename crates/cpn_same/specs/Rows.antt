-- Rows of arms and of parts of a sum, as the plain rows that they stand for; and when two arms are the same.
use Rattle.std.specs.Prelude.{Bool, ◌&&◌, List, map}
use Rattle.cpn_definitions.specs.Inscription.{PlainPattern, PlainExpr, PlainArms, ArcInscription, ArcInscriptions, ArcArms, arms_from, inscriptions_from, arc_arms_from}
use Rattle.cpn_core.specs.declared.inscriptions.Arm.{Arm}
use Rattle.cpn_core.specs.declared.inscriptions.MExpr.{MExpr}
use Rattle.cpn_core.specs.declared.inscriptions.MArm.{MArm}
use Rattle.cpn_core.specs.Inscriptions.{arm_view, multiset_view, arc_arm_view}
use Rattle.cpn_same.specs.SamePatterns.{same_pattern}
use Rattle.cpn_same.specs.SameInscriptions.{same_expr}
use Rattle.cpn_same.specs.SameTokens.{same_tokens}

abbrev pub arms_view : List Arm → PlainArms
arms_view arms = arms_from (map arm_view arms)

abbrev pub sums_view : List MExpr → ArcInscriptions
sums_view ms = inscriptions_from (map multiset_view ms)

abbrev pub arc_arms_view : List MArm → ArcArms
arc_arms_view arms = arc_arms_from (map arc_arm_view arms)

-- whether two arms have the same pattern and the same result
abbrev pub same_arm : (PlainPattern × PlainExpr) → (PlainPattern × PlainExpr) → Bool
same_arm arm other = same_pattern arm.0 other.0 && same_expr arm.1 other.1

abbrev pub same_arc_arm : (PlainPattern × ArcInscription) → (PlainPattern × ArcInscription) → Bool
same_arc_arm arm other = same_pattern arm.0 other.0 && same_tokens arm.1 other.1
