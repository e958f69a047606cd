-- Rows that the definition computes.
use Rattle.std.proofs.Common.{◌≡◌, [], ◌∷◌, refl}
use Rattle.std.specs.Prelude.{pos}
use Rattle.cpn_definitions.specs.Value.{int}
use Rattle.cpn_mset.specs.MSets.{PlainMSet, appearances}

abbrev twice_and_once : PlainMSet
twice_and_once = (int (pos 7), 2) ∷ (int (pos 9), 1) ∷ []

seven_twice : appearances (int (pos 7)) twice_and_once ≡ 2
seven_twice = refl

eight_never : appearances (int (pos 8)) twice_and_once ≡ 0
eight_never = refl
