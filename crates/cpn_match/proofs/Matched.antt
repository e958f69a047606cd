-- A pattern that fits is matched.
use Rattle.std.proofs.Common.{◌≡◌, Bool, true, false}
use Rattle.cpn_definitions.specs.Value.{PlainValue}
use Rattle.cpn_definitions.specs.Inscription.{PlainPattern}
use Rattle.cpn_stages.specs.Partial.{PlainPartial}
use Rattle.cpn_stages.specs.Instances.{Matches}
use Rattle.cpn_stages.specs.Fitting.{fitted}
use Rattle.cpn_stages.proofs.FittedMatches.{fitted_matches}
use Rattle.cpn_match.specs.Answers.{BecomesIf}

pub matched_if : (b c : PlainPartial) (p : PlainPattern) (v : PlainValue) (is : Bool) → is ≡ true → BecomesIf is c (fitted p v b) → Matches b p v c
matched_if b c p v true is becomes = fitted_matches b c p v becomes
matched_if b c p v false is becomes = cc
