-- What fits is the one match; and where nothing does, what was bound on the way is forgotten.
use Rattle.std.proofs.Common.{rules}
use Rattle.cpn_core.specs.Views.{value_view}
use Rattle.cpn_core.specs.Inscriptions.{pattern_view}
use Rattle.cpn_match.proofs.Matched.{matched_if}
use Rattle.cpn_match.proofs.ForgottenValues.{all_forgotten}
use Rattle.cpn_match.proofs.matching.match_pat.Goals as goal

pub returns-in-Ok-true-clause-matched : goal.returns-in-Ok-true-clause-matched
returns-in-Ok-true-clause-matched c = matched_if c.args.partial.now c.fit.new.partial (pattern_view c.args.pattern.now) (value_view c.args.value.now) c.in-Ok-true.field-0 (search rules) c.in-Ok-true.ensures.fitted

pub returns-in-Ok-false-clause-unchanged : goal.returns-in-Ok-false-clause-unchanged
returns-in-Ok-false-clause-unchanged c = all_forgotten c.args.partial.now c.fit.new.partial c.forget.new.self c.deref.result.now (search rules) c.in-Ok-false.ensures.extends c.forget.ensures.forgotten

pub returns-clause-kept : goal.returns-clause-kept
returns-clause-kept c = all_forgotten c.args.partial.now c.fit.new.partial c.forget-in-Err.new.self c.deref-in-Err.result.now (search rules) c.in-Err.ensures.extends c.forget-in-Err.ensures.forgotten
