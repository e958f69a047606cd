-- A list has as many items backwards.
use Rattle.std.proofs.Common.{rules, ◌∙◌, ap, sym}
use Rattle.cpn_definitions.specs.Value.{int}
use Rattle.cpn_definitions.specs.Outcome.{gives}
use Rattle.cpn_eval.proofs.BackwardLists.{length_backwards}
use Rattle.cpn_eval.proofs.held.Backwards.length.Goals as goal
use Rattle.cpn_core.proofs.ValueLevels.{view_int}

pub returns : goal.returns
returns c = record { number = length_backwards c.args.self.now.items.items ∙ ap gives (ap int (search rules) ∙ sym (view_int _)) }
