-- The rules are looked at one group behind the other.
use Rattle.std.proofs.Common.{rules}
use Rattle.cpn_document.specs.Phases.{phase_rules, each_edit}
use Rattle.cpn_document.specs.Views.{phase_view}
use Rattle.cpn_document.proofs.BrokenRules.{refused_or, is_refused, is_kept, broken_here, both_kept, error_breaks, breaks_later, gives_error}
use Rattle.cpn_document.proofs.phases.PhaseItem.read.Goals as goal

pub returns-in-Some : goal.returns-in-Some
unfolding phase_rules each_edit
returns-in-Some c =
    let keys = rw c.phase_keys.ensures.exact at c.keys_refusal.ensures.exact in
    let start = rw c.start_words.ensures.exact at c.word_refusal.ensures.exact in
    let all = refused_or _ _ _ _ _ c.or-refused.ensures (refused_or _ _ _ _ _ c.or.ensures keys start) c.optional_list_refusal.ensures.exact in
    record { gives = error_breaks _ _ _ c.from.ensures (broken_here _ _ _ (is_refused _ _ _ all c.in-Some.is)) }

pub returns-in_err-edits : goal.returns-in_err-edits
unfolding phase_rules each_edit
returns-in_err-edits c =
    let keys = rw c.phase_keys.ensures.exact at c.keys_refusal.ensures.exact in
    let start = rw c.start_words.ensures.exact at c.word_refusal.ensures.exact in
    let all = refused_or _ _ _ _ _ c.or-refused.ensures (refused_or _ _ _ _ _ c.or.ensures keys start) c.optional_list_refusal.ensures.exact in
    let broken = rw c.list_or_empty.ensures.exact at c.in_err-edits.ensures.gives in
    record { gives = gives_error phase_view c.from_residual.result _ _ c.in_err-edits.field-0.0 c.from_residual.ensures.1 (breaks_later _ _ _ (is_kept _ _ all c.in_default.is) broken) }

pub returns : goal.returns
unfolding phase_rules each_edit
returns c =
    let keys = rw c.phase_keys.ensures.exact at c.keys_refusal.ensures.exact in
    let start = rw c.start_words.ensures.exact at c.word_refusal.ensures.exact in
    let all = refused_or _ _ _ _ _ c.or-refused.ensures (refused_or _ _ _ _ _ c.or.ensures keys start) c.optional_list_refusal.ensures.exact in
    let each = rw c.list_or_empty.ensures.exact at c.in_ok-edits.ensures.gives.1 in
    record { gives = (search rules, both_kept _ _ (is_kept _ _ all c.in_default.is) each) }
