-- The rules are looked at one group behind the other.
use Rattle.std.proofs.Common.{refl}
use Rattle.cpn_document.specs.Document.{document_rules}
use Rattle.cpn_document.specs.Views.{document_view}
use Rattle.cpn_document.proofs.BrokenRules.{refused_or, refused_later, is_refused, is_kept, broken_here, both_kept, error_breaks, breaks_here, breaks_later, gives_error}
use Rattle.cpn_document.proofs.form.document_of.Goals as goal

pub returns-in-Some : goal.returns-in-Some
unfolding document_rules
returns-in-Some c =
    let keys = rw c.document_keys.ensures.exact at c.keys_refusal-keys.ensures.exact in
    let stated = rw c.version_in-version.ensures.exact at c.version_refusal-stated.ensures.exact in
    let all = refused_or _ _ _ _ _ c.or.ensures keys stated in
    record { gives = error_breaks _ _ _ c.from.ensures (broken_here _ _ _ (broken_here _ _ _ (broken_here _ _ _ (broken_here _ _ _ (broken_here _ _ _ (broken_here _ _ _ (is_refused _ _ _ all c.in-Some.is))))))) }

pub returns-in_err-declarations : goal.returns-in_err-declarations
unfolding document_rules
returns-in_err-declarations c =
    let keys = rw c.document_keys.ensures.exact at c.keys_refusal-keys.ensures.exact in
    let stated = rw c.version_in-version.ensures.exact at c.version_refusal-stated.ensures.exact in
    let all = refused_or _ _ _ _ _ c.or.ensures keys stated in
    let front = is_kept _ _ all c.in_default.is in
    record { gives = gives_error document_view c.from_residual.result _ _ c.in_err-declarations.field-0.0 c.from_residual.ensures.1 (breaks_here _ _ _ (breaks_here _ _ _ (breaks_here _ _ _ (breaks_here _ _ _ (breaks_here _ _ _ (breaks_later _ _ _ front c.in_err-declarations.ensures.gives)))))) }

pub returns-in-Some-name_refusal : goal.returns-in-Some-name_refusal
unfolding document_rules
returns-in-Some-name_refusal c =
    let keys = rw c.document_keys.ensures.exact at c.keys_refusal-keys.ensures.exact in
    let stated = rw c.version_in-version.ensures.exact at c.version_refusal-stated.ensures.exact in
    let all = refused_or _ _ _ _ _ c.or.ensures keys stated in
    let front = is_kept _ _ all c.in_default.is in
    let to_declarations = both_kept _ _ front c.in_ok-declarations.ensures.gives.1 in
    let top = refused_later _ _ _ to_declarations c.name_refusal.ensures.exact in
    record { gives = error_breaks _ _ _ c.from-in-Some-name_refusal.ensures (broken_here _ _ _ (broken_here _ _ _ (broken_here _ _ _ (broken_here _ _ _ (is_refused _ _ _ top c.in-Some-name_refusal.is))))) }

pub returns-in_err-modules : goal.returns-in_err-modules
unfolding document_rules
returns-in_err-modules c =
    let keys = rw c.document_keys.ensures.exact at c.keys_refusal-keys.ensures.exact in
    let stated = rw c.version_in-version.ensures.exact at c.version_refusal-stated.ensures.exact in
    let all = refused_or _ _ _ _ _ c.or.ensures keys stated in
    let front = is_kept _ _ all c.in_default.is in
    let to_declarations = both_kept _ _ front c.in_ok-declarations.ensures.gives.1 in
    let to_top = both_kept _ _ to_declarations (is_kept _ _ c.name_refusal.ensures.exact c.in_default-name_refusal.is) in
    record { gives = gives_error document_view c.from_residual-in_err-modules.result _ _ c.in_err-modules.field-0.0 c.from_residual-in_err-modules.ensures.1 (breaks_here _ _ _ (breaks_here _ _ _ (breaks_here _ _ _ (breaks_later _ _ _ to_top (rw c.version_in-version.ensures.exact at c.in_err-modules.ensures.gives))))) }

pub returns-in_err-fusions : goal.returns-in_err-fusions
unfolding document_rules
returns-in_err-fusions c =
    let keys = rw c.document_keys.ensures.exact at c.keys_refusal-keys.ensures.exact in
    let stated = rw c.version_in-version.ensures.exact at c.version_refusal-stated.ensures.exact in
    let all = refused_or _ _ _ _ _ c.or.ensures keys stated in
    let front = is_kept _ _ all c.in_default.is in
    let to_declarations = both_kept _ _ front c.in_ok-declarations.ensures.gives.1 in
    let to_top = both_kept _ _ to_declarations (is_kept _ _ c.name_refusal.ensures.exact c.in_default-name_refusal.is) in
    let to_modules = both_kept _ _ to_top (rw c.version_in-version.ensures.exact at c.in_ok-modules.ensures.gives.1) in
    record { gives = gives_error document_view c.from_residual-in_err-fusions.result _ _ c.in_err-fusions.field-0.0 c.from_residual-in_err-fusions.ensures.1 (breaks_here _ _ _ (breaks_here _ _ _ (breaks_later _ _ _ to_modules (rw c.version_in-version.ensures.exact at c.in_err-fusions.ensures.gives)))) }

pub returns-in_err-monitors : goal.returns-in_err-monitors
unfolding document_rules
returns-in_err-monitors c =
    let keys = rw c.document_keys.ensures.exact at c.keys_refusal-keys.ensures.exact in
    let stated = rw c.version_in-version.ensures.exact at c.version_refusal-stated.ensures.exact in
    let all = refused_or _ _ _ _ _ c.or.ensures keys stated in
    let front = is_kept _ _ all c.in_default.is in
    let to_declarations = both_kept _ _ front c.in_ok-declarations.ensures.gives.1 in
    let to_top = both_kept _ _ to_declarations (is_kept _ _ c.name_refusal.ensures.exact c.in_default-name_refusal.is) in
    let to_modules = both_kept _ _ to_top (rw c.version_in-version.ensures.exact at c.in_ok-modules.ensures.gives.1) in
    let to_fusions = both_kept _ _ to_modules (rw c.version_in-version.ensures.exact at c.in_ok-fusions.ensures.gives.1) in
    record { gives = gives_error document_view c.from_residual-in_err-monitors.result _ _ c.in_err-monitors.field-0.0 c.from_residual-in_err-monitors.ensures.1 (breaks_here _ _ _ (breaks_later _ _ _ to_fusions (rw c.version_in-version.ensures.exact at c.in_err-monitors.ensures.gives))) }

pub returns-in_err-phases : goal.returns-in_err-phases
unfolding document_rules
returns-in_err-phases c =
    let keys = rw c.document_keys.ensures.exact at c.keys_refusal-keys.ensures.exact in
    let stated = rw c.version_in-version.ensures.exact at c.version_refusal-stated.ensures.exact in
    let all = refused_or _ _ _ _ _ c.or.ensures keys stated in
    let front = is_kept _ _ all c.in_default.is in
    let to_declarations = both_kept _ _ front c.in_ok-declarations.ensures.gives.1 in
    let to_top = both_kept _ _ to_declarations (is_kept _ _ c.name_refusal.ensures.exact c.in_default-name_refusal.is) in
    let to_modules = both_kept _ _ to_top (rw c.version_in-version.ensures.exact at c.in_ok-modules.ensures.gives.1) in
    let to_fusions = both_kept _ _ to_modules (rw c.version_in-version.ensures.exact at c.in_ok-fusions.ensures.gives.1) in
    let to_monitors = both_kept _ _ to_fusions (rw c.version_in-version.ensures.exact at c.in_ok-monitors.ensures.gives.1) in
    record { gives = gives_error document_view c.from_residual-in_err-phases.result _ _ c.in_err-phases.field-0.0 c.from_residual-in_err-phases.ensures.1 (breaks_later _ _ _ to_monitors (rw c.version_in-version.ensures.exact at c.in_err-phases.ensures.gives)) }

pub returns : goal.returns
unfolding document_rules
returns c =
    let keys = rw c.document_keys.ensures.exact at c.keys_refusal-keys.ensures.exact in
    let stated = rw c.version_in-version.ensures.exact at c.version_refusal-stated.ensures.exact in
    let all = refused_or _ _ _ _ _ c.or.ensures keys stated in
    let front = is_kept _ _ all c.in_default.is in
    let to_declarations = both_kept _ _ front c.in_ok-declarations.ensures.gives.1 in
    let to_top = both_kept _ _ to_declarations (is_kept _ _ c.name_refusal.ensures.exact c.in_default-name_refusal.is) in
    let to_modules = both_kept _ _ to_top (rw c.version_in-version.ensures.exact at c.in_ok-modules.ensures.gives.1) in
    let to_fusions = both_kept _ _ to_modules (rw c.version_in-version.ensures.exact at c.in_ok-fusions.ensures.gives.1) in
    let to_monitors = both_kept _ _ to_fusions (rw c.version_in-version.ensures.exact at c.in_ok-monitors.ensures.gives.1) in
    let to_phases = both_kept _ _ to_monitors (rw c.version_in-version.ensures.exact at c.in_ok-phases.ensures.gives.1) in
    record { gives = (rw (c.version_in-version.ensures.exact, c.in_ok-copied.ensures.text, c.text_or_empty.ensures.exact, c.in_ok-declarations.ensures.gives.0, c.in_ok-modules.ensures.gives.0, c.in_ok-fusions.ensures.gives.0, c.in_ok-monitors.ensures.gives.0, c.in_ok-phases.ensures.gives.0) refl, to_phases) }
