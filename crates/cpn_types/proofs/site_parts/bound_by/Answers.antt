-- One value less is left, and stands around what has been made.
use Rattle.std.proofs.Common.{◌∙◌, ap}
use Rattle.cpn_definitions.specs.Inscription.{bound}
use Rattle.cpn_core.specs.Inscriptions.{expr_view, multiset_view}
use Rattle.cpn_core.proofs.InscriptionLevels.{tokens_let}
use Rattle.cpn_types.proofs.LetValues.{bound_in}
use Rattle.cpn_types.proofs.site_parts.bound_by.Goals as goal

pub loop-value-preserved : goal.loop-value-preserved
loop-value-preserved c =
    bound_in c.loop-value.values.items c.pop.new.self.items c.in-Some.value (multiset_view c.loop-value.tokens) _
    c.in-Some.ensures.items
    (tokens_let c.in-Some.value c.in_ok-new.field-0 ∙ ap (λ m. bound (expr_view c.in-Some.value) (multiset_view m)) c.in_ok-new.ensures.ok)
    ∙ c.loop-value.invariant
