-- The refusal of the text, or of the rule behind it.
use Rattle.cpn_document.specs.Parts.{flat_name_rules}
use Rattle.cpn_document.proofs.BrokenRules.{refused_or, refused_one}
use Rattle.cpn_document.proofs.parts.flat_name_refusal.Goals as goal

pub returns : goal.returns
unfolding flat_name_rules
returns c =
    let last = rw (c.is_flat_name-named.ensures.exact, c.text_or_empty.ensures.exact) at c.refused_unless.ensures.exact in
    record { exact = refused_or _ _ _ _ _ c.or.ensures c.text_refusal.ensures.exact (refused_one _ _ _ last) }
