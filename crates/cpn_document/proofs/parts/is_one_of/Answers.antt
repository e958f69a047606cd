-- A text that is one of the texts.
use Rattle.std.proofs.Common.{◌∙◌}
use Rattle.cpn_document.proofs.SeenValues.{contains_seen}
use Rattle.cpn_document.proofs.parts.is_one_of.Goals as goal

pub returns : goal.returns
returns c = record { exact = c.contains.ensures.value ∙ contains_seen c.args.text.now c.args.texts.now }
