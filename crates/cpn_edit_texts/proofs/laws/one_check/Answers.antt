-- The law of one reading.
use Rattle.cpn_edit_texts.proofs.OneReading.{phases_one}
use Rattle.cpn_edit_texts.proofs.laws.one_check.Goals as goal

pub returns : goal.returns
returns c = record { one = phases_one }
