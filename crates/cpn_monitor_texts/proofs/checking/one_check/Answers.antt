-- The law of one reading.
use Rattle.cpn_monitor_texts.proofs.OneReading.{monitors_one}
use Rattle.cpn_monitor_texts.proofs.checking.one_check.Goals as goal

pub returns : goal.returns
returns c = record { one = monitors_one }
