-- The law of acceptance.
use Rattle.cpn_module_nets.proofs.OneReading.{accepted_one}
use Rattle.cpn_module_nets.proofs.accepting.one_acceptance.Goals as goal

pub returns : goal.returns
returns c = record { one = accepted_one }
