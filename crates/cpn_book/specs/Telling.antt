-- How the changes of the unclaimed marking are told while a run goes on. Source: own choice.
use Rattle.std.specs.Prelude.{List}
use Rattle.cpn_definitions.specs.Marking.{Marking}
use Rattle.cpn_tmset.specs.Changed.{PlainChange, OthersStay}

-- Tells on: beside what was told all stayed up to one marking, so beside what is told now all stays up to the other.
abbrev pub TellsOn : List PlainChange → List PlainChange → Marking → Marking → Type 0
TellsOn was_told told before after = (m : Marking) → OthersStay was_told m before → OthersStay told m after
