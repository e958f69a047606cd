-- The plain occurrences that those of the program stand for.
use Rattle.cpn_definitions.specs.Legal.{PlainOccurrence}
use Rattle.cpn_core.specs.Elements.{element_view}
use Rattle.cpn_core.specs.declared.occurrences.Occurrence.{Occurrence}

abbrev pub occurrence_view : Occurrence → PlainOccurrence
occurrence_view o = record { number = o.number; time = o.time; element = element_view o.element.value }
