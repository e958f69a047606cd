-- Rules of the form of a document, in the order in which they count: the first that is broken is the refusal.
-- Source: own choice.
use Rattle.cpn_readings.specs.Rules as rules
unfoldable pub use Rattle.cpn_readings.specs.Rules.{first_broken, each_item}
use Rattle.cpn_document.specs.Refusals.{FormRefusal}

-- a rule: whether it is kept, and the refusal where it is not
abbrev pub Rule : Type 0
Rule = rules.Rule FormRefusal
