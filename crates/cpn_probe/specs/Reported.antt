-- What probes report. A probe says itself what it may report of a state: the bytes of a text. (Own choice.)
use Rattle.std.specs.Prelude.{◌≡◌, ℕ, List, ◌++◌}
use Rattle.std.specs.List.{AllZip}
use Rattle.cpn_definitions.specs.Legal.{PlainOccurrence}
use Rattle.cpn_probe.specs.Told.{AreTold}

-- Adds: a text has gained a report at its end.
abbrev pub Adds : (List ℕ → Type 0) → List ℕ → List ℕ → Type 0
Adds IsReport before now = (report : List ℕ) × (now ≡ before ++ report) × IsReport report

-- AreReports: of probes in these states the reports, one each, in their order.
abbrev pub AreReports : {State : Type 0} → (State → List ℕ → Type 0) → List State → List (List ℕ) → Type 0
AreReports reports states texts = AllZip reports states texts

-- HaveReported: probes that are told the occurrences, each once and in order, come to states of which these are the reports.
abbrev pub HaveReported : {State : Type 0} → (State → PlainOccurrence → State → Type 0) → (State → List ℕ → Type 0) → List State → List PlainOccurrence → List (List ℕ) → Type 0
HaveReported {State} notes reports before os texts = (now : List State) × AreTold notes before os now × AreReports reports now texts
