-- What holds of each document that is read: no transition has more than 64 arcs.
use Rattle.std.specs.Prelude.{◌≤◌}
use Rattle.std.specs.List.{AllByRecursion}
use Rattle.cpn_document.specs.Document.{RawModule, RawDocument, arcs_at, most_arcs}

-- no transition of the module has too many of its arcs
abbrev pub HasFewArcs : RawModule → Type 0
HasFewArcs m = AllByRecursion (λ transition. arcs_at transition.name m.arcs ≤ most_arcs) m.transitions

-- the same of each module of the document
abbrev pub HaveFewArcs : RawDocument → Type 0
HaveFewArcs document = AllByRecursion HasFewArcs document.modules
