-- The arcs that were seen are counted.
use Rattle.std.proofs.Common.{◌≡◌, ℕ, List, take, map}
use Rattle.std.specs.Option.{unwrap_or}
use Rattle.std.specs.BTreeMap.{get_by}
use Rattle.std.specs.Cmp.Lexicographic.{slice_cmp}
use Rattle.std.specs.Ordering.{nat_cmp}
use Rattle.cpn_document.specs.Document.{arcs_at}
use Rattle.cpn_document.specs.Views.{arc_view}
use Rattle.cpn_document.proofs.arc_counts.arc_counts.Given as goal

abbrev pub invariant-loop-arc : goal.invariant-loop-arc
invariant-loop-arc l = (name : List ℕ) → unwrap_or (get_by (λ k. slice_cmp nat_cmp name k.now) l.counts) 0 ≡ arcs_at name (map arc_view (take l.arc-index l.arcs))
