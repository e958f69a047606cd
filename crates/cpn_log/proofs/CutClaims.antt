-- When claims of a log are cut off: the changes are those told.
use Rattle.std.proofs.Common.{◌≡◌, ℕ, List, take, drop, sym, subst, ◌∙◌}
use Rattle.std.specs.List.{filter}
use Rattle.std.specs.List.Sorted.{IsPermutation}
use Rattle.std.proofs.lemmas.List.Sorted.{list_any-IsPermutation}
use Rattle.cpn_definitions.specs.Lists.{IsInOrder}
use Rattle.cpn_definitions.specs.Marking.{Marking}
use Rattle.cpn_log.specs.Logs.{PlainLog}
use Rattle.cpn_log.specs.Kept.{IsKept}
use Rattle.cpn_tmset.specs.Changed.{PlainChange, change_cmp, is_change, AreChanges}
use Rattle.cpn_log.specs.Gathered.{each_once, differs, touched}
use Rattle.cpn_log.specs.Exchanges.{after_claims}
use Rattle.cpn_log.proofs.TouchedStamps.{differing_changes}
use Rattle.cpn_log.proofs.KeptLogs.{cut_stays}

pub cut_changes
    : (log : PlainLog) (k : ℕ) (left : Marking) (cs : List PlainChange)
    → IsKept log
    → left ≡ after_claims (take k log.claims) log.settled
    → IsPermutation (touched (drop k log.claims)) cs
    → IsInOrder change_cmp cs
    → AreChanges log.unclaimed left (each_once (filter (differs log.unclaimed left) cs))
cut_changes log k left cs kept is same ordered =
    let P : Marking → Type 0 = λ m. AreChanges log.unclaimed m (each_once (filter (differs log.unclaimed m) cs)) in
    subst P (sym is)
    (differing_changes log.unclaimed (after_claims (take k log.claims) log.settled) cs ordered
    (λ p v none. cut_stays log k p v kept (list_any-IsPermutation (is_change p v) (touched (drop k log.claims)) cs same ∙ none)))
