-- As many are ready as are due.
use Rattle.std.proofs.Common.{◌≡◌, ℕ, List, length, sym, ap, ◌∙◌}
use Rattle.std.proofs.lemmas.List.{length-map}
use Rattle.cpn_definitions.specs.Enabled.{ready}
use Rattle.cpn_due.specs.Due.{PlainEnabled, entries_in, due_at}
use Rattle.cpn_index.specs.Clocks.{entry_from, from_clock_on}
use Rattle.cpn_index.proofs.ClockedLists.{ready_is_due}

pub ready_number : (clock : ℕ) (elements : List PlainEnabled) → length (due_at clock elements) ≡ length (ready clock (from_clock_on clock (entries_in elements)))
ready_number clock elements =
    sym (ap length (ready_is_due clock elements) ∙ length-map (entries_in (due_at clock elements)) (entry_from clock) ∙ length-map (due_at clock elements) (λ (x : PlainEnabled). x.entry))
