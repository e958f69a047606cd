-- What the index of a book has as enabled: at the clock of the run, and when that moves.
use Rattle.std.proofs.Common.{◌≡◌, ℕ, ◌≤◌, max, List, [], ◌∷◌, Some, refl, ap, ap₂, ◌∙◌, subst, arith, inl, inr}
use Rattle.cpn_definitions.specs.Enabled.{PlainEntry, Enabled, next_time}
use Rattle.cpn_definitions.specs.Marking.{Marking}
use Rattle.cpn_definitions.specs.Net.{PlainNet}
use Rattle.cpn_definitions.proofs.RisingLists.{IsIn}
use Rattle.cpn_due.specs.Due.{entries_in}
use Rattle.cpn_index.specs.Clocks.{entry_from, from_clock_on}
use Rattle.cpn_index.specs.Index.{kept_in, clock_in, listed_in, IsIndexOf, MayFollow}
use Rattle.cpn_index.specs.declared.index.Index.{Index}
use Rattle.cpn_index.proofs.ClockedLists.{from_clock_is_enabled}
use Rattle.cpn_log.specs.LogViews.{log_view}
use Rattle.cpn_tmset.specs.Changed.{PlainChange}
use Rattle.cpn_book.specs.Books.{setup_in, index_in, IsRunning}
use Rattle.cpn_book.specs.Telling.{TellsOn}
use Rattle.cpn_book.specs.declared.books.Book.{Book}
use Rattle.cpn_book.proofs.NextTimes.{none_is_sooner}

-- an index at a clock has what is enabled from the clock on
pub listed_is_enabled : (n : PlainNet) (m : Marking) (clock : ℕ) (index : Index) → IsIndexOf n m index → clock_in index ≡ clock → Enabled n m clock (listed_in index)
listed_is_enabled n m clock index is at = subst (λ (t : ℕ). Enabled n m t (listed_in index)) at (from_clock_is_enabled n m (clock_in index) (entries_in (kept_in index)) is.enabled)

-- so has that of a book that is not spent
pub enabled_now : (book : Book) → IsRunning book → Enabled (setup_in book).net (log_view book.standing.log).unclaimed book.standing.clock (index_in book)
enabled_now book running = listed_is_enabled (setup_in book).net (log_view book.standing.log).unclaimed book.standing.clock book.index running.index running.clock

-- ---- the clock moves

same_from : (clock time : ℕ) → clock ≤ time → (entries : List PlainEntry) → ((x : PlainEntry) → IsIn x (from_clock_on clock entries) → time ≤ x.earliest) → from_clock_on time entries ≡ from_clock_on clock entries
same_from clock time le [] late = refl
same_from clock time le (x ∷ xs) late =
    let here : time ≤ max clock x.earliest = late (entry_from clock x) (inl refl) in
    let same : max time x.earliest ≡ max clock x.earliest = omega (arith, le, here) in
    ap₂ (λ (y : PlainEntry) ys. y ∷ ys) (ap (λ (t : ℕ). record x { earliest = t }) same) (same_from clock time le xs (λ y later. late y (inr later)))

-- when it moves to the next time, the same is enabled at the same times
pub listed_then : (old new : Index) (time : ℕ) → kept_in new ≡ kept_in old → clock_in new ≡ time → clock_in old ≤ time → next_time (listed_in old) ≡ Some time → listed_in new ≡ listed_in old
listed_then old new time kept at le next =
    ap₂ (λ t xs. from_clock_on t (entries_in xs)) at kept
    ∙ same_from (clock_in old) time le (entries_in (kept_in old)) (λ x there. none_is_sooner (listed_in old) time x next there)

-- ---- the marking changes

-- an index of one marking may follow to another, where all that changed is told
pub may_follow : (n : PlainNet) (old new : Marking) (index : Index) (told : List PlainChange) → TellsOn [] told old new → IsIndexOf n old index → MayFollow n new told index
may_follow n old new index told tells is = record { old = old; was = is; stay = tells old (λ p v none. refl) }
