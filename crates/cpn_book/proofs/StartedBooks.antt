-- A book at the start of its run.
use Rattle.std.proofs.Common.{◌≡◌, ℕ, ◌<◌, List, length, map, Option, Some, None, refl, sym, ap, ◌∙◌, subst, arith, slice_get, vec_len, vec_capacity}
use Rattle.std.specs.Prelude.{IfSome}
use Rattle.std.specs.Option.{option_map}
use Rattle.std.proofs.lemmas.List.{length-map}
use Rattle.std.proofs.lemmas.Option.{same_Some, slice_get-map}
use Rattle.cpn_core.specs.Nets.{net_view, transition_view}
use Rattle.cpn_core.specs.declared.nets.Net.{Net}
use Rattle.cpn_definitions.specs.Enabled.{Enabled}
use Rattle.cpn_definitions.specs.Marking.{Marking}
use Rattle.cpn_index.specs.Index.{clock_in, IsIndexOf}
use Rattle.cpn_jobs.specs.Work.{PlainWork, work_of}
use Rattle.cpn_log.specs.LogViews.{log_view}
use Rattle.cpn_log.specs.Logs.{PlainLog}
use Rattle.cpn_runs.specs.FinishedViews.{outlook_view}
use Rattle.cpn_runs.specs.Playable.{IsPlayable}
use Rattle.cpn_runs.specs.Run.{Outlook, HasOutlook}
use Rattle.cpn_book.specs.StandingRuns.{IsTold}
use Rattle.cpn_book.specs.Books.{setup_in, index_in, works_in, entered_in, IsBook, IsRunning}
use Rattle.cpn_book.specs.Shown.{outlook_at}
use Rattle.cpn_book.specs.Standings.{IsAt, events_in}
use Rattle.cpn_book.specs.Works.{AreWorks}
use Rattle.cpn_book.specs.declared.books.Book.{Book}
use Rattle.cpn_book.specs.declared.standings.Standing.{Standing}
use Rattle.cpn_book.proofs.CommittedStandings.{has_committed_at}
use Rattle.cpn_book.proofs.IndexedBooks.{listed_is_enabled}

-- the works that are made for a net are its works
pub works_are : {A : Type 0} (view : A → PlainWork) (ws : List A) (net : Net) → length ws ≡ length net.transitions.items → ((t : ℕ) → IfSome (slice_get ws t) (λ w. view w ≡ work_of (net_view net) t)) → AreWorks (net_view net) (map view ws)
works_are {A = A} view ws net long each = record {
  count = length-map ws view ∙ long ∙ sym (length-map net.transitions.items transition_view);
  each = λ t work at. is t work (slice_get ws t) (each t) (sym (slice_get-map view ws t) ∙ at);
}
  where
    is : (t : ℕ) (work : PlainWork) (o : Option A) → IfSome o (λ w. view w ≡ work_of (net_view net) t) → option_map view o ≡ Some work → work ≡ work_of (net_view net) t
    is t work None same at = cc
    is t work (Some w) same at = sym (same_Some (view w) work at) ∙ same

-- What the code of a start makes.
pub record HasStarted (book : Book) (s : Standing) : Type 0 where
  pub playable : IsPlayable (setup_in book)
  pub starts : IsAt (setup_in book) s
  pub works : AreWorks (setup_in book).net (works_in book)
  pub clock : s.clock ≡ (setup_in book).clock
  pub marking : (log_view s.log).unclaimed ≡ (setup_in book).start
  pub standing : book.standing ≡ record s { journal = book.standing.journal }
  pub events : events_in book.standing ≡ events_in s
  pub index : IsIndexOf (setup_in book).net (log_view s.log).unclaimed book.index
  pub at_clock : clock_in book.index ≡ (setup_in book).clock
  pub opening : outlook_view book.opening ≡ outlook_at (setup_in book).clock (index_in book)
  pub room : vec_len book.standing.journal < vec_capacity book.standing.journal
  pub none_entered : entered_in book ≡ 0

module _ (book : Book) (s : Standing) (did : HasStarted book s) where
  starts_so : IsAt (setup_in book) (record s { journal = book.standing.journal })
  starts_so = record {
    at = record {
      state = did.starts.at.state;
      told = subst (λ es. IsTold (setup_in book) es did.starts.at.state (log_view s.log) s.held.items) (sym did.events) did.starts.at.told;
      clock = did.starts.at.clock;
      cut = did.starts.at.cut;
      jobs = did.starts.at.jobs;
      occurrences = did.starts.at.occurrences;
      measured = did.starts.at.measured;
      made_now = did.starts.at.made_now;
      draw = did.starts.at.draw;
    };
    all_committed = did.starts.all_committed;
    none_owed = did.starts.none_owed;
  }

  starts_at : IsAt (setup_in book) book.standing
  starts_at = subst (IsAt (setup_in book)) (sym did.standing) starts_so

  same_log : log_view s.log ≡ log_view book.standing.log
  same_log = ap (λ (t : Standing). log_view t.log) (sym did.standing)

  runs : IsRunning book
  runs = record {
    at = starts_at;
    index = subst (λ (l : PlainLog). IsIndexOf (setup_in book).net l.unclaimed book.index) same_log did.index;
    clock = did.at_clock ∙ sym did.clock ∙ ap (λ (t : Standing). t.clock) (sym did.standing);
    room = λ none. did.room;
  }

  pub started : IsBook book
  started = record {
    playable = did.playable;
    works = did.works;
    opening =
        subst (λ (o : Outlook). HasOutlook (setup_in book) (setup_in book).start (setup_in book).clock o) (sym did.opening)
        (record {
          entries = index_in book;
          enabled = subst (λ (m : Marking). Enabled (setup_in book).net m (setup_in book).clock (index_in book)) did.marking (listed_is_enabled (setup_in book).net (log_view s.log).unclaimed (setup_in book).clock book.index did.index did.at_clock);
          ready_count_is = refl;
          next_is = refl;
        });
    state = starts_at.at.state;
    reached = starts_at.at.told.reached;
    committed = has_committed_at (setup_in book) book.standing starts_at.at;
    running = λ unspent. runs;
    entered = (let none = did.none_entered in omega (arith, none));
  }
