-- Answers of a book that is asked to finish that are not the same: of two kinds, with two books, with two runs, or of two setups.
use Rattle.std.proofs.Common.{◌≡◌}
use Rattle.cpn_runs.specs.FinishedViews.{setup_view, finished_view}
use Rattle.cpn_runs.specs.declared.runs.Finished.{Finished}
use Rattle.cpn_book.specs.OneAnswers.{IsSameFinish}
use Rattle.cpn_book.specs.declared.answers.Finish.TheVariants as finishes
use Rattle.cpn_book.specs.declared.books.Book.{Book}

running_or_ended : (book : Book) (finished : Finished) → IsSameFinish (finishes.Running book) (finishes.Ended finished) → ⊥
running_or_ended book finished same = same

ended_or_running : (book : Book) (finished : Finished) → IsSameFinish (finishes.Ended finished) (finishes.Running book) → ⊥
ended_or_running book finished same = same

spent_or_running : (book : Book) → IsSameFinish finishes.Spent (finishes.Running book) → ⊥
spent_or_running book same = same

spent_or_ended : (finished : Finished) → IsSameFinish finishes.Spent (finishes.Ended finished) → ⊥
spent_or_ended finished same = same

running_or_spent : (book : Book) → IsSameFinish (finishes.Running book) finishes.Spent → ⊥
running_or_spent book same = same

ended_or_spent : (finished : Finished) → IsSameFinish (finishes.Ended finished) finishes.Spent → ⊥
ended_or_spent finished same = same

two_books : (book book' : Book) → (book ≡ book' → ⊥) → IsSameFinish (finishes.Running book) (finishes.Running book') → ⊥
two_books book book' differ same = differ same

two_runs : (finished finished' : Finished) → (finished_view finished ≡ finished_view finished' → ⊥) → IsSameFinish (finishes.Ended finished) (finishes.Ended finished') → ⊥
two_runs finished finished' differ same = differ same.1

two_setups : (finished finished' : Finished) → (setup_view finished.setup ≡ setup_view finished'.setup → ⊥) → IsSameFinish (finishes.Ended finished) (finishes.Ended finished') → ⊥
two_setups finished finished' differ same = differ same.0
