-- What the book shows is a run, where it has an end.
use Rattle.std.proofs.Common.{sym, ◌∙◌, subst}
use Rattle.cpn_runs.specs.Views.{end_view}
use Rattle.cpn_book.specs.Books.{IsRunning}
use Rattle.cpn_book.proofs.MovedBooks.{shows_end, may_close}
use Rattle.cpn_book.proofs.RunningBooks.{shows_run, by_cut}
use Rattle.cpn_book.proofs.books.Book.take_end.Goals as goal

pub returns-in-Some-clause-end : goal.returns-in-Some-clause-end
returns-in-Some-clause-end c =
    let book = c.args.self.now in
    shows_run book c.requires.kept c.requires.running c.requires.none_open (end_view c.in-Some.cut.cause)
    (by_cut book c.requires.kept c.requires.running c.requires.none_open c.in-Some.cut (sym c.take.ensures.value ∙ c.in-Some.is))

-- where no cut stood the book is as it was
pub end-requires-clause-running : goal.end-requires-clause-running
end-requires-clause-running c =
    let book = c.args.self.now in
    subst (λ cut. IsRunning (record book { standing = record book.standing { cut = cut } })) (sym c.take.ensures.value ∙ c.in_default.is ∙ sym c.take.ensures.after) c.requires.running

pub returns-clause-end : goal.returns-clause-end
returns-clause-end c = shows_end c.args.self.now c.requires.kept c.requires.running c.requires.none_open c.end.result c.end.ensures.end

pub returns-in-Some-clause-closes : goal.returns-in-Some-clause-closes
returns-in-Some-clause-closes c = may_close c.args.self.now c.requires.kept c.requires.running

pub returns-clause-closes : goal.returns-clause-closes
returns-clause-closes c = may_close c.args.self.now c.requires.kept c.requires.running
