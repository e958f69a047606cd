-- The works and the index are those of the net and the marking of the setup.
use Rattle.std.proofs.Common.{map, subst}
use Rattle.cpn_core.specs.Nets.{net_view}
use Rattle.cpn_index.specs.Index.{IsIndexOf}
use Rattle.cpn_jobs.specs.Views.{work_view}
use Rattle.cpn_book.specs.Works.{AreWorks}
use Rattle.cpn_book.proofs.StartedBooks.{works_are}
use Rattle.cpn_book.proofs.books.parts_at_start.Goals as goal

pub returns-clause-works : goal.returns-clause-works
returns-clause-works c =
    subst (λ n. AreWorks (net_view n) (map (λ work. work_view work.value) c.in_ok-works.works.items)) c.deref.ensures
    (works_are (λ work. work_view work.value) c.in_ok-works.works.items c.deref.result.now c.in_ok-works.ensures.count c.in_ok-works.ensures.each)

pub returns-clause-index : goal.returns-clause-index
returns-clause-index c = subst (λ n. IsIndexOf (net_view n) c.args.setup.now.start c.in_ok-index.index) c.deref-2.ensures c.in_ok-index.ensures.built

pub returns-clause-starts : goal.returns-clause-starts
returns-clause-starts c = c.in_ok-standing.ensures.starts

pub returns-clause-room : goal.returns-clause-room
returns-clause-room c = c.in_ok-standing.ensures.room
