-- A cut stands in the book where it stands in the state.
use Rattle.std.proofs.Common.{◌≡◌, Option, Some, None, refl, ap, ◌∙◌}
use Rattle.std.specs.Option.{is_some, option_map}
use Rattle.cpn_book.specs.Standings.{cut_view}
use Rattle.cpn_book.proofs.RunningBooks.{in_state}
use Rattle.cpn_book.proofs.books.Book.is_cut.Goals as goal

still_some : {A B : Type 0} (f : A → B) (o : Option A) → is_some o ≡ is_some (option_map f o)
still_some f None = refl
still_some f (Some x) = refl

pub returns : goal.returns
returns c =
    let book = c.args.self.now in
    let running = c.requires.kept.running c.requires.unspent in
    in_state book running (λ state. c.is_some.result ≡ is_some state.cut) (c.is_some.ensures ∙ still_some cut_view book.standing.cut ∙ ap is_some running.at.at.cut)
