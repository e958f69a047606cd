-- The list of the place has the number, and each other list is as it was.
use Rattle.std.proofs.Common.{◌∙◌, refl, ap, true}
use Rattle.cpn_index.specs.Readers.{with_last}
use Rattle.cpn_index.proofs.ReaderLists.{with_one}
use Rattle.cpn_index.proofs.readers.push_at.Goals as goal

pub returns : goal.returns
returns c =
    let is = c.in_ok-push_last.ensures.last ∙ ap (λ numbers. with_last true c.args.number numbers.items) c.index_mut.ensures.value in
    record { with = with_one c.args.place c.args.number c.args.lists.now.items c.index_mut.result.now c.push_last.new.numbers c.requires.in_range is c.args.bears _ c.if-not-bears.false refl }
