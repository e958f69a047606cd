-- The list has the number.
use Rattle.std.proofs.Common.{◌≡◌, ◌∙◌, ◌<◌, List, ℕ, sym, ap, subst, length}
use Rattle.std.proofs.lemmas.Result.{on_ok_weaker}
use Rattle.cpn_numbers.specs.NumberLists.{with_number}
use Rattle.cpn_numbers.proofs.ListedNumbers.{list_set}
use Rattle.cpn_numbers.proofs.lists.NumberLists.push.Goals as goal

pub returns : goal.returns
returns c =
    let there = subst (λ (lists : List (List ℕ)). c.args.list < length lists) (sym c.self.view_is) c.requires.there in
    record {
      with = on_ok_weaker c.push_last.result (λ last.
          list_set c.args.list c.args.number c.self.inside.lists.items c.index_mut.result.now c.push_last.new.numbers there c.index_mut.ensures.value last ∙ ap (with_number c.args.list c.args.number) c.self.view_is) c.push_last.ensures.last;
    }
