-- The items come backwards.
use Rattle.cpn_eval.proofs.ValueLists.{list_reversed}
use Rattle.cpn_eval.proofs.lists.reversed.Goals as goal

pub returns : goal.returns
returns c = record { list = list_reversed _ c.in_ok-items.items.items c.reverse.new.self c.in_ok-items.ensures.items c.reverse.ensures.items }
