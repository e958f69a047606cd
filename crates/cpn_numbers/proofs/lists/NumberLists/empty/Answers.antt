-- One empty list more.
use Rattle.std.proofs.Common.{◌≡◌, ◌∙◌, ℕ, List, ap, map, Vec, Global}
use Rattle.cpn_numbers.proofs.ListedNumbers.{empty_more}
use Rattle.cpn_numbers.proofs.lists.NumberLists.empty.Goals as goal

pub loop-list-preserved : goal.loop-list-preserved
loop-list-preserved c =
    ap (λ (lists : List (Vec ℕ Global)). map (λ (numbers : Vec ℕ Global). numbers.items) lists) c.in_ok-push.ensures.items
    ∙ empty_more c.loop-list.lists.items c.loop-list.«_list» c.new.result c.new.ensures.items c.loop-list.invariant
