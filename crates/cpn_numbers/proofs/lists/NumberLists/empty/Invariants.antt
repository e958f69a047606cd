-- So many lists so far, all empty.
use Rattle.std.proofs.Common.{◌≡◌, ℕ, List, [], map, replicate, Vec, Global}
use Rattle.cpn_numbers.proofs.lists.NumberLists.empty.Given as goal

abbrev pub invariant-loop-list : goal.invariant-loop-list
invariant-loop-list l = map (λ (numbers : Vec ℕ Global). numbers.items) l.lists.items ≡ replicate l.«_list» []
