-- The things so far and those of the rest are those of the list, and the rules of the rest decide. There is room for all.
use Rattle.std.proofs.Common.{◌≡◌, ◌++◌, drop, map, ◌≤◌, length, vec_len, vec_capacity}
use Rattle.serde_json.specs.View.{view}
use Rattle.cpn_document.specs.Rules.{first_broken}
use Rattle.cpn_readings.specs.Rules.{each_item}
use Rattle.cpn_document.proofs.lists.items_of.Given as goal

abbrev pub invariant-loop-number : goal.invariant-loop-number
invariant-loop-number g l = record {
  values : map g.T.Item.seen l.items.items ++ map g.T.Item.value_in (map view (drop l.number l.list)) ≡ map g.T.Item.value_in (map view l.list);
  rest : first_broken (each_item (g.T.Item.rules l.within) l.number (map view (drop l.number l.list))) ≡ first_broken (each_item (g.T.Item.rules l.within) 0 (map view l.list));
  len : vec_len l.items ≡ l.number;
  room : length l.list ≤ vec_capacity l.items;
}
