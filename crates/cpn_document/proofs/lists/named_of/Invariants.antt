-- The things and names so far and those of the rest are those of the list, and the rules of the rest decide. There is room for all.
use Rattle.std.proofs.Common.{◌≡◌, ◌++◌, drop, map, ◌≤◌, length, vec_len, vec_capacity}
use Rattle.serde_json.specs.View.{view}
use Rattle.cpn_document.specs.Rules.{first_broken}
use Rattle.cpn_document.specs.Parts.{each_named, names_in}
use Rattle.cpn_document.proofs.lists.named_of.Given as goal

abbrev pub invariant-loop-number : goal.invariant-loop-number
invariant-loop-number g l = record {
  values : map g.T.Named.seen l.things.items ++ map g.T.Named.value_in (map view (drop l.number l.list)) ≡ map g.T.Named.value_in (map view l.list);
  names : l.names ++ names_in (map view (drop l.number l.list)) ≡ l.fn.names ++ names_in (map view l.list);
  rest : first_broken (each_named (g.T.Named.rules l.within) l.number l.names (map view (drop l.number l.list))) ≡ first_broken (each_named (g.T.Named.rules l.within) 0 l.fn.names (map view l.list));
  len : vec_len l.things ≡ l.number;
  room : length l.list ≤ vec_capacity l.things;
}
