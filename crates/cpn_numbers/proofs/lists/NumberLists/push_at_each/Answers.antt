-- One list more has the number.
use Rattle.std.proofs.Common.{◌≡◌, ◌<◌, ◌≤◌, List, ℕ, [], ◌∷◌, ◌++◌, length, take, get_or, subst, sym, arith}
use Rattle.std.specs.List.{AllByRecursion}
use Rattle.std.proofs.lemmas.List.{take_more, take_all}
use Rattle.std.proofs.lemmas.List.Elements.{All-from_recursion}
use Rattle.cpn_numbers.specs.NumberLists.{AreWithEach}
use Rattle.cpn_numbers.proofs.TurnedLists.{with_none, with_one_more}
use Rattle.cpn_numbers.proofs.lists.NumberLists.push_at_each.Goals as goal

pub push-requires : goal.push-requires
push-requires c = record {
  there =
      (let within = All-from_recursion (λ list. list < length c.args.self.now) c.args.lists.now c.requires.there c.loop-list.list-index 0 c.loop-list-test.true in
      let as_many = c.loop-list.invariant.as_many in omega (arith, within, as_many));
}

pub loop-list-init : goal.loop-list-init
loop-list-init c = with_none c.args.number c.args.self.now

pub loop-list-preserved : goal.loop-list-preserved
loop-list-preserved c =
    let lists = c.args.lists.now in
    let i = c.loop-list.list-index in
    let k = get_or lists i 0 in
    let within = All-from_recursion (λ list. list < length c.args.self.now) lists c.requires.there i 0 c.loop-list-test.true in
    rw (take_more lists i 0 c.loop-list-test.true, c.in_ok-push.ensures.with) (with_one_more (take i lists) k c.args.number c.args.self.now c.loop-list.self c.loop-list.invariant within)

pub returns : goal.returns
returns c =
    let all : take c.loop-list.list-index c.args.lists.now ≡ c.args.lists.now = take_all c.loop-list.list-index c.args.lists.now (omega arith) in
    record { with = rw all at c.loop-list.invariant }
