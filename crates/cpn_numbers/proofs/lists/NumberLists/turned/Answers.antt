-- The numbers of one list more are turned.
use Rattle.std.proofs.Common.{◌≡◌, ◌∙◌, ◌<◌, ℕ, List, length, sym, subst, ap, replicate, arith}
use Rattle.std.specs.List.{AllByRecursion}
use Rattle.std.proofs.lemmas.List.{length-map, length-replicate}
use Rattle.cpn_numbers.specs.NumberLists.{numbers_at, AreWithEach}
use Rattle.cpn_numbers.proofs.ListedNumbers.{lists_of, here}
use Rattle.cpn_numbers.proofs.TurnedLists.{AreTurned, turned_none, turned_more, turned_whole, below_at}
use Rattle.cpn_numbers.proofs.lists.NumberLists.turned.Goals as goal

pub loop-list-init : goal.loop-list-init
loop-list-init c = record {
  many = ap (λ (lists : List (List ℕ)). length lists) c.in_ok-turned.ensures.empty ∙ length-replicate c.args.count _;
  turned = turned_none c.args.count c.args.self.now _ c.in_ok-turned.ensures.empty;
}

pub push_at_each-requires : goal.push_at_each-requires
push_at_each-requires c =
    let long : length c.args.self.now ≡ length c.self.inside.lists.items = ap (λ (lists : List (List ℕ)). length lists) (sym c.self.view_is) ∙ length-map c.self.inside.lists.items _ in
    let numbers = c.deref.ensures.value ∙ here c.self.inside.lists.items c.loop-list.list c.index.result.now (omega arith) c.index.ensures ∙ ap (λ lists. numbers_at lists c.loop-list.list) c.self.view_is in
    let many = c.loop-list.invariant.many in
    record {
      there =
          subst (λ (k : ℕ). AllByRecursion (λ list. list < k) c.deref.result.now) (sym many)
          (subst (AllByRecursion (λ list. list < c.args.count)) (sym numbers) (below_at c.args.self.now c.loop-list.list c.args.count c.requires.below (omega (arith, long))));
    }

pub loop-list-preserved : goal.loop-list-preserved
loop-list-preserved c =
    let numbers = c.deref.ensures.value ∙ here c.self.inside.lists.items c.loop-list.list c.index.result.now (omega arith) c.index.ensures ∙ ap (λ lists. numbers_at lists c.loop-list.list) c.self.view_is in
    let with = c.in_ok-push_at_each.ensures.with in
    record {
      many = with.as_many ∙ c.loop-list.invariant.many;
      turned = turned_more c.args.self.now c.loop-list.list c.loop-list.turned c.push_at_each.new.self c.loop-list.invariant.turned (subst (λ ks. AreWithEach ks c.loop-list.list c.loop-list.turned c.push_at_each.new.self) numbers with);
    }

pub returns-clause-turned : goal.returns-clause-turned
returns-clause-turned c =
    let long : length c.args.self.now ≡ length c.self.inside.lists.items = ap (λ (lists : List (List ℕ)). length lists) (sym c.self.view_is) ∙ length-map c.self.inside.lists.items _ in
    turned_whole c.args.self.now c.loop-list.list c.loop-list.turned (omega (arith, long)) c.loop-list.invariant.turned
