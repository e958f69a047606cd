-- What is sorted has the same items, by place and then by value.
use Rattle.std.proofs.Common.{rules, ◌≡◌, is_lt, subst}
use Rattle.std.specs.List.Sorted.{IsPermutation}
use Rattle.std.proofs.lemmas.Fn.{always_returns_same}
use Rattle.std.proofs.lemmas.List.Sorted.{ranks_by, IsPermutation-map}
use Rattle.cpn_tmset.specs.Changed.{change_cmp}
use Rattle.cpn_tmset.specs.ChangedViews.{change_view, change_views}
use Rattle.cpn_tmset.specs.declared.changed.Change.{Change}
use Rattle.cpn_tmset.proofs.ChangeOrder.{change_cmp_total}
use Rattle.cpn_log.proofs.touched.touched_in_order.Goals as goal

pub returns-clause-same : goal.returns-clause-same
returns-clause-same c = subst (λ cs. IsPermutation cs (change_views c.sort_by.new.self.items)) c.in_ok-items.ensures (IsPermutation-map change_view c.in_ok-items.items.items c.sort_by.new.self.items c.in_ok-sort_by.ensures.permutation)

pub returns-clause-in_order : goal.returns-clause-in_order
returns-clause-in_order c =
    c.in_ok-sort_by.ensures.sorted (λ (x y : Change). is_lt (change_cmp (change_view x) (change_view y))) (ranks_by change_cmp_total change_view)
    (always_returns_same _ (λ a r. is_lt r ≡ is_lt (change_cmp (change_view a.0.now) (change_view a.1.0.now))) _ (λ a r f' k. search rules))
