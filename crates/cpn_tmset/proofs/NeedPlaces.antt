-- The place where the needs for one value on one place begin, found by comparing needs in order with one of them.
use Rattle.std.proofs.Common.{◌≡◌, ℕ, ◌<◌, Bool, true, false, List, length, get_or, Some, option_map, refl, sym, ap, ◌∙◌, true≢false, Ordering, nat_cmp, is_lt, is_gt}
use Rattle.std.specs.List.Sorted.{IsPartitionedBy}
use Rattle.std.specs.Ordering.{ordering_then}
use Rattle.std.specs.Cmp.{IsTotalOrder}
use Rattle.std.proofs.lemmas.Cmp.{upto, then_total, on_total, nat_cmp_total}
use Rattle.std.specs.List.{slice_get}
use Rattle.std.proofs.lemmas.Option.{slice_get-map, slice_get_read}
use Rattle.cpn_definitions.specs.Order.{value_cmp}
use Rattle.cpn_definitions.specs.Lists.{IsInOrder}
use Rattle.cpn_definitions.specs.Occurrence as plain
use Rattle.cpn_definitions.specs.Occurrence.{needed_cmp}
use Rattle.cpn_definitions.specs.ValueOrder.{value_cmp_total}
use Rattle.cpn_definitions.proofs.DividedLists.{divided}
use Rattle.cpn_definitions.proofs.TokenOrder.{needed_cmp_total}
use Rattle.cpn_definitions.proofs.InsertIndexes.{turn_lt, not_after}
use Rattle.cpn_core.specs.declared.needed.Needed.{Needed}
use Rattle.cpn_tmset.specs.NeedPositions.{need_before}
use Rattle.cpn_core.specs.NeedsViews.{needed_view, needed_views}

-- how two needs compare by place and value
abbrev key_cmp : plain.Needed → plain.Needed → Ordering
key_cmp need other = ordering_then (nat_cmp need.place other.place) (value_cmp need.value other.value)

key_cmp_total : IsTotalOrder key_cmp
key_cmp_total = then_total (on_total (λ (need : plain.Needed). need.place) nat_cmp_total) (on_total (λ (need : plain.Needed). need.value) value_cmp_total)

key_not_after : (a b : plain.Needed) → is_gt (needed_cmp a b) ≡ false → is_gt (key_cmp a b) ≡ false
key_not_after a b h = not_after (nat_cmp a.place b.place) (value_cmp a.value b.value) (nat_cmp a.offset b.offset) h

turned : (a b : plain.Needed) → is_gt (key_cmp b a) ≡ is_lt (key_cmp a b)
turned a b = ap is_gt (key_cmp_total.antisymm b a) ∙ turn_lt (key_cmp a b)

-- what does not come after a need that comes before another comes before it too
before_too : (a b need : plain.Needed) → is_gt (key_cmp a b) ≡ false → need_before b need ≡ true → need_before a need ≡ true
before_too a b need h g = by_test (need_before a need) refl
  where
    by_test : (t : Bool) → need_before a need ≡ t → need_before a need ≡ true
    by_test true e = e
    by_test false e = absurd (true≢false (sym g ∙ sym (turned b need) ∙ upto key_cmp_total need a b (turned a need ∙ e) h))

-- that a need comes before another divides needs in order
pub divided_needs : (need : plain.Needed) (needs : List Needed) → IsInOrder needed_cmp (needed_views needs) → IsPartitionedBy (λ other. need_before (needed_view other) need) needs
divided_needs need needs ordered = divided needed_cmp needed_cmp_total needed_view (λ other. need_before other need) (λ a b le is. before_too a b need (key_not_after a b le) is) needs ordered

-- the need at an index, seen as a plain need
pub need_there : (needs : List Needed) (index : ℕ) (need : Needed) → index < length needs → need ≡ get_or needs index need → slice_get (needed_views needs) index ≡ Some (needed_view need)
need_there needs index need within is = slice_get-map needed_view needs index ∙ ap (option_map needed_view) (slice_get_read needs (length needs) index need refl within is)
