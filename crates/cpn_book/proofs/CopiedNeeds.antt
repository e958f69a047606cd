-- A copy of needs: what is put in order one after another, from a list that stands in order, is that list.
use Rattle.std.proofs.Common.{◌≡◌, ℕ, ◌+◌, ◌<◌, List, [], ◌∷◌, ◌++◌, length, take, get_or, sym, ap, ap₂, ◌∙◌}
use Rattle.std.proofs.lemmas.List.{take_more}
use Rattle.cpn_core.specs.NeedsViews.{needed_view, needed_views}
use Rattle.cpn_core.specs.declared.needed.Needed.{Needed}
use Rattle.cpn_definitions.specs.Lists.{IsInOrder, in_order, with_item}
use Rattle.cpn_definitions.specs.Occurrence.{needed_cmp}
use Rattle.cpn_definitions.specs.Occurrence as plain
use Rattle.cpn_definitions.proofs.ListItems.{map_more}
use Rattle.cpn_definitions.proofs.OrderedLists.{with_items_append, in_order_same}
use Rattle.cpn_definitions.proofs.TokenOrder.{needed_cmp_total}

pub copied_more : (tokens : List Needed) (i : ℕ) (need : Needed) (copied : plain.Needed) (old new : List plain.Needed) → i < length tokens → need ≡ get_or tokens i need
    → old ≡ in_order needed_cmp (needed_views (take i tokens)) → copied ≡ needed_view need → new ≡ with_item needed_cmp copied old → new ≡ in_order needed_cmp (needed_views (take (i + 1) tokens))
copied_more tokens i need copied old new within is so_far same added =
    let seen : needed_views (take (i + 1) tokens) ≡ needed_views (take i tokens) ++ needed_view need ∷ [] = ap needed_views (take_more tokens i need within ∙ ap (λ (y : Needed). take i tokens ++ y ∷ []) (sym is)) ∙ map_more needed_view (take i tokens) need in
    added ∙ ap₂ (λ x xs. with_item needed_cmp x xs) same so_far ∙ sym (with_items_append needed_cmp (needed_views (take i tokens)) (needed_view need ∷ []) []) ∙ sym (ap (in_order needed_cmp) seen)

pub copied_all : (needs copied : List plain.Needed) (tokens : List Needed) → needed_views tokens ≡ needs → IsInOrder needed_cmp needs → copied ≡ in_order needed_cmp (needed_views tokens) → copied ≡ needs
copied_all needs copied tokens are ordered is = is ∙ ap (in_order needed_cmp) are ∙ in_order_same needed_cmp needed_cmp_total needs ordered
