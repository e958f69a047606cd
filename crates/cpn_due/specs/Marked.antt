-- Elements that are marked where they are due, and a tree of them with what it keeps of them all.
use Rattle.std.specs.Prelude.{◌≡◌, ℕ, not, Bool, false, ◌||◌, nat_le, List, find, map, length, Option, Some, None}
use Rattle.std.specs.List.{filter, list_any, AllByRecursion}
use Rattle.std.specs.Coded.{Coded, code_by, coded×, coded_ℕ, coded_bool, coded_list}
use Rattle.std.specs.declared.cmp.Ordering.{Ordering}
use Rattle.std.proofs.Common.{refl}
use Rattle.std.specs.Ordering.{is_eq}
use Rattle.cpn_definitions.specs.Occurrence.{PlainElement}
use Rattle.cpn_definitions.specs.Enabled.{next_time, or_sooner}
use Rattle.cpn_due.specs.Due.{PlainEnabled, enabled_cmp, is_of, entries_in, plain_enabled}
use Rattle.cpn_due.specs.DueCode.{enabled_code}
use Rattle.cpn_due.specs.declared.marked.Marked.{Marked}
use Rattle.cpn_due.specs.declared.summaries.Summary.{Summary}

-- An enabled element, and whether it is due.
pub record PlainMarked : Type 0 where
  pub enabled : PlainEnabled
  pub is_due : Bool

abbrev pub plain_marked : Marked → PlainMarked
plain_marked m = record { enabled = plain_enabled m.element; is_due = m.is_due }

abbrev pub marked_cmp : PlainMarked → PlainMarked → Ordering
marked_cmp m n = enabled_cmp m.enabled n.enabled

-- the elements, whether due or not
abbrev pub enabled_in : List PlainMarked → List PlainEnabled
enabled_in items = map (λ m. m.enabled) items

abbrev pub are_due : List PlainMarked → List PlainMarked
are_due items = filter (λ m. m.is_due) items

abbrev pub are_not_due : List PlainMarked → List PlainMarked
are_not_due items = filter (λ m. not m.is_due) items

-- the least earliest time of them
abbrev pub least_time : List PlainMarked → Option ℕ
least_time items = next_time (entries_in (enabled_in items))

-- one of them is of the element of the item
abbrev pub has_item : PlainMarked → List PlainMarked → Bool
has_item m items = list_any (λ n. is_eq (marked_cmp m n)) items

-- the one that is of the element, and those that are not
abbrev pub item_of : PlainElement → List PlainMarked → Option PlainMarked
item_of e items = find (λ m. is_of e m.enabled) items

abbrev pub without_item : PlainElement → List PlainMarked → List PlainMarked
without_item e items = filter (λ m. not (is_of e m.enabled)) items

-- marked also where the time is not above the clock
abbrev pub marked_at : ℕ → PlainMarked → PlainMarked
marked_at clock m = record { enabled = m.enabled; is_due = m.is_due || nat_le m.enabled.entry.earliest clock }

-- marked where the time is not above the clock, and only there
abbrev pub IsMarked : ℕ → PlainMarked → Type 0
IsMarked clock m = m.is_due ≡ nat_le m.enabled.entry.earliest clock

abbrev pub AreMarked : ℕ → List PlainMarked → Type 0
AreMarked clock items = AllByRecursion (IsMarked clock) items

-- A tree: its items in order, and its height.
pub record PlainTree : Type 0 where
  pub items : List PlainMarked
  pub height : ℕ

abbrev pub marked_code : Coded PlainMarked
marked_code = code_by (PlainEnabled × Bool) (coded× enabled_code coded_bool) (λ m. (m.enabled, m.is_due)) (λ p. record { enabled = p.0; is_due = p.1 }) (λ _. refl)

abbrev pub tree_code : Coded PlainTree
tree_code = code_by (List PlainMarked × ℕ) (coded× (coded_list marked_code) coded_ℕ) (λ t. (t.items, t.height)) (λ p. record { items = p.0; height = p.1 }) (λ _. refl)

-- the lesser of two times that may be missing
abbrev pub sooner : Option ℕ → Option ℕ → Option ℕ
sooner None other = other
sooner (Some time) other = Some (or_sooner time other)

-- there is a time, and it is not above the clock
abbrev pub is_reached : Option ℕ → ℕ → Bool
is_reached None clock = false
is_reached (Some time) clock = nat_le time clock

-- the summary of items of a height
abbrev pub summary_of : List PlainMarked → ℕ → Summary
summary_of items height = record { height = height; count = length items; due = length (are_due items); first = least_time items; later = least_time (are_not_due items) }
