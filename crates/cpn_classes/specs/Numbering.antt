-- The classes of joined items, numbered; the items are the numbers below a count. Source: own choice.
use Rattle.std.specs.Prelude.{◌≡◌, ◌↔◌, ℕ, ◌<◌, ◌≤◌, List, length, slice_index}
use Rattle.cpn_classes.specs.Joined.{IsJoined}

-- The number of each item's class, and the first member of each class.
pub record Numbering : Type 0 where
  pub numbers : List ℕ
  pub firsts : List ℕ

-- the number of an item's class
abbrev pub number_of : Numbering → ℕ → ℕ
number_of n item = slice_index n.numbers item

-- the first member of a class
abbrev pub first_of : Numbering → ℕ → ℕ
first_of n class = slice_index n.firsts class

-- Classes that are numbered in the order of their first members.
pub record IsInOrder (n : Numbering) : Type 0 where
  -- each item is in one of the classes
  pub in_class : (i : ℕ) → i < length n.numbers → number_of n i < length n.firsts
  -- each class has a first member: an item, in that class, and none of its items is before it
  pub is_item : (c : ℕ) → c < length n.firsts → first_of n c < length n.numbers
  pub is_member : (c : ℕ) → c < length n.firsts → number_of n (first_of n c) ≡ c
  pub is_least : (i : ℕ) → i < length n.numbers → first_of n (number_of n i) ≤ i
  -- a later class has a later first member
  pub rise : (c d : ℕ) → c < d → d < length n.firsts → first_of n c < first_of n d

-- The numbering of the classes of so many items by pairs: each item has a number, two items have the same number exactly where
-- they are joined, and the classes are in the order of their first members.
pub record IsNumbering (count : ℕ) (pairs : List (ℕ × ℕ)) (n : Numbering) : Type 0 where
  pub each : length n.numbers ≡ count
  pub joined : (i j : ℕ) → i < count → j < count → (number_of n i ≡ number_of n j) ↔ IsJoined pairs i j
  pub in_order : IsInOrder n
