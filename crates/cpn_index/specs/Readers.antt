-- The readers of a net: the transitions that each of its places bears on, as data. Source: own choice.
use Rattle.std.specs.Prelude.{◌≡◌, ℕ, suc, ◌<◌, ◌==◌, ◌↔◌, Bool, true, false, not, ◌&&◌, if◌then◌else◌, List, [], ◌∷◌, ◌++◌, map, length, slice_index_or, Vec, Contains}
use Rattle.std.specs.List.{list_any}
use Rattle.std.specs.Ordering.{nat_cmp}
use Rattle.std.specs.declared.alloc.Global.{Global}
use Rattle.cpn_definitions.specs.Lists.{Rises}
use Rattle.cpn_definitions.specs.Inscription.{ArcInscription, sum_of, ArcInscriptions, no_inscriptions, more_inscriptions}
use Rattle.cpn_definitions.specs.Net.{PlainArc, PlainTransition, PlainNet, transition_at}
use Rattle.cpn_definitions.specs.Bindable.{binding_terms}
use Rattle.cpn_tmset.specs.Changed.{PlainChange}
use Rattle.cpn_stages.specs.Reading.{is_there, is_of_terms, ReadsOtherwise, HasTermOn}
use Rattle.cpn_index.specs.declared.readers.Readers.{Readers}

-- the numbers that are listed for a place
abbrev pub numbers_at : List (Vec ℕ Global) → ℕ → List ℕ
numbers_at lists p = slice_index_or (map (λ numbers. numbers.items) lists) p []

-- Listed by place: for each place of the net, in rising order, just the transitions that it bears on.
pub record AreListed (n : PlainNet) (Bears : PlainTransition → ℕ → Type 0) (lists : List (Vec ℕ Global)) : Type 0 where
  pub as_many : length lists ≡ length n.places
  pub rising : (p : ℕ) → p < length n.places → Rises nat_cmp (numbers_at lists p)
  pub exact : (p : ℕ) → p < length n.places → (t : ℕ) → Contains (numbers_at lists p) t ↔ ((t < length n.transitions) × Bears (transition_at n t) p)

-- The readers of a net: of each place, the transitions that have a binding term there, and those that read it otherwise.
pub record AreReaders (n : PlainNet) (r : Readers) : Type 0 where
  pub with_term : AreListed n HasTermOn r.with_term.items
  pub otherwise : AreListed n ReadsOtherwise r.otherwise.items

-- ---- what an input arc has

abbrev pub has_term : PlainArc → Bool
has_term arc = is_there (binding_terms arc.expr)

abbrev pub reads_otherwise : PlainArc → Bool
reads_otherwise arc = not (is_of_terms arc.expr)

-- whether an arc of this kind comes from the place
abbrev pub bears : (PlainArc → Bool) → ℕ → PlainArc → Bool
bears kind p arc = (arc.place == p) && kind arc

-- Readable: the arc carries just the binding terms of its inscription.
abbrev pub IsReadable : PlainArc → Type 0
IsReadable arc = arc.terms ≡ binding_terms arc.expr

-- how many parts a root sum has
abbrev pub count_of : ArcInscriptions → ℕ
count_of no_inscriptions = 0
count_of (more_inscriptions m ms) = suc (count_of ms)

abbrev pub part_count : ArcInscription → ℕ
part_count (sum_of ms) = count_of ms
part_count m = 1

-- ---- one transition more

-- whether the number is the last of them
abbrev pub ends_with : ℕ → List ℕ → Bool
ends_with t [] = false
ends_with t (x ∷ []) = x == t
ends_with t (x ∷ y ∷ ys) = ends_with t (y ∷ ys)

-- if it is to be there: the numbers, and this one behind them, unless it is the last of them
abbrev pub with_last : Bool → ℕ → List ℕ → List ℕ
with_last false t xs = xs
with_last true t xs = if ends_with t xs then xs else xs ++ t ∷ []

-- With one more: the number stands last in the list of each of the places, and nothing else is new.
pub record AreWith (places : ℕ → Bool) (t : ℕ) (old new : List (Vec ℕ Global)) : Type 0 where
  pub as_many : length new ≡ length old
  pub listed : (p : ℕ) → numbers_at new p ≡ with_last (places p) t (numbers_at old p)

-- ---- what is read otherwise

-- whether the number is one of them
abbrev pub is_one_of : List ℕ → ℕ → Bool
is_one_of numbers t = list_any (λ number. t == number) numbers

-- whether the transition is listed for the place of something that is told
abbrev pub is_read : List (Vec ℕ Global) → List PlainChange → ℕ → Bool
is_read lists told t = list_any (λ change. is_one_of (numbers_at lists change.place) t) told
