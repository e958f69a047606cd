-- The index of a net and a marking: what is enabled, from time 0 on, and what its updates need to know of the net. Source: own choice.
use Rattle.std.specs.Prelude.{◌≡◌, ℕ, List, length, slice_set}
use Rattle.cpn_definitions.specs.Inscription.{PlainExpr}
use Rattle.cpn_definitions.specs.Marking.{Marking}
use Rattle.cpn_definitions.specs.Net.{PlainNet, transition_at}
use Rattle.cpn_definitions.specs.Enabled.{PlainEntry, Enabled}
use Rattle.cpn_search.specs.PlannedNets.{IsPlanned}
use Rattle.cpn_tmset.specs.Changed.{PlainChange, OthersStay}
use Rattle.cpn_due.specs.Due.{PlainEnabled, entries_in}
use Rattle.cpn_index.specs.Clocks.{from_clock_on}
use Rattle.cpn_index.specs.Readers.{AreReaders}
use Rattle.cpn_index.specs.Retimed.{AreOfNet}
use Rattle.cpn_index.specs.declared.index.Index.{Index}

-- the elements that it keeps
abbrev pub kept_in : Index → List PlainEnabled
kept_in index = index.elements.elements

-- its clock
abbrev pub clock_in : Index → ℕ
clock_in index = index.elements.clock

-- what is enabled from its clock on
abbrev pub listed_in : Index → List PlainEntry
listed_in index = from_clock_on (clock_in index) (entries_in (kept_in index))

-- It knows the net: it has the plan of each transition, and which transitions each place bears on.
pub record Knows (n : PlainNet) (index : Index) : Type 0 where
  pub planned : IsPlanned n index.plans
  pub readers : AreReaders n index.readers
  pub places : index.elements.places ≡ length n.places

-- It is an index of the net and the marking: it knows the net, and keeps just what is enabled there, each with its least time of all
-- and with what it needs.
pub record IsIndexOf (n : PlainNet) (m : Marking) (index : Index) : Type 0 where
  pub knows : Knows n index
  pub enabled : Enabled n m 0 (entries_in (kept_in index))
  pub own : AreOfNet n (kept_in index)

-- Follows: it was an index of a marking in which all has the same stamps but what is told.
pub record MayFollow (n : PlainNet) (new : Marking) (told : List PlainChange) (index : Index) : Type 0 where
  pub old : Marking
  pub was : IsIndexOf n old index
  pub stay : OthersStay told old new

-- the net, where the transition of a number has this guard and these variables
abbrev pub with_guard_at : PlainNet → ℕ → List PlainExpr → List ℕ → PlainNet
with_guard_at n t guard vars = record n { transitions = slice_set n.transitions t (record (transition_at n t) { guard = guard; vars = vars }) }

-- Guard set: it was an index of the marking, and of a net that is the same but for the guard and the variables of the transition.
pub record MaySetGuard (n : PlainNet) (m : Marking) (t : ℕ) (index : Index) : Type 0 where
  pub old : PlainNet
  pub was : IsIndexOf old m index
  pub guard : List PlainExpr
  pub vars : List ℕ
  pub is_set : n ≡ with_guard_at old t guard vars
