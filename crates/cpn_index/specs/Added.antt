-- What is kept when more elements come. Source: own choice.
use Rattle.std.specs.Prelude.{◌≡◌, ◌⊎◌, ℕ, true, List, Contains}
use Rattle.cpn_definitions.specs.Value.{PlainValue}
use Rattle.cpn_definitions.specs.Marking.{Marking}
use Rattle.cpn_definitions.specs.Net.{PlainNet, transition_at}
use Rattle.cpn_definitions.specs.Occurrence.{PlainElement}
use Rattle.cpn_definitions.specs.Enabled.{PlainEntry, IsEarliest}
use Rattle.cpn_stages.specs.TermsWith.{HasTermWith}
use Rattle.cpn_due.specs.Due.{PlainEnabled, is_kept}
use Rattle.cpn_index.specs.Retimed.{IsOfNet}

-- Added: all that was there stays, each of some more is there, and nothing else comes.
pub record AreAdded (old more new : List PlainEnabled) : Type 0 where
  pub stay : (x : PlainEnabled) → Contains old x → Contains new x
  pub come : (x : PlainEnabled) → Contains new x → Contains old x ⊎ Contains more x
  pub listed : (x : PlainEnabled) → Contains more x → is_kept x.entry.element new ≡ true

-- All that was there stays, and what comes is enabled in the marking, with its least time and its needs.
pub record HaveMore (n : PlainNet) (m : Marking) (old new : List PlainEnabled) : Type 0 where
  pub stay : (x : PlainEnabled) → Contains old x → Contains new x
  pub come : (x : PlainEnabled) → Contains new x → Contains old x ⊎ (IsEarliest n m 0 x.entry × IsOfNet n x)

-- each element with a property that is enabled in the marking is there
abbrev pub HaveAll : PlainNet → Marking → (PlainElement → Type 0) → List PlainEnabled → Type 0
HaveAll n m P elements = (y : PlainEntry) → IsEarliest n m 0 y → P y.element → is_kept y.element elements ≡ true

-- the element is of the transition
abbrev pub IsOfTransition : ℕ → PlainElement → Type 0
IsOfTransition t e = e.transition ≡ t

-- in its binding a binding term on an arc from the place has the value
abbrev pub HasTermAt : PlainNet → ℕ → PlainValue → PlainElement → Type 0
HasTermAt n place v e = HasTermWith (transition_at n e.transition) place v e.binding
