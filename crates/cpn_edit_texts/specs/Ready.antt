-- Nets that edits may be made of, and that runs may start from. Source: own choice.
use Rattle.std.specs.Prelude.{ℕ, ◌<◌, List}
use Rattle.std.specs.List.{AllByRecursion}
use Rattle.cpn_definitions.specs.Bounds.{IsBounded, IsInTime}
use Rattle.cpn_definitions.specs.Marking.{Marking}
use Rattle.cpn_definitions.specs.Named.{IsNamed}
use Rattle.cpn_definitions.specs.Net.{PlainNet}
use Rattle.cpn_definitions.specs.Sound.{IsSound, IsMarking}
use Rattle.cpn_definitions.specs.Terms.{most_tokens}
use Rattle.cpn_monitor.specs.Monitors.{PlainMonitor}
use Rattle.cpn_monitor_texts.specs.Accepted.{AreAcceptedMonitors}
use Rattle.cpn_typing.specs.AcceptedTransitions.{IsAcceptedTransition}
use Rattle.cpn_typing.specs.Consistency.{IsConsistent}
use Rattle.cpn_typing.specs.DeclaresFor.{DeclaresFor}
use Rattle.cpn_typing.specs.Names.{Declared}
use Rattle.cpn_edit_texts.specs.Edits.{PlainEdit, edits_guard, edits_initial}

-- A sound net of what is declared, with monitors that are accepted in it.
pub record MayBeEdited (ds : Declared) (n : PlainNet) (monitors : List PlainMonitor) : Type 0 where
  pub consistent : IsConsistent ds
  pub declares : DeclaresFor ds n
  pub sound : IsSound n
  pub measured : AreAcceptedMonitors ds n monitors

-- Such a net, of accepted inscriptions, that names what a report prints; and its initial marking, with at most 65,536 tokens on each place and
-- with time stamps in their range.
pub record IsReady (ds : Declared) (n : PlainNet) (initial : Marking) (monitors : List PlainMonitor) : Type 0 where
  pub editable : MayBeEdited ds n monitors
  pub accepted : AllByRecursion (IsAcceptedTransition ds) n.transitions
  pub named : IsNamed n
  pub marking : IsMarking n.places initial
  pub bounded : IsBounded most_tokens initial
  pub in_time : IsInTime initial

-- an edit is of one of so many transitions, or of one of so many places
abbrev pub IsThere : ℕ → ℕ → PlainEdit → Type 0
IsThere transitions places (edits_guard t edited) = t < transitions
IsThere transitions places (edits_initial p tokens) = p < places
