-- Edits of a net and of its initial marking, and what the net and the marking are after them. Source: own choice.
use Rattle.std.specs.Prelude.{◌≡◌, ℕ, List, [], ◌∷◌, map, slice_set}
use Rattle.cpn_definitions.specs.Inscription.{PlainExpr}
use Rattle.cpn_definitions.specs.Marking.{Tokens, Marking}
use Rattle.cpn_definitions.specs.Net.{PlainTransition, PlainNet}
use Rattle.cpn_document.specs.declared.document.Start.{Start}

-- An edit: the transition of a number becomes this one, which has another guard and the variables that it then has; or the place of a number
-- has these tokens in the initial marking.
pub data PlainEdit : Type 0 where
  edits_guard : (transition : ℕ) (edited : PlainTransition) → PlainEdit
  edits_initial : (place : ℕ) (tokens : Tokens) → PlainEdit

-- the net, and its initial marking, after an edit
abbrev pub net_after : PlainNet → PlainEdit → PlainNet
net_after n (edits_guard t edited) = record n { transitions = slice_set n.transitions t edited }
net_after n (edits_initial p tokens) = n

abbrev pub initial_after : Marking → PlainEdit → Marking
initial_after m (edits_guard t edited) = m
initial_after m (edits_initial p tokens) = slice_set m p tokens

-- the same after edits, one after another
abbrev pub net_after_all : PlainNet → List PlainEdit → PlainNet
net_after_all n [] = n
net_after_all n (edit ∷ edits) = net_after_all (net_after n edit) edits

abbrev pub initial_after_all : Marking → List PlainEdit → Marking
initial_after_all m [] = m
initial_after_all m (edit ∷ edits) = initial_after_all (initial_after m edit) edits

-- A phase: from where its run starts, and the edits that are made before.
pub record EditedPhase : Type 0 where
  pub start : Start
  pub edits : List PlainEdit

-- ---- what edits leave as it is

-- a transition with this guard; its name, its delay, its arcs and its variables stay
abbrev pub with_guard : PlainTransition → List PlainExpr → PlainTransition
with_guard t guard = record t { guard = guard }

-- a transition, and a net, as they are but for guards and variables
abbrev pub but_guard : PlainTransition → PlainTransition
but_guard t = record t { guard = []; vars = [] }

abbrev pub but_guards : PlainNet → PlainNet
but_guards n = record n { transitions = map but_guard n.transitions }

-- the nets differ in nothing but the guards and the variables of their transitions
abbrev pub AreAlikeButGuards : PlainNet → PlainNet → Type 0
AreAlikeButGuards n m = but_guards n ≡ but_guards m
