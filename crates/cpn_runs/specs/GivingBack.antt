-- Journals in which no claim is given back for want of memory, and states that are cut for nothing else. Source: own choice.
use Rattle.std.specs.Prelude.{◌≡◌, ◌≢◌, List, [], ◌∷◌, Option, Some, None}
use Rattle.cpn_runs.specs.State.{PlainSetup, PlainEvent, claim_made, claim_completed, clock_moved, cut_made, wants_memory, PlainCut, PlainState, owed_cut, Happens}

-- no cut stands, unless for want of memory
abbrev pub OnlyGivenBack : Option PlainCut → Type 0
OnlyGivenBack None = Unit {0}
OnlyGivenBack (Some cut) = cut.cause ≡ wants_memory

-- a cut for want of memory stands
abbrev pub IsCutForMemory : Option PlainCut → Type 0
IsCutForMemory None = ⊥
IsCutForMemory (Some cut) = cut.cause ≡ wants_memory

-- where the event is a cut, a cut is owed, so it gives no claim back
abbrev pub IsOwedIfCut : PlainSetup → PlainState → PlainEvent → Type 0
IsOwedIfCut setup state (claim_made seat number) = Unit {0}
IsOwedIfCut setup state (claim_completed seat number) = Unit {0}
IsOwedIfCut setup state (clock_moved time) = Unit {0}
IsOwedIfCut setup state (cut_made number) = owed_cut setup state ≢ None

-- None of the events that happen one after another from the state gives a claim back.
abbrev pub NoneIsGivenBack : PlainSetup → PlainState → List PlainEvent → Type 0
NoneIsGivenBack setup old [] = Unit {0}
NoneIsGivenBack setup old (event ∷ events) = IsOwedIfCut setup old event × ((mid : PlainState) → Happens setup old event mid → NoneIsGivenBack setup mid events)
