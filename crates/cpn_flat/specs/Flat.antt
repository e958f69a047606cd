-- What an accepted document means: its flat net and the initial marking of it, or the first refusal.
-- Source: Jensen and Kristensen, chapter 6; the order of the refusals is an own choice.
use Rattle.std.specs.Prelude.{ℕ, suc, List, [], ◌∷◌}
use Rattle.cpn_definitions.specs.Marking.{Marking}
use Rattle.cpn_definitions.specs.Net.{PlainNet}
use Rattle.cpn_classes.specs.Numbering.{Numbering}
use Rattle.cpn_document.specs.Document.{RawDocument}
use Rattle.cpn_document.specs.Monitors.{RawMonitor}
use Rattle.cpn_document.specs.Phases.{RawPhase}
use Rattle.cpn_module.specs.Hierarchy.{PlainHierarchy}
use Rattle.cpn_typing.specs.Names.{Declared}
use Rattle.cpn_fuse.specs.Instances.{PlainInstance}
use Rattle.cpn_fuse.specs.Compound.{AreCompound}
use Rattle.cpn_fuse.specs.Unfolded as unfolds
use Rattle.cpn_fuse.specs.Unfolded.{UnfoldingRefusal, IsUnfolded, IsRefusedFor}
use Rattle.cpn_accepted.specs.Nets.{Initial, PlainModuleNet, PlainAccepted}
use Rattle.cpn_readings.specs.Relations.{just, such_that, ◌>>=◌}
use Rattle.cpn_flat.specs.Refusals.{FlatRefusal, instances, places, transitions, Reading, read, refused}
use Rattle.cpn_flat.specs.Names.{AreNames}
use Rattle.cpn_flat.specs.FlatNet.{flat_net}
use Rattle.cpn_flat.specs.InitialMarking.{written_of, started}

-- A net and its initial marking, and what is declared beside it; and the monitors and phases of the document, as they are written.
pub record PlainLoaded : Type 0 where
  pub net : PlainNet
  pub initial : Marking
  pub declared : Declared
  pub monitors : List RawMonitor
  pub phases : List RawPhase

-- what is loaded of a document and of what is accepted of it, with this flat net and this initial marking
abbrev pub loaded_with : RawDocument → PlainAccepted → PlainNet → Marking → PlainLoaded
loaded_with d accepted net initial = record { net = net; initial = initial; declared = accepted.declared; monitors = d.monitors; phases = d.phases }

-- what there are too many of
abbrev pub too_many : UnfoldingRefusal → FlatRefusal
too_many unfolds.instances = instances
too_many unfolds.places = places
too_many unfolds.transitions = transitions

-- the instances of a hierarchy, or what there are too many of
pub data IsUnfoldedAs (h : PlainHierarchy) : Reading (List PlainInstance) → Type 0 where
  unfolded : (is : List PlainInstance) → IsUnfolded h is → IsUnfoldedAs h (read is)
  not_unfolded : (refusal : UnfoldingRefusal) → IsRefusedFor h refusal → IsUnfoldedAs h (refused (too_many refusal))

-- the written initial markings of the members of each of these compound places, which are numbered from c on
abbrev pub written_from : List PlainModuleNet → List PlainInstance → Numbering → ℕ → List ℕ → List (List Initial)
written_from modules is classes c [] = []
written_from modules is classes c (first ∷ firsts) = written_of modules is classes c ∷ written_from modules is classes (suc c) firsts

abbrev pub all_written : List PlainModuleNet → List PlainInstance → Numbering → List (List Initial)
all_written modules is classes = written_from modules is classes 0 classes.firsts

-- The meaning of what is accepted of a document: the instances; their names; their compound places; the flat net with its initial
-- marking.
unfoldable pub flat_in : RawDocument → PlainAccepted → Reading PlainLoaded → Type 0
flat_in d accepted = do
  is ← IsUnfoldedAs accepted.hierarchy
  names ← such_that (AreNames d is)
  classes ← such_that (AreCompound accepted.hierarchy is)
  marking ← started (flat_net accepted is names classes) (all_written accepted.modules is classes)
  just (read (record { net = flat_net accepted is names classes; initial = marking; declared = accepted.declared; monitors = d.monitors; phases = d.phases }))
