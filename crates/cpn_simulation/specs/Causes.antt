-- Why there is no report, and the line and the status that say so. The causes are tried in their order: the words, the
-- reading of the source, its length, the document. Source: own choice.
use Rattle.std.specs.Prelude.{◌≡◌, ℕ, ◌<◌, ◌≤◌, ◌⊎◌, List, length, codes, Option, Some, None, IfSome}
use Rattle.cpn_edit_texts.specs.Reading.{EditRefusal, unknown_name, bad_text, faulty, of_monitors}
use Rattle.cpn_module_nets.specs.Reading.{NetRefusal, of_modules, inscription}
use Rattle.cpn_monitor_texts.specs.Reading as monitors
use Rattle.cpn_monitor_texts.specs.Reading.{MonitorRefusal}
use Rattle.cpn_file.specs.Reading.{Refusal, of_form, of_net, of_flat}
use Rattle.cpn_model.specs.Lines.{model_line}
use Rattle.cpn_model.specs.Models.{IsModel}
use Rattle.cpn_model.specs.Reading.{PlainModel, ModelRefusal, of_document, of_edits, Reading, refused}
use Rattle.cpn_io.specs.Outside.{Rose, AppendsProperPrefix}
use Rattle.std.specs.Io.KnownBytes.{Appends}
use Rattle.cpn_simulation.specs.Limits.{most_bytes}
use Rattle.cpn_simulation.specs.Options.{PlainOptions, options_from}
use Rattle.cpn_simulation.specs.Documents.{ReadsSource}
use Rattle.cpn_simulation.specs.Reported.{Sayings, IsReported, IsReport}
use Rattle.cpn_simulation.specs.declared.statuses.Status.{Status}
use Rattle.cpn_simulation.specs.declared.statuses.Status.TheVariants as statuses

-- A refusal: of the words, of the source for a fault or for its length, or of the document.
pub data PlainRefusal : Type 0 where
  bad_words : PlainRefusal
  read_fault : PlainRefusal
  too_long : PlainRefusal
  bad_document : ModelRefusal → PlainRefusal

-- the words give options
abbrev pub GiveOptions : List (List ℕ) → Type 0
GiveOptions words = (options : PlainOptions) × (options_from words ≡ Some options)

-- The cause of each refusal, which lies in the words, in the count of faults of the source, or in the bytes of the document, where these
-- are told. Each but the first asks that the words give options, those of reading that the document is what the source gives, and that of a
-- document that it is not too long.
abbrev pub HasCause : PlainRefusal → List (List ℕ) → Option (List ℕ) → ℕ → ℕ → Type 0
HasCause bad_words words document before now = options_from words ≡ None
HasCause read_fault words document before now = ReadsSource words × Rose before now
HasCause too_long words document before now = ReadsSource words × IfSome document (λ bytes. most_bytes < length bytes)
HasCause (bad_document refusal) words document before now =
    GiveOptions words × IfSome document (λ bytes. (length bytes ≤ most_bytes) × IsModel bytes (refused refusal))

-- the bytes have at most one reading
abbrev pub HaveOneReading : List ℕ → Type 0
HaveOneReading bytes = (reading other : Reading PlainModel) → IsModel bytes reading → IsModel bytes other → reading ≡ other

-- a document that is refused has been read, and has no other reading; of the other refusals nothing is said
abbrev pub IsReadOnce : PlainRefusal → Option (List ℕ) → Type 0
IsReadOnce bad_words document = Unit {0}
IsReadOnce read_fault document = Unit {0}
IsReadOnce too_long document = Unit {0}
IsReadOnce (bad_document refusal) document = IfSome document HaveOneReading

-- the line of a refusal, with its line feed
abbrev pub error_line : PlainRefusal → List ℕ
error_line bad_words = codes "error words\n"
error_line read_fault = codes "error read\n"
error_line too_long = codes "error long\n"
error_line (bad_document refusal) = model_line refusal

-- The status of a refusal of the document: for its form; of a text or the variables of a transition, also for the fault of an edited initial
-- marking; of its modules, its flat net, or the names in its monitors and edits.
abbrev pub status_of_net : NetRefusal → Status
status_of_net (inscription place reason) = statuses.BadInscription
status_of_net (of_modules reason) = statuses.BadNet

abbrev pub status_of_loading : Refusal → Status
status_of_loading (of_form reason) = statuses.BadDocument
status_of_loading (of_net reason) = status_of_net reason
status_of_loading (of_flat reason) = statuses.BadNet

abbrev pub status_of_monitors : MonitorRefusal → Status
status_of_monitors (monitors.unknown_name i) = statuses.BadNet
status_of_monitors (monitors.bad_text i reason) = statuses.BadInscription

abbrev pub status_of_edits : EditRefusal → Status
status_of_edits (of_monitors reason) = status_of_monitors reason
status_of_edits (unknown_name place) = statuses.BadNet
status_of_edits (bad_text place reason) = statuses.BadInscription
status_of_edits (faulty place fault) = statuses.BadInscription

abbrev pub status_of_document : ModelRefusal → Status
status_of_document (of_document reason) = status_of_loading reason
status_of_document (of_edits reason) = status_of_edits reason

-- the status of a refusal
abbrev pub status_of : PlainRefusal → Status
status_of bad_words = statuses.BadWords
status_of read_fault = statuses.ReadFault
status_of too_long = statuses.TooLong
status_of (bad_document refusal) = status_of_document refusal

-- The text that is to be written: the report of the runs of the document, or the line of a refusal that has its
-- cause.
abbrev pub IsToBeWritten : List (List ℕ) → Sayings → Option (List ℕ) → ℕ → ℕ → List ℕ → Type 0
IsToBeWritten words Says document before now text =
    (GiveOptions words × IfSome document (λ bytes. (length bytes ≤ most_bytes) × ((status : Status) × IsReport bytes words Says status text)))
    ⊎ ((refusal : PlainRefusal) × HasCause refusal words document before now × (text ≡ error_line refusal))

-- The status is the wanted one, but for want of memory and for faults of the source and of the sink.
abbrev pub IsOrExcused : Status → Status → Type 0 → Type 0 → Type 0
IsOrExcused status wanted read write = (status ≡ wanted) ⊎ ((status ≡ statuses.Memory) ⊎ (read ⊎ write))

-- The status is that of a report, but for the same.
abbrev pub IsReportedOrExcused : Status → Type 0 → Type 0 → Type 0
IsReportedOrExcused status read write = IsReported status ⊎ ((status ≡ statuses.Memory) ⊎ (read ⊎ write))

-- What a status tells after the line of a refusal was to be written to a sink, by what the sink holds before and after, and
-- its counts of faults: the line was written; or memory was wanted, and the sink is as it was; or it had a fault, and holds a
-- proper part of the line.
pub record IsRefused (refusal : PlainRefusal) (status : Status) (old new : Option (List ℕ)) (before now : ℕ) : Type 0 where
  pub outcome : (status ≡ status_of refusal) ⊎ ((status ≡ statuses.Memory) ⊎ (status ≡ statuses.WriteFault))
  pub line : status ≡ status_of refusal → Appends old new (error_line refusal)
  pub memory : status ≡ statuses.Memory → new ≡ old
  pub part : status ≡ statuses.WriteFault → AppendsProperPrefix old new (error_line refusal)
  pub fault : status ≡ statuses.WriteFault → Rose before now
