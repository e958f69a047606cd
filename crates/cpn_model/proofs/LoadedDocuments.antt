-- What is loaded of bytes: its monitors have well spelled names, and the first of its phases starts from the initial marking.
use Rattle.std.proofs.Common.{◌≡◌, ℕ, true, List, [], ◌∷◌, map, refl, sym, subst}
use Rattle.std.specs.List.{list_all}
use Rattle.std.proofs.lemmas.Bool.{and_parts, and_from}
use Rattle.cpn_definitions.specs.DistinctNames.{is_path}
use Rattle.cpn_document.specs.Document.{RawDocument}
use Rattle.cpn_document.specs.Monitors.{RawMonitor}
use Rattle.cpn_document.specs.Phases.{StartInitially}
use Rattle.cpn_document.specs.Reading as form
use Rattle.cpn_document.specs.Reading.{IsDocument}
use Rattle.cpn_document.specs.Texts.{is_name}
use Rattle.cpn_document.proofs.WellFormed.{documents_are_well_formed}
use Rattle.cpn_file.specs.Reading.{read}
use Rattle.cpn_file.specs.Reads.{IsReadingOf, IsReadAs}
use Rattle.cpn_file.proofs.LoadedParts.{loaded_of}
use Rattle.cpn_flat.specs.Flat.{PlainLoaded}
use Rattle.cpn_flat.proofs.JoinedNames.{spelled_from_name}
use Rattle.cpn_typing.specs.Consistency.{IsConsistent}

-- names are well spelled
all_spelled : (monitors : List RawMonitor) → list_all is_name (map (λ monitor. monitor.name) monitors) ≡ true → list_all (λ (monitor : RawMonitor). is_path monitor.name) monitors ≡ true
all_spelled [] h = refl
all_spelled (monitor ∷ monitors) h =
    let parts = and_parts (is_name monitor.name) (list_all is_name (map (λ m. m.name) monitors)) h in
    and_from (is_path monitor.name) (list_all (λ (m : RawMonitor). is_path m.name) monitors) (spelled_from_name monitor.name parts.0) (all_spelled monitors parts.1)

-- What is read of bytes: consistent declarations, monitors with well spelled names, and phases the first of which starts from the initial
-- marking.
pub record IsReadWell (loaded : PlainLoaded) : Type 0 where
  pub consistent : IsConsistent loaded.declared
  pub spelled : list_all (λ (monitor : RawMonitor). is_path monitor.name) loaded.monitors ≡ true
  pub starts : StartInitially loaded.phases

of_reading : (bytes : List ℕ) (document : form.Reading RawDocument) (loaded : PlainLoaded) → IsDocument bytes document → IsReadingOf document (read loaded) → IsReadWell loaded
of_reading bytes (form.read d) loaded formed h =
    let is = loaded_of d loaded h in
    let well = documents_are_well_formed bytes d formed in
    let named = all_spelled d.monitors well.well_named.monitors.formed in
    record {
      consistent = is.consistent;
      spelled = subst (λ (monitors : List RawMonitor). list_all (λ (monitor : RawMonitor). is_path monitor.name) monitors ≡ true) (sym is.monitors_are) named;
      starts = subst StartInitially (sym is.phases_are) well.starts;
    }
of_reading bytes (form.refused refusal) loaded formed h = cc

-- The law.
pub read_well : (bytes : List ℕ) (loaded : PlainLoaded) → IsReadAs bytes (read loaded) → IsReadWell loaded
read_well bytes loaded is = of_reading bytes is.0 loaded is.1 is.2
