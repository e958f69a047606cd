-- What is loaded and has its monitors and its phases is a model, and nothing else is.
use Rattle.std.proofs.Common.{◌≡◌, ℕ, List, Option, Some, None, refl}
use Rattle.std.specs.Prelude.{option_map, IfSome}
use Rattle.cpn_definitions.specs.Net.{PlainNet}
use Rattle.cpn_document.specs.Monitors.{RawMonitor}
use Rattle.cpn_document.specs.Phases.{RawPhase}
use Rattle.cpn_edit_texts.specs.Checked.{phases_so}
use Rattle.cpn_edit_texts.specs.Edits.{EditedPhase}
use Rattle.cpn_edit_texts.specs.Reading.{EditRefusal, of_monitors}
use Rattle.cpn_file.specs.Reading as files
use Rattle.cpn_file.specs.Reads.{IsReadAs}
use Rattle.cpn_flat.specs.Flat.{PlainLoaded}
use Rattle.cpn_monitor.specs.Monitors.{PlainMonitor}
use Rattle.cpn_monitor_texts.specs.Checked.{monitors_so}
use Rattle.cpn_monitor_texts.specs.Reading.{MonitorRefusal}
use Rattle.cpn_readings.specs.Reading as readings
use Rattle.cpn_readings.specs.Reading.{Refuses}
use Rattle.cpn_readings.specs.Relations.{refused_by, RefusesBy, HasOne}
use Rattle.cpn_readings.proofs.RelatedReadings.{then_read, then_refused, refused_first, refused_next, just_one, then_one, refused_by_one}
use Rattle.cpn_typing.specs.Names.{Declared}
use Rattle.cpn_model.specs.Models.{model_in, IsModel}
use Rattle.cpn_model.specs.Reading.{PlainModel, ModelRefusal, of_document, of_edits, Reading, read, refused}

-- a refusal, seen as one of another kind
seen_refused : {R S A : Type 0} (kind : R → S) (Reads : readings.Reading R A → Type 0) (o : Option R) → RefusesBy Reads o → RefusesBy (refused_by kind Reads) (option_map kind o)
seen_refused kind Reads None h = tt
seen_refused kind Reads (Some r) h = (readings.refused r, h, refl)

-- ---- what is loaded

module _ (loaded : PlainLoaded) where
  -- its monitors, whose refusals are those of its edits
  abbrev Monitors : readings.Reading EditRefusal (List PlainMonitor) → Type 0
  Monitors = refused_by of_monitors (monitors_so loaded.declared loaded.net loaded.monitors)

  -- a monitor is refused
  pub monitor_refused : (o : Option MonitorRefusal) → RefusesBy (monitors_so loaded.declared loaded.net loaded.monitors) o → RefusesBy (model_in loaded) (option_map of_monitors o)
  unfolding model_in
  monitor_refused o h = refused_first Monitors _ (option_map of_monitors o) (seen_refused of_monitors (monitors_so loaded.declared loaded.net loaded.monitors) o h)

  module _ (ms : List PlainMonitor) (are : monitors_so loaded.declared loaded.net loaded.monitors (readings.read ms)) where
    -- an edit is
    pub edit_refused : (o : Option EditRefusal) → RefusesBy (phases_so loaded.declared ms 0 loaded.net loaded.phases) o → RefusesBy (model_in loaded) o
    unfolding model_in
    edit_refused o h = refused_next Monitors _ ms o (readings.read ms, are, refl) (refused_first (phases_so loaded.declared ms 0 loaded.net loaded.phases) _ o h)

    -- all are accepted
    pub model_made : (phases : List EditedPhase) → phases_so loaded.declared ms 0 loaded.net loaded.phases (readings.read phases) → model_in loaded (readings.read (record { loaded = loaded; monitors = ms; phases = phases }))
    unfolding model_in
    model_made phases h =
        let model : PlainModel = record { loaded = loaded; monitors = ms; phases = phases } in
        then_read Monitors _ ms (readings.read model) (readings.read ms, are, refl) (then_read (phases_so loaded.declared ms 0 loaded.net loaded.phases) _ phases (readings.read model) h refl)

-- ---- bytes

-- bytes have at most one reading; monitors, and phases, are at most one thing in a net
abbrev pub HaveOneReading : List ℕ → Type 0
HaveOneReading bytes = (reading other : files.Reading PlainLoaded) → IsReadAs bytes reading → IsReadAs bytes other → reading ≡ other

abbrev pub AreOneMonitors : Type 0
AreOneMonitors = (ds : Declared) (n : PlainNet) (raws : List RawMonitor) → HasOne (monitors_so ds n raws)

abbrev pub AreOnePhases : Type 0
AreOnePhases = (ds : Declared) (ms : List PlainMonitor) (p : ℕ) (n : PlainNet) (raws : List RawPhase) → HasOne (phases_so ds ms p n raws)

loaded_one : AreOneMonitors → AreOnePhases → (loaded : PlainLoaded) → HasOne (model_in loaded)
unfolding model_in
loaded_one monitors_one phases_one loaded =
    then_one (Monitors loaded) _ (refused_by_one of_monitors (monitors_so loaded.declared loaded.net loaded.monitors) (monitors_one loaded.declared loaded.net loaded.monitors))
    (λ ms. then_one (phases_so loaded.declared ms 0 loaded.net loaded.phases) _ (phases_one loaded.declared ms 0 loaded.net loaded.phases) (λ phases. just_one (readings.read (record { loaded = loaded; monitors = ms; phases = phases }))))

-- bytes are at most one model
pub one_model : (bytes : List ℕ) → HaveOneReading bytes → AreOneMonitors → AreOnePhases → HasOne (IsModel bytes)
unfolding IsModel
one_model bytes one monitors_one phases_one =
    then_one (refused_by of_document (IsReadAs bytes)) _ (refused_by_one of_document (IsReadAs bytes) one) (λ loaded. refused_by_one of_edits (model_in loaded) (loaded_one monitors_one phases_one loaded))

module _ (bytes : List ℕ) where
  -- the document is refused
  pub refused_document : (o : Option files.Refusal) → IfSome o (λ r. IsReadAs bytes (files.refused r)) → IfSome (option_map of_document o) (λ r. IsModel bytes (refused r))
  unfolding IsModel
  refused_document None h = tt
  refused_document (Some r) h = then_refused (refused_by of_document (IsReadAs bytes)) _ (of_document r) (files.refused r, h, refl)

  module _ (loaded : PlainLoaded) (is : IsReadAs bytes (files.read loaded)) where
    -- what is loaded is no model
    pub refused_loaded : (o : Option EditRefusal) → RefusesBy (model_in loaded) o → IfSome (option_map of_edits o) (λ r. IsModel bytes (refused r))
    unfolding IsModel
    refused_loaded None h = tt
    refused_loaded (Some r) h = then_read (refused_by of_document (IsReadAs bytes)) _ loaded (refused (of_edits r)) (files.read loaded, is, refl) (readings.refused r, h, refl)

    -- it is
    pub is_model : (model : PlainModel) → model_in loaded (readings.read model) → IsModel bytes (read model)
    unfolding IsModel
    is_model model h = then_read (refused_by of_document (IsReadAs bytes)) _ loaded (read model) (files.read loaded, is, refl) (readings.read model, h, refl)

  -- bytes that are refused so are read as nothing else
  pub refuses_as : HasOne (IsModel bytes) → (o : Option ModelRefusal) (reading : Reading PlainModel) → IfSome o (λ r. IsModel bytes (refused r)) → IsModel bytes reading → Refuses o reading
  refuses_as one None reading h is = tt
  refuses_as one (Some r) reading h is = one reading (refused r) is h
