-- How a call answers what the bytes of a document are as a model.
use Rattle.std.specs.Prelude.{◌≡◌, Option, None, option_map, Result, Ok, Err}
use Rattle.cpn_edit_texts.specs.Answers.{edit_refusal_of}
use Rattle.cpn_file.specs.Answers.{load_refusal_of}
use Rattle.cpn_readings.specs.Reading.{Refuses}
use Rattle.cpn_model.specs.Reading.{ModelRefusal, of_document, of_edits, Reading, read}
use Rattle.cpn_model.specs.declared.refusals.ModelError.{ModelError}
use Rattle.cpn_model.specs.declared.refusals.ModelError.TheVariants as errors

-- the refusal of a model that an error is; want of memory is none
abbrev pub model_refusal_of : ModelError → Option ModelRefusal
model_refusal_of errors.Memory = None
model_refusal_of (errors.Document e) = option_map of_document (load_refusal_of e)
model_refusal_of (errors.Edit e) = option_map of_edits (edit_refusal_of e)

-- an answer gives the value that was to be read, as it is seen, or its refusal
abbrev pub Opens : {X Y : Type 0} → (X → Y) → Result X ModelError → Reading Y → Type 0
Opens view (Ok x) reading = reading ≡ read (view x)
Opens view (Err e) reading = Refuses (model_refusal_of e) reading
