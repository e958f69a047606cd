-- What the bytes of a document are read as. Source: own choice.
use Rattle.std.specs.Prelude.{◌≡◌, ℕ, List}
use Rattle.cpn_readings.specs.Relations.{◌>>=◌, refused_by}
use Rattle.cpn_document.specs.Document.{RawDocument}
use Rattle.cpn_document.specs.Reading as form
use Rattle.cpn_document.specs.Reading.{IsDocument}
use Rattle.cpn_module_nets.specs.Documents.{accepted_in}
use Rattle.cpn_flat.specs.Flat.{PlainLoaded, flat_in}
use Rattle.cpn_file.specs.Reading.{Reading, refused, of_form, of_net, of_flat}

-- What a document is read as: its declarations, modules and texts are accepted in their order; then its flat net is made, with the
-- initial marking.
unfoldable pub loaded_in : RawDocument → Reading PlainLoaded → Type 0
loaded_in d = do
  accepted ← refused_by of_net (accepted_in d)
  refused_by of_flat (flat_in d accepted)

-- what a document is read as, or the refusal of its form
abbrev pub IsReadingOf : form.Reading RawDocument → Reading PlainLoaded → Type 0
IsReadingOf (form.read document) reading = loaded_in document reading
IsReadingOf (form.refused refusal) reading = reading ≡ refused (of_form refusal)

-- What the bytes of a document are read as: the net and the initial marking of the document that they are, or the first refusal.
-- Bytes have at most one reading.
abbrev pub IsReadAs : List ℕ → Reading PlainLoaded → Type 0
IsReadAs bytes reading = (document : form.Reading RawDocument) × IsDocument bytes document × IsReadingOf document reading
