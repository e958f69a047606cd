-- What the bytes of a document are read as, where their document is.
use Rattle.std.proofs.Common.{◌≡◌, ℕ, List, refl, sym, ◌∙◌, subst}
use Rattle.std.specs.Prelude.{Option, Some, None, IfSome, option_map, Err}
use Rattle.cpn_document.specs.Document.{RawDocument}
use Rattle.cpn_document.specs.Reading as form
use Rattle.cpn_document.specs.Reading.{IsDocument}
use Rattle.cpn_document.specs.Refusals.{FormRefusal}
use Rattle.cpn_flat.specs.Flat.{PlainLoaded}
use Rattle.cpn_readings.specs.Relations.{HasOne}
use Rattle.cpn_file.specs.Reading.{Refusal, Reading, refused, of_form}
use Rattle.cpn_file.specs.Reads.{loaded_in, IsReadingOf, IsReadAs}
use Rattle.cpn_file.specs.Answers.{Refuses, RefusesBy, load_refusal_of, Loads}
use Rattle.cpn_file.specs.declared.refusals.LoadError.{LoadError}

-- what refuses a document is what the bytes are refused with
pub refuses_read : (bytes : List ℕ) (document : RawDocument) (o : Option Refusal) → IsDocument bytes (form.read document) → RefusesBy (loaded_in document) o → IfSome o (λ refusal. IsReadAs bytes (refused refusal))
refuses_read bytes document None is h = tt
refuses_read bytes document (Some refusal) is h = (form.read document, is, h)

-- bytes that are no document are refused as such
pub refuses_form : (bytes : List ℕ) (o : Option FormRefusal) → IfSome o (λ refusal. IsDocument bytes (form.refused refusal)) → IfSome (option_map of_form o) (λ refusal. IsReadAs bytes (refused refusal))
refuses_form bytes None is = tt
refuses_form bytes (Some refusal) is = (form.refused refusal, is, refl)

module _ (loaded : (d : RawDocument) → HasOne (loaded_in d)) (bytes : List ℕ) (one : HasOne (IsDocument bytes)) where
  of_one : (document : form.Reading RawDocument) → HasOne (IsReadingOf document)
  of_one (form.read document) x y h k = loaded document x y h k
  of_one (form.refused refusal) x y h k = h ∙ sym k

  -- where documents have at most one reading, and bytes are at most one document, they have at most one reading
  pub one_reading : HasOne (IsReadAs bytes)
  one_reading x y h k = of_one k.0 x y (subst (λ v. IsReadingOf v x) (one h.0 k.0 h.1 k.1) h.2) k.2

  refuses_one : (o : Option Refusal) (reading : Reading PlainLoaded) → IfSome o (λ refusal. IsReadAs bytes (refused refusal)) → IsReadAs bytes reading → Refuses o reading
  refuses_one None reading h k = tt
  refuses_one (Some refusal) reading h k = one_reading reading (refused refusal) k h

  -- whatever they are read as is the refusal that is answered
  pub answered_none : {X : Type 0} (view : X → PlainLoaded) (e : LoadError) (reading : Reading PlainLoaded) → IfSome (load_refusal_of e) (λ refusal. IsReadAs bytes (refused refusal)) → IsReadAs bytes reading → Loads {X = X} view (Err e) reading
  answered_none view e reading h k = refuses_one (load_refusal_of e) reading h k
