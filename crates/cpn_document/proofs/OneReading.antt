-- Bytes are read as at most one thing.
use Rattle.std.proofs.Common.{◌≡◌, ℕ, List, refl, sym, ap, ◌∙◌}
use Rattle.std.specs.Prelude.{Option, Some, None, Result, IfSome, IfErr, IsErrAnd}
use Rattle.std.proofs.lemmas.Result.{err_from_is_err_and}
use Rattle.serde_json.specs.Data.{Data}
use Rattle.cpn_document.specs.Refusals.{FormRefusal, not_json}
use Rattle.cpn_document.specs.Rules.{first_broken}
use Rattle.cpn_document.specs.Document.{RawDocument, version_in, document_in, document_rules}
use Rattle.cpn_document.specs.Json.{IsJson, HasJson}
use Rattle.cpn_document.specs.Reading.{Reading, read, refused, document_of, IsDocument, of_json, of_none}
use Rattle.cpn_document.specs.Answers.{refusal_of, Breaks}
use Rattle.cpn_document.specs.declared.refusals.DocError.{DocError}

-- the value of an option, or another one in place of none
abbrev or_this : {A : Type 0} → A → Option A → A
or_this x (Some y) = y
or_this x None = x

one_value : (bytes : List ℕ) (d e : Data) → IsJson bytes d → IsJson bytes e → d ≡ e
one_value bytes d e h k = ap (or_this d) (sym h.1 ∙ k.1)

-- where bytes are a JSON value, they are read as it is
of_value : (bytes : List ℕ) (reading : Reading RawDocument) (d : Data) → IsDocument bytes reading → IsJson bytes d → reading ≡ document_of d
of_value bytes reading d (of_json e k) h = ap document_of (one_value bytes e d k h)
of_value bytes reading d (of_none none) h = absurd (none d h)

-- where they are none, they are refused as that
of_no_value : (bytes : List ℕ) (reading : Reading RawDocument) → IsDocument bytes reading → HasJson bytes None → reading ≡ refused not_json
of_no_value bytes reading (of_json e k) none = absurd (none e k)
of_no_value bytes reading (of_none k) none = refl

-- two readings of bytes are one
pub one_reading : (bytes : List ℕ) (first second : Reading RawDocument) → IsDocument bytes first → IsDocument bytes second → first ≡ second
one_reading bytes first second (of_json d h) k = sym (of_value bytes second d k h)
one_reading bytes first second (of_none none) k = sym (of_no_value bytes second k none)

-- ---- what a call answers

-- a document, of a value that keeps the rules
pub read_as : (bytes : List ℕ) (d : Data) (document : RawDocument) → IsJson bytes d → document ≡ document_in d → first_broken (document_rules (version_in d) d) ≡ None → IsDocument bytes (read document)
read_as bytes d document h same kept =
    let is : document_of d ≡ read document = rw (kept, same) refl in
    rw (← is) (of_json d h)

-- the refusal of the first rule that a value breaks
refused_as : (bytes : List ℕ) (d : Data) (refusal : FormRefusal) → IsJson bytes d → first_broken (document_rules (version_in d) d) ≡ Some refusal → IsDocument bytes (refused refusal)
refused_as bytes d refusal h broken =
    let is : document_of d ≡ refused refusal = rw broken refl in
    rw (← is) (of_json d h)

pub refused_by_rules : (bytes : List ℕ) (d : Data) (refusal : Option FormRefusal) → IsJson bytes d → Breaks refusal (document_rules (version_in d) d) → IfSome refusal (λ r. IsDocument bytes (refused r))
refused_by_rules bytes d None h broken = tt
refused_by_rules bytes d (Some refusal) h broken = refused_as bytes d refusal h (sym broken)

-- the refusal of bytes that are no value
pub refused_as_none : (bytes : List ℕ) (refusal : Option FormRefusal) → IfSome refusal (λ r. r ≡ not_json) → IfSome refusal (λ r. HasJson bytes None) → IfSome refusal (λ r. IsDocument bytes (refused r))
refused_as_none bytes None same none = tt
refused_as_none bytes (Some refusal) same none = rw same (of_none none)

-- the refusal at the exit of a call
pub refused_at_exit : {T : Type 0} (bytes : List ℕ) (result : Result T DocError) (error : DocError) → IsErrAnd result (λ e. e ≡ error) → IfSome (refusal_of error) (λ r. IsDocument bytes (refused r)) → IfErr result (λ e. IfSome (refusal_of e) (λ r. IsDocument bytes (refused r)))
refused_at_exit bytes result error h k = let p = err_from_is_err_and result h in rw (p.1, p.2) k
