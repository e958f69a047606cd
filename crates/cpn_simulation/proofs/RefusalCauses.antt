-- What follows from a refusal that has its cause, and from what was written of it.
use Rattle.std.proofs.Common.{◌≡◌, Bool, true, false, ℕ, ◌<◌, ◌≤◌, ◌⊎◌, List, length, Option, Some, None, IfSome, refl, sym, ap, ◌∙◌, subst, inl, inr, ⊎_elim, arith}
use Rattle.std.proofs.lemmas.Option.{same_Some}
use Rattle.std.specs.Option.{MatchOption}
use Rattle.std.specs.Io.KnownBytes.{Appends}
use Rattle.cpn_edit_texts.specs.Reading.{unknown_name, bad_text, faulty, of_monitors}
use Rattle.cpn_module_nets.specs.Reading.{of_modules, inscription}
use Rattle.cpn_monitor_texts.specs.Reading as monitors
use Rattle.cpn_file.specs.Reading.{of_form, of_net, of_flat}
use Rattle.cpn_model.specs.Reading.{PlainModel, ModelRefusal, of_document, of_edits, Reading, read, refused}
use Rattle.cpn_model.specs.Models.{IsModel}
use Rattle.cpn_model.specs.Lines.{model_line}
use Rattle.cpn_io.specs.Outside.{Rose, AppendsProperPrefix}
use Rattle.cpn_simulation.specs.Limits.{most_bytes}
use Rattle.cpn_simulation.specs.Options.{PlainOptions, options_from}
use Rattle.cpn_simulation.specs.Causes.{PlainRefusal, bad_words, read_fault, too_long, bad_document, HasCause, HaveOneReading, IsReadOnce, error_line, status_of, status_of_document, IsOrExcused, IsReportedOrExcused, IsRefused}
use Rattle.cpn_simulation.specs.Reported.{IsReported}
use Rattle.cpn_simulation.specs.declared.refusals.Refusal.{Refusal as TheRefusal}
use Rattle.cpn_simulation.specs.declared.refusals.Refusal.TheVariants as refusals
use Rattle.cpn_simulation.specs.declared.statuses.Status.{Status}
use Rattle.cpn_simulation.specs.declared.statuses.Status.TheVariants as statuses
use Rattle.cpn_simulation.proofs.OneReport.{read_not_refused}

-- ---- the causes exclude each other

not_both : (o : Option PlainOptions) (options : PlainOptions) → o ≡ None → o ≡ Some options → ⊥
not_both o options none some = cc

given_left : (P : List ℕ → Type 0) (left : Option (List ℕ)) (bytes : List ℕ) → left ≡ Some bytes → IfSome left P → P bytes
given_left P left bytes is holds = let Q : Option (List ℕ) → Type 0 = λ o. IfSome o P in subst Q is holds

-- where the words give no options they are refused
pub cause_of_words : (refusal : PlainRefusal) (words : List (List ℕ)) (left : Option (List ℕ)) (before now : ℕ) → HasCause refusal words left before now → options_from words ≡ None → refusal ≡ bad_words
cause_of_words bad_words words left before now cause none = refl
cause_of_words read_fault words left before now cause none = absurd (not_both (options_from words) cause.0.0 none cause.0.1)
cause_of_words too_long words left before now cause none = absurd (not_both (options_from words) cause.0.0 none cause.0.1)
cause_of_words (bad_document r) words left before now cause none = absurd (not_both (options_from words) cause.0.0 none cause.0.1)

-- where they give options, and more bytes are left than a document may have, the refusal is for that, but for a fault
pub cause_of_length : (refusal : PlainRefusal) (words : List (List ℕ)) (left : Option (List ℕ)) (before now : ℕ) → HasCause refusal words left before now
    → (options : PlainOptions) → options_from words ≡ Some options → (bytes : List ℕ) → left ≡ Some bytes → most_bytes < length bytes
    → (refusal ≡ too_long) ⊎ Rose before now
cause_of_length bad_words words left before now cause options some bytes is long = absurd (not_both (options_from words) options cause some)
cause_of_length read_fault words left before now cause options some bytes is long = inr cause.1
cause_of_length too_long words left before now cause options some bytes is long = inl refl
cause_of_length (bad_document r) words left before now cause options some bytes is long =
    let short : length bytes ≤ most_bytes = (given_left (λ b. (length b ≤ most_bytes) × IsModel b (refused r)) left bytes is cause.1).0 in
    absurd (omega arith)

-- where no more are left, the refusal is of the document, but for a fault
pub cause_of_document : (refusal : PlainRefusal) (words : List (List ℕ)) (left : Option (List ℕ)) (before now : ℕ) → HasCause refusal words left before now
    → (options : PlainOptions) → options_from words ≡ Some options → (bytes : List ℕ) → left ≡ Some bytes → length bytes ≤ most_bytes
    → ((r : ModelRefusal) × (refusal ≡ bad_document r) × IsModel bytes (refused r)) ⊎ Rose before now
cause_of_document bad_words words left before now cause options some bytes is short = absurd (not_both (options_from words) options cause some)
cause_of_document read_fault words left before now cause options some bytes is short = inr cause.1
cause_of_document too_long words left before now cause options some bytes is short =
    let long : most_bytes < length bytes = given_left (λ b. most_bytes < length b) left bytes is cause.1 in
    absurd (omega arith)
cause_of_document (bad_document r) words left before now cause options some bytes is short =
    inl (r, refl, (given_left (λ b. (length b ≤ most_bytes) × IsModel b (refused r)) left bytes is cause.1).1)

-- ---- statuses

-- whether a status is that of a refusal of the document
abbrev pub is_of_document : Status → Bool
is_of_document statuses.Done = false
is_of_document statuses.BadWords = false
is_of_document statuses.ReadFault = false
is_of_document statuses.BadDocument = true
is_of_document statuses.BadInscription = true
is_of_document statuses.BadNet = true
is_of_document statuses.RunFault = false
is_of_document statuses.WriteFault = false
is_of_document statuses.Memory = false
is_of_document statuses.TooLong = false

of_its_status : (r : ModelRefusal) → is_of_document (status_of_document r) ≡ true
of_its_status (of_document (of_form reason)) = refl
of_its_status (of_document (of_net (inscription place reason))) = refl
of_its_status (of_document (of_net (of_modules reason))) = refl
of_its_status (of_document (of_flat reason)) = refl
of_its_status (of_edits (of_monitors (monitors.unknown_name i))) = refl
of_its_status (of_edits (of_monitors (monitors.bad_text i reason))) = refl
of_its_status (of_edits (unknown_name place)) = refl
of_its_status (of_edits (bad_text place reason)) = refl
of_its_status (of_edits (faulty place fault)) = refl

-- a status that is no document's is not that of one
no_document : {A : Type 0} (r : ModelRefusal) (status : Status) → is_of_document status ≡ false → status_of_document r ≡ status → A
no_document r status none is = let e : true ≡ false = sym (of_its_status r) ∙ ap is_of_document is ∙ none in absurd cc

-- the refusal of a status
of_words : (refusal : PlainRefusal) → status_of refusal ≡ statuses.BadWords → refusal ≡ bad_words
of_words bad_words is = refl
of_words read_fault is = absurd cc
of_words too_long is = absurd cc
of_words (bad_document r) is = no_document r statuses.BadWords refl is

of_read : (refusal : PlainRefusal) → status_of refusal ≡ statuses.ReadFault → refusal ≡ read_fault
of_read bad_words is = absurd cc
of_read read_fault is = refl
of_read too_long is = absurd cc
of_read (bad_document r) is = no_document r statuses.ReadFault refl is

of_length : (refusal : PlainRefusal) → status_of refusal ≡ statuses.TooLong → refusal ≡ too_long
of_length bad_words is = absurd cc
of_length read_fault is = absurd cc
of_length too_long is = refl
of_length (bad_document r) is = no_document r statuses.TooLong refl is

-- the refusal of a status of the document is one of the document
of_a_document : (refusal : PlainRefusal) (s : Status) → is_of_document s ≡ true → status_of refusal ≡ s → (r : ModelRefusal) × (refusal ≡ bad_document r) × (status_of_document r ≡ s)
of_a_document bad_words s its is = let e : false ≡ true = ap is_of_document is ∙ its in absurd cc
of_a_document read_fault s its is = let e : false ≡ true = ap is_of_document is ∙ its in absurd cc
of_a_document too_long s its is = let e : false ≡ true = ap is_of_document is ∙ its in absurd cc
of_a_document (bad_document r) s its is = (r, refl, is)

is_no_report : (refusal : PlainRefusal) → IsReported (status_of refusal) → ⊥
is_no_report bad_words (inl is) = cc
is_no_report bad_words (inr is) = cc
is_no_report read_fault (inl is) = cc
is_no_report read_fault (inr is) = cc
is_no_report too_long (inl is) = cc
is_no_report too_long (inr is) = cc
is_no_report (bad_document r) (inl is) = no_document r statuses.Done refl is
is_no_report (bad_document r) (inr is) = no_document r statuses.RunFault refl is

-- a refusal that is not for want of memory is a plain one
pub plain_of : {C O W : PlainRefusal → Type 0} (refusal : TheRefusal) (view : Option PlainRefusal) → MatchOption view (refusal ≡ refusals.Memory) C → IfSome view O → IfSome view W → (refusal ≡ refusals.Memory → ⊥) → (plain : PlainRefusal) × C plain × O plain × W plain
plain_of refusal None memory once written not_memory = absurd (not_memory memory)
plain_of refusal (Some plain) cause once written not_memory = (plain, cause, once, written)

-- the refusal that is read, if one is
abbrev the_refusal : Reading PlainModel → Option ModelRefusal
the_refusal (read model) = None
the_refusal (refused r) = Some r

same_refusal : (bytes : List ℕ) → HaveOneReading bytes → (r r' : ModelRefusal) → IsModel bytes (refused r) → IsModel bytes (refused r') → r ≡ r'
same_refusal bytes one r r' a b = same_Some r r' (ap the_refusal (one (refused r) (refused r') a b))

-- the status of the refusal, or an excuse
excused : (refusal : PlainRefusal) (status wanted : Status) (old new : Option (List ℕ)) (faults now : ℕ) (fault : Type 0) → IsRefused refusal status old new faults now → status_of refusal ≡ wanted → IsOrExcused status wanted fault (Rose faults now)
excused refusal status wanted old new faults now fault written is =
    ⊎_elim (λ same. inl (same ∙ is)) (λ other. ⊎_elim (λ memory. inr (inl memory)) (λ write. inr (inr (inr (written.fault write)))) other) written.outcome

module _ (refusal : PlainRefusal) (words : List (List ℕ)) (left : Option (List ℕ)) (before after : ℕ) (status : Status) (old new : Option (List ℕ)) (faults now : ℕ) (cause : HasCause refusal words left before after) (once : IsReadOnce refusal left) (written : IsRefused refusal status old new faults now) where
  -- a status that tells of no want of memory and of no fault of the sink is that of the refusal
  told : (s : Status) → (s ≡ statuses.Memory → ⊥) → (s ≡ statuses.WriteFault → ⊥) → status ≡ s → status_of refusal ≡ s
  told s not_memory not_write is =
      ⊎_elim (λ same. sym same ∙ is) (λ other. ⊎_elim (λ memory. absurd (not_memory (sym is ∙ memory))) (λ write. absurd (not_write (sym is ∙ write))) other) written.outcome

  -- what holds where the status is the given one
  having : (s : Status) (r : PlainRefusal) → status ≡ s → status_of refusal ≡ s → refusal ≡ r → HasCause r words left before after × Appends old new (error_line r)
  having s r is same which =
      let Caused : PlainRefusal → Type 0 = λ q. HasCause q words left before after in
      let Told : PlainRefusal → Type 0 = λ q. Appends old new (error_line q) in
      (subst Caused which cause, subst Told which (written.line (is ∙ sym same)))

  pub no_report : IsReported status → ⊥
  no_report (inl is) = is_no_report refusal (inl (told statuses.Done (λ e. cc) (λ e. cc) is))
  no_report (inr is) = is_no_report refusal (inr (told statuses.RunFault (λ e. cc) (λ e. cc) is))

  pub words_told : status ≡ statuses.BadWords → HasCause bad_words words left before after × Appends old new (error_line bad_words)
  words_told is = let same = told statuses.BadWords (λ e. cc) (λ e. cc) is in having statuses.BadWords bad_words is same (of_words refusal same)

  pub read_told : status ≡ statuses.ReadFault → HasCause read_fault words left before after × Appends old new (error_line read_fault)
  read_told is = let same = told statuses.ReadFault (λ e. cc) (λ e. cc) is in having statuses.ReadFault read_fault is same (of_read refusal same)

  pub long_told : status ≡ statuses.TooLong → HasCause too_long words left before after × Appends old new (error_line too_long)
  long_told is = let same = told statuses.TooLong (λ e. cc) (λ e. cc) is in having statuses.TooLong too_long is same (of_length refusal same)

  pub document_told : (s : Status) → is_of_document s ≡ true → (s ≡ statuses.Memory → ⊥) → (s ≡ statuses.WriteFault → ⊥) → status ≡ s → (r : ModelRefusal) × HasCause (bad_document r) words left before after × (status_of_document r ≡ s) × Appends old new (model_line r)
  document_told s its not_memory not_write is =
      let same = told s not_memory not_write is in
      let which = of_a_document refusal s its same in
      let both = having s (bad_document which.0) is same which.1 in
      (which.0, both.0, which.2, both.1)

  pub refused_words : options_from words ≡ None → (status ≡ statuses.BadWords) ⊎ ((status ≡ statuses.Memory) ⊎ Rose faults now)
  refused_words none =
      let which : refusal ≡ bad_words = cause_of_words refusal words left before after cause none in
      ⊎_elim (λ same. inl (same ∙ ap status_of which)) (λ other. ⊎_elim (λ memory. inr (inl memory)) (λ write. inr (inr (written.fault write))) other) written.outcome

  pub refused_long : (options : PlainOptions) → options_from words ≡ Some options → (bytes : List ℕ) → left ≡ Some bytes → most_bytes < length bytes → IsOrExcused status statuses.TooLong (Rose before after) (Rose faults now)
  refused_long options some bytes is long =
      ⊎_elim (λ which. excused refusal status statuses.TooLong old new faults now (Rose before after) written (ap status_of which)) (λ rose. inr (inr (inl rose)))
      (cause_of_length refusal words left before after cause options some bytes is long)

  -- the document that is left has one reading, where its refusal is the cause
  read_once : (bytes : List ℕ) → left ≡ Some bytes → (r : ModelRefusal) → refusal ≡ bad_document r → HaveOneReading bytes
  read_once bytes is r which = given_left HaveOneReading left bytes is (let Q : PlainRefusal → Type 0 = λ q. IsReadOnce q left in subst Q which once)

  pub refused_document : (wanted : Status) (options : PlainOptions) → options_from words ≡ Some options → (bytes : List ℕ) → left ≡ Some bytes → length bytes ≤ most_bytes → (r : ModelRefusal) → IsModel bytes (refused r) → status_of_document r ≡ wanted → IsOrExcused status wanted (Rose before after) (Rose faults now)
  refused_document wanted options some bytes is short r reads its =
      ⊎_elim
      (λ which.
      let same : which.0 ≡ r = same_refusal bytes (read_once bytes is which.0 which.1) which.0 r which.2 reads in
      excused refusal status wanted old new faults now (Rose before after) written (ap status_of which.1 ∙ ap status_of_document same ∙ its))
      (λ rose. inr (inr (inl rose)))
      (cause_of_document refusal words left before after cause options some bytes is short)

  pub refused_complete : (options : PlainOptions) → options_from words ≡ Some options → (bytes : List ℕ) → left ≡ Some bytes → length bytes ≤ most_bytes → (model : PlainModel) → IsModel bytes (read model) → IsReportedOrExcused status (Rose before after) (Rose faults now)
  refused_complete options some bytes is short model reads =
      ⊎_elim (λ which. absurd (read_not_refused bytes (read_once bytes is which.0 which.1) model which.0 reads which.2)) (λ rose. inr (inr (inl rose)))
      (cause_of_document refusal words left before after cause options some bytes is short)

-- ---- what was written of a refusal

-- its status is not that of want of memory, nor that of a fault of the sink
never_memory : {A : Type 0} (refusal : PlainRefusal) → status_of refusal ≡ statuses.Memory → A
never_memory bad_words is = absurd cc
never_memory read_fault is = absurd cc
never_memory too_long is = absurd cc
never_memory (bad_document r) is = no_document r statuses.Memory refl is

never_write_fault : {A : Type 0} (refusal : PlainRefusal) → status_of refusal ≡ statuses.WriteFault → A
never_write_fault bad_words is = absurd cc
never_write_fault read_fault is = absurd cc
never_write_fault too_long is = absurd cc
never_write_fault (bad_document r) is = no_document r statuses.WriteFault refl is

-- its line was written
pub line_written : (o : Option PlainRefusal) (status : Status) (line : List ℕ) (old new : Option (List ℕ)) (before now : ℕ)
    → IfSome o (λ plain. line ≡ error_line plain) → IfSome o (λ plain. status ≡ status_of plain) → Appends old new line → IfSome o (λ plain. IsRefused plain status old new before now)
line_written None status line old new before now same is appended = tt
line_written (Some plain) status line old new before now same is appended = record {
  outcome = inl is;
  line = λ _. subst (λ (text : List ℕ). Appends old new text) same appended;
  memory = λ memory. never_memory plain (sym is ∙ memory);
  part = λ fault. never_write_fault plain (sym is ∙ fault);
  fault = λ fault. never_write_fault plain (sym is ∙ fault);
}

-- the sink had a fault, and holds a part of it
pub part_written : (o : Option PlainRefusal) (line : List ℕ) (old new : Option (List ℕ)) (before now : ℕ)
    → IfSome o (λ plain. line ≡ error_line plain) → AppendsProperPrefix old new line → Rose before now → IfSome o (λ plain. IsRefused plain statuses.WriteFault old new before now)
part_written None line old new before now same part rose = tt
part_written (Some plain) line old new before now same part rose = record {
  outcome = inr (inr refl);
  line = λ is. never_write_fault plain (sym is);
  memory = λ is. absurd cc;
  part = λ _. subst (λ (text : List ℕ). AppendsProperPrefix old new text) same part;
  fault = λ _. rose;
}
