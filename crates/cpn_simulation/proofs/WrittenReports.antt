-- What a report that was written gives: its clauses, and that its status is no other.
use Rattle.std.proofs.Common.{◌≡◌, ℕ, ◌<◌, ◌≤◌, Bool, true, false, List, length, Some, None, Option, IfSome, sym, ap, ◌∙◌, subst, inl, inr, arith}
use Rattle.std.specs.Io.KnownBytes.{Appends}
use Rattle.cpn_model.specs.Reading.{PlainModel, ModelRefusal, read, refused}
use Rattle.cpn_model.specs.Models.{IsModel}
use Rattle.cpn_simulation.specs.Limits.{most_bytes}
use Rattle.cpn_simulation.specs.Options.{PlainOptions, options_from}
use Rattle.cpn_simulation.specs.Causes.{GiveOptions, HaveOneReading, IsToBeWritten}
use Rattle.cpn_simulation.specs.Reported.{Sayings, IsReported, IsReportOf, IsTheReport}
use Rattle.cpn_simulation.specs.declared.statuses.Status.{Status}
use Rattle.cpn_simulation.specs.declared.statuses.Status.TheVariants as statuses
use Rattle.cpn_simulation.proofs.OneReport.{read_not_refused, the_report}

-- whether a status is that of a report
abbrev pub is_of_report : Status → Bool
is_of_report statuses.Done = true
is_of_report statuses.BadWords = false
is_of_report statuses.ReadFault = false
is_of_report statuses.BadDocument = false
is_of_report statuses.BadInscription = false
is_of_report statuses.BadNet = false
is_of_report statuses.RunFault = true
is_of_report statuses.WriteFault = false
is_of_report statuses.Memory = false
is_of_report statuses.TooLong = false

of_report : (status : Status) → IsReported status → is_of_report status ≡ true
of_report status (inl is) = ap is_of_report is
of_report status (inr is) = ap is_of_report is

-- the status of a report is none of the others
pub no_other : {A : Type 0} (status other : Status) → IsReported status → is_of_report other ≡ false → status ≡ other → A
no_other status other reported none is = let e : true ≡ false = sym (of_report status reported) ∙ ap is_of_report is ∙ none in absurd cc

-- the report was written, under its status
pub written : (words : List (List ℕ)) (Says : Sayings) (left : Option (List ℕ)) (status given : Status) (report : List ℕ) (old new : Option (List ℕ))
    → IfSome left (λ bytes. (length bytes ≤ most_bytes) × IsTheReport bytes words Says given report) → given ≡ status → Appends old new report
    → IfSome left (λ bytes. (length bytes ≤ most_bytes) × ((text : List ℕ) × IsTheReport bytes words Says status text × Appends old new text))
written words Says None status given report old new is same appended = tt
written words Says (Some bytes) status given report old new is same appended = (is.0, (report, subst (λ s. IsTheReport bytes words Says s report) same is.1, appended))

-- a report of the net that bytes are read as is the one of the bytes that were left
pub read_reported : (words : List (List ℕ)) (Says : Sayings) (left : Option (List ℕ)) (bytes : List ℕ) (options : PlainOptions) (model : PlainModel) (status : Status) (report : List ℕ)
    → IfSome left (λ xs. bytes ≡ xs) → length bytes ≤ most_bytes → HaveOneReading bytes → options_from words ≡ Some options → IsModel bytes (read model) → IsReportOf model options Says status report
    → IfSome left (λ xs. (length xs ≤ most_bytes) × IsTheReport xs words Says status report)
read_reported words Says None bytes options model status report same short once given reads is = tt
read_reported words Says (Some xs) bytes options model status report same short once given reads is =
    subst (λ (bs : List ℕ). (length bs ≤ most_bytes) × IsTheReport bs words Says status report) same
    (short, the_report bytes once words Says status report (record { options = options; words_are = given; is_report = record { model = model; reads = reads; is_report = is } }))

-- and it is what is to be written
pub to_be_written : (words : List (List ℕ)) (Says : Sayings) (left : Option (List ℕ)) (before now : ℕ) (status : Status) (report : List ℕ)
    → GiveOptions words → IfSome left (λ bytes. (length bytes ≤ most_bytes) × IsTheReport bytes words Says status report) → IsToBeWritten words Says left before now report
to_be_written words Says None before now status report given is = inl (given, tt)
to_be_written words Says (Some bytes) before now status report given is = inl (given, (is.0, (status, is.1.is_report)))

-- where there is a report, the words give options
pub not_refused_words : (words : List (List ℕ)) → GiveOptions words → options_from words ≡ None → ⊥
not_refused_words words given none = let e : Some given.0 ≡ None = sym given.1 ∙ none in cc

module _ (words : List (List ℕ)) (Says : Sayings) (left : Option (List ℕ)) (status : Status) (report bytes : List ℕ) (is : left ≡ Some bytes) (reported : IfSome left (λ b. (length b ≤ most_bytes) × IsTheReport b words Says status report)) where
  of_these : (length bytes ≤ most_bytes) × IsTheReport bytes words Says status report
  of_these = subst (λ (o : Option (List ℕ)). IfSome o (λ b. (length b ≤ most_bytes) × IsTheReport b words Says status report)) is reported

  -- no more bytes are left than a document may have
  pub not_too_long : most_bytes < length bytes → ⊥
  not_too_long long = let short : length bytes ≤ most_bytes = of_these.0 in omega arith

  -- and they are not refused
  pub not_refused : IfSome left HaveOneReading → (r : ModelRefusal) → IsModel bytes (refused r) → ⊥
  not_refused once r refused_so =
      let one : HaveOneReading bytes = subst (λ (o : Option (List ℕ)). IfSome o HaveOneReading) is once in
      let is_report = of_these.1.is_report.is_report in
      read_not_refused bytes one is_report.model r is_report.reads refused_so
