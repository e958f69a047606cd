-- A document has one report under words that say one worker, with one status, where probes say the same.
use Rattle.std.proofs.Common.{◌≡◌, ℕ, List, sym, ◌∙◌, ap, subst}
use Rattle.std.proofs.Math.Path.{ap₂}
use Rattle.std.proofs.lemmas.Option.{same_Some}
use Rattle.cpn_edit.specs.Sessions.{phases_run}
use Rattle.cpn_edit.specs.Standing.{IsValid}
use Rattle.cpn_edit.proofs.OneSession.{one_session}
use Rattle.cpn_model.specs.Reading.{PlainModel, ModelRefusal, read, refused}
use Rattle.cpn_model.specs.Models.{IsModel}
use Rattle.cpn_report.specs.Report.{report_text}
use Rattle.cpn_runs.specs.Phases.{PlainPhase}
use Rattle.cpn_simulation.specs.Options.{PlainOptions}
use Rattle.cpn_simulation.specs.Causes.{HaveOneReading}
use Rattle.cpn_simulation.specs.Reported.{Sayings, say, IsReport, IsReportUnder, IsReportOf, IsTheReport, session_from, told_runs, status_after_all}
use Rattle.cpn_simulation.specs.declared.statuses.Status.{Status}
use Rattle.cpn_simulation.proofs.AcceptedSessions.{accepted_session}

-- what is read is not refused
pub read_not_refused : (bytes : List ℕ) → HaveOneReading bytes → (model : PlainModel) (r : ModelRefusal) → IsModel bytes (read model) → IsModel bytes (refused r) → ⊥
read_not_refused bytes one model r a b = let e : read model ≡ refused r = one (read model) (refused r) a b in cc

the_one_model : (bytes : List ℕ) → HaveOneReading bytes → (l l' : PlainModel) → IsModel bytes (read l) → IsModel bytes (read l') → l ≡ l'
the_one_model bytes once l l' a b = let e : read l ≡ read l' = once (read l) (read l') a b in cc

-- Two reports with their statuses are the same.
record IsSameReport (status status' : Status) (report other : List ℕ) : Type 0 where
  pub statuses : status ≡ status'
  pub reports : report ≡ other

module _ (Says : Sayings) (s s' : Status) (report other : List ℕ) where
  -- a model has one report under the options, where the probes say what they said
  of_one_model : (model : PlainModel) (options : PlainOptions) → IsValid (session_from model options) → options.workers ≡ 1 → (a : IsReportOf model options Says s report) → IsReportOf model options (say a.said) s' other → IsSameReport s s' report other
  of_one_model model options valid one a b =
      let same : a.runs ≡ b.runs = one_session (session_from model options) valid one a.runs b.runs a.are_runs b.are_runs in
      record {
        statuses = a.status_is ∙ ap status_after_all same ∙ sym b.status_is;
        reports = a.text_is ∙ ap₂ (λ (runs : List PlainPhase) (said : List (List ℕ)). report_text options.trace (told_runs (phases_run model.phases) runs) said) same (sym b.says) ∙ sym b.text_is;
      }

  -- and so have bytes under words
  one_report : (bytes : List ℕ) → HaveOneReading bytes → (words : List (List ℕ)) (a : IsReport bytes words Says s report) → a.options.workers ≡ 1 → IsReport bytes words (say a.is_report.is_report.said) s' other → IsSameReport s s' report other
  one_report bytes once words a one b =
      let said = a.is_report.is_report.said in
      let options : b.options ≡ a.options = same_Some b.options a.options (sym b.words_are ∙ a.words_are) in
      let under : IsReportUnder bytes a.options (say said) s' other = subst (λ (o : PlainOptions). IsReportUnder bytes o (say said) s' other) options b.is_report in
      let model : under.model ≡ a.is_report.model = the_one_model bytes once under.model a.is_report.model under.reads a.is_report.reads in
      of_one_model a.is_report.model a.options (accepted_session bytes words a.is_report.model a.options a.is_report.reads a.words_are) one a.is_report.is_report
      (subst (λ (m : PlainModel). IsReportOf m a.options (say said) s' other) model under.is_report)

-- The law: a report of a document that is read once is the only one, where one worker makes its runs.
pub the_report : (bytes : List ℕ) → HaveOneReading bytes → (words : List (List ℕ)) (Says : Sayings) (status : Status) (report : List ℕ) → IsReport bytes words Says status report → IsTheReport bytes words Says status report
the_report bytes once words Says status report is = record {
  is_report = is;
  only = λ one other_status other other_is. let same = one_report Says status other_status report other bytes once words is one other_is in (same.statuses, same.reports);
}
