-- The drawn element as the program has it: its needs, its work and its job.
use Rattle.std.proofs.Common.{◌≡◌, ℕ, zero, suc, ◌<◌, ◌%◌, List, [], ◌∷◌, length, map, Some, None, refl, sym, ap, ◌∙◌, subst, slice_get, nat_le, arith}
use Rattle.std.proofs.Math.Path.{ap₂}
use Rattle.std.specs.Prelude.{IfSome}
use Rattle.std.specs.Option.{option_map}
use Rattle.std.proofs.lemmas.List.{length-map}
use Rattle.std.proofs.lemmas.Option.{slice_get-map}
use Rattle.cpn_core.specs.declared.bindings.Element.{Element}
use Rattle.cpn_core.specs.Elements.{element_view}
use Rattle.cpn_definitions.specs.Enabled.{PlainEntry, Enabled, ready}
use Rattle.cpn_definitions.proofs.ListItems.{in_from_get}
use Rattle.cpn_definitions.proofs.RisingLists.{in_filter_from, of_one_in}
use Rattle.cpn_due.specs.Due.{PlainEnabled, entries_in, due_at}
use Rattle.cpn_index.specs.Clocks.{entry_from}
use Rattle.cpn_index.specs.Index.{kept_in, clock_in, listed_in, IsIndexOf}
use Rattle.cpn_index.specs.Retimed.{IsOfNet}
use Rattle.cpn_index.specs.declared.index.Index.{Index}
use Rattle.cpn_index.proofs.ClockedLists.{ready_is_due}
use Rattle.cpn_definitions.specs.Net.{PlainNet}
use Rattle.cpn_definitions.specs.Outcome.{gives}
use Rattle.cpn_definitions.specs.Occurrence.{PlainElement, Needed, needs_of}
use Rattle.cpn_draw.specs.Draw.{generator, word}
use Rattle.cpn_jobs.specs.declared.work.Job.{Job}
use Rattle.cpn_jobs.specs.Views.{job_view, work_view}
use Rattle.cpn_jobs.specs.Work.{PlainWork, work_of}
use Rattle.cpn_log.specs.Logs.{PlainHead, claims_made}
use Rattle.cpn_log.specs.LogViews.{log_view}
use Rattle.cpn_runs.specs.Playable.{IsPlayable}
use Rattle.cpn_runs.specs.State.{PlainSetup, IsDrawn}
use Rattle.cpn_book.specs.Evaluations.{IsReadyToEvaluate}
use Rattle.cpn_book.specs.Standings.{IsAt, job_for}
use Rattle.cpn_book.specs.Works.{AreWorks}
use Rattle.cpn_book.specs.declared.standings.Standing.{Standing}
use Rattle.cpn_book.proofs.IndexedBooks.{listed_is_enabled}
use Rattle.cpn_book.proofs.DrawnElements.{draw_is, transition_known, ready_job}

-- the work at an index among works is that of its transition
work_there : {W : Type 0} (view : W → PlainWork) (works : List W) (t : ℕ) (v right : PlainWork) → t < length works → IfSome (slice_get works t) (λ w. v ≡ view w) → ((w : PlainWork) → slice_get (map view works) t ≡ Some w → w ≡ right) → v ≡ right
work_there view [] t v right within is each = absurd (omega arith)
work_there view (w ∷ works) zero v right within is each = is ∙ each (view w) refl
work_there view (w ∷ works) (suc t) v right within is each = work_there view works t v right (omega arith) is each

-- a job of three parts
job_of_parts : (n : PlainNet) (head : PlainHead) (job : Job) → element_view job.element.value ≡ head.element → job.time ≡ head.time → work_view job.work.value ≡ work_of n head.element.transition → job_view job ≡ job_for n head
job_of_parts n head job element time work =
    ap (λ (e : PlainElement). record { element = e; time = job.time; work = work_view job.work.value }) element
    ∙ ap (λ (t : ℕ). record { element = head.element; time = t; work = work_view job.work.value }) time
    ∙ ap (λ (w : PlainWork). record { element = head.element; time = head.time; work = w }) work

-- What the code has drawn: an enabled element by the words of the seed, and the element that it shares.
pub record HasDrawn (setup : PlainSetup) (s : Standing) (entries : List PlainEntry) (element : Element) : Type 0 where
  pub is : IsAt setup s
  pub playable : IsPlayable setup
  pub uncut : s.cut ≡ None
  pub enabled : Enabled setup.net (log_view s.log).unclaimed s.clock entries
  pub entry : PlainEntry
  pub drawn_by : (seed k : ℕ) → s.draw ≡ generator seed k → IsDrawn seed k (ready s.clock entries) entry
  pub transition : element.transition ≡ entry.element.transition
  pub binding : (element_view element).binding ≡ entry.element.binding

module _ (setup : PlainSetup) (s : Standing) (entries : List PlainEntry) (element : Element) (d : HasDrawn setup s entries element) where
  pub drawn : IsDrawn setup.seed (claims_made (log_view s.log)) (ready s.clock entries) d.entry
  drawn = d.drawn_by setup.seed (claims_made (log_view s.log)) (draw_is setup s d.is d.playable d.uncut)

  pub same_element : element_view element ≡ d.entry.element
  same_element = ap₂ (λ t b. record { transition = t; binding = b }) d.transition d.binding

  pub needs_given : (needs : List Needed) → needs_of setup.net (element_view element) ≡ gives needs → needs_of setup.net (d.entry.element) ≡ gives needs
  needs_given needs are = ap (needs_of setup.net) (sym same_element) ∙ are

  pub is_known : element.transition < length setup.net.transitions
  is_known = let k = transition_known setup s d.is d.playable entries d.enabled (claims_made (log_view s.log)) d.entry drawn in let same = d.transition in omega (arith, k, same)

  module _ {W : Type 0} (view : W → PlainWork) (works : List W) (are : AreWorks setup.net (map view works)) where
    pub work_within : element.transition < length works
    work_within = let k = is_known in let count = are.count in let long = length-map works view in omega (arith, k, count, long)

    module _ (seat : ℕ) (job : Job) (of_element : element_view job.element.value ≡ element_view element) (at : job.time ≡ s.clock) (has_work : IfSome (slice_get works element.transition) (λ w. work_view job.work.value ≡ view w)) where
      work_is : work_view job.work.value ≡ work_of setup.net d.entry.element.transition
      work_is = work_there view works element.transition (work_view job.work.value) (work_of setup.net element.transition) work_within has_work (λ w there. are.each element.transition w there) ∙ ap (work_of setup.net) d.transition

      pub job_is : job_view job ≡ job_for setup.net (record { seat = seat; element = d.entry.element; time = s.clock })
      job_is = job_of_parts setup.net (record { seat = seat; element = d.entry.element; time = s.clock }) job (of_element ∙ same_element) at work_is

      pub job_is_ready : IsReadyToEvaluate (job_view job)
      job_is_ready = subst IsReadyToEvaluate (sym job_is) (ready_job setup s d.is d.playable entries d.enabled (claims_made (log_view s.log)) d.entry drawn seat)

-- ---- what is drawn of an index

-- The element at a position among those that are due, which the index shares.
pub record IsSharedAt (setup : PlainSetup) (s : Standing) (index : Index) (position : ℕ) (element : Element) : Type 0 where
  pub is : IsAt setup s
  pub playable : IsPlayable setup
  pub uncut : s.cut ≡ None
  pub index_is : IsIndexOf setup.net (log_view s.log).unclaimed index
  pub at_clock : clock_in index ≡ s.clock
  pub draws : (seed k : ℕ) → s.draw ≡ generator seed k → position ≡ word seed k % length (ready (clock_in index) (listed_in index))
  pub due : PlainEnabled
  pub due_is : slice_get (due_at (clock_in index) (kept_in index)) position ≡ Some due
  pub shares : element_view element ≡ due.entry.element

module _ (setup : PlainSetup) (s : Standing) (index : Index) (position : ℕ) (element : Element) (t : IsSharedAt setup s index position element) where
  entry_is : slice_get (ready (clock_in index) (listed_in index)) position ≡ Some (entry_from (clock_in index) t.due.entry)
  entry_is =
      ap (λ es. slice_get es position) (ready_is_due (clock_in index) (kept_in index))
      ∙ slice_get-map (entry_from (clock_in index)) (entries_in (due_at (clock_in index) (kept_in index))) position
      ∙ ap (option_map (entry_from (clock_in index))) (slice_get-map (λ (x : PlainEnabled). x.entry) (due_at (clock_in index) (kept_in index)) position ∙ ap (option_map (λ (x : PlainEnabled). x.entry)) t.due_is)

  pub shared_drawn : HasDrawn setup s (listed_in index) element
  shared_drawn = record {
    is = t.is;
    playable = t.playable;
    uncut = t.uncut;
    enabled = listed_is_enabled setup.net (log_view s.log).unclaimed s.clock index t.index_is t.at_clock;
    entry = entry_from (clock_in index) t.due.entry;
    drawn_by = λ seed k by. subst (λ (clock : ℕ). IsDrawn seed k (ready clock (listed_in index)) (entry_from (clock_in index) t.due.entry)) t.at_clock (ap (slice_get (ready (clock_in index) (listed_in index))) (sym (t.draws seed k by)) ∙ entry_is);
    transition = ap (λ (e : PlainElement). e.transition) t.shares;
    binding = ap (λ (e : PlainElement). e.binding) t.shares;
  }

  -- the needs that stand with it are what the element needs
  pub needs_there : needs_of setup.net (element_view element) ≡ gives t.due.needs
  needs_there =
      let kept = (in_filter_from (λ (x : PlainEnabled). nat_le x.entry.earliest (clock_in index)) (kept_in index) t.due (in_from_get (due_at (clock_in index) (kept_in index)) position t.due t.due_is)).0 in
      ap (needs_of setup.net) t.shares ∙ (of_one_in (IsOfNet setup.net) (kept_in index) t.due t.index_is.own kept).needs
