-- The drawn element is covered, so its work is there, and its needs are those that stand with it; and the claim is due.
use Rattle.std.proofs.Common.{◌≡◌, length, sym, ap, ◌∙◌, ◌<◌, ◌%◌, subst}
use Rattle.std.proofs.lemmas.Option.{same_Some}
use Rattle.cpn_definitions.specs.Enabled.{ready}
use Rattle.cpn_definitions.specs.Outcome.{gives}
use Rattle.cpn_due.specs.Due.{PlainEnabled, plain_enabled}
use Rattle.cpn_index.specs.Index.{listed_in}
use Rattle.cpn_jobs.specs.Views.{work_view}
use Rattle.cpn_log.specs.Logs.{claims_made}
use Rattle.cpn_log.specs.LogViews.{log_view}
use Rattle.cpn_runs.specs.FinishedViews.{setup_view}
use Rattle.cpn_book.specs.Standings.{IsAt}
use Rattle.cpn_book.proofs.DrawnElements.{draw_is}
use Rattle.cpn_book.proofs.DrawnEntries.{IsSharedAt, drawn, shared_drawn, needs_there, needs_given, work_within, job_is, job_is_ready}
use Rattle.cpn_core.specs.Elements.{element_view}
use Rattle.cpn_draw.specs.Draw.{word}
use Rattle.cpn_book.proofs.claiming.draw_claim.Goals.{In_ok-element}
use Rattle.cpn_book.proofs.claiming.draw_claim.Goals as goal

pub pick-position-requires : goal.pick-position-requires
pick-position-requires c = subst (λ n. 0 < n) (sym c.ready_len.ensures.number) (subst (λ t. 0 < length (ready t (listed_in c.args.index.now))) (sym c.requires.clock) c.requires.some)

abbrev shared
    : (c : In_ok-element)
    → IsSharedAt (setup_view c.args.setup.now) c.args.standing.now c.args.index.now c.pick-position.result c.in_ok-element.element.value
shared c = record {
  is = c.requires.at;
  playable = c.requires.playable;
  uncut = c.requires.uncut;
  index_is = c.requires.index;
  at_clock = c.requires.clock;
  draws = λ seed k by. c.pick-position.ensures.drawn seed k by ∙ ap (λ n. word seed k % n) c.ready_len.ensures.number;
  due = plain_enabled c.ready.result.now;
  due_is = c.ready.ensures.element;
  shares = ap element_view c.in_ok-element.ensures.cases;
}

pub job_of_claim-requires : goal.job_of_claim-requires
job_of_claim-requires c =
    let d = shared_drawn (setup_view c.args.setup.now) c.args.standing.now c.args.index.now c.pick-position.result c.in_ok-element.element.value (shared c) in
    record { within = work_within (setup_view c.args.setup.now) c.args.standing.now (listed_in c.args.index.now) c.in_ok-element.element.value d (λ work. work_view work.value) c.args.works.now c.requires.works }

pub new-ticket-requires : goal.new-ticket-requires
new-ticket-requires c =
    let t = shared (goal.at.new-ticket-requires c).In_ok-element in
    record { ready = job_is_ready (setup_view c.args.setup.now) c.args.standing.now (listed_in c.args.index.now) c.in_ok-element.element.value (shared_drawn (setup_view c.args.setup.now) c.args.standing.now c.args.index.now c.pick-position.result c.in_ok-element.element.value t) (λ work. work_view work.value) c.args.works.now c.requires.works 0 c.in_ok-job.job.value c.in_ok-job.ensures.element c.in_ok-job.ensures.time c.in_ok-job.ensures.work }

pub returns-clause-drawn : goal.returns-clause-drawn
returns-clause-drawn c = λ x there.
    let s = setup_view c.args.setup.now in
    let old = c.args.standing.now in
    let element = c.in_ok-element.element.value in
    let t = shared (goal.at.returns-clause-drawn c).In_ok-element in
    let d = shared_drawn s old c.args.index.now c.pick-position.result element t in
    let same : plain_enabled c.ready.result.now ≡ x = same_Some (plain_enabled c.ready.result.now) x (sym c.ready.ensures.element ∙ there) in
    let word_is = draw_is s old c.requires.at c.requires.playable c.requires.uncut in
    record {
      at = subst (λ w. IsAt s (record old { draw = w })) word_is c.requires.at;
      next_word = c.pick-position.ensures.next s.seed (claims_made (log_view old.log)) word_is;
      uncut = c.requires.uncut;
      below = c.requires.below;
      entries = listed_in c.args.index.now;
      enabled = d.enabled;
      drawn = d.entry;
      drawn_is = drawn s old (listed_in c.args.index.now) element d;
      number_is = c.new-ticket.ensures.number ∙ c.len-number.ensures;
      job_is = c.new-ticket.ensures.job ∙ job_is s old (listed_in c.args.index.now) element d (λ work. work_view work.value) c.args.works.now c.requires.works 0 c.in_ok-job.job.value c.in_ok-job.ensures.element c.in_ok-job.ensures.time c.in_ok-job.ensures.work;
      needs_are = needs_given s old (listed_in c.args.index.now) element d x.needs (needs_there s old c.args.index.now c.pick-position.result element t ∙ ap (λ (y : PlainEnabled). gives y.needs) same);
    }
