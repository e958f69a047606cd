-- The run is counted, and where it ended is kept.
use Rattle.std.proofs.Common.{◌≡◌, ◌-◌, ℕ, length, refl, sym, ap, ◌∙◌, rules}
use Rattle.std.proofs.lemmas.List.{length-map}
use Rattle.cpn_core.specs.Occurrences.{occurrence_view}
use Rattle.cpn_edit.specs.Standing.{run_view}
use Rattle.cpn_edit.proofs.StandingSessions.{run_stands}
use Rattle.cpn_edit.proofs.sessions.Between.end.Goals as goal

pub returns : goal.returns
returns c =
    let old = c.args.self.session in
    let items = c.args.finished.occurrences.items in
    let as_many : c.len-occurrences.result ≡ length items = search rules in
    let left : c.saturating_sub-session.result ≡ old.limits.steps - c.len-occurrences.result = search rules in
    record {
      stands = λ s start b next. run_stands s start (run_view c.args.finished) old _ b next (record {
        decls = refl;
        net = refl;
        initial = refl;
        monitors = refl;
        phases = refl;
        until = refl;
        seats = refl;
        steps = left ∙ ap (λ (n : ℕ). old.limits.steps - n) (as_many ∙ sym (length-map items occurrence_view));
        seed = refl;
        latest = (refl, refl);
      });
    }
