-- What one more monitor has measured is put into its value.
use Rattle.std.proofs.Common.{◌∙◌, ap, sym, map, take, ◌++◌, ◌∷◌, []}
use Rattle.std.proofs.lemmas.List.{take_more, map-append}
use Rattle.cpn_monitor.specs.Noted.{with_measured, with_noted}
use Rattle.cpn_monitor.specs.Views.{noted_view, measured_view, values_view}
use Rattle.cpn_monitor.proofs.ValueViews.{put_at, noted_more}
use Rattle.cpn_monitor.proofs.values.Values14.replace.Goals as goal

pub loop-one-preserved : goal.loop-one-preserved
loop-one-preserved c =
    let one = c.one-item.result in
    let front = take c.loop-one.one-index c.args.noted.now in
    put_at c.loop-one.self.values.items one.number c.index_mut.result.now one.measured c.index_mut.ensures.value
    ∙ ap (with_measured one.number (measured_view one.measured)) c.loop-one.invariant
    ∙ sym (noted_more (map noted_view front) (noted_view one) (values_view c.args.self.now))
    ∙ ap (λ xs. with_noted xs (values_view c.args.self.now))
    (sym (ap (map noted_view) (take_more c.args.noted.now c.loop-one.one-index one c.loop-one-test.true ∙ ap (λ x. front ++ x ∷ []) (sym c.one-item.is)) ∙ map-append noted_view front (one ∷ [])))
