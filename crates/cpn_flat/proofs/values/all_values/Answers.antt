-- The values at the next place, or the first fault there.
use Rattle.std.proofs.Common.{[], ◌∷◌, arith, sym, subst, take, List}
use Rattle.std.specs.Prelude.{Vec}
use Rattle.std.specs.Borrow.{Bor}
use Rattle.std.specs.declared.alloc.Global.{Global}
use Rattle.std.proofs.lemmas.Result.{err_from_is_err_and}
use Rattle.std.proofs.lemmas.List.{map-append}
use Rattle.cpn_core.specs.Nets.{net_view}
use Rattle.cpn_core.specs.declared.inscriptions.ArcExpr.{ArcExpr}
use Rattle.cpn_eval.specs.declared.term.Term.{Term}
use Rattle.cpn_accepted.specs.Nets.{Initial}
use Rattle.cpn_readings.proofs.RelatedLists.{AreRead, related_more, related_refused, related_done}
use Rattle.cpn_readings.specs.Relations.{RefusesBy}
use Rattle.cpn_flat.specs.Refusals.{read}
use Rattle.cpn_flat.specs.InitialMarking.{values_so}
use Rattle.cpn_flat.specs.WrittenViews.{written_view, lists_view}
use Rattle.cpn_flat.specs.InitialMarking.{AreMeant}
use Rattle.cpn_flat.specs.Values.{values_view, value_lists_view}
use Rattle.cpn_flat.specs.Answers.{refusal_of}
use Rattle.cpn_flat.proofs.AllItems.{all_item}
use Rattle.cpn_flat.proofs.values.all_values.Goals as goal

-- the written initial markings of a list
abbrev seen : Vec (Bor ArcExpr) Global → List Initial
seen list = written_view list.items

pub values_at-requires-clause-meant : goal.values_at-requires-clause-meant
values_at-requires-clause-meant c =
    subst (λ (initials : List (Bor ArcExpr)). AreMeant (net_view c.args.net.now).functions (written_view initials)) (sym c.as_slice.ensures.value)
    (all_item (AreMeant (net_view c.args.net.now).functions) seen c.args.written.now c.loop-place.place c.index-written-place.result c.loop-place-test.true c.index-written-place.is c.requires.meant)

pub loop-place-init : goal.loop-place-init
loop-place-init c = subst (λ (values : List (Vec (Vec Term Global) Global)). AreRead (values_so (net_view c.args.net.now)) 0 (lists_view (take 0 c.args.written.now)) (value_lists_view values)) (sym c.in_ok-values.ensures.items) tt

pub loop-place-preserved : goal.loop-place-preserved
loop-place-preserved c =
    rw (c.in_ok-push.ensures.items, map-append (λ (list : Vec (Vec Term Global) Global). values_view list.items) c.loop-place.values.items (c.in_ok-values_at.field-0 ∷ []))
    (related_more (values_so (net_view c.args.net.now)) seen c.args.written.now c.loop-place.place c.index-written-place.result c.loop-place-test.true c.index-written-place.is (value_lists_view c.loop-place.values.items) c.loop-place.invariant (values_view c.in_ok-values_at.field-0.items)
    (subst (λ (initials : List (Bor ArcExpr)). values_so (net_view c.args.net.now) c.loop-place.place (written_view initials) (read (values_view c.in_ok-values_at.field-0.items))) c.as_slice.ensures.value c.in_ok-values_at.ensures.values))

pub returns : goal.returns
returns c = record { values = related_done (values_so (net_view c.args.net.now)) seen c.args.written.now c.loop-place.place (value_lists_view c.loop-place.values.items) (omega arith) c.loop-place.invariant }

pub returns-in_err-values_at : goal.returns-in_err-values_at
returns-in_err-values_at c = record {
  values = (
      let p = err_from_is_err_and c.from_residual-in_err-values_at.result c.from_residual-in_err-values_at.ensures.1 in
      rw (p.1, p.2)
      (related_refused (values_so (net_view c.args.net.now)) seen c.args.written.now c.loop-place.place c.index-written-place.result c.loop-place-test.true c.index-written-place.is (value_lists_view c.loop-place.values.items) c.loop-place.invariant (refusal_of c.in_err-values_at.field-0.0)
      (subst (λ (initials : List (Bor ArcExpr)). RefusesBy (values_so (net_view c.args.net.now) c.loop-place.place (written_view initials)) (refusal_of c.in_err-values_at.field-0.0)) c.as_slice.ensures.value c.in_err-values_at.ensures.values)));
}
