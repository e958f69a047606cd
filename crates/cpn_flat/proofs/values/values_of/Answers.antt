-- The value of the next initial marking, or its fault.
use Rattle.std.proofs.Common.{ℕ, List, [], ◌∷◌, arith, sym, subst, take}
use Rattle.std.specs.Prelude.{Some, Vec}
use Rattle.std.specs.declared.alloc.Global.{Global}
use Rattle.std.proofs.lemmas.Result.{err_from_is_err_and}
use Rattle.std.proofs.lemmas.List.{map-append}
use Rattle.cpn_core.specs.Inscriptions.{funs_view}
use Rattle.cpn_core.specs.Nets.{place_view}
use Rattle.cpn_eval.specs.Terms.{items_view}
use Rattle.cpn_eval.specs.declared.term.Term.{Term}
use Rattle.cpn_accepted.specs.Nets.{Initial, IsMeant}
use Rattle.cpn_readings.proofs.RelatedLists.{AreRead, related_more, related_refused, related_done}
use Rattle.cpn_flat.specs.InitialMarking.{value_so}
use Rattle.cpn_flat.specs.WrittenViews.{referred_view, written_view}
use Rattle.cpn_flat.specs.Values.{values_view}
use Rattle.cpn_flat.specs.Answers.{refusal_of}
use Rattle.cpn_flat.proofs.AllItems.{all_item}
use Rattle.cpn_flat.proofs.values.values_of.Goals as goal

pub value_of-requires : goal.value_of-requires
value_of-requires c = record { meant = all_item (λ (initial : Initial). IsMeant (funs_view c.args.funs.now) (Some initial)) referred_view c.args.written.now c.loop-initial.initial-index c.initial-item.result (omega arith) c.initial-item.is c.requires.meant }

pub loop-initial-init : goal.loop-initial-init
loop-initial-init c = subst (λ (values : List (Vec Term Global)). AreRead (λ (i : ℕ). value_so (funs_view c.args.funs.now) (place_view c.args.place.now)) 0 (written_view (take 0 c.args.written.now)) (values_view values)) (sym c.in_ok-values.ensures.items) tt

pub loop-initial-preserved : goal.loop-initial-preserved
loop-initial-preserved c =
    rw (c.in_ok-push.ensures.items, map-append items_view c.loop-initial.values.items (c.in_ok-value_of.field-0 ∷ []))
    (related_more (λ (i : ℕ). value_so (funs_view c.args.funs.now) (place_view c.args.place.now)) referred_view c.args.written.now c.loop-initial.initial-index c.initial-item.result (omega arith) c.initial-item.is (values_view c.loop-initial.values.items) c.loop-initial.invariant (items_view c.in_ok-value_of.field-0) c.in_ok-value_of.ensures.value)

pub returns : goal.returns
returns c = record { values = related_done (λ (i : ℕ). value_so (funs_view c.args.funs.now) (place_view c.args.place.now)) referred_view c.args.written.now c.loop-initial.initial-index (values_view c.loop-initial.values.items) (omega arith) c.loop-initial.invariant }

pub returns-in_err-value_of : goal.returns-in_err-value_of
returns-in_err-value_of c = record {
  values = (
      let p = err_from_is_err_and c.from_residual-in_err-value_of.result c.from_residual-in_err-value_of.ensures.1 in
      rw (p.1, p.2)
      (related_refused (λ (i : ℕ). value_so (funs_view c.args.funs.now) (place_view c.args.place.now)) referred_view c.args.written.now c.loop-initial.initial-index c.initial-item.result (omega arith) c.initial-item.is (values_view c.loop-initial.values.items) c.loop-initial.invariant (refusal_of c.in_err-value_of.field-0.0) c.in_err-value_of.ensures.value));
}
