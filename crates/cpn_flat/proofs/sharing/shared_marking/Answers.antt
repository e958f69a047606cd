-- The next place gets the tokens that its members share, or is refused.
use Rattle.std.proofs.Common.{◌<◌, List, length, sym, subst, arith}
use Rattle.std.specs.Prelude.{Vec}
use Rattle.std.specs.declared.alloc.Global.{Global}
use Rattle.std.proofs.lemmas.Result.{err_from_is_err_and}
use Rattle.cpn_core.specs.Nets.{net_view}
use Rattle.cpn_definitions.specs.Marking.{tokens_at}
use Rattle.cpn_eval.specs.declared.term.Term.{Term}
use Rattle.cpn_flat.specs.Refusals.{read}
use Rattle.cpn_flat.specs.Values.{values_view, AreFew}
use Rattle.cpn_flat.specs.Answers.{refusal_of}
use Rattle.cpn_flat.proofs.AllItems.{all_item}
use Rattle.cpn_flat.proofs.SharedMarkings.{seen, shares_there, refused_there, shared_more, shared_refused, shared_done}
use Rattle.cpn_flat.proofs.sharing.shared_marking.Goals as goal

pub share-requires-clause-few : goal.share-requires-clause-few
share-requires-clause-few c =
    subst (λ (values : List (Vec Term Global)). AreFew (values_view values)) (sym c.as_slice.ensures.value)
    (all_item AreFew seen c.args.values.now c.loop-place.place c.index-values-place.result c.loop-place-test.true c.index-values-place.is c.requires.few)

pub loop-place-preserved : goal.loop-place-preserved
loop-place-preserved c =
    let within : c.loop-place.place < length c.args.net.now.places.items = omega (arith, c.requires.as_many, c.loop-place-test.true) in
    shared_more (net_view c.args.net.now) c.args.values.now c.loop-place.place c.index-values-place.result c.loop-place-test.true c.index-values-place.is c.loop-place.marking c.loop-place.invariant c.share.new.marking _ c.in_ok-share.ensures.put
    (shares_there c.args.net.now c.loop-place.place c.index-holder.result.now within c.index-holder.ensures c.index-values-place.result c.as_slice.result.now c.as_slice.ensures.value (read (tokens_at c.share.new.marking c.loop-place.place)) c.in_ok-share.ensures.shared)

pub returns : goal.returns
returns c = record { shared = shared_done (net_view c.args.net.now) c.args.values.now c.loop-place.place c.loop-place.marking (omega arith) c.loop-place.invariant }

pub returns-in_err-share : goal.returns-in_err-share
returns-in_err-share c = record {
  shared = (
      let within : c.loop-place.place < length c.args.net.now.places.items = omega (arith, c.requires.as_many, c.loop-place-test.true) in
      let p = err_from_is_err_and c.from_residual-in_err-share.result c.from_residual-in_err-share.ensures.1 in
      rw (p.1, p.2) (shared_refused (net_view c.args.net.now) c.args.values.now c.loop-place.place c.index-values-place.result c.loop-place-test.true c.index-values-place.is c.loop-place.marking c.loop-place.invariant (refusal_of c.in_err-share.field-0.0)
      (refused_there c.args.net.now c.loop-place.place c.index-holder.result.now within c.index-holder.ensures c.index-values-place.result c.as_slice.result.now c.as_slice.ensures.value (refusal_of c.in_err-share.field-0.0) c.in_err-share.ensures.shared)));
}
