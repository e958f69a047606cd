-- The tokens of the first value are shared where all others agree.
use Rattle.std.proofs.Common.{◌≡◌, ◌∙◌, sym, ap, subst}
use Rattle.std.proofs.lemmas.Result.{err_from_is_err_and}
use Rattle.cpn_core.specs.Nets.{place_view}
use Rattle.cpn_definitions.specs.Marking.{Tokens, tokens_at}
use Rattle.cpn_eval.specs.Terms.{terms_view, items_view}
use Rattle.cpn_readings.specs.Relations.{RefusesBy}
use Rattle.cpn_flat.specs.Refusals.{read}
use Rattle.cpn_flat.specs.InitialMarking.{tokens_of, IsShared}
use Rattle.cpn_flat.specs.Values.{values_view}
use Rattle.cpn_flat.specs.Answers.{refusal_of}
use Rattle.cpn_flat.proofs.SharedTokens.{put_there, shared_so, refused_so, none_shared}
use Rattle.cpn_flat.proofs.sharing.share.Goals as goal

pub returns-in_ok-hold_against-in-Some-clause-shared : goal.returns-in_ok-hold_against-in-Some-clause-shared
returns-in_ok-hold_against-in-Some-clause-shared c =
    let there : tokens_at c.add_terms.new.marking c.args.place ≡ tokens_of c.args.holder.now.colour.timed (items_view c.in-Some.value.now) =
    put_there c.args.marking.now c.add_terms.new.marking c.args.place c.args.holder.now.colour.timed (terms_view c.as_slice.result.now) c.requires.in_range c.requires.empty c.in_ok-add_terms-in-Some.ensures.added ∙ ap (λ ts. tokens_of c.args.holder.now.colour.timed (terms_view ts)) c.as_slice.ensures.value in
    subst (λ (tokens : Tokens). IsShared (place_view c.args.holder.now) (values_view c.args.values.now) (read tokens)) c.place.ensures.tokens
    (subst (λ values. IsShared (place_view c.args.holder.now) (values_view values) (read c.place.result.now)) (sym c.in-Some.ensures.cases.0)
    (shared_so (place_view c.args.holder.now) (items_view c.in-Some.value.now) (values_view c.in-Some.others.now) c.place.result.now (c.place.ensures.tokens ∙ there) c.in_ok-hold_against-in-Some.ensures.agree))

pub returns-in_err-hold_against-in-Some-clause-shared : goal.returns-in_err-hold_against-in-Some-clause-shared
returns-in_err-hold_against-in-Some-clause-shared c =
    let there : tokens_at c.add_terms.new.marking c.args.place ≡ tokens_of c.args.holder.now.colour.timed (items_view c.in-Some.value.now) =
    put_there c.args.marking.now c.add_terms.new.marking c.args.place c.args.holder.now.colour.timed (terms_view c.as_slice.result.now) c.requires.in_range c.requires.empty c.in_ok-add_terms-in-Some.ensures.added ∙ ap (λ ts. tokens_of c.args.holder.now.colour.timed (terms_view ts)) c.as_slice.ensures.value in
    let p = err_from_is_err_and c.from_residual-in_err-hold_against-in-Some.result c.from_residual-in_err-hold_against-in-Some.ensures.1 in
    rw (p.1, p.2)
    (subst (λ values. RefusesBy (IsShared (place_view c.args.holder.now) (values_view values)) (refusal_of c.in_err-hold_against-in-Some.field-0.0)) (sym c.in-Some.ensures.cases.0)
    (refused_so (place_view c.args.holder.now) (items_view c.in-Some.value.now) (values_view c.in-Some.others.now) c.place.result.now (c.place.ensures.tokens ∙ there) (refusal_of c.in_err-hold_against-in-Some.field-0.0) c.in_err-hold_against-in-Some.ensures.agree))

pub returns-in-None-clause-shared : goal.returns-in-None-clause-shared
returns-in-None-clause-shared c = none_shared (place_view c.args.holder.now) items_view c.args.values.now (tokens_at c.args.marking.now c.args.place) c.in-None.ensures.cases c.requires.empty
