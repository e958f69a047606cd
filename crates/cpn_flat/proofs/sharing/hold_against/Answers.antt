-- The next value has the tokens of the place, or other ones.
use Rattle.std.proofs.Common.{◌≡◌, ◌≤◌, List, refl, sym, subst, arith}
use Rattle.cpn_definitions.specs.Terms.{PlainTerm, most_tokens, tokens_in}
use Rattle.cpn_eval.specs.Terms.{terms_view, items_view}
use Rattle.cpn_eval.specs.declared.term.Term.{Term}
use Rattle.cpn_flat.specs.InitialMarking.{tokens_of}
use Rattle.cpn_flat.proofs.AllItems.{all_item}
use Rattle.cpn_flat.proofs.SharedTokens.{all_more, all_done}
use Rattle.cpn_flat.proofs.sharing.hold_against.Goals as goal

pub are_tokens-requires : goal.are_tokens-requires
are_tokens-requires c = record {
  few = subst (λ (terms : List Term). tokens_in (terms_view terms) ≤ most_tokens) (sym c.as_slice.ensures.value)
      (all_item (λ (terms : List PlainTerm). tokens_in terms ≤ most_tokens) items_view c.args.others.now c.loop-other.other-index c.other-item.result (omega arith) c.other-item.is c.requires.few);
}

pub loop-other-preserved : goal.loop-other-preserved
loop-other-preserved c =
    all_more (λ (other : List PlainTerm). tokens_of c.args.holder.now.colour.timed other ≡ c.args.tokens.now) items_view c.args.others.now c.loop-other.other-index c.other-item.result (omega arith) c.other-item.is c.loop-other.invariant
    (subst (λ (terms : List Term). tokens_of c.args.holder.now.colour.timed (terms_view terms) ≡ c.args.tokens.now) c.as_slice.ensures.value (c.in_ok-same.ensures.exact.0 c.if-not-same.false))

pub returns : goal.returns
returns c = record { agree = (refl, all_done (λ (other : List PlainTerm). tokens_of c.args.holder.now.colour.timed other ≡ c.args.tokens.now) items_view c.args.others.now c.loop-other.other-index (omega arith) c.loop-other.invariant) }
