-- `alt {+ alt}` behind `union`.
use Rattle.std.proofs.Common.{◌∷◌, map}
use Rattle.std.proofs.lemmas.List.{map-append}
use Rattle.std.proofs.lemmas.Result.{err_from_is_err_and}
use Rattle.cpn_lex.specs.Token.{PlainToken}
use Rattle.cpn_lex.specs.declared.symbols.Symbol.TheVariants as sign
use Rattle.cpn_syntax.specs.Texts.{Text, Is}
use Rattle.cpn_trees.specs.DeclTrees.{alternative_view}
use Rattle.cpn_syntax.specs.Endings.{No, EndsBody}
use Rattle.cpn_syntax.proofs.Fragments.{each_begins, part_and_sign, last_part, no_part}
use Rattle.cpn_syntax.proofs.DeclarationParts.{ends_body}
use Rattle.cpn_syntax.proofs.declarations.alternatives.Goals as goal

-- what ends a body goes on neither an alternative nor a union
ends : (v : Text) → EndsBody v → No sign.Colon v × No sign.Plus v
ends v e = (ends_body sign.Colon (λ no. cc) (λ no. cc) v e, ends_body sign.Plus (λ no. cc) (λ no. cc) v e)

plus_ends : (t : PlainToken) (v : Text) → Is sign.Plus t → No sign.Colon (t ∷ v)
plus_ends t v plus colon = cc

pub loop-alternatives-init : goal.loop-alternatives-init
loop-alternatives-init c = rw c.new-alternatives.ensures.items each_begins

pub returns-in_err-alternative-clause-stops : goal.returns-in_err-alternative-clause-stops
returns-in_err-alternative-clause-stops c =
    let p = err_from_is_err_and c.from_residual.result c.from_residual.ensures.1 in
    rw (p.1, p.2) (λ no. no_part (map alternative_view c.loop-alternatives.alternatives.items) ends plus_ends c.loop-alternatives.invariant (c.in_err-alternative.ensures.stops no))

pub returns-then-not-accept-clause-read : goal.returns-then-not-accept-clause-read
returns-then-not-accept-clause-read c =
    rw (c.in_ok-push.ensures.items, map-append) (last_part (map alternative_view c.loop-alternatives.alternatives.items) ends plus_ends
    c.loop-alternatives.invariant c.in_ok-alternative.ensures.read (c.accept.ensures.no c.if-not-accept.true))

pub loop-alternatives-preserved : goal.loop-alternatives-preserved
loop-alternatives-preserved c =
    rw (c.in_ok-push.ensures.items, map-append) (part_and_sign (map alternative_view c.loop-alternatives.alternatives.items) ends plus_ends
    c.loop-alternatives.invariant c.in_ok-alternative.ensures.read (c.accept.ensures.yes c.if-not-accept.false))
