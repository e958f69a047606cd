-- `N * N {* N}` behind `product`.
use Rattle.std.proofs.Common.{◌∷◌, [], string_bytes}
use Rattle.std.proofs.lemmas.Result.{err_from_is_err_and}
use Rattle.cpn_lex.specs.declared.symbols.Symbol.TheVariants as sign
use Rattle.cpn_trees.specs.DeclTrees.{product}
use Rattle.cpn_syntax.specs.Fragments.{whole}
use Rattle.cpn_syntax.proofs.Fragments.{leaves_on, leaves_to_halt, leaves_next, halts_next, whole_ends}
use Rattle.cpn_syntax.proofs.Phrases.{name_next, no_name_next, sign_next, no_sign_next, can_sign, can_names}
use Rattle.cpn_syntax.proofs.DeclarationParts.{body_begins, ends_body}
use Rattle.cpn_syntax.proofs.declarations.product.Goals as goal

pub returns-in_err-first-clause-stops : goal.returns-in_err-first-clause-stops
returns-in_err-first-clause-stops c =
    let p = err_from_is_err_and c.from_residual.result c.from_residual.ensures.1 in
    rw (p.1, p.2) (λ no t is. leaves_to_halt (body_begins t sign.Product is) (no_name_next (λ n. can_sign (can_names (λ ns. (_, [], whole)))) (c.in_err-first.ensures.refused no)))

pub returns-in_err-take-clause-stops : goal.returns-in_err-take-clause-stops
returns-in_err-take-clause-stops c =
    let p = err_from_is_err_and c.from_residual-in_err-take.result c.from_residual-in_err-take.ensures.1 in
    rw (p.1, p.2) (λ no t is. leaves_to_halt (body_begins t sign.Product is) (leaves_to_halt (name_next c.in_ok-first.ensures.taken) (no_sign_next (can_names (λ ns. (_, [], whole))) c.in_err-take.ensures.refused)))

pub returns-in_err-components-clause-stops : goal.returns-in_err-components-clause-stops
returns-in_err-components-clause-stops c =
    let p = err_from_is_err_and c.from_residual-in_err-components.result c.from_residual-in_err-components.ensures.1 in
    rw (p.1, p.2) (λ no t is. leaves_to_halt (body_begins t sign.Product is) (leaves_to_halt (name_next c.in_ok-first.ensures.taken) (leaves_to_halt (sign_next c.in_ok-take.ensures.taken)
    (halts_next (whole_ends (λ ns. product (string_bytes c.in_ok-first.first ∷ ns)) (ends_body sign.Star (λ no. cc) (λ no. cc))) (λ ns. (_, [], whole)) (c.in_err-components.ensures.stops no)))))

pub returns-clause-read : goal.returns-clause-read
returns-clause-read c = λ t is.
    rw c.in_ok-insert.ensures.items (leaves_on (body_begins t sign.Product is) (leaves_on (name_next c.in_ok-first.ensures.taken) (leaves_on (sign_next c.in_ok-take.ensures.taken)
    (leaves_next (whole_ends (λ ns. product (string_bytes c.in_ok-first.first ∷ ns)) (ends_body sign.Star (λ no. cc) (λ no. cc))) c.in_ok-components.ensures.read))))
