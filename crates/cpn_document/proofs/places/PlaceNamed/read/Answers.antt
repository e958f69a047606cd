-- The rules are looked at one group behind the other.
use Rattle.cpn_document.specs.Document.{place_rules}
use Rattle.cpn_document.specs.Views.{place_view}
use Rattle.cpn_document.proofs.BrokenRules.{refused_or, refused_later, is_refused, is_kept, error_breaks, breaks_here, gives_error}
use Rattle.cpn_document.proofs.places.PlaceNamed.read.Goals as goal

pub returns-in_err-add_named-clause-gives : goal.returns-in_err-add_named-clause-gives
unfolding place_rules
returns-in_err-add_named-clause-gives c =
    let broken = rw (c.place_keys.ensures.exact, c.at_place-whole.ensures.exact, c.at_place-at_name.ensures.exact) at c.in_err-add_named.ensures.gives in
    gives_error place_view c.from_residual.result _ _ c.in_err-add_named.field-0.0 c.from_residual.ensures.1 (breaks_here _ _ _ (breaks_here _ _ _ (breaks_here _ _ _ broken)))

pub returns-in-Some-clause-gives : goal.returns-in-Some-clause-gives
unfolding place_rules
returns-in-Some-clause-gives c =
    let front = rw (c.place_keys.ensures.exact, c.at_place-whole.ensures.exact, c.at_place-at_name.ensures.exact) at c.in_ok-add_named.ensures.gives.1 in
    let colour = rw (c.at_place-whole.ensures.exact, c.at_place-at_colour.ensures.exact) at c.text_refusal.ensures.exact in
    let initial = rw (c.at_place-whole.ensures.exact, c.at_place-at_initial.ensures.exact) at c.optional_text_refusal.ensures.exact in
    let port = rw (c.at_place-whole.ensures.exact, c.at_place-at_port.ensures.exact) at c.port_refusal.ensures.exact in
    let all = refused_or _ _ _ _ _ c.or-refused.ensures (refused_or _ _ _ _ _ c.or.ensures (refused_later _ _ _ front colour) initial) port in
    error_breaks _ _ _ c.from.ensures (is_refused _ _ _ all c.in-Some.is)

pub returns-clause-gives : goal.returns-clause-gives
unfolding place_rules
returns-clause-gives c =
    let front = rw (c.place_keys.ensures.exact, c.at_place-whole.ensures.exact, c.at_place-at_name.ensures.exact) at c.in_ok-add_named.ensures.gives.1 in
    let colour = rw (c.at_place-whole.ensures.exact, c.at_place-at_colour.ensures.exact) at c.text_refusal.ensures.exact in
    let initial = rw (c.at_place-whole.ensures.exact, c.at_place-at_initial.ensures.exact) at c.optional_text_refusal.ensures.exact in
    let port = rw (c.at_place-whole.ensures.exact, c.at_place-at_port.ensures.exact) at c.port_refusal.ensures.exact in
    let all = refused_or _ _ _ _ _ c.or-refused.ensures (refused_or _ _ _ _ _ c.or.ensures (refused_later _ _ _ front colour) initial) port in
    (c.in_ok-place.ensures.reads, is_kept _ _ all c.in_default.is)
