-- The next name is added, until all are.
use Rattle.std.proofs.Common.{ap, ◌∙◌, arith}
use Rattle.std.specs.Prelude.{string_bytes}
use Rattle.cpn_document.specs.declared.document.Place.{Place}
use Rattle.cpn_document.specs.Views.{place_view}
use Rattle.cpn_module.specs.Names.{texts_of}
use Rattle.cpn_module.proofs.NameNumbers.{names_more, names_all}
use Rattle.cpn_module.proofs.name_lists.Names.of_places.Goals as goal

pub loop-place-preserved : goal.loop-place-preserved
loop-place-preserved c =
    rw c.in_ok-push.ensures.items (names_more (λ p. p.name) place_view c.args.places.now c.loop-place.place-index c.place-item.result c.loop-place-test.true c.loop-place.names.items c.as_str.result (c.as_str.ensures.value ∙ ap (λ (p : Place). string_bytes p.name) c.place-item.is) c.loop-place.invariant)

pub loop-place-init : goal.loop-place-init
loop-place-init c = ap texts_of c.in_ok-names.ensures.items

pub returns : goal.returns
returns c = record { names = names_all (λ p. p.name) place_view c.args.places.now c.loop-place.place-index (omega arith) c.loop-place.names.items c.loop-place.invariant c.of.result c.of.ensures.names }
