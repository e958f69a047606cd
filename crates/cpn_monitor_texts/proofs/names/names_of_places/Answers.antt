-- The next name is added, until all are.
use Rattle.std.proofs.Common.{ap, ◌∙◌, arith}
use Rattle.std.specs.Prelude.{string_bytes}
use Rattle.cpn_core.specs.Nets.{place_view}
use Rattle.cpn_core.specs.declared.nets.Place.{Place}
use Rattle.cpn_names.specs.Names.{texts_of}
use Rattle.cpn_names.proofs.NameNumbers.{names_more, names_all}
use Rattle.cpn_monitor_texts.proofs.names.names_of_places.Goals as goal

pub loop-place-preserved : goal.loop-place-preserved
loop-place-preserved c =
    rw c.in_ok-push.ensures.items (names_more (λ x. x.name) place_view c.args.places.now c.loop-place.place-index c.place-item.result c.loop-place-test.true c.loop-place.names.items c.as_str.result (c.as_str.ensures.value ∙ ap (λ (x : Place). string_bytes x.name) c.place-item.is) c.loop-place.invariant)

pub loop-place-init : goal.loop-place-init
loop-place-init c = ap texts_of c.in_ok-names.ensures.items

pub returns : goal.returns
returns c = record { names = names_all (λ x. x.name) place_view c.args.places.now c.loop-place.place-index (omega arith) c.loop-place.names.items c.loop-place.invariant c.of.result c.of.ensures.names }
