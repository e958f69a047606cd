-- The next place is added behind those so far.
use Rattle.std.proofs.Common.{map, sym, arith}
use Rattle.std.proofs.lemmas.List.{append-nil}
use Rattle.cpn_core.specs.Nets.{place_view}
use Rattle.cpn_flat.specs.FlatNet.{joined_place}
use Rattle.cpn_flat.proofs.TakenItems.{pushed_all}
use Rattle.cpn_flat.proofs.places.push_places.Goals as goal

pub returns : goal.returns
returns c = record { pushed = pushed_all (joined_place c.args.whole.now) place_view c.args.module.now.places.items (map place_view c.args.places.now.items) c.loop-place.place-index _ c.loop-place.invariant (let e = c.loop-place-test.false in omega (arith, c.deref-place-items.ensures.len)) }

pub loop-place-init : goal.loop-place-init
loop-place-init c = sym (append-nil (map place_view c.args.places.now.items))
