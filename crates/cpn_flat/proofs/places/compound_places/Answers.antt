-- All first members were copied.
use Rattle.std.proofs.Common.{map, ap, ◌∙◌, arith}
use Rattle.std.proofs.lemmas.List.{take_all}
use Rattle.cpn_core.specs.Nets.{place_view}
use Rattle.cpn_flat.specs.FlatNet.{compound_among}
use Rattle.cpn_flat.proofs.places.compound_places.Goals as goal

pub loop-class-init : goal.loop-class-init
loop-class-init c = ap (λ made. map place_view made) c.new-made.ensures.items

pub returns : goal.returns
returns c = record { compound = c.loop-class.invariant ∙ ap (λ firsts. compound_among (map place_view c.args.places.now) firsts) (take_all c.loop-class.class c.args.classes.now.firsts (omega arith)) }
