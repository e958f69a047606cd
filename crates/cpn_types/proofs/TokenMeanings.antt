-- What is accepted as an inscription of tokens has a meaning.
use Rattle.std.proofs.Common.{◌≡◌}
use Rattle.cpn_definitions.specs.Colour.{PlainColour}
use Rattle.cpn_definitions.specs.Inscription.{ArcInscription}
use Rattle.cpn_definitions.proofs.RisingLists.{in_from_contains, contains_from_in}
use Rattle.cpn_trees.specs.Trees.{PlainAst}
use Rattle.cpn_typing.specs.Names.{Declared, ok}
use Rattle.cpn_typing.specs.Multisets.{Side, checked_arc, checked_init}
use Rattle.cpn_typing.proofs.MeaningsInNets.{arc_means, init_means}
use Rattle.cpn_types.specs.Accepted.{ArcHasMeaning, InitHasMeaning}

pub arc_has_meaning : (ds : Declared) (side : Side) (colour : PlainColour) (a : PlainAst) (m : ArcInscription) → checked_arc ds side colour a ≡ ok m → ArcHasMeaning ds m
arc_has_meaning ds side colour a m is good n of vars among at b time bound =
    arc_means ds good n of side colour a m is vars (λ x h. in_from_contains vars x (among x (contains_from_in _ x h))) at b time bound

pub init_has_meaning : (ds : Declared) (colour : PlainColour) (a : PlainAst) (m : ArcInscription) → checked_init ds colour a ≡ ok m → InitHasMeaning ds colour m
init_has_meaning ds colour a m is good funs are b time = init_means ds good funs are colour a m is b time
