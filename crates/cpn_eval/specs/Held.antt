-- The plain values that those of an evaluation stand for.
use Rattle.std.specs.Prelude.{List, map, reverse, Vec}
use Rattle.std.specs.declared.alloc.Global.{Global}
use Rattle.cpn_definitions.specs.Value.{PlainValue, list}
use Rattle.cpn_core.specs.Views.{value_view, values_view}
use Rattle.cpn_eval.specs.declared.held.Backwards.{Backwards}
use Rattle.cpn_eval.specs.declared.held.Held.{Held}
use Rattle.cpn_eval.specs.declared.held.Held.TheVariants as helds

-- a list that is kept backwards
abbrev pub backwards_view : Backwards → PlainValue
backwards_view backwards = list (values_view (reverse backwards.items.items))

abbrev pub held_view : Held → PlainValue
held_view (helds.Plain v) = value_view v
held_view (helds.Backwards backwards) = backwards_view backwards

-- several of them
abbrev pub all_held : Vec Held Global → List PlainValue
all_held helds = map held_view helds.items
