-- Boxes of probes. Boxes of all probes have one type; `vtable` is the kind of the probe in a box, and `value` its state. (Own choice.)
use Rattle.std.specs.Prelude.{◌≡◌}
use Rattle.std.specs.declared.dyn_box.DynBox.{DynBox}
use Rattle.cpn_definitions.specs.Legal.{PlainOccurrence}

-- Boxed: the box is as it was, but for the probe in it, which has noted the occurrence by its own relation.
abbrev pub Boxed : {Kind Alloc : Type 0} {State : Kind → Type 0} → ((before : DynBox Kind Alloc State) → PlainOccurrence → State before.vtable → Type 0)
    → DynBox Kind Alloc State → PlainOccurrence → DynBox Kind Alloc State → Type 0
Boxed {Kind} {Alloc} {State} notes before o now = (noted : State before.vtable) × notes before o noted × (◌≡◌ {A = DynBox Kind Alloc State} now (record before { value = noted }))
