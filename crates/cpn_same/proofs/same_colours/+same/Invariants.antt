-- The rows are the same where those that are left are.
use Rattle.std.proofs.Common.{◌≡◌, drop}
use Rattle.cpn_core.specs.Colours.{constructors_view, shapes_view}
use Rattle.cpn_same.specs.SameColours.{same_constructors, same_shapes}
use Rattle.cpn_same.proofs.same_colours.+same.Given as goal

abbrev pub invariant-same_shapes-loop-i : goal.invariant-same_shapes-loop-i
invariant-same_shapes-loop-i l =
    same_shapes (shapes_view l.shapes.items) (shapes_view l.others.items) ≡ same_shapes (shapes_view (drop l.i l.shapes.items)) (shapes_view (drop l.i l.others.items))

abbrev pub invariant-same_constructors-loop-i : goal.invariant-same_constructors-loop-i
invariant-same_constructors-loop-i l =
    same_constructors (constructors_view l.constructors.items) (constructors_view l.others.items)
    ≡ same_constructors (constructors_view (drop l.i l.constructors.items)) (constructors_view (drop l.i l.others.items))
