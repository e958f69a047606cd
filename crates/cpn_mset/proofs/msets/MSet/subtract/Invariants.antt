-- What is left to take is covered, and taking it leaves what taking all leaves.
use Rattle.std.proofs.Common.{◌≡◌, ◌-◌, ◌≤◌}
use Rattle.cpn_definitions.specs.Value.{PlainValue}
use Rattle.cpn_mset.specs.MSets.{appearances, IsMSet}
use Rattle.cpn_mset.specs.Views.{counts_view}
use Rattle.cpn_mset.proofs.msets.MSet.subtract.Given as goal

abbrev pub invariant-loop-value : goal.invariant-loop-value
invariant-loop-value l = record {
  is : IsMSet (counts_view l.value-iterator);
  covered : (v : PlainValue) → appearances v (counts_view l.value-iterator) ≤ appearances v l.self;
  left : (v : PlainValue) → appearances v l.self - appearances v (counts_view l.value-iterator) ≡ appearances v l.initial.self - appearances v l.other;
}
