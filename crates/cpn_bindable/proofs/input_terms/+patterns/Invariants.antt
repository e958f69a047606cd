-- The patterns so far, and then those of the rest, are the patterns of all.
use Rattle.std.proofs.Common.{◌≡◌, map, drop}
use Rattle.cpn_definitions.specs.Bindable.{patterns_of}
use Rattle.cpn_core.specs.Inscriptions.{pattern_view, exprs_view}
use Rattle.cpn_bindable.proofs.PatternLists.{with_front}
use Rattle.cpn_bindable.proofs.input_terms.+patterns.Given as goal

abbrev pub invariant-patterns_of-loop-part : goal.invariant-patterns_of-loop-part
invariant-patterns_of-loop-part l =
    with_front (map pattern_view l.patterns.items) (patterns_of (exprs_view (drop l.part-index l.parts.items))) ≡ patterns_of (exprs_view l.parts.items)
