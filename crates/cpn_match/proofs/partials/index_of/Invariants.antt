-- The index of the variable is that among the pairs that are left, so many further on.
use Rattle.std.proofs.Common.{◌≡◌, ℕ, ◌+◌, drop}
use Rattle.std.specs.Option.{option_map}
use Rattle.cpn_match.specs.Pairs.{pairs_view}
use Rattle.cpn_match.specs.Indices.{index_among}
use Rattle.cpn_match.proofs.partials.index_of.Given as goal

abbrev pub invariant-loop-index : goal.invariant-loop-index
invariant-loop-index l = index_among l.variable (pairs_view l.pairs) ≡ option_map (λ (k : ℕ). k + l.index) (index_among l.variable (pairs_view (drop l.index l.pairs)))
