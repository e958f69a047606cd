-- The number in the lists of the place of one arc more.
use Rattle.std.proofs.Common.{◌+◌, ◌<◌, length, take, arith}
use Rattle.std.specs.List.{list_any}
use Rattle.cpn_core.specs.Nets.{arc_view, arcs_view}
use Rattle.cpn_index.specs.Readers.{has_term, reads_otherwise, bears, IsReadable}
use Rattle.cpn_index.proofs.ReaderLists.{with_both, any_next, arc_known}
use Rattle.cpn_index.proofs.readers.Readers.push_arcs.Goals as goal

pub push_arc-requires-clause-readable : goal.push_arc-requires-clause-readable
push_arc-requires-clause-readable c = arc_known IsReadable c.args.inputs.now c.loop-arc.arc-index c.arc-item.result c.loop-arc-test.true c.arc-item.is c.requires.readable

pub push_arc-requires-clause-with_term : goal.push_arc-requires-clause-with_term
push_arc-requires-clause-with_term c =
    let known = arc_known (λ arc. arc.place < length c.args.self.now.with_term.items) c.args.inputs.now c.loop-arc.arc-index c.arc-item.result c.loop-arc-test.true c.arc-item.is c.requires.with_term in
    let as_many = c.loop-arc.invariant.with_term.as_many in omega (arith, known, as_many)

pub push_arc-requires-clause-otherwise : goal.push_arc-requires-clause-otherwise
push_arc-requires-clause-otherwise c =
    let known = arc_known (λ arc. arc.place < length c.args.self.now.otherwise.items) c.args.inputs.now c.loop-arc.arc-index c.arc-item.result c.loop-arc-test.true c.arc-item.is c.requires.otherwise in
    let as_many = c.loop-arc.invariant.otherwise.as_many in omega (arith, known, as_many)

pub loop-arc-preserved : goal.loop-arc-preserved
loop-arc-preserved c =
    let arcs = c.args.inputs.now in
    let i = c.loop-arc.arc-index in
    let arc = c.arc-item.result in
    record {
      with_term = with_both (λ p. list_any (bears has_term p) (arcs_view (take i arcs))) (λ p. bears has_term p (arc_view arc)) (λ p. list_any (bears has_term p) (arcs_view (take (i + 1) arcs))) c.args.number
          c.args.self.now.with_term.items c.loop-arc.self.with_term.items c.push_arc.new.self.with_term.items
          c.loop-arc.invariant.with_term c.in_ok-push_arc.ensures.with_term (λ p. any_next (bears has_term p) arcs i arc c.loop-arc-test.true c.arc-item.is);
      otherwise = with_both (λ p. list_any (bears reads_otherwise p) (arcs_view (take i arcs))) (λ p. bears reads_otherwise p (arc_view arc)) (λ p. list_any (bears reads_otherwise p) (arcs_view (take (i + 1) arcs))) c.args.number
          c.args.self.now.otherwise.items c.loop-arc.self.otherwise.items c.push_arc.new.self.otherwise.items
          c.loop-arc.invariant.otherwise c.in_ok-push_arc.ensures.otherwise (λ p. any_next (bears reads_otherwise p) arcs i arc c.loop-arc-test.true c.arc-item.is);
    }
