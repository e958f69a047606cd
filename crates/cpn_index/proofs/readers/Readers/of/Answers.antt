-- The readers among the transitions so far, and one transition more.
use Rattle.std.proofs.Common.{◌∙◌, ◌<◌, length, sym, ap, subst, arith}
use Rattle.std.specs.List.{AllByRecursion}
use Rattle.cpn_core.specs.Nets.{arcs_view, net_view}
use Rattle.cpn_index.specs.Readers.{has_term, reads_otherwise, IsReadable}
use Rattle.cpn_index.proofs.ReadersBelow.{transition_more, readers_all, inputs_are, readable_inputs, placed_inputs}
use Rattle.cpn_index.proofs.readers.Readers.of.Goals as goal

pub push_arcs-requires-clause-readable : goal.push_arcs-requires-clause-readable
push_arcs-requires-clause-readable c =
    subst (λ arcs. AllByRecursion IsReadable (arcs_view arcs)) (sym c.deref.ensures.value) (readable_inputs c.args.net.now c.loop-t.t c.index.result.now c.requires.sound (omega arith) c.index.ensures)

pub push_arcs-requires-clause-with_term : goal.push_arcs-requires-clause-with_term
push_arcs-requires-clause-with_term c =
    let lists = c.loop-t.readers.with_term.items in
    subst (λ arcs. AllByRecursion (λ arc. arc.place < length lists) (arcs_view arcs)) (sym c.deref.ensures.value) (placed_inputs c.args.net.now lists c.loop-t.t c.index.result.now c.loop-t.invariant.with_term.as_many c.requires.sound (omega arith) c.index.ensures)

pub push_arcs-requires-clause-otherwise : goal.push_arcs-requires-clause-otherwise
push_arcs-requires-clause-otherwise c =
    let lists = c.loop-t.readers.otherwise.items in
    subst (λ arcs. AllByRecursion (λ arc. arc.place < length lists) (arcs_view arcs)) (sym c.deref.ensures.value) (placed_inputs c.args.net.now lists c.loop-t.t c.index.result.now c.loop-t.invariant.otherwise.as_many c.requires.sound (omega arith) c.index.ensures)

pub loop-t-preserved : goal.loop-t-preserved
loop-t-preserved c =
    let n = net_view c.args.net.now in
    let arcs = arcs_view c.deref.result.now in
    let its = inputs_are c.args.net.now c.loop-t.t c.index.result.now (omega arith) c.index.ensures ∙ ap arcs_view (sym c.deref.ensures.value) in
    record {
      with_term = transition_more n has_term c.loop-t.t arcs c.loop-t.readers.with_term.items c.push_arcs.new.self.with_term.items c.loop-t.invariant.with_term c.in_ok-push_arcs.ensures.with_term its;
      otherwise = transition_more n reads_otherwise c.loop-t.t arcs c.loop-t.readers.otherwise.items c.push_arcs.new.self.otherwise.items c.loop-t.invariant.otherwise c.in_ok-push_arcs.ensures.otherwise its;
    }

pub returns : goal.returns
returns c = record { readers = readers_all c.args.net.now c.loop-t.t c.loop-t.readers (omega arith) (omega arith) c.loop-t.invariant.with_term c.loop-t.invariant.otherwise }
