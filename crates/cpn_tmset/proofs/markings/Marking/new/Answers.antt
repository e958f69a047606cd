-- One place more without tokens.
use Rattle.std.proofs.Common.{◌≡◌, List, [], length, replicate, ap, ◌∙◌, arith}
use Rattle.std.proofs.lemmas.List.{length-replicate}
use Rattle.cpn_definitions.specs.Marking.{Tokens}
use Rattle.cpn_tmset.proofs.GrownLists.{repeated_next}
use Rattle.cpn_tmset.proofs.markings.Marking.new.Goals as goal

pub loop-place-init : goal.loop-place-init
loop-place-init c = c.in_ok-held.ensures.items

pub loop-place-preserved : goal.loop-place-preserved
loop-place-preserved c = repeated_next [] c.loop-place.held.items c.push.new.self.items c.loop-place._place c.new.result c.new.ensures.empty c.in_ok-push.ensures.items c.loop-place.invariant

pub returns : goal.returns
returns c =
    let all : c.loop-place._place ≡ c.args.places = omega arith in
    let none : Tokens = [] in
    record {
      empty = c.loop-place.invariant ∙ ap (λ n. replicate n none) all;
      places = ap (λ (held : List Tokens). length held) c.loop-place.invariant ∙ length-replicate c.loop-place._place none ∙ all;
    }
