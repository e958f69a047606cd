-- The trees join what the pairs so far join, and in the end what all join.
use Rattle.std.proofs.Common.{◌≡◌, [], ◌∷◌, ◌++◌, take, get_or, ◌∙◌, arith}
use Rattle.std.proofs.lemmas.List.{take_more, take_all}
use Rattle.std.proofs.lemmas.List.FromFn.{length-range_with_len}
use Rattle.std.proofs.lemmas.Result.{IfOk-weaker}
use Rattle.cpn_classes.specs.Trees.{links, JoinTheSame}
use Rattle.cpn_classes.specs.JoinedPairs.{same_through, same_with_more}
use Rattle.cpn_classes.proofs.Links.{alone_joins}
use Rattle.cpn_classes.specs.OneNumbering.{numbering_by_same}
use Rattle.cpn_classes.specs.OneNumbering.{numbering_same}
use Rattle.cpn_classes.proofs.classes.Classes.of.Goals as goal

pub join-requires : goal.join-requires
join-requires c =
    let within = c.requires.items c.loop-one.one-index (0, 0) c.loop-one-test.true in
    record { one = rw c.loop-one.invariant.as_many within.0; other = rw c.loop-one.invariant.as_many within.1 }

pub loop-one-init : goal.loop-one-init
loop-one-init c = record {
  as_many = rw c.in_ok-trees.ensures.alone (length-range_with_len 0 c.args.count);
  same = rw c.in_ok-trees.ensures.alone (alone_joins c.args.count);
}

pub loop-one-preserved : goal.loop-one-preserved
loop-one-preserved c =
    let pair = get_or c.args.pairs.now c.loop-one.one-index (0, 0) in
    let front = take c.loop-one.one-index c.args.pairs.now in
    record {
      as_many = c.join.ensures.length ∙ c.loop-one.invariant.as_many;
      same = rw (take_more c.args.pairs.now c.loop-one.one-index (0, 0) c.loop-one-test.true)
          (same_through (links c.join.new.self) (pair ∷ links c.loop-one.trees) (front ++ pair ∷ []) c.join.ensures.joined (same_with_more (links c.loop-one.trees) front pair c.loop-one.invariant.same));
    }

pub returns : goal.returns
returns c =
    let all : take c.loop-one.one-index c.args.pairs.now ≡ c.args.pairs.now = take_all c.loop-one.one-index c.args.pairs.now (omega arith) in
    let joined : JoinTheSame (links c.loop-one.trees) c.args.pairs.now = rw all at c.loop-one.invariant.same in
    let same : JoinTheSame (links c.parents.result.now) c.args.pairs.now = rw c.parents.ensures.parents joined in
    record {
      numbering = IfOk-weaker c.of_trees.result _ _ (λ classes is. numbering_by_same c.args.count (links c.parents.result.now) c.args.pairs.now classes same is) c.of_trees.ensures.numbering;
      only = IfOk-weaker c.of_trees.result _ _ (λ classes is n is_n. numbering_same c.args.count c.args.pairs.now n classes is_n (numbering_by_same c.args.count (links c.parents.result.now) c.args.pairs.now classes same is)) c.of_trees.ensures.numbering;
    }
