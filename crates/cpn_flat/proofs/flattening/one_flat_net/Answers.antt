-- What is accepted means one thing, since its hierarchy unfolds to one thing.
use Rattle.cpn_flat.proofs.OneFlatNet.{unfolded_one, flat_one}
use Rattle.cpn_flat.proofs.flattening.one_flat_net.Goals as goal

pub returns : goal.returns
returns c = record {
  one = λ d accepted. flat_one d accepted (unfolded_one accepted.hierarchy (c.one_unfolding.ensures.one accepted.hierarchy) (c.one_unfolding.ensures.one_refusal accepted.hierarchy) (c.one_unfolding.ensures.not_both accepted.hierarchy));
}
