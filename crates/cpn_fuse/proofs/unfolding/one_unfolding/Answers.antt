-- The laws of unfolding.
use Rattle.cpn_fuse.proofs.ComingFirst as laws
use Rattle.cpn_fuse.proofs.unfolding.one_unfolding.Goals as goal

pub returns : goal.returns
returns c = record {
  one = λ h first second. laws.one_unfolding h first second;
  one_refusal = λ h first second. laws.one_refusal h first second;
  not_both = λ h instances refusal. laws.not_both h instances refusal;
}
