-- The names of the substitution transitions are known.
use Rattle.cpn_module.proofs.numbered.structure_of.Goals as goal

pub substitutions_of-requires-clause-known : goal.substitutions_of-requires-clause-known
substitutions_of-requires-clause-known c = rw (c.as_slice-2.ensures.value, c.requires.places) c.requires.known.subs
