-- The net is sound, and the run starts from a marking of it.
use Rattle.std.proofs.Common.{sym, subst}
use Rattle.cpn_definitions.specs.Sound.{IsSound, IsMarking}
use Rattle.cpn_core.specs.Nets.{net_view}
use Rattle.cpn_test_program.proofs.plays.held_at_start.Goals as goal

pub of-requires-clause-sound : goal.of-requires-clause-sound
of-requires-clause-sound c = subst (λ n. IsSound (net_view n)) (sym c.deref.ensures) c.requires.playable.sound

pub of-requires-clause-marking : goal.of-requires-clause-marking
of-requires-clause-marking c = subst (λ n. IsMarking (net_view n).places c.args.setup.now.start) (sym c.deref.ensures) c.requires.playable.marking
