-- Worked options and statuses, among them what no call of the program shows, since memory is there.
use Rattle.std.proofs.Common.{◌≡◌, ℕ, List, [], ◌∷◌, map, Some, None, refl}
use Rattle.std.specs.Prelude.{codes}
use Rattle.cpn_report.specs.declared.traces.Trace.TheVariants as traces
use Rattle.cpn_simulation.specs.Options.{the_options, number_text, trace_of}
use Rattle.cpn_simulation.specs.Statuses.{exit_number}
use Rattle.cpn_simulation.specs.declared.statuses.Status.TheVariants as statuses

-- the defaults of the mode, the seed, the workers, the steps, the last time and the trace
defaults_are : map (λ rule. rule.defaults) the_options ≡ (codes "run" ∷ []) ∷ (codes "0" ∷ []) ∷ (codes "1" ∷ []) ∷ (codes "1000" ∷ []) ∷ (codes "4611686018427387904" ∷ []) ∷ (codes "on" ∷ []) ∷ []
defaults_are = refl

names_are : map (λ rule. rule.long) the_options ≡ Some (codes "mode") ∷ Some (codes "seed") ∷ Some (codes "workers") ∷ Some (codes "steps") ∷ Some (codes "until") ∷ Some (codes "trace") ∷ []
names_are = refl

the_last_time : number_text (codes "4611686018427387904") ≡ 4611686018427387904
the_last_time = refl

a_plus_and_zeros : number_text (codes "+0012") ≡ 12
a_plus_and_zeros = refl

trace_on : trace_of (codes "on") ≡ Some traces.On
unfolding trace_of
trace_on = refl

trace_off : trace_of (codes "off") ≡ Some traces.Off
unfolding trace_of
trace_off = refl

no_trace_yes : trace_of (codes "yes") ≡ None
unfolding trace_of
no_trace_yes = refl

statuses_are
    : map exit_number (statuses.Done ∷ statuses.BadWords ∷ statuses.ReadFault ∷ statuses.BadDocument ∷ statuses.BadInscription ∷ statuses.BadNet ∷ statuses.RunFault ∷ statuses.WriteFault ∷ statuses.Memory ∷ statuses.TooLong ∷ [])
    ≡ 0 ∷ 1 ∷ 2 ∷ 3 ∷ 4 ∷ 5 ∷ 6 ∷ 7 ∷ 8 ∷ 9 ∷ []
statuses_are = refl
