-- What words give, worked out by hand: the default and the value of each option, and the names of the mode and of the trace.
use Rattle.std.proofs.Common.{◌≡◌, ℕ, Bool, true, false, true≢false, List, [], ◌∷◌, Some, None, is_some, refl, sym, ap, inl, inr, codes}
use Rattle.std.specs.Prelude.{◌⊎◌, if◌then◌else◌, unwrap_or}
use Rattle.std.specs.Bool.{Decides}
use Rattle.std.specs.Str.{bytes_eq}
use Rattle.std.proofs.lemmas.Slice.Eq.{bytes_eq-Decides}
use Rattle.clap.specs.Faults.{walk_fault, defaults_fault}
use Rattle.clap.specs.Walk.{walked}
use Rattle.cpn_simulation.specs.Options.{options_from, options_in, mode_of, trace_in, trace_of}
use Rattle.cpn_simulation.specs.declared.options.Mode.TheVariants as modes
use Rattle.cpn_report.specs.declared.traces.Trace.{Trace}
use Rattle.cpn_report.specs.declared.traces.Trace.TheVariants as traces

no_words : options_from [] ≡ Some (record { mode = modes.Run; seed = 0; workers = 1; steps = 1000; until = 4611686018427387904; trace = traces.On })
unfolding options_from options_in mode_of trace_in trace_of walk_fault defaults_fault
no_words = refl

each_option : options_from (codes "--until" ∷ codes "7" ∷ codes "--trace=off" ∷ codes "--seed" ∷ codes "+5" ∷ codes "--steps" ∷ codes "002" ∷ codes "--workers=2" ∷ codes "--mode" ∷ codes "run" ∷ []) ≡ Some (record { mode = modes.Run; seed = 5; workers = 2; steps = 2; until = 7; trace = traces.Off })
unfolding options_from options_in mode_of trace_in trace_of walk_fault defaults_fault walked
each_option = refl

trace_yes : options_from (codes "--trace" ∷ codes "yes" ∷ []) ≡ None
unfolding options_from options_in mode_of trace_of walk_fault defaults_fault walked
trace_yes = refl

-- in mode large neither a trace nor the places are told, whatever trace is asked for
mode_large : options_from (codes "--mode" ∷ codes "large" ∷ []) ≡ Some (record { mode = modes.Large; seed = 0; workers = 1; steps = 1000; until = 4611686018427387904; trace = traces.Brief })
unfolding options_from options_in mode_of trace_in trace_of walk_fault defaults_fault walked
mode_large = refl

mode_reps : options_from (codes "--mode=reps" ∷ []) ≡ None
unfolding options_from options_in mode_of trace_of walk_fault defaults_fault walked
mode_reps = refl

most_workers : options_from (codes "--workers" ∷ codes "64" ∷ []) ≡ Some (record { mode = modes.Run; seed = 0; workers = 64; steps = 1000; until = 4611686018427387904; trace = traces.On })
unfolding options_from options_in mode_of trace_in trace_of walk_fault defaults_fault walked
most_workers = refl

too_many_workers : options_from (codes "--workers" ∷ codes "65" ∷ []) ≡ None
unfolding options_from options_in trace_of walk_fault defaults_fault walked
too_many_workers = refl

no_workers : options_from (codes "--workers=0" ∷ []) ≡ None
unfolding options_from options_in trace_of walk_fault defaults_fault walked
no_workers = refl

past_the_last_time : options_from (codes "--until" ∷ codes "4611686018427387905" ∷ []) ≡ None
unfolding options_from options_in trace_of walk_fault defaults_fault walked
past_the_last_time = refl

-- no other text than `on` and `off` is the name of a trace
only_on_and_off : (name : List ℕ) (trace : Trace) → trace_of name ≡ Some trace → ((name ≡ codes "on") × (trace ≡ traces.On)) ⊎ ((name ≡ codes "off") × (trace ≡ traces.Off))
unfolding trace_of
only_on_and_off name trace is = by_on (bytes_eq name (codes "on")) (bytes_eq name (codes "off")) (bytes_eq-Decides name (codes "on")) (bytes_eq-Decides name (codes "off")) is
  where
    by_on : (on off : Bool) → Decides on (name ≡ codes "on") → Decides off (name ≡ codes "off")
        → (if on then Some traces.On else (if off then Some traces.Off else None)) ≡ Some trace
        → ((name ≡ codes "on") × (trace ≡ traces.On)) ⊎ ((name ≡ codes "off") × (trace ≡ traces.Off))
    by_on true off is_on is_off e = inl (is_on.0 refl, sym (ap (λ o. unwrap_or o traces.On) e))
    by_on false true is_on is_off e = inr (is_off.0 refl, sym (ap (λ o. unwrap_or o traces.On) e))
    by_on false false is_on is_off e = absurd (true≢false (sym (ap is_some e)))
