-- What an accepted and a refused parse give.
use Rattle.std.proofs.Common.{◌≡◌, ◌⊎◌, ◌∙◌, ℕ, List, [], ◌∷◌, map, string_bytes, true, ap, refl, sym, subst, inl, inr, ⊎_elim, None}
use Rattle.clap.specs.Kinds.{HasKind, IsAmong, Kinds}
use Rattle.clap.specs.Words.{app_of, fault_of, is_simple_and_free, kind_of, matches_of}
use Rattle.clap.specs.declared.error.Error.{Error}
use Rattle.clap.specs.declared.error.kind.ErrorKind.{ErrorKind}
use Rattle.clap.specs.declared.error.kind.ErrorKind.TheVariants as kind
use Rattle.clap.proofs.OnLiterals.{clap_on_literals}
use Rattle.cpn_simulation.specs.Options.{command_line, options_from, options_in, unless_faulty}
use Rattle.cpn_simulation.specs.Words.{IsOfWords}
use Rattle.cpn_simulation.specs.declared.no_options.NoOptions.{NoOptions}
use Rattle.cpn_simulation.specs.declared.no_options.NoOptions.TheVariants as reasons
use Rattle.cpn_simulation.proofs.Readings.{given_values}
use Rattle.cpn_simulation.proofs.words.matches_of.Goals as goal

-- the command line is simple, and no option has a rule on another
is_simple : is_simple_and_free command_line ≡ true
unfolding clap_on_literals
is_simple = refl

-- words at which the command has a fault give no options
faulty : (words : List (List ℕ)) (k : ErrorKind) → IsAmong k (fault_of command_line words) → options_from words ≡ None
unfolding options_from
faulty words k among = go (fault_of command_line words) among
  where
    go : (kinds : Kinds) → IsAmong k kinds → unless_faulty kinds (options_in (matches_of command_line words)) ≡ None
    go [] among = absurd among
    go (x ∷ xs) among = refl

-- an error that is not want of memory is a fault of the command
of_error : (words : List (List ℕ)) (e : Error) (r : NoOptions) → HasKind (fault_of command_line words) e → (kind_of e ≡ kind.OutOfMemory → r ≡ reasons.Memory)
    → (r ≡ reasons.Refused) ⊎ (kind_of e ≡ kind.OutOfMemory) → IsOfWords r words
of_error words e r (inl memory) to_memory which = subst (λ q. IsOfWords q words) (sym (to_memory memory)) tt
of_error words e r (inr among) to_memory (inr memory) = subst (λ q. IsOfWords q words) (sym (to_memory memory)) tt
of_error words e r (inr among) to_memory (inl is) = subst (λ q. IsOfWords q words) (sym is) (faulty words (kind_of e) among)

pub returns-in-Ok-try_get_matches_from-clause-values : goal.returns-in-Ok-try_get_matches_from-clause-values
returns-in-Ok-try_get_matches_from-clause-values c =
    given_values _ c.in-Ok-try_get_matches_from.matches c.in-Ok-try_get_matches_from.ensures.parsed c.in-Ok.ensures

pub returns-in-Err-clause-cause : goal.returns-in-Err-clause-cause
returns-in-Err-clause-cause c =
    let simple : is_simple_and_free (app_of c.in-Ok.command) ≡ true = ap is_simple_and_free c.in-Ok.ensures ∙ is_simple in
    let fails = c.in-Err.ensures.kinds simple in
    of_error (map string_bytes c.args.words.now) c.in-Err.error c.reason_of.result (subst (λ a. HasKind (fault_of a (map string_bytes c.args.words.now)) c.in-Err.error) c.in-Ok.ensures fails) (λ m. c.reason_of.ensures.memory (c.kind.ensures ∙ m)) (⊎_elim (λ is. inl is) (λ m. inr (sym c.kind.ensures ∙ m)) c.reason_of.ensures.words)
