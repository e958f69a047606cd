-- The initial marking: its two steps, and how many values there are, with how many tokens.
use Rattle.std.proofs.Common.{◌≡◌, ℕ, suc, ◌≤◌, List, [], ◌∷◌, length, map, refl, sym, ap, ◌∙◌, subst}
use Rattle.std.specs.Prelude.{Option, Some, None}
use Rattle.std.proofs.lemmas.List.{length-map}
use Rattle.cpn_definitions.specs.Colour.{PlainColour}
use Rattle.cpn_definitions.specs.Inscription.{Functions, variable, one}
use Rattle.cpn_definitions.specs.Marking.{Marking}
use Rattle.cpn_definitions.specs.Net.{Coloured, PlainNet, place_at}
use Rattle.cpn_definitions.specs.Outcome.{Outcome, gives, faults, no_meaning}
use Rattle.cpn_definitions.specs.Terms.{PlainTerm, most_tokens, tokens_in, terms_of}
use Rattle.cpn_definitions.proofs.TokenCounts.{tokens_are_few}
use Rattle.cpn_accepted.specs.Nets.{Initial}
use Rattle.cpn_readings.specs.Relations.{each_so, RefusesBy}
use Rattle.cpn_readings.proofs.Readings.{same_read}
use Rattle.cpn_readings.proofs.RelatedLists.{AreRead, each_read}
use Rattle.cpn_readings.proofs.RelatedReadings.{then_read, refused_first, refused_next}
use Rattle.cpn_flat.specs.Refusals.{FlatRefusal, Reading, read}
use Rattle.cpn_flat.specs.InitialMarking.{terms_so, value_so, values_so, AreAllMeant, evaluated, held_together, started}
use Rattle.cpn_flat.specs.Values.{AreFew, AreAllFew}
use Rattle.cpn_flat.proofs.SharedMarkings.{Shares}

-- ---- the steps

module _ (n : PlainNet) (written : List (List Initial)) (meant : AreAllMeant n.functions written) where
  -- those that are held together are started with
  all_meant : (o : Option FlatRefusal) → RefusesBy (held_together n written) o → RefusesBy (started n written) o
  unfolding started
  all_meant None h = tt
  all_meant (Some refusal) h = (meant, h)

  -- an initial marking has a fault
  refused_together : (o : Option FlatRefusal) → RefusesBy (evaluated n written) o → RefusesBy (held_together n written) o
  unfolding held_together
  refused_together o h = refused_first (evaluated n written) _ o h

  pub started_refused : (o : Option FlatRefusal) → RefusesBy (evaluated n written) o → RefusesBy (started n written) o
  started_refused o h = all_meant o (refused_together o h)

  module _ (values : List (List (List PlainTerm))) (are : evaluated n written (read values)) where
    -- the members of each compound place share their tokens
    pub started_read : (m : Marking) → each_so (Shares n) 0 values (read m) → started n written (read m)
    unfolding started held_together
    started_read m h = (meant, then_read (evaluated n written) _ values (read m) are h)

    -- those of one compound place do not
    apart_together : (o : Option FlatRefusal) → RefusesBy (each_so (Shares n) 0 values) o → RefusesBy (held_together n written) o
    unfolding held_together
    apart_together o h = refused_next (evaluated n written) _ values o are h

    pub started_apart : (o : Option FlatRefusal) → RefusesBy (each_so (Shares n) 0 values) o → RefusesBy (started n written) o
    started_apart o h = all_meant o (apart_together o h)

-- ---- where an initial marking has no meaning, there is no reading, as where it is a variable: alone, and after one with a fault

a_variable_alone : (n : PlainNet) (colour : PlainColour) (r : Reading Marking) → started n ((record { expr = one (variable 0); colour = colour } ∷ []) ∷ []) r → ⊥
unfolding started
a_variable_alone n colour r h = h.0.0.0 refl

a_variable_after : (n : PlainNet) (colour : PlainColour) (r : Reading Marking) (earlier : Initial) → started n ((earlier ∷ record { expr = one (variable 0); colour = colour } ∷ []) ∷ []) r → ⊥
unfolding started
a_variable_after n colour r earlier h = h.0.0.1.0 refl

-- ---- the values

-- one value has as few tokens as its inscription
value_few : (place : Coloured) (funs : Functions) (initial : Initial) (o : Outcome (List PlainTerm)) → terms_of funs initial.expr initial.colour [] 0 ≡ o → (terms : List PlainTerm) → terms_so place o (read terms) → tokens_in terms ≤ most_tokens
value_few place funs initial (gives given) is terms h = subst (λ ts. tokens_in ts ≤ most_tokens) (same_read given terms (sym h)) (tokens_are_few funs initial.expr initial.colour [] 0 given is)
value_few place funs initial (faults fault) is terms h = cc
value_few place funs initial no_meaning is terms h = absurd h

values_few : (funs : Functions) (place : Coloured) (i : ℕ) (initials : List Initial) (values : List (List PlainTerm)) → AreRead (λ (k : ℕ). value_so funs place) i initials values → AreFew values
values_few funs place i [] [] are = tt
values_few funs place i [] (terms ∷ values) are = absurd are
values_few funs place i (initial ∷ initials) [] are = absurd are
values_few funs place i (initial ∷ initials) (terms ∷ values) are = (value_few place funs initial (terms_of funs initial.expr initial.colour [] 0) refl terms are.0, values_few funs place (suc i) initials values are.1)

-- those of compound places that are numbered from c on
values_from : (n : PlainNet) (c : ℕ) (written : List (List Initial)) (values : List (List (List PlainTerm))) → AreRead (values_so n) c written values → (length values ≡ length written) × AreAllFew values
values_from n c [] [] are = (refl, tt)
values_from n c [] (here ∷ values) are = absurd are
values_from n c (initials ∷ written) [] are = absurd are
values_from n c (initials ∷ written) (here ∷ values) are =
    let later = values_from n (suc c) written values are.1 in
    (ap suc later.0, (values_few n.functions (place_at n c) 0 initials here (each_read (λ (k : ℕ). value_so n.functions (place_at n c)) 0 initials here are.0), later.1))

pub few_tokens : (n : PlainNet) (written : List (List Initial)) (values : List (List (List PlainTerm))) → evaluated n written (read values) → AreAllFew values
few_tokens n written values are = (values_from n 0 written values (each_read (values_so n) 0 written values are)).1

pub as_many_values : (n : PlainNet) (written : List (List Initial)) (values : List (List (List PlainTerm))) → evaluated n written (read values) → length values ≡ length written
as_many_values n written values are = (values_from n 0 written values (each_read (values_so n) 0 written values are)).0

-- the same of lists of the program
pub as_many_seen : (n : PlainNet) {V W : Type 0} (look : W → List Initial) (written : List W) (seen : V → List (List PlainTerm)) (values : List V) → evaluated n (map look written) (read (map seen values)) → length values ≡ length written
as_many_seen n look written seen values are = sym (length-map values seen) ∙ as_many_values n (map look written) (map seen values) are ∙ length-map written look
