-- The tokens that the members of one compound place share.
use Rattle.std.proofs.Common.{◌≡◌, ℕ, ◌+◌, ◌<◌, ◌≤◌, Bool, List, [], ◌∷◌, length, take, get_or, set, map, sym, ap, ◌∙◌, subst, arith}
use Rattle.std.specs.Prelude.{Option, Some, None, All}
use Rattle.std.proofs.lemmas.List.{get_or-set_same, take_more, take_all, map-append}
use Rattle.std.proofs.lemmas.List.Elements.{All-push}
use Rattle.cpn_definitions.specs.Marking.{Tokens, Marking}
use Rattle.cpn_definitions.specs.Net.{Coloured}
use Rattle.cpn_definitions.specs.Terms.{PlainTerm}
use Rattle.cpn_readings.specs.Relations.{RefusesBy}
use Rattle.cpn_flat.specs.Refusals.{FlatRefusal, read}
use Rattle.cpn_flat.specs.InitialMarking.{tokens_of, IsShared, none_written, all_same, one_differs}
use Rattle.cpn_flat.specs.Values.{tokens_with}
use Rattle.cpn_flat.specs.Agreeing.{Agree}

-- terms that are put on a place that has no token
pub put_there : (old new : Marking) (p : ℕ) (timed : Bool) (terms : List PlainTerm) → p < length old → get_or old p [] ≡ [] → new ≡ set old p (tokens_with timed terms (get_or old p [])) → get_or new p [] ≡ tokens_of timed terms
put_there old new p timed terms within empty is =
    ap (λ (m : Marking). get_or m p []) is ∙ get_or-set_same old p (tokens_with timed terms (get_or old p [])) [] within ∙ ap (tokens_with timed terms) empty

-- ---- one value after another

module _ {V A : Type 0} (P : A → Type 0) (seen : V → A) (vs : List V) where
  pub all_more : (i : ℕ) (v : V) → i < length vs → v ≡ get_or vs i v → All P (map seen (take i vs)) → P (seen v) → All P (map seen (take (i + 1) vs))
  all_more i v lt at so_far here = rw (take_more vs i v lt, ← at, map-append seen (take i vs) (v ∷ [])) (All-push P (map seen (take i vs)) (seen v) so_far here)

  pub all_done : (i : ℕ) → length vs ≤ i → All P (map seen (take i vs)) → All P (map seen vs)
  all_done i past so_far = subst (λ ws. All P (map seen ws)) (take_all i vs past) so_far

-- ---- what is shared

module _ (place : Coloured) (value : List PlainTerm) (others : List (List PlainTerm)) (shared : Tokens) (is : shared ≡ tokens_of place.colour.timed value) where
  -- all agree with the first
  pub shared_so : Agree place shared others (read shared) → IsShared place (value ∷ others) (read shared)
  shared_so agree = subst (λ (ts : Tokens). All (λ other. tokens_of place.colour.timed other ≡ ts) others → IsShared place (value ∷ others) (read ts)) (sym is) (all_same value others) agree.1

  -- one does not
  pub refused_so : (o : Option FlatRefusal) → RefusesBy (Agree place shared others) o → RefusesBy (IsShared place (value ∷ others)) o
  refused_so None h = tt
  refused_so (Some refusal) h = subst (IsShared place (value ∷ others)) (sym h.0) (one_differs value others h.1.0 h.1.1 (λ e. h.1.2 (e ∙ sym is)))

-- no value is there
pub none_shared : {V : Type 0} (place : Coloured) (seen : V → List PlainTerm) (vs : List V) (tokens : Tokens) → length vs ≡ 0 → tokens ≡ [] → IsShared place (map seen vs) (read tokens)
none_shared place seen [] tokens none empty = subst (λ (ts : Tokens). IsShared place [] (read ts)) (sym empty) none_written
none_shared place seen (v ∷ vs) tokens none empty = absurd (omega (arith, none))
