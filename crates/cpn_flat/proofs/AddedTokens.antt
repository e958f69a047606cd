-- The tokens of initial markings, put on their places one after another.
use Rattle.std.proofs.Common.{◌≡◌, ℕ, zero, suc, ◌+◌, ◌<◌, Bool, List, [], ◌∷◌, ◌++◌, length, take, drop, get_or, set, replicate, refl, sym, ap, ◌∙◌, add-one, append_assoc, arith}
use Rattle.std.specs.List.{flat_map}
use Rattle.std.proofs.lemmas.List.{get_or-set_same, set-set, take_more, drop_more, map-append, append-nil}
use Rattle.cpn_definitions.specs.Lists.{with_items}
use Rattle.cpn_definitions.specs.Marking.{PlainToken, Tokens, Marking, tokens_at, on_place, token_at, token_cmp, add_token}
use Rattle.cpn_definitions.specs.Terms.{PlainTerm, tokens_in}
use Rattle.cpn_definitions.proofs.ChangedPlaces.{changed_place}
use Rattle.cpn_definitions.proofs.PlaceCounts.{length-add_token}
use Rattle.cpn_definitions.proofs.SortedTokens.{added_as_item}
use Rattle.cpn_definitions.proofs.OrderedLists.{with_items_append}
use Rattle.cpn_eval.specs.Terms.{term_view, terms_view}
use Rattle.cpn_eval.specs.declared.term.Term.{Term}
use Rattle.cpn_flat.specs.InitialMarking.{token_of}
use Rattle.cpn_flat.specs.Values.{tokens_with}

replicate_more : {X : Type 0} (k : ℕ) (x : X) → replicate (k + 1) x ≡ replicate k x ++ x ∷ []
replicate_more zero x = refl
replicate_more (suc k) x = rw (add-one (suc k)) (ap (λ xs. x ∷ xs) (rw (add-one k) at (replicate_more k x)))

module _ (m : Marking) (p : ℕ) (t : PlainToken) (lt : p < length m) where
  -- the tokens of the place, with so many of a token more
  abbrev pub with_tokens : ℕ → Marking
  with_tokens k = set m p (with_items token_cmp (replicate k t) (get_or m p []))

  pub one_added : (k : ℕ) → set (with_tokens k) p (add_token t (get_or (with_tokens k) p [])) ≡ with_tokens (k + 1)
  one_added k =
      rw (get_or-set_same m p (with_items token_cmp (replicate k t) (get_or m p [])) [] lt, set-set m p (with_items token_cmp (replicate k t) (get_or m p [])) (add_token t (with_items token_cmp (replicate k t) (get_or m p []))))
      (ap (λ ts. set m p ts) (added_as_item t (with_items token_cmp (replicate k t) (get_or m p [])) ∙ sym (with_items_append token_cmp (replicate k t) (t ∷ []) (get_or m p [])) ∙ ap (λ ts. with_items token_cmp ts (get_or m p [])) (sym (replicate_more k t))))

flat_more : {X Y : Type 0} (f : X → List Y) (xs : List X) (x : X) → flat_map f (xs ++ x ∷ []) ≡ flat_map f xs ++ f x
flat_more f [] x = append-nil (f x)
flat_more f (y ∷ xs) x = ap (λ zs. f y ++ zs) (flat_more f xs x) ∙ sym (append_assoc (f y) (flat_map f xs) (f x))

module _ (timed : Bool) (terms : List Term) (i : ℕ) (term : Term) (lt : i < length terms) (at : term ≡ get_or terms i term) where
  -- one term more
  pub one_term : (tokens : Tokens) → with_items token_cmp (replicate (term_view term).count (token_of timed (term_view term))) (tokens_with timed (terms_view (take i terms)) tokens) ≡ tokens_with timed (terms_view (take (i + 1) terms)) tokens
  one_term tokens =
      let fronts : terms_view (take (i + 1) terms) ≡ terms_view (take i terms) ++ term_view term ∷ [] = rw (take_more terms i term lt, ← at) (map-append term_view (take i terms) (term ∷ [])) in
      rw (fronts, flat_more (λ (t : PlainTerm). replicate t.count (token_of timed t)) (terms_view (take i terms)) (term_view term)) (sym (with_items_append token_cmp (flat_map (λ (t : PlainTerm). replicate t.count (token_of timed t)) (terms_view (take i terms))) (replicate (term_view term).count (token_of timed (term_view term))) tokens))

  pub term_added : (m cur new : Marking) (p stamp : ℕ) → p < length m → cur ≡ set m p (tokens_with timed (terms_view (take i terms)) (get_or m p [])) → stamp ≡ (token_of timed (term_view term)).stamp
      → new ≡ set cur p (with_items token_cmp (replicate (term_view term).count (token_at (term_view term).value stamp)) (get_or cur p [])) → new ≡ set m p (tokens_with timed (terms_view (take (i + 1) terms)) (get_or m p []))
  term_added m cur new p stamp below cur_is stamp_is new_is =
      let z = tokens_with timed (terms_view (take i terms)) (get_or m p []) in
      new_is ∙ rw (stamp_is, cur_is, get_or-set_same m p z [] below, set-set m p z (with_items token_cmp (replicate (term_view term).count (token_of timed (term_view term))) z)) (ap (λ ts. set m p ts) (one_term (get_or m p [])))

-- ---- how many tokens there are

pub one_longer : (m : Marking) (p : ℕ) (t : PlainToken) → p < length m → length (tokens_at (on_place p (add_token t) m) p) ≡ length (tokens_at m p) + 1
one_longer m p t lt = ap length (changed_place p (add_token t) m (λ past. absurd (omega (arith, lt, past)))) ∙ length-add_token t (tokens_at m p)

-- the tokens of the terms that are left are those of the next one and of those behind it
pub term_apart : (terms : List Term) (i : ℕ) (term : Term) → i < length terms → term ≡ get_or terms i term → tokens_in (terms_view (drop i terms)) ≡ term.count + tokens_in (terms_view (drop (i + 1) terms))
term_apart terms i term lt at = ap (λ ts. tokens_in (terms_view ts)) (drop_more terms i term lt) ∙ ap (λ (t : Term). t.count + tokens_in (terms_view (drop (i + 1) terms))) (sym at)
