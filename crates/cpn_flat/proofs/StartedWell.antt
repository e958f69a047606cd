-- The initial marking of the flat net: for each place sorted tokens that it may hold, not too many of them.
use Rattle.std.proofs.Common.{◌≡◌, ◌||◌, ◌==◌, ℕ, zero, suc, ◌+◌, ◌<◌, ◌≤◌, Bool, true, false, nat_le, if◌then◌else◌, List, [], ◌∷◌, length, replicate, slice_index_or, refl, sym, ap, ◌∙◌, subst, arith, leb-true, add-zero}
use Rattle.std.specs.Prelude.{Some}
use Rattle.std.specs.List.{list_all, flat_map, AllByRecursion}
use Rattle.std.proofs.lemmas.Bool.{and_parts, and_from}
use Rattle.std.proofs.lemmas.Bool.Decides.{nat_tests}
use Rattle.cpn_definitions.specs.Bounds.{last_stamp, IsBounded, IsInTime}
use Rattle.cpn_definitions.specs.Colour.{PlainColour, admits}
use Rattle.cpn_definitions.specs.Inscription.{Functions}
use Rattle.cpn_definitions.specs.Lists.{IsInOrder}
use Rattle.cpn_definitions.specs.Marking.{PlainToken, Tokens, Marking, AreSorted, token_cmp}
use Rattle.cpn_definitions.specs.Meaning.{setting_of}
use Rattle.cpn_definitions.specs.Net.{Coloured, PlainNet, nothing, place_at}
use Rattle.cpn_definitions.specs.Outcome.{Outcome, gives, faults, no_meaning}
use Rattle.cpn_definitions.specs.Sound.{may_hold, IsMarking}
use Rattle.cpn_definitions.specs.Terms.{PlainTerm, most_tokens, terms_of}
use Rattle.cpn_definitions.specs.Terms as counts
use Rattle.cpn_definitions.specs.Times.{last_time}
use Rattle.cpn_definitions.specs.ValueOrder.{token_cmp_total}
use Rattle.cpn_definitions.proofs.DelayBounds.{AreInRange, delays_in_range}
use Rattle.cpn_definitions.proofs.OrderedLists.{in_order_is, each_with_items}
use Rattle.cpn_definitions.proofs.PlaceCounts.{length-in_order, length-of_terms}
use Rattle.cpn_definitions.proofs.PlaceStamps.{all_append, all_replicate, all_with_items}
use Rattle.cpn_definitions.proofs.RisingLists.{each_flat}
use Rattle.cpn_definitions.proofs.Terms.{AreTermsOf, terms_are}
use Rattle.cpn_definitions.proofs.TokenCounts.{tokens_are_few}
use Rattle.cpn_accepted.specs.Nets.{Initial, IsOfColour}
use Rattle.cpn_readings.proofs.Readings.{same_read}
use Rattle.cpn_readings.proofs.RelatedReadings.{step_parts}
use Rattle.cpn_readings.proofs.RelatedLists.{AreRead, each_read}
use Rattle.cpn_flat.specs.Refusals.{Reading, read}
use Rattle.cpn_flat.specs.InitialMarking.{token_of, tokens_of, terms_so, value_so, values_so, IsShared, none_written, all_same, one_differs, evaluated, held_together, started}
use Rattle.cpn_flat.specs.Values.{AreOfColour, HaveColours}
use Rattle.cpn_flat.proofs.SharedMarkings.{Shares}
use Rattle.cpn_flat.proofs.StartedMarkings.{as_many_values}

-- ---- tokens in their order

order_sorted : (ks : Tokens) → IsInOrder token_cmp ks → AreSorted ks
order_sorted [] h = tt
order_sorted (k ∷ []) h = (tt, tt)
order_sorted (k ∷ l ∷ ls) h = (h.0.0, order_sorted (l ∷ ls) h.1)

all_equal : {X : Type 0} (P : X → Type 0) (k : ℕ) (x : X) → P x → AllByRecursion P (replicate k x)
all_equal P zero x h = tt
all_equal P (suc k) x h = (h, all_equal P k x h)

passes_all : {X : Type 0} (p : X → Bool) (xs : List X) → AllByRecursion (λ x. p x ≡ true) xs → list_all p xs ≡ true
passes_all p [] all = refl
passes_all p (x ∷ xs) all = and_from (p x) (list_all p xs) all.0 (passes_all p xs all.1)

-- ---- the tokens of terms

-- whether a token's stamp is in its range
abbrev pub is_stamped : PlainToken → Bool
is_stamped token = nat_le token.stamp last_stamp

-- sorted tokens that a place of the colour set may hold, not too many, with stamps in their range
pub record IsStart (colour : PlainColour) (tokens : Tokens) : Type 0 where
  pub sorted : AreSorted tokens
  pub held : list_all (may_hold colour) tokens ≡ true
  pub few : length tokens ≤ most_tokens
  pub stamped : list_all is_stamped tokens ≡ true

module _ (colour : PlainColour) where
  stamped_so : (timed : Bool) (delay : ℕ) → (timed || ((if timed then delay else 0) == 0)) ≡ true
  stamped_so true delay = refl
  stamped_so false delay = refl

  abbrev IsHeld : PlainToken → Type 0
  IsHeld t = may_hold colour t ≡ true

  term_held : (term : PlainTerm) → admits colour term.value ≡ true → IsHeld (token_of colour.timed term)
  term_held term h = and_from (admits colour term.value) _ h (stamped_so colour.timed term.delay)

  terms_held : (terms : List PlainTerm) → AreTermsOf colour terms → AllByRecursion (λ (term : PlainTerm). AllByRecursion IsHeld (replicate term.count (token_of colour.timed term))) terms
  terms_held [] h = tt
  terms_held (term ∷ terms) h = (all_equal IsHeld term.count (token_of colour.timed term) (term_held term h.0.0), terms_held terms h.1)

  none_start : IsStart colour []
  none_start = record { sorted = tt; held = refl; few = omega arith; stamped = refl }

  token_stamped : (timed : Bool) (term : PlainTerm) → nat_le term.delay last_time ≡ true → is_stamped (token_of timed term) ≡ true
  token_stamped true term h = let small = leb-true term.delay last_time h in grind (arith, nat_tests, small)
  token_stamped false term h = refl

  terms_stamped : (terms : List PlainTerm) → AreInRange terms → list_all is_stamped (flat_map (λ (term : PlainTerm). replicate term.count (token_of colour.timed term)) terms) ≡ true
  terms_stamped [] h = refl
  terms_stamped (term ∷ terms) h =
      let parts = and_parts (nat_le term.delay last_time) (list_all (λ (t : PlainTerm). nat_le t.delay last_time) terms) h in
      all_append is_stamped (replicate term.count (token_of colour.timed term)) _ (all_replicate is_stamped term.count (token_of colour.timed term) (token_stamped colour.timed term parts.0)) (terms_stamped terms parts.1)

  pub terms_start : (terms : List PlainTerm) → AreTermsOf colour terms → counts.tokens_in terms ≤ most_tokens → AreInRange terms → IsStart colour (tokens_of colour.timed terms)
  terms_start terms are few in_range =
      let tokens = flat_map (λ (term : PlainTerm). replicate term.count (token_of colour.timed term)) terms in
      let many = length-in_order token_cmp tokens in
      let flat = length-of_terms (λ (term : PlainTerm). token_of colour.timed term) terms in
      record {
        sorted = order_sorted (tokens_of colour.timed terms) (in_order_is token_cmp token_cmp_total tokens);
        held = passes_all (may_hold colour) (tokens_of colour.timed terms) (each_with_items token_cmp IsHeld tokens [] (each_flat IsHeld (λ (term : PlainTerm). replicate term.count (token_of colour.timed term)) terms (terms_held terms are)) tt);
        few = omega (arith, many, flat, few);
        stamped = all_with_items token_cmp is_stamped tokens [] (terms_stamped terms in_range) refl;
      }

-- ---- the values at one place

-- the tokens of terms are a start of the place
abbrev AreStart : PlainColour → List PlainTerm → Type 0
AreStart colour terms = IsStart colour (tokens_of colour.timed terms)

value_start : (place : Coloured) (funs : Functions) (initial : Initial) (o : Outcome (List PlainTerm)) → IsOfColour place.colour (Some initial) → terms_of funs initial.expr initial.colour [] 0 ≡ o → (terms : List PlainTerm) → terms_so place o (read terms) → AreStart place.colour terms
value_start place funs initial (gives given) same is terms h =
    let are = terms_are initial.expr initial.colour (setting_of funs [] 0) [] 0 given is in
    let few = tokens_are_few funs initial.expr initial.colour [] 0 given is in
    let in_range = delays_in_range funs initial.expr initial.colour [] 0 given is in
    subst (AreStart place.colour) (same_read given terms (sym h)) (terms_start place.colour given (subst (λ c. AreTermsOf c given) same are) few in_range)
value_start place funs initial (faults fault) same is terms h = cc
value_start place funs initial no_meaning same is terms h = absurd h

values_start : (place : Coloured) (funs : Functions) (i : ℕ) (initials : List Initial) (values : List (List PlainTerm)) → AreOfColour place.colour initials → AreRead (λ (k : ℕ). value_so funs place) i initials values → AllByRecursion (AreStart place.colour) values
values_start place funs i [] [] same are = tt
values_start place funs i [] (terms ∷ values) same are = absurd are
values_start place funs i (initial ∷ initials) [] same are = absurd are
values_start place funs i (initial ∷ initials) (terms ∷ values) same are =
    (value_start place funs initial (terms_of funs initial.expr initial.colour [] 0) same.0 refl terms are.0, values_start place funs (suc i) initials values same.1 are.1)

-- what its members share
shared_start : (place : Coloured) (values : List (List PlainTerm)) (r : Reading Tokens) → IsShared place values r → AllByRecursion (AreStart place.colour) values → (tokens : Tokens) → r ≡ read tokens → IsStart place.colour tokens
shared_start place values r none_written all tokens e = subst (IsStart place.colour) (same_read [] tokens e) (none_start place.colour)
shared_start place values r (all_same value others same) all tokens e = subst (IsStart place.colour) (same_read (tokens_of place.colour.timed value) tokens e) all.0
shared_start place values r (one_differs value others other here apart) all tokens e = cc

-- ---- place by place

-- the values at places that are numbered from i on
abbrev AreStarts : PlainNet → ℕ → List (List (List PlainTerm)) → Type 0
AreStarts n i [] = Unit {0}
AreStarts n i (values ∷ lists) = AllByRecursion (AreStart (place_at n i).colour) values × AreStarts n (suc i) lists

one_later : (a c : ℕ) → a + suc c ≡ suc a + c
one_later a c = omega arith

lists_start : (n : PlainNet) (i : ℕ) (written : List (List Initial)) (lists : List (List (List PlainTerm)))
    → ((c : ℕ) → c < length written → AreOfColour (place_at n (i + c)).colour (slice_index_or written c [])) → AreRead (values_so n) i written lists → AreStarts n i lists
lists_start n i [] [] have are = tt
lists_start n i [] (values ∷ lists) have are = absurd are
lists_start n i (initials ∷ written) [] have are = absurd are
lists_start n i (initials ∷ written) (values ∷ lists) have are =
    let here = subst (λ k. AreOfColour (place_at n k).colour initials) (add-zero i) (have 0 (omega arith)) in
    (values_start (place_at n i) n.functions 0 initials values here (each_read (λ (k : ℕ). value_so n.functions (place_at n i)) 0 initials values are.0), lists_start n (suc i) written lists (λ c lt. subst (λ k. AreOfColour (place_at n k).colour (slice_index_or written c [])) (one_later i c) (have (suc c) (omega (arith, lt)))) are.1)

-- a place more
more_bounded : (tokens : Tokens) (m : Marking) → length tokens ≤ most_tokens → IsBounded most_tokens m → IsBounded most_tokens (tokens ∷ m)
more_bounded tokens m few later zero = few
more_bounded tokens m few later (suc p) = later p

more_in_time : (tokens : Tokens) (m : Marking) → list_all is_stamped tokens ≡ true → IsInTime m → IsInTime (tokens ∷ m)
more_in_time tokens m stamped later zero = stamped
more_in_time tokens m stamped later (suc p) = later p

-- A marking of these places, with tokens on each, bounded, and stamped in time.
pub record IsStartOf (places : List Coloured) (m : Marking) : Type 0 where
  pub marking : IsMarking places m
  pub bounded : IsBounded most_tokens m
  pub in_time : IsInTime m
  pub long : length m ≡ length places

abbrev AreThere : PlainNet → ℕ → List Coloured → Type 0
AreThere n i places = (k : ℕ) → slice_index_or places k nothing ≡ place_at n (i + k)

later_there : (n : PlainNet) (i : ℕ) (place : Coloured) (places : List Coloured) → AreThere n i (place ∷ places) → AreThere n (suc i) places
later_there n i place places there k = there (suc k) ∙ ap (place_at n) (one_later i k)

marking_from : (n : PlainNet) (i : ℕ) (places : List Coloured) (lists : List (List (List PlainTerm))) (m : Marking) → AreThere n i places → length lists ≡ length places → AreStarts n i lists → AreRead (Shares n) i lists m → IsStartOf places m
marking_from n i [] [] [] there long starts are = record { marking = tt; bounded = λ p. omega arith; in_time = λ p. refl; long = refl }
marking_from n i (place ∷ places) (values ∷ lists) (tokens ∷ m) there long starts are =
    let here = there 0 ∙ ap (place_at n) (add-zero i) in
    let start = subst (λ (p : Coloured). IsStart p.colour tokens) (sym here) (shared_start (place_at n i) values (read tokens) are.0 starts.0 tokens refl) in
    let later = marking_from n (suc i) places lists m (later_there n i place places there) (shorter (length lists) (length places) long) starts.1 are.1 in
    record { marking = (start.sorted, start.held, later.marking); bounded = more_bounded tokens m start.few later.bounded; in_time = more_in_time tokens m start.stamped later.in_time; long = ap suc later.long }
  where
    shorter : (a b : ℕ) → suc a ≡ suc b → a ≡ b
    shorter a b e = omega (arith, e)
marking_from n i [] [] (tokens ∷ m) there long starts are = absurd are
marking_from n i places (values ∷ lists) [] there long starts are = absurd are
marking_from n i (place ∷ places) [] m there long starts are = absurd (omega (arith, long))
marking_from n i [] (values ∷ lists) (tokens ∷ m) there long starts are = absurd (omega (arith, long))

-- The law: the initial marking of a net is a marking of its places, and bounded, where each written initial marking is for the
-- colour set of its compound place.
pub started_well : (n : PlainNet) (written : List (List Initial)) (m : Marking) → length written ≡ length n.places → HaveColours n written → started n written (read m) → IsStartOf n.places m
unfolding started held_together
started_well n written m long have h =
    let first = step_parts (evaluated n written) _ m h.1 in
    marking_from n 0 n.places first.0 m (λ k. ap (place_at n) (from_zero k)) (as_many_values n written first.0 first.1 ∙ long)
    (lists_start n 0 written first.0 (λ c lt. subst (λ k. AreOfColour (place_at n k).colour (slice_index_or written c [])) (from_zero c) (have c lt)) (each_read (values_so n) 0 written first.0 first.1))
    (each_read (Shares n) 0 first.0 m first.2)
  where
    from_zero : (k : ℕ) → k ≡ 0 + k
    from_zero k = omega arith
