-- The tries that trials make are counted by what their stages reach, stage by stage.
use Rattle.std.proofs.Common.{◌≡◌, ◌≤◌, ℕ, suc, ◌+◌, ◌*◌, List, [], ◌∷◌, ◌++◌, map, length, reverse, refl, sym, ap, ap₂, ◌∙◌, subst, inl, inr, ⊎_elim, arith, append_assoc, nat_cmp}
use Rattle.std.specs.List.{flat_map, AllByRecursion}
use Rattle.std.proofs.lemmas.Grind.{reverse_onto}
use Rattle.cpn_definitions.specs.Lists.{Rises}
use Rattle.cpn_definitions.specs.Marking.{Marking}
use Rattle.cpn_definitions.specs.Net.{PlainTransition, PlainNet, transition_at}
use Rattle.cpn_definitions.specs.Bindable.{AreClosed}
use Rattle.cpn_definitions.proofs.RisingLists.{IsIn, in_from_contains, contains_from_in, in_append_left, in_append_right, in_append_cases}
use Rattle.cpn_stages.specs.Partial.{PlainPartial, unbound}
use Rattle.cpn_stages.specs.Stages.{Stage, by_term, by_equation, by_size, by_value, AreStages}
use Rattle.cpn_stages.specs.Reached.{StandsOn, IsAdmitted, IsReached}
use Rattle.cpn_stages.specs.Work.{AllDiffer, AreJust, AreSoMany, IsTries, AreTries, IsFull}
use Rattle.cpn_stages.specs.Orderly.{AreOrderly}
use Rattle.cpn_stages.specs.Trials.{Trial, matching, solving, next, ends, sum_of, tries_of, tried, IsTrialOf, AreTrialsOf}
use Rattle.cpn_stages.proofs.OrderlyStages.{stages_are_orderly}
use Rattle.cpn_stages.proofs.ApartEnds.{HasOneValue, stages_have_one}
use Rattle.cpn_stages.proofs.ReachedEnds.{ends_are_reached}
use Rattle.cpn_stages.proofs.OnePlan.{one_plan}

-- ---- lists of just the same things are of one length

record IsSplit {A : Type 0} (x : A) (xs : List A) : Type 0 where
  before : List A
  behind : List A
  is : xs ≡ before ++ x ∷ behind

split_at : {A : Type 0} (x : A) (xs : List A) → IsIn x xs → IsSplit x xs
split_at x [] h = absurd h
split_at x (y ∷ xs) (inl e) = record { before = []; behind = xs; is = ap (λ z. z ∷ xs) e }
split_at x (y ∷ xs) (inr h) = let rest = split_at x xs h in record { before = y ∷ rest.before; behind = rest.behind; is = ap (λ zs. y ∷ zs) rest.is }

length_both : {A : Type 0} (xs ys : List A) → length (xs ++ ys) ≡ length xs + length ys
length_both [] ys = omega arith
length_both (x ∷ xs) ys = let rest = length_both xs ys in omega (arith, rest)

differ_at_most : {A : Type 0} (xs ys : List A) → AllDiffer xs → ((x : A) → IsIn x xs → IsIn x ys) → length xs ≤ length ys
differ_at_most [] ys differ all = omega arith
differ_at_most {A} (x ∷ xs) ys differ all =
    let at = split_at x ys (all x (inl refl)) in
    let rest = differ_at_most xs (at.before ++ at.behind) differ.1 (others at.before at.behind at.is) in
    let whole : length ys ≡ length at.before + suc (length at.behind) = ap length at.is ∙ length_both at.before (x ∷ at.behind) in
    let part = length_both at.before at.behind in
    omega (arith, rest, whole, part)
  where
    others : (before behind : List A) → ys ≡ before ++ x ∷ behind → (y : A) → IsIn y xs → IsIn y (before ++ behind)
    others before behind is y h =
        ⊎_elim (λ g. in_append_left before behind y g) (λ g. there g) (in_append_cases before (x ∷ behind) y (subst (IsIn y) is (all y (inr h))))
      where
        there : IsIn y (x ∷ behind) → IsIn y (before ++ behind)
        there (inl e) = absurd (differ.0 (contains_from_in xs x (subst (λ z. IsIn z xs) (sym e) h)))
        there (inr g) = in_append_right before behind y g

at_most : {A : Type 0} (P : A → Type 0) (xs ys : List A) → AreJust P xs → AreJust P ys → length xs ≤ length ys
at_most P xs ys first second = differ_at_most xs ys first.differ (λ x h. in_from_contains ys x ((second.all x).0 ((first.all x).1 (contains_from_in xs x h))))

one_number : {A : Type 0} (P : A → Type 0) (j k : ℕ) → AreSoMany P j → AreSoMany P k → j ≡ k
one_number P j k first second =
    let up = at_most P first.0 second.0 first.1 second.1 in
    let down = at_most P second.0 first.0 second.1 first.1 in
    let one : length first.0 ≡ j = first.2 in
    let other : length second.0 ≡ k = second.2 in
    omega (arith, up, down, one, other)

-- ---- sums

sum_both : (xs ys : List ℕ) → sum_of (xs ++ ys) ≡ sum_of xs + sum_of ys
sum_both [] ys = omega arith
sum_both (x ∷ xs) ys = let rest = sum_both xs ys in omega (arith, rest)

map_both : {A B : Type 0} (f : A → B) (xs ys : List A) → map f (xs ++ ys) ≡ map f xs ++ map f ys
map_both f [] ys = refl
map_both f (x ∷ xs) ys = ap (λ zs. f x ∷ zs) (map_both f xs ys)

sum_mapped : {A : Type 0} (f : A → ℕ) (xs ys : List A) → sum_of (map f (xs ++ ys)) ≡ sum_of (map f xs) + sum_of (map f ys)
sum_mapped f xs ys = ap sum_of (map_both f xs ys) ∙ sum_both (map f xs) (map f ys)

sum_reversed : {A : Type 0} (f : A → ℕ) (xs : List A) → sum_of (map f (reverse xs)) ≡ sum_of (map f xs)
sum_reversed f [] = refl
sum_reversed f (x ∷ xs) =
    let rest = sum_reversed f xs in
    let joined : sum_of (map f (reverse (x ∷ xs))) ≡ sum_of (map f (reverse xs)) + sum_of (map f (x ∷ [])) = ap (λ ys. sum_of (map f ys)) (reverse_onto xs x []) ∙ sum_mapped f (reverse xs) (x ∷ []) in
    omega (arith, rest, joined)

-- ---- level by level

-- the ends of one trial more are what it makes of the ends before
ends_behind : (n : PlainNet) (trials : List Trial) (trial : Trial) (b : PlainPartial) → ends n (trials ++ trial ∷ []) b ≡ flat_map (λ c. reverse (next n trial c)) (ends n trials b)
ends_behind n [] trial b = flat_ones (reverse (next n trial b)) ∙ sym (append_none (reverse (next n trial b)))
  where
    flat_ones : (cs : List PlainPartial) → flat_map (ends n []) cs ≡ cs
    flat_ones [] = refl
    flat_ones (c ∷ cs) = ap (λ ds. c ∷ ds) (flat_ones cs)

    append_none : (cs : List PlainPartial) → cs ++ [] ≡ cs
    append_none [] = refl
    append_none (c ∷ cs) = ap (λ ds. c ∷ ds) (append_none cs)
ends_behind n (first ∷ trials) trial b = each (reverse (next n first b)) (λ c. ends_behind n trials trial c)
  where
    flat_both : (f : PlainPartial → List PlainPartial) (xs ys : List PlainPartial) → flat_map f (xs ++ ys) ≡ flat_map f xs ++ flat_map f ys
    flat_both f [] ys = refl
    flat_both f (x ∷ xs) ys = ap (λ zs. f x ++ zs) (flat_both f xs ys) ∙ sym (append_assoc (f x) (flat_map f xs) (flat_map f ys))

    each : (cs : List PlainPartial) → ((c : PlainPartial) → ends n (trials ++ trial ∷ []) c ≡ flat_map (λ d. reverse (next n trial d)) (ends n trials c)) → flat_map (ends n (trials ++ trial ∷ [])) cs ≡ flat_map (λ d. reverse (next n trial d)) (flat_map (ends n trials) cs)
    each [] same = refl
    each (c ∷ cs) same = ap₂ (λ xs ys. xs ++ ys) (same c) (each cs same) ∙ sym (flat_both (λ d. reverse (next n trial d)) (ends n trials c) (flat_map (ends n trials) cs))

-- the tries at several partial bindings: those of the next trial at each, and those at what it makes
sum_next : (n : PlainNet) (trial : Trial) (trials : List Trial) (cs : List PlainPartial)
    → sum_of (map (tried n (trial ∷ trials)) cs) ≡ length cs * tries_of trial + sum_of (map (tried n trials) (flat_map (λ c. reverse (next n trial c)) cs))
sum_next n trial trials [] = grind arith
sum_next n trial trials (c ∷ cs) =
    let rest = sum_next n trial trials cs in
    let joined = sum_mapped (tried n trials) (reverse (next n trial c)) (flat_map (λ d. reverse (next n trial d)) cs) in
    let back = sum_reversed (tried n trials) (next n trial c) in
    let times : suc (length cs) * tries_of trial ≡ tries_of trial + length cs * tries_of trial = grind arith in
    omega (arith, rest, joined, back, times)

sum_ends : (n : PlainNet) (cs : List PlainPartial) → sum_of (map (tried n []) cs) ≡ length cs
sum_ends n [] = refl
sum_ends n (c ∷ cs) = let rest = sum_ends n cs in omega (arith, rest)

-- ---- stages

orderly_front : (t : PlainTransition) (before xs ys : List Stage) → AreOrderly t before (xs ++ ys) → AreOrderly t before xs
orderly_front t before [] ys are = tt
orderly_front t before (x ∷ xs) ys are = (are.0, orderly_front t (before ++ x ∷ []) xs ys are.1)

each_front : {A : Type 0} (P : A → Type 0) (xs ys : List A) → AllByRecursion P (xs ++ ys) → AllByRecursion P xs
each_front P [] ys all = tt
each_front P (x ∷ xs) ys all = (all.0, each_front P xs ys all.1)

trials_behind : (n : PlainNet) (m : Marking) (stages : List Stage) (trials : List Trial) (stage : Stage) (trial : Trial) → AreTrialsOf n m stages trials → IsTrialOf n m stage trial → AreTrialsOf n m (stages ++ stage ∷ []) (trials ++ trial ∷ [])
trials_behind n m [] [] stage trial are is = (is, tt)
trials_behind n m [] (k ∷ trials) stage trial are is = absurd are
trials_behind n m (s ∷ stages) [] stage trial are is = absurd are
trials_behind n m (s ∷ stages) (k ∷ trials) stage trial are is = (are.0, trials_behind n m stages trials stage trial are.1 is)

-- ---- there are so many

trial_has_tries : (n : PlainNet) (m : Marking) (stage : Stage) (trial : Trial) → IsTrialOf n m stage trial → IsTries n m stage (tries_of trial)
trial_has_tries n m (by_term place p) (matching q vs) of_it = (vs, of_it.1, refl)
trial_has_tries n m (by_term place p) (solving x e) of_it = absurd of_it
trial_has_tries n m (by_equation x e) (matching q vs) of_it = absurd of_it
trial_has_tries n m (by_equation x e) (solving y f) of_it = refl
trial_has_tries n m (by_size x) (matching q vs) of_it = (vs, of_it.1, refl)
trial_has_tries n m (by_size x) (solving y f) of_it = absurd of_it
trial_has_tries n m (by_value place p v) (matching q vs) of_it = ap length of_it.1
trial_has_tries n m (by_value place p v) (solving y f) of_it = absurd of_it

module _ (n : PlainNet) (m : Marking) (t : PlainTransition) (closed : AreClosed n.functions) (listed : Rises nat_cmp t.vars) where
  tries_behind : (done stages : List Stage) (made trials : List Trial)
      → AreOrderly t [] (done ++ stages) → AllByRecursion HasOneValue (done ++ stages) → AreTrialsOf n m done made → AreTrialsOf n m stages trials
      → AreTries n m t done stages (sum_of (map (tried n trials) (ends n made (unbound t.vars))))
  tries_behind done [] made [] orderly have first second =
      (ends n made (unbound t.vars), ends_are_reached n m t done made closed listed (orderly_front t [] done [] orderly) first (each_front HasOneValue done [] have), sym (sum_ends n (ends n made (unbound t.vars))))
  tries_behind done [] made (trial ∷ trials) orderly have first second = absurd second
  tries_behind done (stage ∷ stages) made [] orderly have first second = absurd second
  tries_behind done (stage ∷ stages) made (trial ∷ trials) orderly have first second = (
    length (ends n made (unbound t.vars)),
    tries_of trial,
    sum_of (map (tried n trials) (ends n (made ++ trial ∷ []) (unbound t.vars))),
    (ends n made (unbound t.vars), ends_are_reached n m t done made closed listed (orderly_front t [] done (stage ∷ stages) orderly) first (each_front HasOneValue done (stage ∷ stages) have), refl),
    trial_has_tries n m stage trial second.0,
    tries_behind (done ++ stage ∷ []) stages (made ++ trial ∷ []) trials
        (subst (AreOrderly t []) (sym (append_assoc done (stage ∷ []) stages)) orderly) (subst (AllByRecursion HasOneValue) (sym (append_assoc done (stage ∷ []) stages)) have)
        (trials_behind n m done made stage trial first second.0) second.1,
    sum_next n trial trials (ends n made (unbound t.vars)) ∙ ap (λ k. length (ends n made (unbound t.vars)) * tries_of trial + k) (sym (ap (λ cs. sum_of (map (tried n trials) cs)) (ends_behind n made trial (unbound t.vars)))),
  )

  pub are_tries : (stages : List Stage) (trials : List Trial) → AreOrderly t [] stages → AllByRecursion HasOneValue stages → AreTrialsOf n m stages trials → AreTries n m t [] stages (tried n trials (unbound t.vars))
  are_tries stages trials orderly have of_them = subst (AreTries n m t [] stages) (alone (tried n trials (unbound t.vars))) (tries_behind [] stages [] trials orderly have tt of_them)
    where
      alone : (x : ℕ) → x + 0 ≡ x
      alone x = omega arith

-- ---- and one number

one_tries : (n : PlainNet) (m : Marking) (stage : Stage) (j k : ℕ) → IsTries n m stage j → IsTries n m stage k → j ≡ k
one_tries n m (by_term place p) j k first second = one_number (StandsOn m place) j k first second
one_tries n m (by_equation x e) j k first second = first ∙ sym second
one_tries n m (by_size x) j k first second = one_number (IsAdmitted n x) j k first second
one_tries n m (by_value place p v) j k first second = first ∙ sym second

pub one_count : (n : PlainNet) (m : Marking) (t : PlainTransition) (done stages : List Stage) (j k : ℕ) → AreTries n m t done stages j → AreTries n m t done stages k → j ≡ k
one_count n m t done [] j k first second = one_number (IsReached n m t done) j k first second
one_count n m t done (stage ∷ stages) j k (reached, own, later, many, is_own, is_later, is) (reached', own', later', many', is_own', is_later', is') =
    is ∙ ap₂ (λ a b. a + b) (ap₂ (λ a b. a * b) (one_number (IsReached n m t done) reached reached' many many') (one_tries n m stage own own' is_own is_own')) (one_count n m t (done ++ stage ∷ []) stages later later' is_later is_later') ∙ sym is'

-- a transition has one number of tries
pub one_full : (n : PlainNet) (m : Marking) (t j k : ℕ) → IsFull n m t j → IsFull n m t k → j ≡ k
one_full n m t j k first second =
    one_count n m (transition_at n t) [] second.stages j k
    (subst (λ (stages : List Stage). AreTries n m (transition_at n t) [] stages j) (one_plan n (transition_at n t) first.stages second.stages first.are second.are) first.tries)
    second.tries

-- what trials of its stages make, from where no variable has a value
pub full_is_tried : (n : PlainNet) (m : Marking) (t : ℕ) (stages : List Stage) (trials : List Trial) → AreClosed n.functions → Rises nat_cmp (transition_at n t).vars → AreStages n (transition_at n t) stages → AreTrialsOf n m stages trials
    → IsFull n m t (tried n trials (unbound (transition_at n t).vars))
full_is_tried n m t stages trials closed listed are of_them = record {
  stages = stages;
  are = are;
  tries = are_tries n m (transition_at n t) closed listed stages trials (stages_are_orderly n (transition_at n t) stages are) (stages_have_one n (transition_at n t) stages are) of_them;
}
