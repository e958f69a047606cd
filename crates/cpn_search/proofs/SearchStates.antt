-- A search goes on: the last of those that are under way is an end, or its next trial makes others of it.
use Rattle.std.proofs.Common.{◌≡◌, ℕ, zero, suc, ◌+◌, ◌<◌, ◌≤◌, List, [], ◌∷◌, ◌++◌, map, take, drop, reverse, length, refl, sym, ap, ap₂, ◌∙◌, subst, ⊎_elim, arith, append_assoc, append-nil}
use Rattle.std.specs.List.{flat_map}
use Rattle.std.proofs.lemmas.Grind.{reverse_onto, flat_map-append}
use Rattle.std.proofs.lemmas.List.{reverse-append, map-append}
use Rattle.cpn_definitions.specs.Marking.{Marking}
use Rattle.cpn_definitions.specs.Outcome.{HasMeaning}
use Rattle.cpn_definitions.specs.Inscription.{PlainExpr}
use Rattle.cpn_definitions.specs.Net.{PlainTransition, PlainNet}
use Rattle.cpn_definitions.specs.Meaning.{meaning}
use Rattle.cpn_definitions.proofs.RisingLists.{IsIn, in_from_contains, contains_from_in, in_append_cases, each_in, each_mapped}
use Rattle.cpn_stages.specs.Partial.{PlainPartial, bound_in}
use Rattle.cpn_stages.specs.Stages.{Stage, by_term, by_equation, by_size, by_value, variables_at, variables_at_each}
use Rattle.cpn_definitions.specs.Sound.{IsSolvable}
use Rattle.cpn_definitions.proofs.ListItems.{head_of}
use Rattle.cpn_stages.specs.Orderly.{IsTimelyStage, AreOrderly}
use Rattle.cpn_stages.specs.Trials.{Trial, solving, next, ends, made, sum_of, tries_of, tried, IsTrialOf, AreTrialsOf}
use Rattle.cpn_stages.proofs.Partials.{extends_variables, value_stays}
use Rattle.cpn_stages.proofs.Ends.{next_is}
use Rattle.cpn_stages.proofs.TransitionEnds.{equation_means}
use Rattle.cpn_search.specs.TrialViews.{PlainUnderWay, after}
use Rattle.cpn_search.specs.Searches.{IsUnderWay, AreUnderWay, pending, still_made, tries_at, still_tried}

-- ---- what is pending

flat_mapped : {X Y Z : Type 0} (f : Y → List Z) (g : X → Y) (xs : List X) → flat_map f (map g xs) ≡ flat_map (λ x. f (g x)) xs
flat_mapped f g [] = refl
flat_mapped f g (x ∷ xs) = ap (λ zs. f (g x) ++ zs) (flat_mapped f g xs)

reverse_mapped : {X Y : Type 0} (f : X → Y) (xs : List X) → reverse (map f xs) ≡ map f (reverse xs)
reverse_mapped f [] = refl
reverse_mapped f (x ∷ xs) = reverse_onto (map f xs) (f x) [] ∙ ap (λ ys. ys ++ f x ∷ []) (reverse_mapped f xs) ∙ sym (ap (map f) (reverse_onto xs x []) ∙ map-append f (reverse xs) (x ∷ []))

abbrev ends_of : PlainNet → List Trial → PlainUnderWay → List PlainPartial
ends_of n trials o = ends n (drop o.1 trials) o.0

-- those of the last one come first
pending_last : (n : PlainNet) (trials : List Trial) (front : List PlainUnderWay) (o : PlainUnderWay) → pending n trials (front ++ o ∷ []) ≡ ends n (drop o.1 trials) o.0 ++ pending n trials front
pending_last n trials front o = ap (flat_map (ends_of n trials)) (reverse-append front (o ∷ []))

-- the last one is an end
pub pending_end : (n : PlainNet) (trials : List Trial) (front : List PlainUnderWay) (b : PlainPartial) (k : ℕ) → drop k trials ≡ [] → pending n trials (front ++ (b, k) ∷ []) ≡ b ∷ pending n trials front
pending_end n trials front b k none_left = pending_last n trials front (b, k) ∙ ap (λ ts. ends n ts b ++ pending n trials front) none_left

-- what its next trial makes of it stands in its place
pub pending_next : (n : PlainNet) (trials rest : List Trial) (trial : Trial) (front : List PlainUnderWay) (b : PlainPartial) (k : ℕ) → drop k trials ≡ trial ∷ rest → drop (k + 1) trials ≡ rest
    → pending n trials (front ++ after (k + 1) (next n trial b)) ≡ pending n trials (front ++ (b, k) ∷ [])
pending_next n trials rest trial front b k here later =
    ap (flat_map (ends_of n trials)) (reverse-append front (after (k + 1) (next n trial b)))
    ∙ flat_map-append (ends_of n trials) (reverse (after (k + 1) (next n trial b))) (reverse front)
    ∙ ap (λ bs. bs ++ pending n trials front)
    (ap (flat_map (ends_of n trials)) (reverse_mapped (λ (c : PlainPartial). (c, k + 1)) (next n trial b))
    ∙ flat_mapped (ends_of n trials) (λ (c : PlainPartial). (c, k + 1)) (reverse (next n trial b))
    ∙ ap (λ ts. flat_map (ends n ts) (reverse (next n trial b))) later
    ∙ sym (ap (λ ts. ends n ts b) here))
    ∙ sym (pending_last n trials front (b, k))

-- ---- fewer are left

sum_both : (xs ys : List ℕ) → sum_of (xs ++ ys) ≡ sum_of xs + sum_of ys
sum_both [] ys = omega arith
sum_both (x ∷ xs) ys = let rest = sum_both xs ys in omega (arith, rest)

abbrev made_of : PlainNet → List Trial → PlainUnderWay → ℕ
made_of n trials o = made n (drop o.1 trials) o.0

still_both : (n : PlainNet) (trials : List Trial) (front back : List PlainUnderWay) → still_made n trials (front ++ back) ≡ still_made n trials front + still_made n trials back
still_both n trials front back = ap sum_of (map-append (made_of n trials) front back) ∙ sum_both (map (made_of n trials) front) (map (made_of n trials) back)

pub fewer_at_end : (n : PlainNet) (trials : List Trial) (front : List PlainUnderWay) (b : PlainPartial) (k : ℕ) → drop k trials ≡ [] → still_made n trials front < still_made n trials (front ++ (b, k) ∷ [])
fewer_at_end n trials front b k none_left =
    let both = still_both n trials front ((b, k) ∷ []) in
    let own : made n (drop k trials) b ≡ 1 = ap (λ ts. made n ts b) none_left in
    omega (arith, both, own)

map_after : (n : PlainNet) (trials rest : List Trial) (k : ℕ) (bs : List PlainPartial) → drop k trials ≡ rest → map (made_of n trials) (after k bs) ≡ map (made n rest) bs
map_after n trials rest k [] is = refl
map_after n trials rest k (b ∷ bs) is = ap₂ (λ (x : ℕ) xs. x ∷ xs) (ap (λ ts. made n ts b) is) (map_after n trials rest k bs is)

pub fewer_next : (n : PlainNet) (trials rest : List Trial) (trial : Trial) (front : List PlainUnderWay) (b : PlainPartial) (k : ℕ) → drop k trials ≡ trial ∷ rest → drop (k + 1) trials ≡ rest
    → still_made n trials (front ++ after (k + 1) (next n trial b)) < still_made n trials (front ++ (b, k) ∷ [])
fewer_next n trials rest trial front b k here later =
    let new = still_both n trials front (after (k + 1) (next n trial b)) in
    let old = still_both n trials front ((b, k) ∷ []) in
    let same : still_made n trials (after (k + 1) (next n trial b)) ≡ sum_of (map (made n rest) (next n trial b)) = ap sum_of (map_after n trials rest (k + 1) (next n trial b) later) in
    let own : made n (drop k trials) b ≡ suc (sum_of (map (made n rest) (next n trial b))) = ap (λ ts. made n ts b) here in
    omega (arith, new, old, same, own)

-- ---- how many tries are left

abbrev tried_of : PlainNet → List Trial → PlainUnderWay → ℕ
tried_of n trials o = tried n (drop o.1 trials) o.0

tried_both : (n : PlainNet) (trials : List Trial) (front back : List PlainUnderWay) → still_tried n trials (front ++ back) ≡ still_tried n trials front + still_tried n trials back
tried_both n trials front back = ap sum_of (map-append (tried_of n trials) front back) ∙ sum_both (map (tried_of n trials) front) (map (tried_of n trials) back)

tried_after : (n : PlainNet) (trials rest : List Trial) (k : ℕ) (bs : List PlainPartial) → drop k trials ≡ rest → map (tried_of n trials) (after k bs) ≡ map (tried n rest) bs
tried_after n trials rest k [] is = refl
tried_after n trials rest k (b ∷ bs) is = ap₂ (λ (x : ℕ) xs. x ∷ xs) (ap (λ ts. tried n ts b) is) (tried_after n trials rest k bs is)

tries_at_most : (n : PlainNet) (left : List Trial) (b : PlainPartial) → tries_at left ≤ tried n left b
tries_at_most n [] b = omega arith
tries_at_most n (trial ∷ left) b = omega arith

-- the tries of the last one are among those that are still to be made
pub tries_within : (n : PlainNet) (trials : List Trial) (front : List PlainUnderWay) (o : PlainUnderWay) → tries_at (drop o.1 trials) ≤ still_tried n trials (front ++ o ∷ [])
tries_within n trials front o =
    let both = tried_both n trials front (o ∷ []) in
    let own = tries_at_most n (drop o.1 trials) o.0 in
    omega (arith, both, own)

pub tries_end : (n : PlainNet) (trials : List Trial) (front : List PlainUnderWay) (b : PlainPartial) (k : ℕ) → drop k trials ≡ [] → still_tried n trials (front ++ (b, k) ∷ []) ≡ 1 + still_tried n trials front
tries_end n trials front b k none_left =
    let both = tried_both n trials front ((b, k) ∷ []) in
    let own : tried n (drop k trials) b ≡ 1 = ap (λ ts. tried n ts b) none_left in
    omega (arith, both, own)

pub tries_next : (n : PlainNet) (trials rest : List Trial) (trial : Trial) (front : List PlainUnderWay) (b : PlainPartial) (k : ℕ) → drop k trials ≡ trial ∷ rest → drop (k + 1) trials ≡ rest
    → still_tried n trials (front ++ (b, k) ∷ []) ≡ tries_of trial + still_tried n trials (front ++ after (k + 1) (next n trial b))
tries_next n trials rest trial front b k here later =
    let new = tried_both n trials front (after (k + 1) (next n trial b)) in
    let old = tried_both n trials front ((b, k) ∷ []) in
    let same : still_tried n trials (after (k + 1) (next n trial b)) ≡ sum_of (map (tried n rest) (next n trial b)) = ap sum_of (tried_after n trials rest (k + 1) (next n trial b) later) in
    let own : tried n (drop k trials) b ≡ tries_of trial + sum_of (map (tried n rest) (next n trial b)) = ap (λ ts. tried n ts b) here in
    omega (arith, new, old, same, own)

-- ---- what is under way

-- the stage of a trial
record HasStage (n : PlainNet) (m : Marking) (stages : List Stage) (k : ℕ) (trial : Trial) : Type 0 where
  stage : Stage
  rest : List Stage
  there : drop k stages ≡ stage ∷ rest
  upto : take (suc k) stages ≡ take k stages ++ stage ∷ []
  short : k < length stages
  of_it : IsTrialOf n m stage trial

stage_at : (n : PlainNet) (m : Marking) (stages : List Stage) (trials rest : List Trial) (trial : Trial) (k : ℕ) → AreTrialsOf n m stages trials → drop k trials ≡ trial ∷ rest → HasStage n m stages k trial
stage_at n m [] [] rest trial zero of_them is = cc
stage_at n m [] [] rest trial (suc k) of_them is = cc
stage_at n m [] (t ∷ trials) rest trial k of_them is = absurd of_them
stage_at n m (stage ∷ stages) [] rest trial k of_them is = absurd of_them
stage_at n m (stage ∷ stages) (t ∷ trials) rest trial zero of_them is =
    record { stage = stage; rest = stages; there = refl; upto = refl; short = omega arith; of_it = subst (IsTrialOf n m stage) (head_of t trial trials rest is) of_them.0 }
stage_at n m (stage ∷ stages) (t ∷ trials) rest trial (suc k) of_them is =
    let later = stage_at n m stages trials rest trial k of_them.1 is in
    record { stage = later.stage; rest = later.rest; there = later.there; upto = ap (λ (ss : List Stage). stage ∷ ss) later.upto; short = let s = later.short in omega (arith, s); of_it = later.of_it }

-- what a trial makes of one that is under way is under way
pub next_under_way
    : (n : PlainNet) (m : Marking) (t : PlainTransition) (stages : List Stage) (trials rest : List Trial) (trial : Trial) (b : PlainPartial) (k : ℕ)
    → AreTrialsOf n m stages trials → drop k trials ≡ trial ∷ rest → IsUnderWay n t stages (b, k) → AreUnderWay n t stages (after (k + 1) (next n trial b))
next_under_way n m t stages trials rest trial b k of_them here is =
    each_mapped (IsUnderWay n t stages) (λ (c : PlainPartial). (c, k + 1)) (next n trial b) (each_in (λ c. IsUnderWay n t stages (c, k + 1)) (next n trial b) each)
  where
    at : HasStage n m stages k trial
    at = stage_at n m stages trials rest trial k of_them here

    one_more : k + 1 ≡ suc k
    one_more = omega arith

    each : (c : PlainPartial) → IsIn c (next n trial b) → IsUnderWay n t stages (c, k + 1)
    each c h =
        let made = next_is n m at.stage trial b c at.of_it h in
        let short = at.short in
        record {
          within = omega (arith, short);
          of_them = extends_variables b c made.extends ∙ is.of_them;
          admitted = made.admitted;
          known = λ x g.
              let among : IsIn x (variables_at_each (take k stages) ++ variables_at_each (at.stage ∷ [])) = subst (IsIn x) (ap variables_at_each (ap (λ (j : ℕ). take j stages) one_more ∙ at.upto) ∙ flat_map-append variables_at (take k stages) (at.stage ∷ [])) (in_from_contains (variables_at_each (take (k + 1) stages)) x g) in
              ⊎_elim (λ old. let v = is.known x (contains_from_in (variables_at_each (take k stages)) x old) in (v.0, value_stays x v.0 b c made.extends v.1))
              (λ new. made.has x (⊎_elim (λ own. own) (λ none'. absurd none') (in_append_cases (variables_at at.stage) [] x new))) (in_append_cases (variables_at_each (take k stages)) (variables_at_each (at.stage ∷ [])) x among);
        }

-- the inscription of an equation that is tried has a meaning
orderly_at : (t : PlainTransition) (before stages rest : List Stage) (stage : Stage) (k : ℕ) → AreOrderly t before stages → drop k stages ≡ stage ∷ rest → IsTimelyStage t (before ++ take k stages) stage
orderly_at t before [] rest stage zero orderly is = cc
orderly_at t before [] rest stage (suc k) orderly is = cc
orderly_at t before (s ∷ stages) rest stage zero orderly is = subst (λ (bs : List Stage). IsTimelyStage t bs stage) (sym (append-nil before)) (subst (IsTimelyStage t before) (head_of s stage stages rest is) orderly.0)
orderly_at t before (s ∷ stages) rest stage (suc k) orderly is = subst (λ (bs : List Stage). IsTimelyStage t bs stage) (append_assoc before (s ∷ []) (take k stages)) (orderly_at t (before ++ s ∷ []) stages rest stage k orderly.1 is)

pub solving_means
    : (n : PlainNet) (m : Marking) (t : PlainTransition) (stages : List Stage) (trials rest : List Trial) (x : ℕ) (e : PlainExpr) (b : PlainPartial) (k : ℕ)
    → IsSolvable n t → AreOrderly t [] stages → AreTrialsOf n m stages trials → drop k trials ≡ solving x e ∷ rest → IsUnderWay n t stages (b, k) → HasMeaning (meaning n.functions e (bound_in b) 0)
solving_means n m t stages trials rest x e b k solvable orderly of_them here is = by_stage at.stage at.of_it (orderly_at t [] stages at.rest at.stage k orderly at.there)
  where
    at : HasStage n m stages k (solving x e)
    at = stage_at n m stages trials rest (solving x e) k of_them here

    by_stage : (stage : Stage) → IsTrialOf n m stage (solving x e) → IsTimelyStage t (take k stages) stage → HasMeaning (meaning n.functions e (bound_in b) 0)
    by_stage (by_term place p) of_it timely = absurd of_it
    by_stage (by_equation y f) of_it timely =
        subst (λ (g : PlainExpr). HasMeaning (meaning n.functions g (bound_in b) 0)) (sym of_it.1)
        (equation_means n t (take k stages) b y f solvable timely is.admitted (λ z g. is.known z (contains_from_in (variables_at_each (take k stages)) z g)))
    by_stage (by_size y) of_it timely = absurd of_it
    by_stage (by_value place p v) of_it timely = absurd of_it
