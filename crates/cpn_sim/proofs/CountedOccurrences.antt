-- What the probes count, occurrence by occurrence, is what is said of the list of all occurrences, while these are fewer than 2^64.
use Rattle.std.proofs.Common.{◌≡◌, ℕ, ◌+◌, ◌<◌, ◌≤◌, ◌^◌, ◌==◌, Bool, true, false, if◌then◌else◌, List, [], ◌∷◌, length, Option, Some, None, refl, sym, ap, subst, ◌∙◌, arith}
use Rattle.std.specs.Prelude.{max}
use Rattle.std.proofs.lemmas.Bool.{eqb-true}
use Rattle.cpn_definitions.specs.Legal.{PlainOccurrence}
use Rattle.cpn_probe.specs.Told.{IsTold}
use Rattle.cpn_sim.specs.Counted.{moments_in, in_front, longest_stretch}
use Rattle.cpn_sim.specs.Probing.{is_latest, one_more, PlainMoments, no_moments, moments_after, PlainStreak, no_streak, streak_after, length_after}

-- ---- moments

-- those behind a time
behind : Option ℕ → List PlainOccurrence → ℕ
behind latest [] = 0
behind latest (o ∷ os) = (if is_latest latest o.time then 0 else 1) + behind (Some o.time) os

behind_none : (os : List PlainOccurrence) → behind None os ≡ moments_in os
unfolding behind
behind_none [] = refl
behind_none (o ∷ []) = refl
behind_none (o ∷ p ∷ os) = let rest = behind_none (p ∷ os) in omega (arith, rest)

-- one more is not the last number, while numbers are left
grown : (n left : ℕ) → n + (1 + left) < 2 ^ 64 → one_more n ≡ n + 1
grown n left few = omega (arith, few)

moments_on : (m now : PlainMoments) (os : List PlainOccurrence) → IsTold (λ before o after. after ≡ moments_after before o) m os now
    → m.count + length os < 2 ^ 64 → now.count ≡ m.count + behind m.latest os
unfolding behind
moments_on m now [] told few = let same = ap (λ (x : PlainMoments). x.count) told in omega (arith, same)
moments_on m now (o ∷ os) told few = by (moments_on told.0 now os told.2) (is_latest m.latest o.time) refl
  where
    next : PlainMoments
    next = told.0

    next_is : next ≡ moments_after m o
    next_is = told.1

    latest_is : next.latest ≡ Some o.time
    latest_is = ap (λ (x : PlainMoments). x.latest) next_is

    count_is : next.count ≡ (if is_latest m.latest o.time then m.count else one_more m.count)
    count_is = ap (λ (x : PlainMoments). x.count) next_is

    Again : Type 0
    Again = next.count + length os < 2 ^ 64 → now.count ≡ next.count + behind next.latest os

    by : Again → (b : Bool) → is_latest m.latest o.time ≡ b → now.count ≡ m.count + ((if is_latest m.latest o.time then 0 else 1) + behind (Some o.time) os)
    by again true is =
        let same : next.count ≡ m.count = count_is ∙ ap (λ (c : Bool). if c then m.count else one_more m.count) is in
        let none : ◌≡◌ {A = ℕ} (if is_latest m.latest o.time then 0 else 1) 0 = ap (λ (c : Bool). if c then 0 else 1) is in
        let all = subst (λ (latest : Option ℕ). now.count ≡ next.count + behind latest os) latest_is (again (omega (arith, same, few))) in
        omega (arith, same, none, all)
    by again false is =
        let more : next.count ≡ m.count + 1 = count_is ∙ ap (λ (c : Bool). if c then m.count else one_more m.count) is ∙ grown m.count (length os) (omega (arith, few)) in
        let one : ◌≡◌ {A = ℕ} (if is_latest m.latest o.time then 0 else 1) 1 = ap (λ (c : Bool). if c then 0 else 1) is in
        let all = subst (λ (latest : Option ℕ). now.count ≡ next.count + behind latest os) latest_is (again (omega (arith, more, few))) in
        omega (arith, more, one, all)

-- From none on, the moments are those of the occurrences.
pub moments_counted : (now : PlainMoments) (os : List PlainOccurrence) → IsTold (λ before o after. after ≡ moments_after before o) no_moments os now
    → length os < 2 ^ 64 → now.count ≡ moments_in os
moments_counted now os told few = let all = moments_on no_moments now os told (omega (arith, few)) in omega (arith, all) ∙ behind_none os

-- ---- the longest stretch

-- the longest stretch of occurrences behind a stretch of so many of a transition, which may go on with them
longest_behind : Option ℕ → ℕ → List PlainOccurrence → ℕ
longest_behind None k os = longest_stretch os
longest_behind (Some t) k os = max (k + in_front t os) (longest_stretch os)

-- a streak that no stretch of its own passes, with so many occurrences left
record MayGoOn (s : PlainStreak) (left : ℕ) : Type 0 where
  pub within : s.length ≤ s.longest
  pub few : s.longest + left < 2 ^ 64

streak_on : (s now : PlainStreak) (os : List PlainOccurrence) → IsTold (λ before o after. after ≡ streak_after before o) s os now
    → MayGoOn s (length os) → now.longest ≡ max s.longest (longest_behind s.transition s.length os)
unfolding longest_behind
streak_on s now [] told may = by s.transition
  where
    same : now.longest ≡ s.longest
    same = ap (λ (x : PlainStreak). x.longest) told

    by : (t : Option ℕ) → now.longest ≡ max s.longest (longest_behind t s.length [])
    by None = let equal = same in omega (arith, equal)
    by (Some t) = let equal = same in let within = may.within in omega (arith, equal, within)
streak_on s now (o ∷ os) told may = by (streak_on told.0 now os told.2) s.transition refl
  where
    next : PlainStreak
    next = told.0

    t : ℕ
    t = o.element.transition

    Again : Type 0
    Again = MayGoOn next (length os) → now.longest ≡ max next.longest (longest_behind next.transition next.length os)

    longest_is : next.longest ≡ max s.longest (length_after s o)
    longest_is = ap (λ (x : PlainStreak). x.longest) told.1

    length_is : next.length ≡ length_after s o
    length_is = ap (λ (x : PlainStreak). x.length) told.1

    with_next : Again → MayGoOn next (length os) → now.longest ≡ max next.longest (max (next.length + in_front t os) (longest_stretch os))
    with_next again goes_on =
        subst (λ (u : Option ℕ). now.longest ≡ max next.longest (longest_behind u next.length os)) (ap (λ (x : PlainStreak). x.transition) told.1) (again goes_on)

    anew : Again → length_after s o ≡ 1 → now.longest ≡ max s.longest (max (1 + in_front t os) (longest_stretch os))
    anew again one =
        let few = may.few in
        let longer = longest_is in
        let long = length_is in
        let all = with_next again (record { within = omega (arith, one, longer, long); few = omega (arith, one, longer, few) }) in
        omega (arith, one, longer, long, all)

    along : Again → (u : ℕ) → u ≡ t → length_after s o ≡ s.length + 1
        → now.longest ≡ max s.longest (max (s.length + (1 + in_front u os)) (max (1 + in_front t os) (longest_stretch os)))
    along again u same more =
        let few = may.few in
        let within = may.within in
        let longer = longest_is in
        let long = length_is in
        let all = with_next again (record { within = omega (arith, more, longer, long); few = omega (arith, more, longer, few, within) }) in
        let front = ap (λ (k : ℕ). in_front k os) same in
        omega (arith, more, longer, long, within, all, front)

    by_transition : Again → (u : ℕ) → (b : Bool) → (u == t) ≡ b → length_after s o ≡ (if u == t then one_more s.length else 1)
        → now.longest ≡ max s.longest (max (s.length + (if u == t then 1 + in_front u os else 0)) (max (1 + in_front t os) (longest_stretch os)))
    by_transition again u true is long =
        let front : (if u == t then 1 + in_front u os else 0) ≡ 1 + in_front u os = ap (λ (c : Bool). if c then 1 + in_front u os else 0) is in
        let few = may.few in
        let within = may.within in
        let more : length_after s o ≡ s.length + 1 = long ∙ ap (λ (c : Bool). if c then one_more s.length else 1) is ∙ grown s.length (length os) (omega (arith, few, within)) in
        let all = along again u (eqb-true u t is) more in
        omega (arith, front, all)
    by_transition again u false is long =
        let front : (if u == t then 1 + in_front u os else 0) ≡ 0 = ap (λ (c : Bool). if c then 1 + in_front u os else 0) is in
        let within = may.within in
        let all = anew again (long ∙ ap (λ (c : Bool). if c then one_more s.length else 1) is) in
        omega (arith, front, within, all)

    by : Again → (latest : Option ℕ) → s.transition ≡ latest → now.longest ≡ max s.longest (longest_behind latest s.length (o ∷ os))
    by again None is = anew again (ap (λ (u : Option ℕ). if is_latest u t then one_more s.length else 1) is)
    by again (Some u) is = by_transition again u (u == t) refl (ap (λ (u : Option ℕ). if is_latest u t then one_more s.length else 1) is)

-- From none on, the longest stretch is that of the occurrences.
pub stretch_counted : (now : PlainStreak) (os : List PlainOccurrence) → IsTold (λ before o after. after ≡ streak_after before o) no_streak os now
    → length os < 2 ^ 64 → now.longest ≡ longest_stretch os
unfolding longest_behind
stretch_counted now os told few = let all : now.longest ≡ max 0 (longest_stretch os) = streak_on no_streak now os told (record { within = omega arith; few = omega (arith, few) }) in omega (arith, all)
