-- Sorted stamps, kept as how many tokens have each: they rise, one more stamp is one more in its entry, and the stamp at a rank.
use Rattle.std.proofs.Common.{◌≡◌, ℕ, zero, suc, ◌+◌, ◌-◌, ◌<◌, ◌≤◌, Bool, true, false, cond, List, [], ◌∷◌, ◌++◌, length, length-append, replicate, Some, refl, sym, ap, subst, ◌∙◌, arith, Ordering, Less, Equal, Greater, nat_cmp, is_eq, is_lt}
use Rattle.std.specs.List.{AllByRecursion, slice_get}
use Rattle.std.specs.Option.{unwrap_or}
use Rattle.std.specs.Ordering.{match_ordering}
use Rattle.std.specs.Map.{lookup}
use Rattle.std.specs.BTreeMap.{insert_entry, is_at}
use Rattle.std.proofs.lemmas.Bool.{cond-true, cond-false}
use Rattle.std.proofs.lemmas.Cmp.{nat_cmp_total, ranked}
use Rattle.std.proofs.lemmas.List.{length-replicate}
use Rattle.cpn_definitions.specs.Lists.{with_item}
use Rattle.cpn_definitions.proofs.Stamps.{AreRising, IsAtMostEach}
use Rattle.cpn_tmset.specs.StampCounts.{repeated, IsCounted}
use Rattle.cpn_definitions.proofs.KeyedEntries.{none_below}
use Rattle.cpn_definitions.proofs.NumberTests.{same_number, less_number}

pub greater_number : (a b : ℕ) → nat_cmp a b ≡ Greater → b < a
greater_number a b h = ranked a b Greater (sym h)

pub rest_is : (e : ℕ × ℕ) (es : List (ℕ × ℕ)) → IsCounted (e ∷ es) → IsCounted es
rest_is e es is = (is.0.1, is.1.1)

-- ---- stamps rise

at_least_repeated : (y n : ℕ) (zs : List ℕ) (x : ℕ) → x ≤ y → IsAtMostEach x zs → IsAtMostEach x (replicate n y ++ zs)
at_least_repeated y zero zs x le all = all
at_least_repeated y (suc n) zs x le all = (le, at_least_repeated y n zs x le all)

rising_repeated : (y n : ℕ) (zs : List ℕ) → IsAtMostEach y zs → AreRising zs → AreRising (replicate n y ++ zs)
rising_repeated y zero zs all rising = rising
rising_repeated y (suc n) zs all rising = (at_least_repeated y n zs y (omega arith) all, rising_repeated y n zs all rising)

below_repeated : (x : ℕ) (es : List (ℕ × ℕ)) → AllByRecursion (λ (e : ℕ × ℕ). nat_cmp x e.0 ≡ Less) es → IsAtMostEach x (repeated es)
below_repeated x [] all = tt
below_repeated x (e ∷ es) all = let lt = less_number x e.0 all.0 in at_least_repeated e.0 e.1 (repeated es) x (omega (arith, lt)) (below_repeated x es all.1)

pub repeated_rise : (es : List (ℕ × ℕ)) → IsCounted es → AreRising (repeated es)
repeated_rise [] is = tt
repeated_rise (e ∷ es) is = rising_repeated e.0 e.1 (repeated es) (below_repeated e.0 es is.0.0) (repeated_rise es (rest_is e es is))

-- ---- one more stamp

-- a stamp goes behind those that it is not below
with_past : (x y n : ℕ) (zs : List ℕ) → is_lt (nat_cmp x y) ≡ false → with_item nat_cmp x (replicate n y ++ zs) ≡ replicate n y ++ with_item nat_cmp x zs
with_past x y zero zs h = refl
with_past x y (suc n) zs h = cond-false (is_lt (nat_cmp x y)) (x ∷ y ∷ (replicate n y ++ zs)) (y ∷ with_item nat_cmp x (replicate n y ++ zs)) h ∙ ap (λ us. y ∷ us) (with_past x y n zs h)

-- and ahead of those that it is below
with_ahead : (x y n : ℕ) (zs : List ℕ) → is_lt (nat_cmp x y) ≡ true → with_item nat_cmp x zs ≡ x ∷ zs → with_item nat_cmp x (replicate n y ++ zs) ≡ x ∷ (replicate n y ++ zs)
with_ahead x y zero zs h rest = rest
with_ahead x y (suc n) zs h rest = cond-true (is_lt (nat_cmp x y)) (x ∷ y ∷ (replicate n y ++ zs)) (y ∷ with_item nat_cmp x (replicate n y ++ zs)) h

with_first : (x : ℕ) (es : List (ℕ × ℕ)) → AllByRecursion (λ (e : ℕ × ℕ). nat_cmp x e.0 ≡ Less) es → with_item nat_cmp x (repeated es) ≡ x ∷ repeated es
with_first x [] all = refl
with_first x (e ∷ es) all = with_ahead x e.0 e.1 (repeated es) (ap is_lt all.0) (with_first x es all.1)

below_all : (x : ℕ) (e : ℕ × ℕ) (es : List (ℕ × ℕ)) → nat_cmp x e.0 ≡ Less → AllByRecursion (λ (d : ℕ × ℕ). nat_cmp e.0 d.0 ≡ Less) es → AllByRecursion (λ (d : ℕ × ℕ). nat_cmp x d.0 ≡ Less) es
below_all x e [] h all = tt
below_all x e (d ∷ ds) h all = (nat_cmp_total.trans x e.0 d.0 h all.0, below_all x e ds h all.1)

replicate_more : (n y : ℕ) (zs : List ℕ) → replicate (n + 1) y ++ zs ≡ replicate n y ++ (y ∷ zs)
replicate_more n y zs = let next : n + 1 ≡ suc n = omega arith in ap (λ (k : ℕ). replicate k y ++ zs) next ∙ moved n
  where
    moved : (k : ℕ) → y ∷ (replicate k y ++ zs) ≡ replicate k y ++ (y ∷ zs)
    moved zero = refl
    moved (suc k) = ap (λ us. y ∷ us) (moved k)

pub added : (s held : ℕ) (es : List (ℕ × ℕ)) → IsCounted es → held ≡ unwrap_or (lookup (is_at (nat_cmp s)) es) 0 → repeated (insert_entry nat_cmp es s (held + 1)) ≡ with_item nat_cmp s (repeated es)
added s held [] is at = let one : held + 1 ≡ 1 = omega arith in ap (λ (k : ℕ). replicate k s ++ []) one
added s held (e ∷ es) is at = split (nat_cmp s e.0) refl (added s held es (rest_is e es is))
  where
    split : (o : Ordering) → nat_cmp s e.0 ≡ o → (held ≡ unwrap_or (lookup (is_at (nat_cmp s)) es) 0 → repeated (insert_entry nat_cmp es s (held + 1)) ≡ with_item nat_cmp s (repeated es))
        → repeated (match_ordering o ((s, held + 1) ∷ e ∷ es) ((e.0, held + 1) ∷ es) (e ∷ insert_entry nat_cmp es s (held + 1))) ≡ with_item nat_cmp s (repeated (e ∷ es))
    split Less h rest =
        let none : held ≡ 0 = at ∙ ap (λ o. unwrap_or o 0) (none_below nat_cmp nat_cmp_total s e es is.0 h) in
        let one : held + 1 ≡ 1 = omega arith in
        ap (λ (k : ℕ). replicate k s ++ repeated (e ∷ es)) one ∙ sym (with_first s (e ∷ es) (h, below_all s e es h is.0.0))
    split Equal h rest =
        let same : s ≡ e.0 = same_number s e.0 h in
        let here : held ≡ e.1 = at ∙ ap (λ o. unwrap_or o 0) (cond-true (is_eq (nat_cmp s e.0)) (Some e.1) (lookup (is_at (nat_cmp s)) es) (ap is_eq h)) in
        replicate_more held e.0 (repeated es)
        ∙ ap (λ (k : ℕ). replicate k e.0 ++ (e.0 ∷ repeated es)) here
        ∙ sym (with_past s e.0 e.1 (repeated es) (ap is_lt h) ∙ ap (λ us. replicate e.1 e.0 ++ us) (with_first s es (subst (λ (x : ℕ). AllByRecursion (λ (d : ℕ × ℕ). nat_cmp x d.0 ≡ Less) es) (sym same) is.0.0) ∙ ap (λ x. x ∷ repeated es) same))
    split Greater h rest =
        let later : held ≡ unwrap_or (lookup (is_at (nat_cmp s)) es) 0 = at ∙ ap (λ o. unwrap_or o 0) (cond-false (is_eq (nat_cmp s e.0)) (Some e.1) (lookup (is_at (nat_cmp s)) es) (ap is_eq h)) in
        ap (λ us. replicate e.1 e.0 ++ us) (rest later) ∙ sym (with_past s e.0 e.1 (repeated es) (ap is_lt h))

-- an entry counts no more tokens than there are
pub few_held : (s : ℕ) (es : List (ℕ × ℕ)) → unwrap_or (lookup (is_at (nat_cmp s)) es) 0 ≤ length (repeated es)
few_held s [] = omega arith
few_held s (e ∷ es) = let long = length-append (replicate e.1 e.0) (repeated es) in let here = length-replicate e.1 e.0 in let rest = few_held s es in split (is_eq (nat_cmp s e.0)) long here rest
  where
    split : (b : Bool) → length (replicate e.1 e.0 ++ repeated es) ≡ length (replicate e.1 e.0) + length (repeated es) → length (replicate e.1 e.0) ≡ e.1 → unwrap_or (lookup (is_at (nat_cmp s)) es) 0 ≤ length (repeated es)
        → unwrap_or (cond b (Some e.1) (lookup (is_at (nat_cmp s)) es)) 0 ≤ length (replicate e.1 e.0 ++ repeated es)
    split true long here rest = omega arith
    split false long here rest = omega arith

pub length-with_item : (s : ℕ) (ss : List ℕ) → length (with_item nat_cmp s ss) ≡ length ss + 1
length-with_item s [] = refl
length-with_item s (r ∷ rs) = split (is_lt (nat_cmp s r)) (length-with_item s rs)
  where
    split : (b : Bool) → length (with_item nat_cmp s rs) ≡ length rs + 1 → length (cond b (s ∷ r ∷ rs) (r ∷ with_item nat_cmp s rs)) ≡ suc (length rs) + 1
    split true rest = omega arith
    split false rest = omega arith

-- ---- the stamp at a rank

pub at_rank_here : (n s : ℕ) (zs : List ℕ) (r : ℕ) → r < n → slice_get (replicate n s ++ zs) r ≡ Some s
at_rank_here zero s zs r lt = absurd (omega arith)
at_rank_here (suc n) s zs zero lt = refl
at_rank_here (suc n) s zs (suc r) lt = at_rank_here n s zs r (omega arith)

pub at_rank_past : (n s : ℕ) (zs : List ℕ) (r : ℕ) → n ≤ r → slice_get (replicate n s ++ zs) r ≡ slice_get zs (r - n)
at_rank_past zero s zs r le = let same : r ≡ r - 0 = omega arith in ap (slice_get zs) same
at_rank_past (suc n) s zs zero le = absurd (omega arith)
at_rank_past (suc n) s zs (suc r) le = let same : r - n ≡ suc r - suc n = omega arith in at_rank_past n s zs r (omega arith) ∙ ap (slice_get zs) same
