-- Trials whose values are listed: where one takes the place of another that tries the same, all try the same.
use Rattle.std.proofs.Common.{◌≡◌, ℕ, zero, suc, ◌+◌, ◌<◌, ◌≤◌, List, [], ◌∷◌, ◌++◌, drop, length, get_or, slice_index_or, slice_set, refl, sym, ap, ◌∙◌, subst, arith}
use Rattle.cpn_stages.specs.Trials.{Trial, tries_of}
use Rattle.cpn_search.specs.declared.trials.Trial as program
use Rattle.cpn_search.specs.ListedTrials.{IsListed, IsListedAt, listed_by, listed_in}
use Rattle.cpn_search.specs.TrialViews.{trial_view, trials_view}
use Rattle.cpn_search.specs.Searches.{tries_at}

-- ---- one is listed

pub set_tries_same : (ts : List program.Trial) (k : ℕ) (t d : program.Trial) → trial_view t ≡ trial_view (slice_index_or ts k d) → trials_view (slice_set ts k t) ≡ trials_view ts
set_tries_same [] k t d same = refl
set_tries_same (s ∷ ts) zero t d same = ap (λ (x : Trial). x ∷ trials_view ts) same
set_tries_same (s ∷ ts) (suc k) t d same = ap (λ (xs : List Trial). trial_view s ∷ xs) (set_tries_same ts k t d same)

pub set_is_listed : (ts : List program.Trial) (k : ℕ) (t : program.Trial) → IsListed t → IsListedAt k (slice_set ts k t)
set_is_listed [] k t is = tt
set_is_listed (s ∷ ts) zero t is = is
set_is_listed (s ∷ ts) (suc k) t is = set_is_listed ts k t is

pub set_lists : (ts : List program.Trial) (k : ℕ) (t d : program.Trial) → k < length ts → listed_by t ≤ listed_by (slice_index_or ts k d) + tries_of (trial_view (slice_index_or ts k d))
    → listed_in (slice_set ts k t) ≤ listed_in ts + tries_at (drop k (trials_view ts))
set_lists [] k t d lt few = absurd (omega arith)
set_lists (s ∷ ts) zero t d lt few = omega (arith, few)
set_lists (s ∷ ts) (suc k) t d lt few = let rest = set_lists ts k t d (omega arith) few in omega (arith, rest)

-- past the last one none is still to be listed
pub none_to_list : (ts : List program.Trial) (k : ℕ) → length ts ≤ k → IsListedAt k ts
none_to_list [] k over = tt
none_to_list (t ∷ ts) zero over = absurd (omega arith)
none_to_list (t ∷ ts) (suc k) over = none_to_list ts k (omega arith)

-- the one of the number
pub listed_there : (ts : List program.Trial) (k : ℕ) (t : program.Trial) → k < length ts → t ≡ get_or ts k t → IsListedAt k ts → IsListed t
listed_there [] k t lt is listed = absurd (omega arith)
listed_there (s ∷ ts) zero t lt is listed = subst IsListed (sym is) listed
listed_there (s ∷ ts) (suc k) t lt is listed = listed_there ts k t (omega arith) is listed

-- ---- one more

pub one_lists_more : (ts now : List program.Trial) (t : program.Trial) → now ≡ ts ++ t ∷ [] → listed_by t ≡ 0 → listed_in now ≡ listed_in ts
one_lists_more ts now t is nothing = ap listed_in is ∙ behind ts
  where
    behind : (xs : List program.Trial) → listed_in (xs ++ t ∷ []) ≡ listed_in xs
    behind [] = omega (arith, nothing)
    behind (x ∷ xs) = ap (λ (k : ℕ). listed_by x + k) (behind xs)
