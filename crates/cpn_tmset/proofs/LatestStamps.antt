-- The latest stamp that is not above a threshold, found among counted stamps, and what is left when it is taken.
use Rattle.std.proofs.Common.{rules, ◌≡◌, ℕ, zero, suc, ◌+◌, ◌-◌, ◌<◌, ◌≤◌, Bool, true, false, cond, nat_le, List, [], ◌∷◌, ◌++◌, length, replicate, Option, Some, None, IsSome, refl, sym, ap, subst, ◌∙◌, arith, le-leb, leb-true, Ordering, Less, Equal, Greater, nat_cmp, is_eq}
use Rattle.std.specs.Map.{lookup, remove_entry, set_value}
use Rattle.std.specs.BTreeMap.{is_at}
use Rattle.std.proofs.lemmas.Bool.{cond-true, cond-false}
use Rattle.std.proofs.lemmas.Cmp.{nat_cmp_total, tied_itself}
use Rattle.cpn_definitions.specs.Marking.{begins_by, without_latest}
use Rattle.cpn_definitions.proofs.Stamps.{without_latest_none}
use Rattle.cpn_tmset.specs.Stamps.{latest_of}
use Rattle.cpn_tmset.specs.StampCounts.{repeated, IsCounted, AreAllAbove, IsLatestEntry}
use Rattle.cpn_definitions.proofs.KeyedEntries.{none_below, of_found}
use Rattle.cpn_definitions.proofs.NumberTests.{same_number, less_number}
use Rattle.cpn_tmset.proofs.RepeatedStamps.{greater_number, rest_is, repeated_rise}

-- ---- one stamp after another

module _ (t : ℕ) where
  begins_past : (n y : ℕ) (zs : List ℕ) → y ≤ t → begins_by t zs ≡ true → begins_by t (replicate n y ++ zs) ≡ true
  begins_past zero y zs le rest = rest
  begins_past (suc n) y zs le rest = le-leb y t le

  -- behind stamps that are not above the threshold there is a later one
  past : (n y : ℕ) (zs : List ℕ) → y ≤ t → begins_by t zs ≡ true → without_latest t (replicate n y ++ zs) ≡ replicate n y ++ without_latest t zs
  past zero y zs le rest = refl
  past (suc n) y zs le rest =
      cond-true (begins_by t (replicate n y ++ zs)) (y ∷ without_latest t (replicate n y ++ zs)) (cond (nat_le y t) (replicate n y ++ zs) (y ∷ (replicate n y ++ zs))) (begins_past n y zs le rest)
      ∙ ap (λ us. y ∷ us) (past n y zs le rest)

  past_of : (n y : ℕ) (zs : List ℕ) → y ≤ t → begins_by t zs ≡ true → latest_of t (replicate n y ++ zs) ≡ latest_of t zs
  past_of zero y zs le rest = refl
  past_of (suc n) y zs le rest =
      cond-true (begins_by t (replicate n y ++ zs)) (latest_of t (replicate n y ++ zs)) (cond (nat_le y t) (Some y) None) (begins_past n y zs le rest) ∙ past_of n y zs le rest

  -- the last of those that are not above it is taken
  last : (n y : ℕ) (zs : List ℕ) → y ≤ t → begins_by t zs ≡ false → without_latest t (replicate (suc n) y ++ zs) ≡ replicate n y ++ zs
  last zero y zs le none =
      cond-false (begins_by t zs) (y ∷ without_latest t zs) (cond (nat_le y t) zs (y ∷ zs)) none ∙ cond-true (nat_le y t) zs (y ∷ zs) (le-leb y t le)
  last (suc n) y zs le none =
      cond-true (nat_le y t) (y ∷ without_latest t (replicate (suc n) y ++ zs)) (cond (nat_le y t) (replicate (suc n) y ++ zs) (y ∷ (replicate (suc n) y ++ zs))) (le-leb y t le)
      ∙ ap (λ us. y ∷ us) (last n y zs le none)

  last_of : (n y : ℕ) (zs : List ℕ) → y ≤ t → begins_by t zs ≡ false → latest_of t (replicate (suc n) y ++ zs) ≡ Some y
  last_of zero y zs le none = cond-false (begins_by t zs) (latest_of t zs) (cond (nat_le y t) (Some y) None) none ∙ cond-true (nat_le y t) (Some y) None (le-leb y t le)
  last_of (suc n) y zs le none =
      cond-true (nat_le y t) (latest_of t (replicate (suc n) y ++ zs)) (cond (nat_le y t) (Some y) None) (le-leb y t le) ∙ last_of n y zs le none

  -- ---- among counted stamps

  begins_first : (e : ℕ × ℕ) (es : List (ℕ × ℕ)) → 0 < e.1 → begins_by t (repeated (e ∷ es)) ≡ nat_le e.0 t
  begins_first e es some = by_count e.1 some
    where
      by_count : (n : ℕ) → 0 < n → begins_by t (replicate n e.0 ++ repeated es) ≡ nat_le e.0 t
      by_count zero lt = absurd (omega arith)
      by_count (suc n) lt = refl

  found_first : (e : ℕ × ℕ) (es : List (ℕ × ℕ)) → lookup (is_at (nat_cmp e.0)) (e ∷ es) ≡ Some e.1
  found_first e es = cond-true (is_eq (nat_cmp e.0 e.0)) (Some e.1) (lookup (is_at (nat_cmp e.0)) es) (ap is_eq (tied_itself nat_cmp_total e.0))

  is_found : {X : Type 0} (o : Option X) (x : X) → o ≡ Some x → IsSome o
  is_found o x h = subst IsSome (sym h) (search rules)

  found_behind : (s : ℕ) (e : ℕ × ℕ) (es : List (ℕ × ℕ)) → IsSome (lookup (is_at (nat_cmp s)) es) → IsSome (lookup (is_at (nat_cmp s)) (e ∷ es))
  found_behind s e es some = split (is_eq (nat_cmp s e.0))
    where
      split : (b : Bool) → IsSome (cond b (Some e.1) (lookup (is_at (nat_cmp s)) es))
      split true = search rules
      split false = some

  -- where a stamp is the latest, none behind it is up to the threshold
  none_begins : (e : ℕ × ℕ) (es : List (ℕ × ℕ)) → IsCounted (e ∷ es) → ((s : ℕ) → s ≤ t → IsSome (lookup (is_at (nat_cmp s)) (e ∷ es)) → s ≤ e.0) → begins_by t (repeated es) ≡ false
  none_begins e [] is latest = refl
  none_begins e (d ∷ ds) is latest = begins_first d ds is.1.1.0 ∙ by_test (nat_le d.0 t) refl
    where
      by_test : (b : Bool) → nat_le d.0 t ≡ b → nat_le d.0 t ≡ false
      by_test false h = h
      by_test true h =
          let up : d.0 ≤ e.0 = latest d.0 (leb-true d.0 t h) (found_behind d.0 e (d ∷ ds) (is_found (lookup (is_at (nat_cmp d.0)) (d ∷ ds)) d.1 (found_first d ds))) in
          let above : e.0 < d.0 = less_number e.0 d.0 is.0.0.0 in
          absurd (omega arith)

  -- where one is found behind, the first there is up to the threshold
  begins_behind : (s n : ℕ) (es : List (ℕ × ℕ)) → IsCounted es → s ≤ t → lookup (is_at (nat_cmp s)) es ≡ Some n → begins_by t (repeated es) ≡ true
  begins_behind s n [] is le found = cc
  begins_behind s n (e ∷ es) is le found = begins_first e es is.1.0 ∙ split (nat_cmp s e.0) refl
    where
      split : (o : Ordering) → nat_cmp s e.0 ≡ o → nat_le e.0 t ≡ true
      split Less h = let none = none_below nat_cmp nat_cmp_total s e es is.0 h in cc
      split Equal h = let same = same_number s e.0 h in le-leb e.0 t (omega (arith, same))
      split Greater h = let up = greater_number s e.0 h in le-leb e.0 t (omega (arith, up))

  behind : (s n : ℕ) (e : ℕ × ℕ) (es : List (ℕ × ℕ)) → nat_cmp s e.0 ≡ Greater → lookup (is_at (nat_cmp s)) (e ∷ es) ≡ Some n → lookup (is_at (nat_cmp s)) es ≡ Some n
  behind s n e es h found = sym (cond-false (is_eq (nat_cmp s e.0)) (Some e.1) (lookup (is_at (nat_cmp s)) es) (ap is_eq h)) ∙ found

  here : (s n : ℕ) (e : ℕ × ℕ) (es : List (ℕ × ℕ)) → nat_cmp s e.0 ≡ Equal → lookup (is_at (nat_cmp s)) (e ∷ es) ≡ Some n → e.1 ≡ n
  here s n e es h found = let same : Some e.1 ≡ Some n = sym (cond-true (is_eq (nat_cmp s e.0)) (Some e.1) (lookup (is_at (nat_cmp s)) es) (ap is_eq h)) ∙ found in cc

  -- taking the latest stamp takes one of its tokens
  pub taken : (s n : ℕ) (es : List (ℕ × ℕ)) → IsCounted es → IsLatestEntry t es (s, suc n) → repeated (set_value (is_at (nat_cmp s)) es n) ≡ without_latest t (repeated es)
  taken s n [] is latest = let found = latest.1 in cc
  taken s n (e ∷ es) is latest = split (nat_cmp s e.0) refl (taken s n es (rest_is e es is))
    where
      split : (o : Ordering) → nat_cmp s e.0 ≡ o → (IsLatestEntry t es (s, suc n) → repeated (set_value (is_at (nat_cmp s)) es n) ≡ without_latest t (repeated es))
          → repeated (cond (is_eq o) ((e.0, n) ∷ es) (e ∷ set_value (is_at (nat_cmp s)) es n)) ≡ without_latest t (repeated (e ∷ es))
      split Less h rest = let none = none_below nat_cmp nat_cmp_total s e es is.0 h in let found = latest.1 in cc
      split Equal h rest =
          let same : s ≡ e.0 = same_number s e.0 h in
          let none : begins_by t (repeated es) ≡ false = none_begins e es is (λ q le some. subst (λ (x : ℕ). q ≤ x) same (latest.2 q le some)) in
          sym (ap (λ (k : ℕ). without_latest t (replicate k e.0 ++ repeated es)) (here s (suc n) e es h latest.1) ∙ last n e.0 (repeated es) (subst (λ (x : ℕ). x ≤ t) same latest.0) none)
      split Greater h rest =
          let found = behind s (suc n) e es h latest.1 in
          let up : e.0 < s = greater_number s e.0 h in
          ap (λ us. replicate e.1 e.0 ++ us) (rest (latest.0, found, λ q le some. latest.2 q le (found_behind q e es some)))
          ∙ sym (past e.1 e.0 (repeated es) (let le = latest.0 in omega arith) (begins_behind s (suc n) es (rest_is e es is) latest.0 found))

  -- and it is the one that the definition names
  pub named : (s n : ℕ) (es : List (ℕ × ℕ)) → IsCounted es → IsLatestEntry t es (s, suc n) → latest_of t (repeated es) ≡ Some s
  named s n [] is latest = let found = latest.1 in cc
  named s n (e ∷ es) is latest = split (nat_cmp s e.0) refl (named s n es (rest_is e es is))
    where
      split : (o : Ordering) → nat_cmp s e.0 ≡ o → (IsLatestEntry t es (s, suc n) → latest_of t (repeated es) ≡ Some s) → latest_of t (repeated (e ∷ es)) ≡ Some s
      split Less h rest = let none = none_below nat_cmp nat_cmp_total s e es is.0 h in let found = latest.1 in cc
      split Equal h rest =
          let same : s ≡ e.0 = same_number s e.0 h in
          let none : begins_by t (repeated es) ≡ false = none_begins e es is (λ q le some. subst (λ (x : ℕ). q ≤ x) same (latest.2 q le some)) in
          ap (λ (k : ℕ). latest_of t (replicate k e.0 ++ repeated es)) (here s (suc n) e es h latest.1)
          ∙ last_of n e.0 (repeated es) (subst (λ (x : ℕ). x ≤ t) same latest.0) none ∙ ap (λ x. Some x) (sym same)
      split Greater h rest =
          let found = behind s (suc n) e es h latest.1 in
          let up : e.0 < s = greater_number s e.0 h in
          past_of e.1 e.0 (repeated es) (let le = latest.0 in omega arith) (begins_behind s (suc n) es (rest_is e es is) latest.0 found)
          ∙ rest (latest.0, found, λ q le some. latest.2 q le (found_behind q e es some))

  some_held : (s count : ℕ) (es : List (ℕ × ℕ)) → IsCounted es → IsLatestEntry t es (s, count) → 0 < count
  some_held s count es is latest = of_found nat_cmp (λ n. 0 < n) s count es is.1 latest.1

  pub one_taken : (s count : ℕ) (es : List (ℕ × ℕ)) → IsCounted es → IsLatestEntry t es (s, count) → repeated (set_value (is_at (nat_cmp s)) es (count - 1)) ≡ without_latest t (repeated es)
  one_taken s count es is latest =
      let some = some_held s count es is latest in
      let counted : count ≡ suc (count - 1) = omega arith in
      taken s (count - 1) es is (subst (λ (n : ℕ). IsLatestEntry t es (s, n)) counted latest)

  pub one_named : (s count : ℕ) (es : List (ℕ × ℕ)) → IsCounted es → IsLatestEntry t es (s, count) → latest_of t (repeated es) ≡ Some s
  one_named s count es is latest =
      let some = some_held s count es is latest in
      let counted : count ≡ suc (count - 1) = omega arith in
      named s (count - 1) es is (subst (λ (n : ℕ). IsLatestEntry t es (s, n)) counted latest)

  -- ---- no stamp up to the threshold

  none_up : (es : List (ℕ × ℕ)) → IsCounted es → AreAllAbove t es → begins_by t (repeated es) ≡ false
  none_up [] is above = refl
  none_up (e ∷ es) is above = begins_first e es is.1.0 ∙ by_test (nat_le e.0 t) refl
    where
      by_test : (b : Bool) → nat_le e.0 t ≡ b → nat_le e.0 t ≡ false
      by_test false h = h
      by_test true h = let none = above e.0 (leb-true e.0 t h) in let some = found_first e es in cc

  above_rest : (e : ℕ × ℕ) (es : List (ℕ × ℕ)) → AreAllAbove t (e ∷ es) → AreAllAbove t es
  above_rest e es above s le = split (is_eq (nat_cmp s e.0)) (above s le)
    where
      split : (b : Bool) → cond b (Some e.1) (lookup (is_at (nat_cmp s)) es) ≡ None → lookup (is_at (nat_cmp s)) es ≡ None
      split true h = cc
      split false h = h

  pub none_taken : (es : List (ℕ × ℕ)) → IsCounted es → AreAllAbove t es → without_latest t (repeated es) ≡ repeated es
  none_taken es is above = without_latest_none t (repeated es) (repeated_rise es is) (none_up es is above)

  none_repeated : (n y : ℕ) (zs : List ℕ) → nat_le y t ≡ false → begins_by t zs ≡ false → latest_of t zs ≡ None → latest_of t (replicate n y ++ zs) ≡ None
  none_repeated zero y zs above first rest = rest
  none_repeated (suc n) y zs above first rest = cond-false (begins_by t (replicate n y ++ zs)) (latest_of t (replicate n y ++ zs)) (cond (nat_le y t) (Some y) None) (begins n) ∙ cond-false (nat_le y t) (Some y) None above
    where
      begins : (k : ℕ) → begins_by t (replicate k y ++ zs) ≡ false
      begins zero = first
      begins (suc k) = above

  pub none_named : (es : List (ℕ × ℕ)) → IsCounted es → AreAllAbove t es → latest_of t (repeated es) ≡ None
  none_named [] is above = refl
  none_named (e ∷ es) is above =
      none_repeated e.1 e.0 (repeated es) (sym (begins_first e es is.1.0) ∙ none_up (e ∷ es) is above) (none_up es (rest_is e es is) (above_rest e es above)) (none_named es (rest_is e es is) (above_rest e es above))

-- ---- how many are left

pub removed_none : (s : ℕ) (es : List (ℕ × ℕ)) → repeated (remove_entry (is_at (nat_cmp s)) es) ≡ repeated (set_value (is_at (nat_cmp s)) es 0)
removed_none s [] = refl
removed_none s (e ∷ es) = split (is_eq (nat_cmp s e.0)) (removed_none s es)
  where
    split : (b : Bool) → repeated (remove_entry (is_at (nat_cmp s)) es) ≡ repeated (set_value (is_at (nat_cmp s)) es 0) → repeated (cond b es (e ∷ remove_entry (is_at (nat_cmp s)) es)) ≡ repeated (cond b ((e.0, 0) ∷ es) (e ∷ set_value (is_at (nat_cmp s)) es 0))
    split true rest = refl
    split false rest = ap (λ us. replicate e.1 e.0 ++ us) rest

-- one fewer where a stamp was named
pub length-without : (t s : ℕ) (ss : List ℕ) → latest_of t ss ≡ Some s → length (without_latest t ss) + 1 ≡ length ss
length-without t s [] h = cc
length-without t s (r ∷ rs) h = split (begins_by t rs) (nat_le r t) (length-without t s rs) h
  where
    split : (b c : Bool) → (latest_of t rs ≡ Some s → length (without_latest t rs) + 1 ≡ length rs) → cond b (latest_of t rs) (cond c (Some r) None) ≡ Some s
        → length (cond b (r ∷ without_latest t rs) (cond c rs (r ∷ rs))) + 1 ≡ suc (length rs)
    split true c rest g = let more = rest g in omega arith
    split false true rest g = omega arith
    split false false rest g = cc
