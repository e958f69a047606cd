-- What adding and taking a token does to the stamps of each value, and how many of the tokens of a
-- value are covered. The timed subtraction of a place's tokens is that of the stamps of the value.
use Rattle.std.proofs.Common.{◌≡◌, ℕ, zero, suc, ◌+◌, ◌≤◌, Bool, true, false, cond, ◌&&◌, ◌||◌, nat_le, List, [], ◌∷◌, replicate, count_by, refl, sym, ap, subst, ◌∙◌, arith, Ordering, Equal, nat_cmp, is_lt, is_gt, leb-false, le-leb, IsPermutation}
use Rattle.std.specs.Ordering.{ordering_then}
use Rattle.std.specs.List.{list_any}
use Rattle.std.proofs.lemmas.Cmp.{upto}
use Rattle.std.proofs.lemmas.Bool.{cond_both, cond-true, cond-false, lt-leb, and_parts}
use Rattle.std.proofs.lemmas.Bool.Decides.{nat_tests}
use Rattle.std.proofs.lemmas.List.Sorted.{IsPermutation-refl, IsPermutation-cons, IsPermutation-trans, IsPermutation-append_left, IsPermutation-append_comm}
use Rattle.std.proofs.lemmas.List.Sums.{sum_by-cons}
use Rattle.cpn_definitions.specs.Value.{PlainValue}
use Rattle.cpn_definitions.specs.Order.{value_cmp, same_value}
use Rattle.cpn_definitions.specs.Marking.{PlainToken, Tokens, token_cmp, add_token, without_token, without_latest, begins_by, covers, stamps, is_taken_by, MayPrecede, AreSorted}
use Rattle.cpn_definitions.specs.ValueOrder.{token_cmp_total, value_itself, same_value_true, same_value_refl}

-- ---- stamps in rising order

-- the number is at most each of the list
abbrev pub IsAtMostEach : ℕ → List ℕ → Type 0
IsAtMostEach s [] = Unit {0}
IsAtMostEach s (r ∷ rs) = (s ≤ r) × IsAtMostEach s rs

-- each number is at most those after it
abbrev pub AreRising : List ℕ → Type 0
AreRising [] = Unit {0}
AreRising (s ∷ ss) = IsAtMostEach s ss × AreRising ss

abbrev is_by : ℕ → ℕ → Bool
is_by t s = nat_le s t

-- the token is above none of the tokens
abbrev IsAboveNone : PlainToken → Tokens → Type 0
IsAboveNone k [] = Unit {0}
IsAboveNone k (l ∷ ls) = (is_gt (token_cmp k l) ≡ false) × IsAboveNone k ls

above_none : (k : PlainToken) (ls : Tokens) → MayPrecede k ls → AreSorted ls → IsAboveNone k ls
above_none k [] before sorted = tt
above_none k (l ∷ ls) before sorted = (before, above_none k ls (next ls sorted.0) sorted.1)
  where
    next : (ms : Tokens) → MayPrecede l ms → MayPrecede k ms
    next [] h = tt
    next (m ∷ ms) h = upto token_cmp_total k l m before h

-- of two tokens of one value, the one that is not above the other has no later stamp
stamp_order : (v : PlainValue) (k l : PlainToken) → same_value v k.value ≡ true → same_value v l.value ≡ true → is_gt (token_cmp k l) ≡ false → k.stamp ≤ l.stamp
stamp_order v k l hk hl h =
    let e : value_cmp k.value l.value ≡ Equal = subst (λ w. value_cmp w l.value ≡ Equal) (same_value_true v k.value hk) (subst (λ w. value_cmp v w ≡ Equal) (same_value_true v l.value hl) (value_itself v)) in
    not_above (nat_cmp k.stamp l.stamp) refl (sym (ap (λ o. is_gt (ordering_then o (nat_cmp k.stamp l.stamp))) e) ∙ h)
  where
    not_above : (o : Ordering) → nat_cmp k.stamp l.stamp ≡ o → is_gt o ≡ false → k.stamp ≤ l.stamp
    not_above o e f = grind (arith, nat_tests)

stamps_at_least : (v : PlainValue) (k : PlainToken) (ls : Tokens) → same_value v k.value ≡ true → IsAboveNone k ls → IsAtMostEach k.stamp (stamps v ls)
stamps_at_least v k [] hk h = tt
stamps_at_least v k (l ∷ ls) hk h =
    cond_both (same_value v l.value) (l.stamp ∷ stamps v ls) (stamps v ls) (IsAtMostEach k.stamp) (λ hl. (stamp_order v k l hk hl h.0, stamps_at_least v k ls hk h.1)) (λ _. stamps_at_least v k ls hk h.1)

-- the stamps of a value among sorted tokens rise
pub stamps_rise : (v : PlainValue) (ks : Tokens) → AreSorted ks → AreRising (stamps v ks)
stamps_rise v [] sorted = tt
stamps_rise v (k ∷ ks) sorted =
    cond_both (same_value v k.value) (k.stamp ∷ stamps v ks) (stamps v ks) AreRising
    (λ hk. (stamps_at_least v k ks hk (above_none k ks sorted.0 sorted.1), stamps_rise v ks sorted.1)) (λ _. stamps_rise v ks sorted.1)

-- ---- which stamps are not above a threshold

none_by : (t s : ℕ) (ss : List ℕ) → nat_le s t ≡ false → IsAtMostEach s ss → list_any (is_by t) ss ≡ false
none_by t s [] h rising = refl
none_by t s (r ∷ rs) h rising =
    let above : nat_le r t ≡ false = lt-leb r t (omega (arith, leb-false s t h, rising.0)) in
    ap (λ b. b || list_any (is_by t) rs) above ∙ none_by t s rs h rising.1

-- rising stamps have one that is not above the threshold exactly where the first is not
any_is_first : (t : ℕ) (ss : List ℕ) → AreRising ss → list_any (is_by t) ss ≡ begins_by t ss
any_is_first t [] rising = refl
any_is_first t (s ∷ ss) rising = by_first (nat_le s t) refl
  where
    by_first : (b : Bool) → nat_le s t ≡ b → (b || list_any (is_by t) ss) ≡ b
    by_first true h = refl
    by_first false h = none_by t s ss h rising.0

any_stamp : (v : PlainValue) (t : ℕ) (ks : Tokens) → list_any (is_taken_by v t) ks ≡ list_any (is_by t) (stamps v ks)
any_stamp v t [] = refl
any_stamp v t (k ∷ ks) = split (any_stamp v t ks) (same_value v k.value)
  where
    split
        : list_any (is_taken_by v t) ks ≡ list_any (is_by t) (stamps v ks)
        → (b : Bool) → ((b && nat_le k.stamp t) || list_any (is_taken_by v t) ks) ≡ list_any (is_by t) (cond b (k.stamp ∷ stamps v ks) (stamps v ks))
    split rest true = ap (λ r. nat_le k.stamp t || r) rest
    split rest false = rest

-- sorted tokens have one that is taken exactly where the stamps of the value begin with one that is not above
-- the threshold
pub any_taken : (v : PlainValue) (t : ℕ) (ks : Tokens) → AreSorted ks → list_any (is_taken_by v t) ks ≡ begins_by t (stamps v ks)
any_taken v t ks sorted = any_stamp v t ks ∙ any_is_first t (stamps v ks) (stamps_rise v ks sorted)

-- where no stamp is low enough, none is taken
pub without_latest_none : (t : ℕ) (ss : List ℕ) → AreRising ss → begins_by t ss ≡ false → without_latest t ss ≡ ss
without_latest_none t [] rising h = refl
without_latest_none t (s ∷ ss) rising h =
    cond-false (begins_by t ss) (s ∷ without_latest t ss) (cond (nat_le s t) ss (s ∷ ss)) (sym (any_is_first t ss rising.1) ∙ none_by t s ss h rising.0) ∙ cond-false (nat_le s t) ss (s ∷ ss) h

-- ---- the stamps after a token is taken

stamps_same : (v : PlainValue) (k : PlainToken) (ks : Tokens) → same_value v k.value ≡ true → stamps v (k ∷ ks) ≡ k.stamp ∷ stamps v ks
stamps_same v k ks h = cond-true (same_value v k.value) (k.stamp ∷ stamps v ks) (stamps v ks) h

stamps_other : (v : PlainValue) (k : PlainToken) (ks : Tokens) → same_value v k.value ≡ false → stamps v (k ∷ ks) ≡ stamps v ks
stamps_other v k ks h = cond-false (same_value v k.value) (k.stamp ∷ stamps v ks) (stamps v ks) h

-- taking a token of a value takes the latest stamp of that value that is not above the threshold
pub stamps_without : (v : PlainValue) (t : ℕ) (ks : Tokens) → AreSorted ks → stamps v (without_token v t ks) ≡ without_latest t (stamps v ks)
stamps_without v t [] sorted = refl
stamps_without v t (k ∷ ks) sorted = split (list_any (is_taken_by v t) ks) (same_value v k.value) (nat_le k.stamp t) (stamps_without v t ks sorted.1) (any_taken v t ks sorted.1) refl refl
  where
    split
        : (a b c : Bool)
        → stamps v (without_token v t ks) ≡ without_latest t (stamps v ks)
        → a ≡ begins_by t (stamps v ks)
        → same_value v k.value ≡ b
        → nat_le k.stamp t ≡ c
        → stamps v (cond a (k ∷ without_token v t ks) (cond (b && c) ks (k ∷ ks))) ≡ without_latest t (cond b (k.stamp ∷ stamps v ks) (stamps v ks))
    split true true c rest a b e =
        stamps_same v k (without_token v t ks) b ∙ ap (λ ss. k.stamp ∷ ss) rest
        ∙ sym (cond-true (begins_by t (stamps v ks)) (k.stamp ∷ without_latest t (stamps v ks)) (cond (nat_le k.stamp t) (stamps v ks) (k.stamp ∷ stamps v ks)) (sym a))
    split true false c rest a b e = stamps_other v k (without_token v t ks) b ∙ rest
    split false true true rest a b e =
        sym
        (cond-false (begins_by t (stamps v ks)) (k.stamp ∷ without_latest t (stamps v ks)) (cond (nat_le k.stamp t) (stamps v ks) (k.stamp ∷ stamps v ks)) (sym a)
        ∙ cond-true (nat_le k.stamp t) (stamps v ks) (k.stamp ∷ stamps v ks) e)
    split false true false rest a b e =
        stamps_same v k ks b
        ∙ sym
        (cond-false (begins_by t (stamps v ks)) (k.stamp ∷ without_latest t (stamps v ks)) (cond (nat_le k.stamp t) (stamps v ks) (k.stamp ∷ stamps v ks)) (sym a)
        ∙ cond-false (nat_le k.stamp t) (stamps v ks) (k.stamp ∷ stamps v ks) e)
    split false false c rest a b e = stamps_other v k ks b ∙ sym (without_latest_none t (stamps v ks) (stamps_rise v ks sorted.1) (sym a))

-- it leaves the stamps of every other value
pub stamps_without_other : (w v : PlainValue) (t : ℕ) (ks : Tokens) → same_value w v ≡ false → stamps w (without_token v t ks) ≡ stamps w ks
stamps_without_other w v t [] other = refl
stamps_without_other w v t (k ∷ ks) other =
    cond_both (list_any (is_taken_by v t) ks) (k ∷ without_token v t ks) (cond (is_taken_by v t k) ks (k ∷ ks)) (λ ls. stamps w ls ≡ stamps w (k ∷ ks))
    (λ _. ap (λ ss. cond (same_value w k.value) (k.stamp ∷ ss) ss) (stamps_without_other w v t ks other))
    (λ _. cond_both (is_taken_by v t k) ks (k ∷ ks) (λ ls. stamps w ls ≡ stamps w (k ∷ ks))
    (λ taken. sym (stamps_other w k ks (subst (λ u. same_value w u ≡ false) (same_value_true v k.value ((and_parts (same_value v k.value) (nat_le k.stamp t) taken).0)) other))) (λ _. refl))

-- ---- the stamps after a token is added

-- adding a token of a value adds its stamp to those of the value
pub stamps_add : (v : PlainValue) (s : ℕ) (ks : Tokens) → IsPermutation (s ∷ stamps v ks) (stamps v (add_token (record { value = v; stamp = s }) ks))
stamps_add v s [] = subst (IsPermutation (s ∷ [])) (sym (stamps_same v (record { value = v; stamp = s }) [] (same_value_refl v))) (IsPermutation-refl (s ∷ []))
stamps_add v s (k ∷ ks) =
    cond_both (is_lt (token_cmp token k)) (token ∷ k ∷ ks) (k ∷ add_token token ks) (λ ls. IsPermutation (s ∷ stamps v (k ∷ ks)) (stamps v ls))
    (λ _. subst (IsPermutation (s ∷ stamps v (k ∷ ks))) (sym (stamps_same v token (k ∷ ks) (same_value_refl v))) (IsPermutation-refl (s ∷ stamps v (k ∷ ks))))
    (λ _. later (stamps_add v s ks) (same_value v k.value))
  where
    token : PlainToken
    token = record { value = v; stamp = s }

    exchanged : (a b : ℕ) (ss : List ℕ) → IsPermutation (a ∷ b ∷ ss) (b ∷ a ∷ ss)
    exchanged a b ss = IsPermutation-append_left ss (a ∷ b ∷ []) (b ∷ a ∷ []) (IsPermutation-append_comm (a ∷ []) (b ∷ []))

    later
        : IsPermutation (s ∷ stamps v ks) (stamps v (add_token token ks))
        → (b : Bool)
        → IsPermutation (s ∷ cond b (k.stamp ∷ stamps v ks) (stamps v ks)) (cond b (k.stamp ∷ stamps v (add_token token ks)) (stamps v (add_token token ks)))
    later rest true =
        IsPermutation-trans (s ∷ k.stamp ∷ stamps v ks) (k.stamp ∷ s ∷ stamps v ks) (k.stamp ∷ stamps v (add_token token ks)) (exchanged s k.stamp (stamps v ks))
        (IsPermutation-cons k.stamp (s ∷ stamps v ks) (stamps v (add_token token ks)) rest)
    later rest false = rest

-- it leaves the stamps of every other value
pub stamps_add_other : (w v : PlainValue) (s : ℕ) (ks : Tokens) → same_value w v ≡ false → stamps w (add_token (record { value = v; stamp = s }) ks) ≡ stamps w ks
stamps_add_other w v s [] other = stamps_other w (record { value = v; stamp = s }) [] other
stamps_add_other w v s (k ∷ ks) other =
    cond_both (is_lt (token_cmp (record { value = v; stamp = s }) k)) (record { value = v; stamp = s } ∷ k ∷ ks) (k ∷ add_token (record { value = v; stamp = s }) ks) (λ ls. stamps w ls ≡ stamps w (k ∷ ks))
    (λ _. stamps_other w (record { value = v; stamp = s }) (k ∷ ks) other) (λ _. ap (λ ss. cond (same_value w k.value) (k.stamp ∷ ss) ss) (stamps_add_other w v s ks other))

-- ---- how many tokens are covered

count_cons : {X : Type 0} (p : X → Bool) (x : X) (xs : List X) → count_by p (x ∷ xs) ≡ cond (p x) 1 0 + count_by p xs
count_cons p x xs = sum_by-cons (λ y. cond (p y) 1 0) x xs

count_stamps : (v : PlainValue) (t : ℕ) (ks : Tokens) → count_by (is_taken_by v t) ks ≡ count_by (is_by t) (stamps v ks)
count_stamps v t [] = refl
count_stamps v t (k ∷ ks) = count_cons (is_taken_by v t) k ks ∙ split (count_stamps v t ks) (same_value v k.value)
  where
    split
        : count_by (is_taken_by v t) ks ≡ count_by (is_by t) (stamps v ks)
        → (b : Bool)
        → cond (b && nat_le k.stamp t) 1 0 + count_by (is_taken_by v t) ks ≡ count_by (is_by t) (cond b (k.stamp ∷ stamps v ks) (stamps v ks))
    split rest true = ap (λ n. cond (nat_le k.stamp t) 1 0 + n) rest ∙ sym (count_cons (is_by t) k.stamp (stamps v ks))
    split rest false = omega arith

zero_and : {n : ℕ} → n ≡ 0 → 0 + n ≡ 0
zero_and e = omega arith

count_none : (t s : ℕ) (ss : List ℕ) → nat_le s t ≡ false → IsAtMostEach s ss → count_by (is_by t) ss ≡ 0
count_none t s [] h rising = refl
count_none t s (r ∷ rs) h rising =
    let above : nat_le r t ≡ false = lt-leb r t (omega (arith, leb-false s t h, rising.0)) in
    let e = count_none t s rs h rising.1 in
    count_cons (is_by t) r rs ∙ ap (λ b. cond b 1 0 + count_by (is_by t) rs) above ∙ zero_and e

covers_rising : (t k : ℕ) (ss : List ℕ) → AreRising ss → covers ss (replicate k t) ≡ nat_le k (count_by (is_by t) ss)
covers_rising t zero ss rising = sym (le-leb 0 (count_by (is_by t) ss) (omega arith))
covers_rising t (suc k) [] rising = sym (lt-leb (suc k) 0 (omega arith))
covers_rising t (suc k) (s ∷ ss) rising = split (covers_rising t k ss rising.1) (nat_le s t) refl ∙ ap (nat_le (suc k)) (sym (count_cons (is_by t) s ss))
  where
    split
        : covers ss (replicate k t) ≡ nat_le k (count_by (is_by t) ss)
        → (b : Bool)
        → nat_le s t ≡ b
        → (b && covers ss (replicate k t)) ≡ nat_le (suc k) (cond b 1 0 + count_by (is_by t) ss)
    split rest true h = rest ∙ grind (arith, nat_tests)
    split rest false h = let e = count_none t s ss h rising.0 in sym (lt-leb (suc k) (0 + count_by (is_by t) ss) (omega arith))

-- among sorted tokens, a threshold is covered a number of times exactly where at least as many tokens of
-- the value have a stamp that is not above it
pub covers_count : (v : PlainValue) (t k : ℕ) (ks : Tokens) → AreSorted ks → covers (stamps v ks) (replicate k t) ≡ nat_le k (count_by (is_taken_by v t) ks)
covers_count v t k ks sorted = covers_rising t k (stamps v ks) (stamps_rise v ks sorted) ∙ ap (nat_le k) (sym (count_stamps v t ks))
