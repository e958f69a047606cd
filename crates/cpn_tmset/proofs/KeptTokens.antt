-- Tokens that are kept value by value: they are sorted, and the stamps of each value are those of its entry.
use Rattle.std.proofs.Common.{◌≡◌, ℕ, ◌+◌, ◌<◌, ◌≤◌, Bool, true, false, cond, List, [], ◌∷◌, ◌++◌, ◌||◌, map, length, length-append, Some, refl, sym, ap, ap₂, subst, ◌∙◌, arith, append-nil, Less, nat_cmp, is_eq, is_gt}
use Rattle.std.specs.List.{AllByRecursion, list_any}
use Rattle.std.specs.Option.{is_some}
use Rattle.std.specs.Map.{lookup}
use Rattle.std.specs.BTreeMap.{is_at}
use Rattle.std.specs.Ordering.{ordering_then}
use Rattle.std.proofs.lemmas.Bool.{cond-true, cond-false}
use Rattle.std.proofs.lemmas.List.{length-map}
use Rattle.std.proofs.lemmas.List.Folds.{list_any-append}
use Rattle.std.proofs.Math.Bool.{or-false}
use Rattle.cpn_definitions.specs.Value.{PlainValue}
use Rattle.cpn_definitions.specs.Order.{value_cmp, same_value}
use Rattle.cpn_definitions.specs.Lists.{Rises, IsInOrder}
use Rattle.cpn_definitions.specs.Marking.{PlainToken, Tokens, token_at, stamps, MayPrecede, AreSorted}
use Rattle.cpn_definitions.specs.ValueOrder.{value_itself, same_value_true}
use Rattle.cpn_core.specs.declared.values.Value.{Value}
use Rattle.cpn_core.specs.Views.{value_view}
use Rattle.cpn_tmset.specs.TMSets.{Entries, tokens_in, stamps_in, AreKept}
use Rattle.cpn_tmset.specs.Views.{entries_view}
use Rattle.cpn_definitions.proofs.KeyedEntries.{seen_lookup}

pub rest_kept : (e : PlainValue × List ℕ) (es : Entries) → AreKept (e ∷ es) → AreKept es
rest_kept e es kept = record { rise = kept.rise.1; sorted = kept.sorted.1; some = kept.some.1 }

-- ---- tokens of one value

pub stamps_append : (v : PlainValue) (ks ls : Tokens) → stamps v (ks ++ ls) ≡ stamps v ks ++ stamps v ls
stamps_append v [] ls = refl
stamps_append v (k ∷ ks) ls = split (same_value v k.value) (stamps_append v ks ls)
  where
    split : (b : Bool) → stamps v (ks ++ ls) ≡ stamps v ks ++ stamps v ls → cond b (k.stamp ∷ stamps v (ks ++ ls)) (stamps v (ks ++ ls)) ≡ cond b (k.stamp ∷ stamps v ks) (stamps v ks) ++ stamps v ls
    split true rest = ap (λ ss. k.stamp ∷ ss) rest
    split false rest = rest

stamps_alike : (v w : PlainValue) (ss : List ℕ) → same_value v w ≡ true → stamps v (map (token_at w) ss) ≡ ss
stamps_alike v w [] h = refl
stamps_alike v w (s ∷ ss) h = cond-true (same_value v w) (s ∷ stamps v (map (token_at w) ss)) (stamps v (map (token_at w) ss)) h ∙ ap (λ rs. s ∷ rs) (stamps_alike v w ss h)

stamps_apart : (v w : PlainValue) (ss : List ℕ) → same_value v w ≡ false → stamps v (map (token_at w) ss) ≡ []
stamps_apart v w [] h = refl
stamps_apart v w (s ∷ ss) h = cond-false (same_value v w) (s ∷ stamps v (map (token_at w) ss)) (stamps v (map (token_at w) ss)) h ∙ stamps_apart v w ss h

-- ---- among the entries

none_behind : (v : PlainValue) (e : PlainValue × List ℕ) (es : Entries) → same_value v e.0 ≡ true → AllByRecursion (λ (d : PlainValue × List ℕ). value_cmp e.0 d.0 ≡ Less) es → stamps v (tokens_in es) ≡ []
none_behind v e [] same all = refl
none_behind v e (d ∷ ds) same all =
    let other : same_value v d.0 ≡ false = ap is_eq (subst (λ u. value_cmp u d.0 ≡ Less) (sym (same_value_true v e.0 same)) all.0) in
    stamps_append v (map (token_at d.0) d.1) (tokens_in ds) ∙ ap₂ (λ xs ys. xs ++ ys) (stamps_apart v d.0 d.1 other) (none_behind v e ds same all.1)

-- the stamps of a value among the tokens are those of its entry
pub stamps_kept : (v : PlainValue) (es : Entries) → Rises (λ (d : PlainValue × List ℕ) (e : PlainValue × List ℕ). value_cmp d.0 e.0) es → stamps v (tokens_in es) ≡ stamps_in v es
stamps_kept v [] rise = refl
stamps_kept v (e ∷ es) rise = stamps_append v (map (token_at e.0) e.1) (tokens_in es) ∙ split (same_value v e.0) refl (stamps_kept v es rise.1)
  where
    split : (b : Bool) → same_value v e.0 ≡ b → stamps v (tokens_in es) ≡ stamps_in v es → stamps v (map (token_at e.0) e.1) ++ stamps v (tokens_in es) ≡ cond b e.1 (stamps_in v es)
    split true h rest = ap₂ (λ xs ys. xs ++ ys) (stamps_alike v e.0 e.1 h) (none_behind v e es h rise.0) ∙ append-nil e.1
    split false h rest = ap₂ (λ xs ys. xs ++ ys) (stamps_apart v e.0 e.1 h) rest

-- a value before all of the entries may stand before their tokens
before_tokens : (w : PlainValue) (s : ℕ) (es : Entries) → AllByRecursion (λ (d : PlainValue × List ℕ). value_cmp w d.0 ≡ Less) es → MayPrecede (token_at w s) (tokens_in es)
before_tokens w s [] all = tt
before_tokens w s (e ∷ es) all = by_stamps e.1 (before_tokens w s es all.1)
  where
    by_stamps : (rs : List ℕ) → MayPrecede (token_at w s) (tokens_in es) → MayPrecede (token_at w s) (map (token_at e.0) rs ++ tokens_in es)
    by_stamps [] rest = rest
    by_stamps (r ∷ rs) rest = ap (λ o. is_gt (ordering_then o (nat_cmp s r))) all.0

sorted_value : (w : PlainValue) (ss : List ℕ) (ks : Tokens) → IsInOrder nat_cmp ss → AreSorted ks → ((s : ℕ) → MayPrecede (token_at w s) ks) → AreSorted (map (token_at w) ss ++ ks)
sorted_value w [] ks ordered sorted before = sorted
sorted_value w (s ∷ []) ks ordered sorted before = (before s, sorted)
sorted_value w (s ∷ r ∷ rs) ks ordered sorted before = (ap (λ o. is_gt (ordering_then o (nat_cmp s r))) (value_itself w) ∙ ordered.0.0, sorted_value w (r ∷ rs) ks ordered.1 sorted before)

-- the tokens are sorted
pub tokens_sorted : (es : Entries) → AreKept es → AreSorted (tokens_in es)
tokens_sorted [] kept = tt
tokens_sorted (e ∷ es) kept = sorted_value e.0 e.1 (tokens_in es) kept.sorted.0 (tokens_sorted es (rest_kept e es kept)) (λ s. before_tokens e.0 s es kept.rise.0)

-- a value has no more stamps than there are tokens
pub few_stamps : (v : PlainValue) (es : Entries) → length (stamps_in v es) ≤ length (tokens_in es)
few_stamps v [] = omega arith
few_stamps v (e ∷ es) =
    let long = length-append (map (token_at e.0) e.1) (tokens_in es) in
    let here : length (map (token_at e.0) e.1) ≡ length e.1 = length-map e.1 (token_at e.0) in
    split (same_value v e.0) long here (few_stamps v es)
  where
    split
        : (b : Bool) → length (map (token_at e.0) e.1 ++ tokens_in es) ≡ length (map (token_at e.0) e.1) + length (tokens_in es) → length (map (token_at e.0) e.1) ≡ length e.1
        → length (stamps_in v es) ≤ length (tokens_in es) → length (cond b e.1 (stamps_in v es)) ≤ length (map (token_at e.0) e.1 ++ tokens_in es)
    split true long here rest = omega arith
    split false long here rest = omega arith

-- ---- values that stand on the place

held_append : (v : PlainValue) (ks ls : Tokens) → list_any (λ (k : PlainToken). same_value v k.value) (ks ++ ls) ≡ (list_any (λ (k : PlainToken). same_value v k.value) ks || list_any (λ (k : PlainToken). same_value v k.value) ls)
held_append v ks ls = list_any-append (λ (k : PlainToken). same_value v k.value) ks ls

held_value : (v w : PlainValue) (ss : List ℕ) → 0 < length ss → list_any (λ (k : PlainToken). same_value v k.value) (map (token_at w) ss) ≡ same_value v w
held_value v w [] some = absurd (omega arith)
held_value v w (s ∷ []) some = or-false (same_value v w)
held_value v w (s ∷ r ∷ rs) some = ap (λ b. same_value v w || b) (held_value v w (r ∷ rs) (omega arith)) ∙ twice (same_value v w)
  where
    twice : (b : Bool) → (b || b) ≡ b
    twice true = refl
    twice false = refl

held_in : (v : PlainValue) (es : Entries) → AllByRecursion (λ (e : PlainValue × List ℕ). 0 < length e.1) es → is_some (lookup (is_at (value_cmp v)) es) ≡ list_any (λ (k : PlainToken). same_value v k.value) (tokens_in es)
held_in v [] some = refl
held_in v (e ∷ es) some =
    split (same_value v e.0) (held_in v es some.1)
    ∙ ap (λ b. b || list_any (λ (k : PlainToken). same_value v k.value) (tokens_in es)) (sym (held_value v e.0 e.1 some.0))
    ∙ sym (held_append v (map (token_at e.0) e.1) (tokens_in es))
  where
    split : (b : Bool) → is_some (lookup (is_at (value_cmp v)) es) ≡ list_any (λ (k : PlainToken). same_value v k.value) (tokens_in es) → is_some (cond b (Some e.1) (lookup (is_at (value_cmp v)) es)) ≡ (b || list_any (λ (k : PlainToken). same_value v k.value) (tokens_in es))
    split true rest = refl
    split false rest = rest

-- a value has an entry where a token has it
pub held_where_kept : (v : PlainValue) (es : List (Value × List ℕ)) → AllByRecursion (λ (e : PlainValue × List ℕ). 0 < length e.1) (entries_view es)
    → is_some (lookup (is_at (λ k. value_cmp v (value_view k))) es) ≡ list_any (λ (k : PlainToken). same_value v k.value) (tokens_in (entries_view es))
held_where_kept v es some = ap is_some (seen_lookup value_view value_cmp v es) ∙ held_in v (entries_view es) some

-- what is seen of entries as a place keeps them is sorted
pub seen_sorted : (es : List (Value × List ℕ)) (ks : Tokens) → AreKept (entries_view es) → tokens_in (entries_view es) ≡ ks → AreSorted ks
seen_sorted es ks kept seen = subst AreSorted seen (tokens_sorted (entries_view es) kept)
