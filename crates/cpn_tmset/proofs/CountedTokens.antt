-- Equal tokens that stand together make a group, and each value is listed once.
use Rattle.std.proofs.Common.{◌≡◌, ℕ, zero, suc, ◌+◌, ◌<◌, Bool, true, false, not, cond, ◌&&◌, ◌==◌, List, [], ◌∷◌, ◌++◌, map, length, replicate, refl, sym, ap, ap₂, ◌∙◌, arith, eq-eqb, Less, nat_cmp, is_eq}
use Rattle.std.specs.List.{AllByRecursion}
use Rattle.std.proofs.lemmas.Bool.{cond-true, cond-false, and_parts, and_from, eqb-true}
use Rattle.std.proofs.lemmas.Bool.Decides.{nat_tests}
use Rattle.std.proofs.Math.Bool.{and-false}
use Rattle.cpn_definitions.specs.Value.{PlainValue}
use Rattle.cpn_definitions.specs.Order.{value_cmp, same_value}
use Rattle.cpn_definitions.specs.Marking.{PlainToken, Tokens, token_at}
use Rattle.cpn_definitions.specs.ValueOrder.{same_value_true, same_value_refl}
use Rattle.cpn_definitions.proofs.NumberTests.{less_number}
use Rattle.cpn_tmset.specs.Listed.{Group, same_token, grouped_with, groups, is_last_of, values_of}
use Rattle.cpn_tmset.specs.StampCounts.{repeated, IsCounted}
use Rattle.cpn_tmset.specs.TMSets.{Entries, tokens_in, AreKept}

-- the first of the tokens, if there is one, is another
abbrev pub BeginsApart : PlainToken → Tokens → Type 0
BeginsApart t [] = Unit {0}
BeginsApart t (k ∷ ks) = same_token t k ≡ false

pub equal_tokens : (t u : PlainToken) → same_token t u ≡ true → t ≡ u
equal_tokens t u e =
    let parts = and_parts (same_value t.value u.value) (t.stamp == u.stamp) e in
    ap₂ (λ v s. record { value = v; stamp = s }) (same_value_true t.value u.value parts.0) (eqb-true t.stamp u.stamp parts.1)

pub same_itself : (t : PlainToken) → same_token t t ≡ true
same_itself t = and_from (same_value t.value t.value) (t.stamp == t.stamp) (same_value_refl t.value) (eq-eqb t.stamp t.stamp refl)

-- the groups of tokens begin with that of the first token
groups_begin : (k : PlainToken) (ks : Tokens) → (n : ℕ) × (gs : List Group) × (groups (k ∷ ks) ≡ record { token = k; count = n } ∷ gs)
groups_begin k ks = begun (groups ks)
  where
    begun : (gs : List Group) → (n : ℕ) × (hs : List Group) × (grouped_with k gs ≡ record { token = k; count = n } ∷ hs)
    begun [] = (1, [], refl)
    begun (g ∷ gs) = split (same_token k g.token) refl
      where
        split : (b : Bool) → same_token k g.token ≡ b → (n : ℕ) × (hs : List Group) × (cond b (record { token = g.token; count = g.count + 1 } ∷ gs) (record { token = k; count = 1 } ∷ g ∷ gs) ≡ record { token = k; count = n } ∷ hs)
        split true h = (g.count + 1, gs, ap (λ t. record { token = t; count = g.count + 1 } ∷ gs) (sym (equal_tokens k g.token h)))
        split false h = (1, g ∷ gs, refl)

-- a token that differs from the first begins a group of its own
alone : (t : PlainToken) (ks : Tokens) → BeginsApart t ks → grouped_with t (groups ks) ≡ record { token = t; count = 1 } ∷ groups ks
alone t [] apart = refl
alone t (k ∷ ks) apart =
    let begun = groups_begin k ks in
    ap (grouped_with t) begun.2
    ∙ cond-false (same_token t k) (record { token = k; count = begun.0 + 1 } ∷ begun.1) (record { token = t; count = 1 } ∷ record { token = k; count = begun.0 } ∷ begun.1) apart
    ∙ ap (λ gs. record { token = t; count = 1 } ∷ gs) (sym begun.2)

-- so many equal tokens make one group
pub run_of : (t : PlainToken) (n : ℕ) (ks : Tokens) → BeginsApart t ks → groups (replicate (suc n) t ++ ks) ≡ record { token = t; count = suc n } ∷ groups ks
run_of t zero ks apart = alone t ks apart
run_of t (suc n) ks apart =
    let more : suc n + 1 ≡ suc (suc n) = omega arith in
    ap (grouped_with t) (run_of t n ks apart)
    ∙ cond-true (same_token t t) (record { token = t; count = suc n + 1 } ∷ groups ks) (record { token = t; count = 1 } ∷ record { token = t; count = suc n } ∷ groups ks) (same_itself t)
    ∙ ap (λ (k : ℕ). record { token = t; count = k } ∷ groups ks) more

-- tokens that differ from those behind them have groups of their own
pub groups_apart : (ts ks : Tokens) → AllByRecursion (λ (t : PlainToken). BeginsApart t ks) ts → groups (ts ++ ks) ≡ groups ts ++ groups ks
groups_apart [] ks apart = refl
groups_apart (t ∷ []) ks apart = alone t ks apart.0
groups_apart (t ∷ u ∷ us) ks apart =
    let begun = groups_begin u us in
    ap (grouped_with t) (groups_apart (u ∷ us) ks apart.1 ∙ ap (λ gs. gs ++ groups ks) begun.2)
    ∙ pushed (same_token t u) begun.0 begun.1
    ∙ ap (λ gs. grouped_with t gs ++ groups ks) (sym begun.2)
  where
    pushed
        : (b : Bool) (n : ℕ) (gs : List Group)
        → cond b (record { token = u; count = n + 1 } ∷ (gs ++ groups ks)) (record { token = t; count = 1 } ∷ record { token = u; count = n } ∷ (gs ++ groups ks))
        ≡ cond b (record { token = u; count = n + 1 } ∷ gs) (record { token = t; count = 1 } ∷ record { token = u; count = n } ∷ gs) ++ groups ks
    pushed true n gs = refl
    pushed false n gs = refl

-- ---- the stamps of one value

map_replicate : (v : PlainValue) (s n : ℕ) (zs : List ℕ) → map (token_at v) (replicate n s ++ zs) ≡ replicate n (token_at v s) ++ map (token_at v) zs
map_replicate v s zero zs = refl
map_replicate v s (suc n) zs = ap (λ ks. token_at v s ∷ ks) (map_replicate v s n zs)

later_stamps : (v : PlainValue) (s : ℕ) (es : List (ℕ × ℕ)) → AllByRecursion (λ (e : ℕ × ℕ). nat_cmp s e.0 ≡ Less) es → BeginsApart (token_at v s) (map (token_at v) (repeated es))
later_stamps v s [] all = tt
later_stamps v s (e ∷ es) all = by_count e.1 (later_stamps v s es all.1)
  where
    other : (s == e.0) ≡ false
    other = let lt = less_number s e.0 all.0 in grind (arith, nat_tests, lt)

    by_count : (n : ℕ) → BeginsApart (token_at v s) (map (token_at v) (repeated es)) → BeginsApart (token_at v s) (map (token_at v) (replicate n e.0 ++ repeated es))
    by_count zero rest = rest
    by_count (suc n) rest = ap (λ b. same_value v v && b) other ∙ and-false (same_value v v)

-- each stamp with its number of tokens makes a group
pub counted_group : (v : PlainValue) (e : ℕ × ℕ) (es : List (ℕ × ℕ)) → IsCounted (e ∷ es) → groups (map (token_at v) (repeated (e ∷ es))) ≡ record { token = token_at v e.0; count = e.1 } ∷ groups (map (token_at v) (repeated es))
counted_group v e es is = ap groups (map_replicate v e.0 e.1 (repeated es)) ∙ by_count e.1 is.1.0
  where
    by_count : (n : ℕ) → 0 < n → groups (replicate n (token_at v e.0) ++ map (token_at v) (repeated es)) ≡ record { token = token_at v e.0; count = n } ∷ groups (map (token_at v) (repeated es))
    by_count zero some = absurd (omega arith)
    by_count (suc n) some = run_of (token_at v e.0) n (map (token_at v) (repeated es)) (later_stamps v e.0 es is.0.0)

-- ---- one value after another

module _ (w : PlainValue) where
  later_values : (s : ℕ) (es : Entries) → AllByRecursion (λ (d : PlainValue × List ℕ). value_cmp w d.0 ≡ Less) es → BeginsApart (token_at w s) (tokens_in es)
  later_values s [] all = tt
  later_values s (e ∷ es) all = by_stamps e.1 (later_values s es all.1)
    where
      by_stamps : (rs : List ℕ) → BeginsApart (token_at w s) (tokens_in es) → BeginsApart (token_at w s) (map (token_at e.0) rs ++ tokens_in es)
      by_stamps [] rest = rest
      by_stamps (r ∷ rs) rest = ap (λ o. is_eq o && (s == r)) all.0

  each_later : (ss : List ℕ) (es : Entries) → AllByRecursion (λ (d : PlainValue × List ℕ). value_cmp w d.0 ≡ Less) es → AllByRecursion (λ (t : PlainToken). BeginsApart t (tokens_in es)) (map (token_at w) ss)
  each_later [] es all = tt
  each_later (s ∷ ss) es all = (later_values s es all, each_later ss es all)

  last_here : (s : ℕ) (es : Entries) → AllByRecursion (λ (d : PlainValue × List ℕ). value_cmp w d.0 ≡ Less) es → is_last_of (token_at w s) (tokens_in es) ≡ true
  last_here s [] all = refl
  last_here s (e ∷ es) all = by_stamps e.1 (last_here s es all.1)
    where
      by_stamps : (rs : List ℕ) → is_last_of (token_at w s) (tokens_in es) ≡ true → is_last_of (token_at w s) (map (token_at e.0) rs ++ tokens_in es) ≡ true
      by_stamps [] rest = rest
      by_stamps (r ∷ rs) rest = ap (λ o. not (is_eq o)) all.0

  listed_once : (ss : List ℕ) (es : Entries) → 0 < length ss → AllByRecursion (λ (d : PlainValue × List ℕ). value_cmp w d.0 ≡ Less) es → values_of (map (token_at w) ss ++ tokens_in es) ≡ w ∷ values_of (tokens_in es)
  listed_once [] es some all = absurd (omega arith)
  listed_once (s ∷ []) es some all = cond-true (is_last_of (token_at w s) (tokens_in es)) (w ∷ values_of (tokens_in es)) (values_of (tokens_in es)) (last_here s es all)
  listed_once (s ∷ r ∷ rs) es some all =
      cond-false (not (same_value w w)) (w ∷ values_of (map (token_at w) (r ∷ rs) ++ tokens_in es)) (values_of (map (token_at w) (r ∷ rs) ++ tokens_in es)) (ap not (same_value_refl w)) ∙ listed_once (r ∷ rs) es (omega arith) all

pub groups_of_value : (e : PlainValue × List ℕ) (es : Entries) → AreKept (e ∷ es) → groups (tokens_in (e ∷ es)) ≡ groups (map (token_at e.0) e.1) ++ groups (tokens_in es)
groups_of_value e es kept = groups_apart (map (token_at e.0) e.1) (tokens_in es) (each_later e.0 e.1 es kept.rise.0)

pub values_kept : (es : Entries) → AreKept es → values_of (tokens_in es) ≡ map (λ (e : PlainValue × List ℕ). e.0) es
values_kept [] kept = refl
values_kept (e ∷ es) kept = listed_once e.0 e.1 es kept.some.0 kept.rise.0 ∙ ap (λ vs. e.0 ∷ vs) (values_kept es (record { rise = kept.rise.1; sorted = kept.sorted.1; some = kept.some.1 }))
