-- Tokens are known by their groups, and lists of groups by the groups at each position.
use Rattle.std.proofs.Common.{◌≡◌, ℕ, ◌+◌, ◌<◌, Bool, true, false, cond, ◌==◌, List, [], ◌∷◌, ◌++◌, length, get_or, map, replicate, refl, sym, ap, ap₂, ◌∙◌, add-one, eq-eqb, ◌↔◌, IsTrue}
use Rattle.std.proofs.lemmas.Bool.{eqb-true}
use Rattle.std.proofs.lemmas.List.{get_or-map}
use Rattle.cpn_definitions.specs.Marking.{PlainToken, Tokens}
use Rattle.cpn_tmset.specs.Listed.{Group, same_token, grouped_with, groups}
use Rattle.cpn_tmset.proofs.CountedTokens.{equal_tokens, same_itself}

-- ---- two groups

module _ (g h : Group) where
  -- where their tokens are the same, their counts decide
  pub counts_decide : same_token g.token h.token ≡ true → IsTrue (g.count == h.count) ↔ (g ≡ h)
  counts_decide same = (
    λ e. ap₂ (λ t k. record { token = t; count = k }) (equal_tokens g.token h.token same) (eqb-true g.count h.count e),
    λ e. eq-eqb g.count h.count (ap (λ (x : Group). x.count) e),
  )

  -- where their tokens differ, so do they
  pub tokens_differ : (b : Bool) → same_token g.token h.token ≡ false → b ≡ false → IsTrue b ↔ (g ≡ h)
  tokens_differ b apart is = (
    λ e. absurd (no_both b e is),
    λ e. absurd (no_both (same_token g.token g.token) (same_itself g.token) (ap (λ (x : Group). same_token g.token x.token) e ∙ apart)),
  )
    where
      no_both : (a : Bool) → a ≡ true → a ≡ false → ⊥
      no_both a e f = cc

-- ---- the tokens of groups

-- the tokens of groups
abbrev tokens_of_groups : List Group → Tokens
tokens_of_groups [] = []
tokens_of_groups (g ∷ gs) = replicate g.count g.token ++ tokens_of_groups gs

one_in_front : (t : PlainToken) (gs : List Group) → tokens_of_groups (grouped_with t gs) ≡ t ∷ tokens_of_groups gs
one_in_front t [] = refl
one_in_front t (g ∷ gs) = by (same_token t g.token) refl
  where
    by : (b : Bool) → same_token t g.token ≡ b → tokens_of_groups (cond b (record { token = g.token; count = g.count + 1 } ∷ gs) (record { token = t; count = 1 } ∷ g ∷ gs)) ≡ t ∷ tokens_of_groups (g ∷ gs)
    by true e = rw (add-one g.count) (ap (λ u. u ∷ tokens_of_groups (g ∷ gs)) (sym (equal_tokens t g.token e)))
    by false e = refl

all_tokens : (ts : Tokens) → tokens_of_groups (groups ts) ≡ ts
all_tokens [] = refl
all_tokens (t ∷ ts) = one_in_front t (groups ts) ∙ ap (λ us. t ∷ us) (all_tokens ts)

-- tokens with equal groups are equal
pub same_tokens : (ts us : Tokens) → groups ts ≡ groups us → ts ≡ us
same_tokens ts us e = sym (all_tokens ts) ∙ ap tokens_of_groups e ∙ all_tokens us

-- ---- position by position

module _ {V A : Type 0} (seen : V → A) (vs ws : List V) (i : ℕ) (v w : V) (in_vs : i < length vs) (in_ws : i < length ws) (at : v ≡ get_or vs i v) (at_other : w ≡ get_or ws i w) where
  -- equal lists have equal items there
  pub same_there : map seen vs ≡ map seen ws → seen v ≡ seen w
  same_there h = ap seen at ∙ sym (get_or-map seen vs i v (seen v) in_vs) ∙ ap (λ xs. get_or xs i (seen v)) h ∙ get_or-map seen ws i w (seen v) in_ws ∙ ap seen (sym at_other)
