-- What each token of a place passes, the token of each group of its equal tokens passes.
use Rattle.std.proofs.Common.{◌≡◌, ◌+◌, Bool, true, false, ◌&&◌, if◌then◌else◌, List, [], ◌∷◌, refl}
use Rattle.std.proofs.lemmas.Bool.{and_parts, and_from}
use Rattle.std.specs.List.{list_all}
use Rattle.cpn_definitions.specs.Marking.{PlainToken, Tokens}
use Rattle.cpn_tmset.specs.Listed.{Group, same_token, grouped_with, groups}

one_more : (test : PlainToken → Bool) (t : PlainToken) (gs : List Group) → test t ≡ true → list_all (λ (g : Group). test g.token) gs ≡ true → list_all (λ (g : Group). test g.token) (grouped_with t gs) ≡ true
one_more test t [] own rest = and_from (test t) true own refl
one_more test t (g ∷ gs) own rest = split (same_token t g.token) rest
  where
    split : (b : Bool) → (test g.token && list_all (λ (h : Group). test h.token) gs) ≡ true
        → list_all (λ (h : Group). test h.token) (if b then record { token = g.token; count = g.count + 1 } ∷ gs else record { token = t; count = 1 } ∷ g ∷ gs) ≡ true
    split true all = all
    split false all = and_from (test t) (test g.token && list_all (λ (h : Group). test h.token) gs) own all

pub groups_pass : (test : PlainToken → Bool) (ks : Tokens) → list_all test ks ≡ true → list_all (λ (g : Group). test g.token) (groups ks) ≡ true
groups_pass test [] all = refl
groups_pass test (k ∷ ks) all =
    let parts = and_parts (test k) (list_all test ks) all in
    one_more test k (groups ks) parts.0 (groups_pass test ks parts.1)
