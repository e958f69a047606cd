-- Tokens that are added to tokens in order: those of a term one after another, and those of terms term by term.
use Rattle.std.proofs.Common.{◌≡◌, ℕ, suc, ◌+◌, ◌-◌, ◌<◌, ◌≤◌, List, [], ◌∷◌, ◌++◌, replicate, refl, sym, ap, ◌∙◌, arith, Ordering}
use Rattle.cpn_definitions.specs.Lists.{with_item, with_items}
use Rattle.cpn_definitions.specs.Terms.{PlainTerm}
use Rattle.cpn_definitions.specs.Occurrence.{Made, made_cmp}
use Rattle.cpn_jobs.specs.Work.{PlainWorkArc, made_token}
use Rattle.cpn_jobs.specs.Gathered.{made_of_terms}

pub with_items_append : {X : Type 0} (c : X → X → Ordering) (xs ys zs : List X) → with_items c (xs ++ ys) zs ≡ with_items c ys (with_items c xs zs)
with_items_append c [] ys zs = refl
with_items_append c (x ∷ xs) ys zs = with_items_append c xs ys (with_item c x zs)

-- one token of several that are the same is added, and the others are left
pub one_added : (made : Made) (count at : ℕ) (xs new : List Made) → 1 ≤ at → at < count → new ≡ with_item made_cmp made xs → with_items made_cmp (replicate (count - (at + 1 - 1)) made) new ≡ with_items made_cmp (replicate (count - (at - 1)) made) xs
one_added made count at xs new low lt is =
    let turn : count - (at + 1 - 1) ≡ count - at = omega arith in
    let left : count - (at - 1) ≡ suc (count - at) = omega arith in
    ap (λ n. with_items made_cmp (replicate n made) new) turn ∙ ap (with_items made_cmp (replicate (count - at) made)) is ∙ sym (ap (λ n. with_items made_cmp (replicate n made) xs) left)

-- the tokens of the first term are added before those of the others
pub term_added : (arc : PlainWorkArc) (time : ℕ) (term : PlainTerm) (terms : List PlainTerm) (xs : List Made)
    → with_items made_cmp (made_of_terms arc time (term ∷ terms)) xs ≡ with_items made_cmp (made_of_terms arc time terms) (with_items made_cmp (replicate term.count (made_token arc time term)) xs)
term_added arc time term terms xs = with_items_append made_cmp (replicate term.count (made_token arc time term)) (made_of_terms arc time terms) xs
