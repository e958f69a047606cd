-- Links of items with their parents: what they join, and what joins as much.
use Rattle.std.proofs.Common.{◌≡◌, ℕ, ◌<◌, ◌+◌, List, [], length, get_or, refl, sym, ap, subst, ◌∙◌, arith, zero-add}
use Rattle.std.specs.Prelude.{Contains}
use Rattle.std.specs.List.{range_with_len}
use Rattle.std.proofs.lemmas.List.{get_or_default}
use Rattle.std.proofs.lemmas.List.FromFn.{length-enumerate_from, get_or-enumerate_from, get_or-range_with_len, length-range_with_len}
use Rattle.cpn_classes.specs.Joined.{IsJoined, paired, itself}
use Rattle.cpn_classes.specs.Trees.{AreTrees, links, JoinTheSame}
use Rattle.cpn_classes.specs.JoinedPairs.{joined_by}

module _ (parents : List ℕ) where
  -- an item and its parent are linked
  link : (i : ℕ) → i < length parents → Contains (links parents) (i, get_or parents i 0)
  link i lt =
      let at : get_or (links parents) i (i, get_or parents i 0) ≡ (0 + i, get_or parents i (get_or parents i 0)) = get_or-enumerate_from 0 parents i (i, get_or parents i 0) lt in
      (i, rw (length-enumerate_from 0 parents) lt, at ∙ rw (zero-add i, get_or_default parents i (get_or parents i 0) 0 lt) refl)

  -- what is linked is an item and its parent
  pub linked : (a b : ℕ) → Contains (links parents) (a, b) → (a < length parents) × (b ≡ get_or parents a 0)
  linked a b (k, lt, e) =
      let k_in : k < length parents = rw length-enumerate_from at lt in
      let at : (0 + k, get_or parents k b) ≡ (a, b) = sym (get_or-enumerate_from 0 parents k (a, b) k_in) ∙ e in
      let same : k ≡ a = sym (zero-add k) ∙ ap (λ (p : ℕ × ℕ). p.0) at in
      let parent : get_or parents k b ≡ b = ap (λ (p : ℕ × ℕ). p.1) at in
      (subst (λ i. i < length parents) same k_in, sym parent ∙ get_or_default parents k b 0 k_in ∙ ap (λ i. get_or parents i 0) same)

  pub to_parent : (i : ℕ) → i < length parents → IsJoined (links parents) i (get_or parents i 0)
  to_parent i lt = paired i (get_or parents i 0) (link i lt)

  -- where each item is joined to its parent by some pairs, so are the items that links join
  pub links_within : (pairs : List (ℕ × ℕ)) → ((i : ℕ) → i < length parents → IsJoined pairs i (get_or parents i 0)) → (a b : ℕ) → IsJoined (links parents) a b → IsJoined pairs a b
  links_within pairs each = joined_by (links parents) pairs (λ a b h. let is = linked a b h in rw is.1 (each a is.0))

-- items that are alone join what no pairs join
pub alone_joins : (count : ℕ) → JoinTheSame (links (range_with_len 0 count)) []
alone_joins count a b = (
  links_within (range_with_len 0 count) [] (λ i lt. let item : i < count = rw length-range_with_len at lt in rw (get_or-range_with_len 0 count i 0 item, zero-add i) (itself i)) a b,
  joined_by [] (links (range_with_len 0 count)) (λ c d none. absurd (omega (arith, none.1))) a b,
)

pub alone_trees : (count : ℕ) → AreTrees (range_with_len 0 count)
alone_trees count i lt = let item : i < count = rw length-range_with_len at lt in rw (get_or-range_with_len 0 count i 0 item) (omega arith)
