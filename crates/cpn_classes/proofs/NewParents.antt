-- Items that get other parents: what their links then join.
use Rattle.std.proofs.Common.{◌≡◌, ℕ, ◌<◌, ◌≤◌, List, ◌∷◌, length, get_or, set, min, max, refl, ap, subst, ◌∙◌, inl, inr, arith}
use Rattle.std.proofs.lemmas.Bool.{cases_eq, cases_lt}
use Rattle.std.proofs.lemmas.List.{get_or-set_same, get_or-set_other, get_or_read, length-set}
use Rattle.cpn_classes.specs.Joined.{IsJoined, itself, turned, through}
use Rattle.cpn_classes.specs.Trees.{AreTrees, links, JoinTheSame}
use Rattle.cpn_classes.specs.JoinedPairs.{joined_more, first_joined, joined_first_and_rest, same_through, same_itself}
use Rattle.cpn_classes.proofs.Links.{to_parent, links_within}

-- ---- one item gets another parent
module _ (parents : List ℕ) (item parent : ℕ) (lt : item < length parents) where
  abbrev pub with_parent : List ℕ
  with_parent = set parents item parent

  parent_same : get_or with_parent item 0 ≡ parent
  parent_same = get_or-set_same parents item parent 0 lt

  pub parent_other : (i : ℕ) → (i ≡ item → ⊥) → get_or with_parent i 0 ≡ get_or parents i 0
  parent_other i ne = get_or-set_other parents item i parent 0 ne

  pub to_new_parent : IsJoined (links with_parent) item parent
  to_new_parent = subst (λ p. IsJoined (links with_parent) item p) parent_same (to_parent with_parent item (rw (length-set parents item parent) lt))

  -- what the links joined, they still join, where they join the item to its parent before
  pub still_joined : IsJoined (links with_parent) item (get_or parents item 0) → (a b : ℕ) → IsJoined (links parents) a b → IsJoined (links with_parent) a b
  still_joined at_item = links_within parents (links with_parent) each
    where
      each : (i : ℕ) → i < length parents → IsJoined (links with_parent) i (get_or parents i 0)
      each i i_in =
          elim (cases_eq i item) [
            | inl e ↦ rw e at_item
            | inr ne ↦ subst (λ p. IsJoined (links with_parent) i p) (parent_other i ne) (to_parent with_parent i (rw (length-set parents item parent) i_in))
          ]

  -- what they join now, some pairs join that join what they joined before, and the item to its new parent
  pub now_joined : (pairs : List (ℕ × ℕ)) → ((a b : ℕ) → IsJoined (links parents) a b → IsJoined pairs a b) → IsJoined pairs item parent → (a b : ℕ) → IsJoined (links with_parent) a b → IsJoined pairs a b
  now_joined pairs before at_item = links_within with_parent pairs each
    where
      each : (i : ℕ) → i < length with_parent → IsJoined pairs i (get_or with_parent i 0)
      each i i_in =
          elim (cases_eq i item) [
            | inl e ↦ rw (e, parent_same) at_item
            | inr ne ↦ rw (parent_other i ne) (before i (get_or parents i 0) (to_parent parents i (rw (length-set parents item parent) at i_in)))
          ]

  pub trees_with : AreTrees parents → parent ≤ item → AreTrees with_parent
  trees_with trees le i i_in =
      elim (cases_eq i item) [
        | inl e ↦ rw (e, parent_same) le
        | inr ne ↦ rw (parent_other i ne) (trees i (rw (length-set parents item parent) at i_in))
      ]

-- ---- the way to a root

-- On the way from an item to its root: the trees as they were, and as they are where an item is reached.
pub record IsReached (old parents : List ℕ) (item at : ℕ) : Type 0 where
  pub trees : AreTrees parents
  pub as_many : length parents ≡ length old
  pub before : at ≤ item
  pub joined : IsJoined (links parents) item at
  pub same : JoinTheSame (links old) (links parents)
  pub roots : (r : ℕ) → get_or old r 0 ≡ r → get_or parents r 0 ≡ r

pub item_reached : (parents : List ℕ) (item : ℕ) → AreTrees parents → IsReached parents parents item item
item_reached parents item trees = record {
  trees = trees;
  as_many = refl;
  before = omega arith;
  joined = itself item;
  same = same_itself (links parents);
  roots = λ r h. h;
}

-- an item gets its parent's parent, which is reached next
module _ (old parents : List ℕ) (item at : ℕ) (is : IsReached old parents item at) (item_in : item < length old) (other : get_or parents at 0 ≡ at → ⊥) where
  abbrev parent : ℕ
  parent = get_or parents at 0

  abbrev next : ℕ
  next = get_or parents parent 0

  abbrev lifted : List ℕ
  lifted = set parents at next

  at_in : at < length parents
  at_in = rw is.as_many (omega (arith, is.before))

  parent_before : parent < at
  parent_before = omega (arith, is.trees at at_in, other)

  parent_in : parent < length parents
  parent_in = omega (arith, parent_before, at_in)

  next_before : next < at
  next_before = omega (arith, is.trees parent parent_in, parent_before)

  to_next : IsJoined (links lifted) at next
  to_next = to_new_parent parents at next at_in

  parent_to_next : IsJoined (links lifted) parent next
  parent_to_next =
      let apart : parent ≡ at → ⊥ = omega (arith, parent_before) in
      subst (λ p. IsJoined (links lifted) parent p) (parent_other parents at next at_in parent apart) (to_parent lifted parent (rw (length-set parents at next) parent_in))

  lifted_same : JoinTheSame (links parents) (links lifted)
  lifted_same a b = (
    still_joined parents at next at_in (through at next parent to_next (turned parent next parent_to_next)) a b,
    now_joined parents at next at_in (links parents) (λ c d j. j) (through at parent next (to_parent parents at at_in) (to_parent parents parent parent_in)) a b,
  )

  lifted_roots : (r : ℕ) → get_or parents r 0 ≡ r → get_or lifted r 0 ≡ r
  lifted_roots r root =
      elim (cases_eq r at) [
        | inl e ↦ absurd (other (subst (λ i. get_or parents i 0 ≡ i) e root))
        | inr apart ↦ parent_other parents at next at_in r apart ∙ root
      ]

  pub next_reached : IsReached old lifted item next
  next_reached = record {
    trees = trees_with parents at next at_in is.trees (omega (arith, next_before));
    as_many = length-set parents at next ∙ is.as_many;
    before = omega (arith, next_before, is.before);
    joined = through item at next ((lifted_same item at).0 is.joined) to_next;
    same = same_through (links old) (links parents) (links lifted) is.same lifted_same;
    roots = λ r root. lifted_roots r (is.roots r root);
  }

-- the same of what is read: what the item's parent was found to be, the parent, and the parent's
pub read_reached : (old parents : List ℕ) (item at : ℕ) (is : IsReached old parents item at) (item_in : item < length old) (found parent next : ℕ) → found ≡ get_or parents at found → (found ≡ at → ⊥) → parent ≡ get_or parents at parent → next ≡ get_or parents parent next → IsReached old (set parents at next) item next
read_reached old parents item at is item_in found parent next found_is other parent_is next_is =
    let at_in : at < length parents = rw is.as_many (omega (arith, is.before)) in
    let found_at : found ≡ get_or parents at 0 = get_or_read parents at found at_in found_is 0 in
    let parent_at : parent ≡ get_or parents at 0 = get_or_read parents at parent at_in parent_is 0 in
    let parent_in : parent < length parents = omega (arith, is.trees at at_in, parent_at, at_in) in
    let next_at : next ≡ get_or parents (get_or parents at 0) 0 = get_or_read parents parent next parent_in next_is 0 ∙ ap (λ p. get_or parents p 0) parent_at in
    rw next_at (next_reached old parents item at is item_in (λ e. other (found_at ∙ e)))

-- ---- one root gets another one as its parent

module _ (old parents : List ℕ) (one other : ℕ) (same : JoinTheSame (links old) (links parents)) where
  -- the pair, before the links as they were
  abbrev pairs : List (ℕ × ℕ)
  pairs = (one, other) ∷ links old

  in_pairs : (a b : ℕ) → IsJoined (links parents) a b → IsJoined pairs a b
  in_pairs a b j = joined_more (links old) (one, other) a b ((same a b).1 j)

  module _ (root parent : ℕ) (root_in : root < length parents) (is_root : get_or parents root 0 ≡ root) where
    abbrev under : List ℕ
    under = set parents root parent

    still_under : (a b : ℕ) → IsJoined (links parents) a b → IsJoined (links under) a b
    still_under = still_joined parents root parent root_in (rw is_root (itself root))

    under_joins : IsJoined pairs root parent → IsJoined (links under) one other → JoinTheSame (links under) pairs
    under_joins by_pairs by_links a b = (
      now_joined parents root parent root_in pairs in_pairs by_pairs a b,
      joined_first_and_rest (links old) (links under) one other by_links (λ c d j. still_under c d ((same c d).0 j)) a b,
    )

  module _ (first second : ℕ) (first_in : first < length parents) (second_in : second < length parents) (first_root : get_or parents first 0 ≡ first) (second_root : get_or parents second 0 ≡ second) (to_first : IsJoined (links parents) one first) (to_second : IsJoined (links parents) other second) where
    roots_by_pairs : IsJoined pairs first second
    roots_by_pairs = through first one second (turned one first (in_pairs one first to_first)) (through one other second (first_joined (links old) one other) (in_pairs other second to_second))

    pub roots_joined : JoinTheSame (links (set parents (max first second) (min first second))) pairs
    roots_joined =
        elim (cases_lt first second) [
          | inl less ↦
              let high : max first second ≡ second = omega arith in
              let low : min first second ≡ first = omega arith in
              let still = still_under second first second_in second_root in
              rw (high, low) (under_joins second first second_in second_root (turned first second roots_by_pairs)
              (through one first other (still one first to_first) (through first second other (turned second first (to_new_parent parents second first second_in)) (turned other second (still other second to_second)))))
          | inr no_less ↦
              let high : max first second ≡ first = omega arith in
              let low : min first second ≡ second = omega arith in
              let still = still_under first second first_in first_root in
              rw (high, low) (under_joins first second first_in first_root roots_by_pairs
              (through one first other (still one first to_first) (through first second other (to_new_parent parents first second first_in) (turned other second (still other second to_second)))))
        ]
