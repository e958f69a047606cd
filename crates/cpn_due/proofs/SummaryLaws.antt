-- The summary of items that stand one after another.
use Rattle.std.proofs.Common.{◌≡◌, ℕ, ◌+◌, min, not, Bool, true, false, cond, List, [], ◌∷◌, ◌++◌, length, Option, Some, None, refl, ap, ◌∙◌, ◌≤◌, arith, length-append}
use Rattle.std.specs.List.{filter}
use Rattle.cpn_definitions.specs.Enabled.{or_sooner}
use Rattle.cpn_due.specs.Marked.{PlainMarked, are_due, are_not_due, least_time, sooner}
use Rattle.cpn_due.proofs.RisingSides.{filter_append}

pub count_joined : (l : List PlainMarked) (m : PlainMarked) (r : List PlainMarked) → length (l ++ m ∷ r) ≡ length l + 1 + length r
count_joined l m r = omega (arith, length-append l (m ∷ r))

lone_and_rest : (p : PlainMarked → Bool) (m : PlainMarked) (r : List PlainMarked) → filter p (m ∷ r) ≡ filter p (m ∷ []) ++ filter p r
lone_and_rest p m r = filter_append p (m ∷ []) r

pub due_joined : (l : List PlainMarked) (m : PlainMarked) (r : List PlainMarked) → length (are_due (l ++ m ∷ r)) ≡ length (are_due l) + length (are_due (m ∷ [])) + length (are_due r)
due_joined l m r =
    let whole = ap length (filter_append (λ n. n.is_due) l (m ∷ r)) in
    let rest = ap length (lone_and_rest (λ n. n.is_due) m r) in
    let first = length-append (are_due l) (are_due (m ∷ r)) in
    let second = length-append (are_due (m ∷ [])) (are_due r) in
    omega (arith, whole, rest, first, second)

-- ---- the least of times

lesser_of : (a : ℕ) (o p : Option ℕ) → Some (or_sooner a (sooner o p)) ≡ sooner (Some (or_sooner a o)) p
lesser_of a None p = refl
lesser_of a (Some b) None = refl
lesser_of a (Some b) (Some c) = let same : min a (min b c) ≡ min (min a b) c = omega arith in ap Some same

pub least_append : (xs ys : List PlainMarked) → least_time (xs ++ ys) ≡ sooner (least_time xs) (least_time ys)
least_append [] ys = refl
least_append (x ∷ xs) ys = ap (λ o. Some (or_sooner x.enabled.entry.earliest o)) (least_append xs ys) ∙ lesser_of x.enabled.entry.earliest (least_time xs) (least_time ys)

pub first_joined : (l : List PlainMarked) (m : PlainMarked) (r : List PlainMarked) → least_time (l ++ m ∷ r) ≡ sooner (least_time l) (sooner (Some m.enabled.entry.earliest) (least_time r))
first_joined l m r = least_append l (m ∷ r)

pub later_joined : (l : List PlainMarked) (m : PlainMarked) (r : List PlainMarked) → least_time (are_not_due (l ++ m ∷ r)) ≡ sooner (least_time (are_not_due l)) (sooner (least_time (are_not_due (m ∷ []))) (least_time (are_not_due r)))
later_joined l m r =
    ap least_time (filter_append (λ n. not n.is_due) l (m ∷ r)) ∙ least_append (are_not_due l) (are_not_due (m ∷ r))
    ∙ ap (sooner (least_time (are_not_due l))) (ap least_time (lone_and_rest (λ n. not n.is_due) m r) ∙ least_append (are_not_due (m ∷ [])) (are_not_due r))

-- ---- no more are due than there are

at_most : (p : PlainMarked → Bool) (xs : List PlainMarked) → length (filter p xs) ≤ length xs
at_most p [] = omega arith
at_most p (x ∷ xs) = split (p x) (at_most p xs)
  where
    split : (b : Bool) → length (filter p xs) ≤ length xs → length (cond b (x ∷ filter p xs) (filter p xs)) ≤ length (x ∷ xs)
    split true rest = omega (arith, rest)
    split false rest = omega (arith, rest)

pub due_at_most : (l : List PlainMarked) (m : PlainMarked) (r : List PlainMarked) → length (are_due l) + length (are_due (m ∷ [])) + length (are_due r) ≤ length (l ++ m ∷ r)
due_at_most l m r = let most = at_most (λ n. n.is_due) (l ++ m ∷ r) in let joined = due_joined l m r in omega (arith, most, joined)
