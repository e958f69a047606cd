-- Places with values that stand in order, each once: which are told, and that they rise.
use Rattle.std.proofs.Common.{◌≡◌, ℕ, Bool, true, false, ◌||◌, cond, List, [], ◌∷◌, ◌++◌, refl, sym, ap, subst, ◌∙◌, Less}
use Rattle.std.specs.List.{AllByRecursion, filter}
use Rattle.cpn_definitions.specs.Value.{PlainValue}
use Rattle.cpn_definitions.specs.Lists.{Rises, IsInOrder}
use Rattle.cpn_definitions.proofs.RisingLists.{each_implied}
use Rattle.std.specs.Ordering.{is_gt}
use Rattle.cpn_tmset.specs.Changed.{PlainChange, change_cmp, is_change, is_told}
use Rattle.cpn_log.specs.Gathered.{same_change, begins_with, ends_with, and_then, each_once}
use Rattle.cpn_log.proofs.ChangeOrder.{same_change_true, same_change_sym, less_up_to, less_where_differ}

-- ---- one more at the end

-- some of them are left of some
record HasFirst (changes : List PlainChange) : Type 0 where
  first : PlainChange
  others : List PlainChange
  is : changes ≡ first ∷ others

some_left : (c : PlainChange) (cs : List PlainChange) → HasFirst (each_once (c ∷ cs))
some_left c [] = record { first = c; others = []; is = refl }
some_left c (d ∷ ds) = split (same_change c d) (some_left d ds)
  where
    split : (b : Bool) → HasFirst (each_once (d ∷ ds)) → HasFirst (cond b (each_once (d ∷ ds)) (c ∷ each_once (d ∷ ds)))
    split true rest = rest
    split false rest = record { first = c; others = each_once (d ∷ ds); is = refl }

-- one more behind one that stays in front
behind_first : (x c : PlainChange) (cs : List PlainChange) → HasFirst cs → x ∷ and_then c cs ≡ and_then c (x ∷ cs)
behind_first x c cs some =
    let P : List PlainChange → Type 0 = λ ds. x ∷ and_then c ds ≡ and_then c (x ∷ ds) in
    subst P (sym some.is) (split (ends_with c (some.first ∷ some.others)))
  where
    split : (b : Bool) → x ∷ cond b (some.first ∷ some.others) ((some.first ∷ some.others) ++ c ∷ []) ≡ cond b (x ∷ some.first ∷ some.others) ((x ∷ some.first ∷ some.others) ++ c ∷ [])
    split true = refl
    split false = refl

pub each_once_more : (c : PlainChange) (cs : List PlainChange) → each_once (cs ++ c ∷ []) ≡ and_then c (each_once cs)
each_once_more c [] = refl
each_once_more c (x ∷ []) = ap (λ b. cond b (c ∷ []) (x ∷ c ∷ [])) (same_change_sym x c) ∙ split (same_change c x) refl
  where
    split : (b : Bool) → same_change c x ≡ b → cond b (c ∷ []) (x ∷ c ∷ []) ≡ cond b (x ∷ []) (x ∷ c ∷ [])
    split true is = ap (λ d. d ∷ []) (same_change_true c x is)
    split false is = refl
each_once_more c (x ∷ y ∷ ys) = split (same_change x y) (each_once_more c (y ∷ ys))
  where
    split : (b : Bool) → each_once ((y ∷ ys) ++ c ∷ []) ≡ and_then c (each_once (y ∷ ys)) → cond b (each_once ((y ∷ ys) ++ c ∷ [])) (x ∷ each_once ((y ∷ ys) ++ c ∷ [])) ≡ and_then c (cond b (each_once (y ∷ ys)) (x ∷ each_once (y ∷ ys)))
    split true rest = rest
    split false rest = ap (λ ds. x ∷ ds) rest ∙ behind_first x c (each_once (y ∷ ys)) (some_left y ys)

-- ---- which are told

or_same : (a b : Bool) → (a || (a || b)) ≡ (a || b)
or_same true b = refl
or_same false b = refl

-- the same as before
pub told_once : (p : ℕ) (v : PlainValue) (cs : List PlainChange) → is_told p v (each_once cs) ≡ is_told p v cs
told_once p v [] = refl
told_once p v (c ∷ []) = refl
told_once p v (c ∷ d ∷ ds) = split (same_change c d) refl (told_once p v (d ∷ ds))
  where
    split : (b : Bool) → same_change c d ≡ b → is_told p v (each_once (d ∷ ds)) ≡ is_told p v (d ∷ ds) → is_told p v (cond b (each_once (d ∷ ds)) (c ∷ each_once (d ∷ ds))) ≡ is_told p v (c ∷ d ∷ ds)
    split true is rest =
        let P : PlainChange → Type 0 = λ e. is_told p v (e ∷ d ∷ ds) ≡ is_told p v (d ∷ ds) in
        rest ∙ sym (subst P (sym (same_change_true c d is)) (or_same (is_change p v d) (is_told p v ds)))
    split false is rest = ap (λ b. is_change p v c || b) rest

-- ---- that they rise

all_once : (P : PlainChange → Type 0) (cs : List PlainChange) → AllByRecursion P cs → AllByRecursion P (each_once cs)
all_once P [] all = tt
all_once P (c ∷ cs) all = split (begins_with c cs) (all_once P cs all.1)
  where
    split : (b : Bool) → AllByRecursion P (each_once cs) → AllByRecursion P (cond b (each_once cs) (c ∷ each_once cs))
    split true rest = rest
    split false rest = (all.0, rest)

-- one that isn't after any of those in order, and differs from the first, comes before each
before_each : (c : PlainChange) (cs : List PlainChange) → AllByRecursion (λ d. is_gt (change_cmp c d) ≡ false) cs → IsInOrder change_cmp cs → begins_with c cs ≡ false → AllByRecursion (λ d. change_cmp c d ≡ Less) cs
before_each c [] all ordered differ = tt
before_each c (d ∷ ds) all ordered differ =
    let first = less_where_differ c d all.0 differ in
    (first, each_implied (λ e. is_gt (change_cmp d e) ≡ false) (λ e. change_cmp c e ≡ Less) ds (λ e h. less_up_to c d e first h) ordered.0)

pub rises_once : (cs : List PlainChange) → IsInOrder change_cmp cs → Rises change_cmp (each_once cs)
rises_once [] ordered = tt
rises_once (c ∷ cs) ordered = split (begins_with c cs) refl (rises_once cs ordered.1)
  where
    split : (b : Bool) → begins_with c cs ≡ b → Rises change_cmp (each_once cs) → Rises change_cmp (cond b (each_once cs) (c ∷ each_once cs))
    split true is rest = rest
    split false is rest = (all_once (λ d. change_cmp c d ≡ Less) cs (before_each c cs ordered.0 ordered.1 is), rest)

-- ---- those that differ

filtered_all : (P : PlainChange → Type 0) (test : PlainChange → Bool) (cs : List PlainChange) → AllByRecursion P cs → AllByRecursion P (filter test cs)
filtered_all P test [] all = tt
filtered_all P test (c ∷ cs) all = split (test c) (filtered_all P test cs all.1)
  where
    split : (b : Bool) → AllByRecursion P (filter test cs) → AllByRecursion P (cond b (c ∷ filter test cs) (filter test cs))
    split true rest = (all.0, rest)
    split false rest = rest

-- what is taken out of a list in order leaves it in order
pub filtered_in_order : (test : PlainChange → Bool) (cs : List PlainChange) → IsInOrder change_cmp cs → IsInOrder change_cmp (filter test cs)
filtered_in_order test [] ordered = tt
filtered_in_order test (c ∷ cs) ordered = split (test c) (filtered_in_order test cs ordered.1)
  where
    split : (b : Bool) → IsInOrder change_cmp (filter test cs) → IsInOrder change_cmp (cond b (c ∷ filter test cs) (filter test cs))
    split true rest = (filtered_all (λ d. is_gt (change_cmp c d) ≡ false) test cs ordered.0, rest)
    split false rest = rest
