-- A claim changes the tokens of no place that is at none of its transition's arcs.
use Rattle.std.proofs.Common.{◌≡◌, ◌∙◌, refl, sym, ap, subst, ℕ, zero, suc, ◌==◌, Bool, true, false, ◌||◌, cond, List, [], ◌∷◌, ◌++◌, replicate, slice_set, ◌+◌}
use Rattle.std.specs.List.{AllByRecursion, list_any, flat_map}
use Rattle.std.specs.declared.cmp.Ordering.{Ordering}
use Rattle.std.specs.Ordering.{is_lt}
use Rattle.cpn_definitions.specs.Inscription.{Functions}
use Rattle.cpn_definitions.specs.Lists.{in_order, with_item, with_items}
use Rattle.cpn_definitions.specs.Marking.{Marking, Tokens, tokens_at, token_at, add_token, without_token, on_place}
use Rattle.cpn_definitions.specs.Meaning.{PlainBinding}
use Rattle.cpn_definitions.specs.Net.{PlainNet, PlainArc, transition_at}
use Rattle.cpn_definitions.specs.Occurrence.{PlainElement, Needed, Made, needed_cmp, made_cmp, gather, needed_by, needs_of, made_by, outputs_of, subtract, add_made, transition_delay, stamp_on}
use Rattle.cpn_definitions.specs.Terms.{PlainTerm, terms_of}
use Rattle.cpn_definitions.specs.Outcome.{Outcome, gives, faults, no_meaning, ◌>>=◌}
use Rattle.cpn_definitions.proofs.NumberTests.{equals_itself}
use Rattle.cpn_monitor.specs.Looks.{are_at}

-- ---- lists

all_append : {A : Type 0} (P : A → Type 0) (xs ys : List A) → AllByRecursion P xs → AllByRecursion P ys → AllByRecursion P (xs ++ ys)
all_append P [] ys first second = second
all_append P (x ∷ xs) ys first second = (first.0, all_append P xs ys first.1 second)

all_copies : {A : Type 0} (P : A → Type 0) (n : ℕ) (x : A) → P x → AllByRecursion P (replicate n x)
all_copies P zero x is = tt
all_copies P (suc n) x is = (is, all_copies P n x is)

all_flat : {A B : Type 0} (P : B → Type 0) (f : A → List B) (xs : List A) → ((x : A) → AllByRecursion P (f x)) → AllByRecursion P (flat_map f xs)
all_flat P f [] each = tt
all_flat P f (x ∷ xs) each = all_append P (f x) (flat_map f xs) (each x) (all_flat P f xs each)

all_with_item : {A : Type 0} (P : A → Type 0) (c : A → A → Ordering) (x : A) (ys : List A) → P x → AllByRecursion P ys → AllByRecursion P (with_item c x ys)
all_with_item P c x [] is all = (is, tt)
all_with_item P c x (y ∷ ys) is all = by (is_lt (c x y)) (all_with_item P c x ys is all.1)
  where
    by : (b : Bool) → AllByRecursion P (with_item c x ys) → AllByRecursion P (cond b (x ∷ y ∷ ys) (y ∷ with_item c x ys))
    by true later = (is, all)
    by false later = (all.0, later)

all_with_items : {A : Type 0} (P : A → Type 0) (c : A → A → Ordering) (xs ys : List A) → AllByRecursion P xs → AllByRecursion P ys → AllByRecursion P (with_items c xs ys)
all_with_items P c [] ys first second = second
all_with_items P c (x ∷ xs) ys first second = all_with_items P c xs (with_item c x ys) first.1 (all_with_item P c x ys first.0 second)

all_in_order : {A : Type 0} (P : A → Type 0) (c : A → A → Ordering) (xs : List A) → AllByRecursion P xs → AllByRecursion P (in_order c xs)
all_in_order P c xs all = all_with_items P c xs [] all tt

pub all_weaker : {A : Type 0} (P Q : A → Type 0) → ((x : A) → P x → Q x) → (xs : List A) → AllByRecursion P xs → AllByRecursion Q xs
all_weaker P Q weaker [] all = tt
all_weaker P Q weaker (x ∷ xs) all = (weaker x all.0, all_weaker P Q weaker xs all.1)

-- ---- what arcs give stands at their places

given : {A : Type 0} → (xs ys : List A) → ◌≡◌ {A = Outcome (List A)} (gives xs) (gives ys) → xs ≡ ys
given xs ys e = cc

module _ {A : Type 0} (f : PlainArc → Outcome (List A)) (place : A → ℕ) (each : (arc : PlainArc) (xs : List A) → f arc ≡ gives xs → AllByRecursion (λ x. place x ≡ arc.place) xs) where
  gathered_at : (arcs : List PlainArc) (zs : List A) → gather f arcs ≡ gives zs → AllByRecursion (λ x. are_at (place x) arcs ≡ true) zs
  gathered_at [] zs is = subst (AllByRecursion (λ x. are_at (place x) [] ≡ true)) (given [] zs is) tt
  gathered_at (arc ∷ arcs) zs is = by (f arc) (gather f arcs) refl refl (gathered_at arcs) is
    where
      first : (x : A) → place x ≡ arc.place → are_at (place x) (arc ∷ arcs) ≡ true
      first x at = ap (λ b. b || are_at (place x) arcs) (subst (λ q. (arc.place == q) ≡ true) (sym at) (equals_itself arc.place))

      later : (x : A) → are_at (place x) arcs ≡ true → are_at (place x) (arc ∷ arcs) ≡ true
      later x at = or_right (arc.place == place x) (are_at (place x) arcs) at
        where
          or_right : (a b : Bool) → b ≡ true → (a || b) ≡ true
          or_right true b e = refl
          or_right false b e = e

      by : (o rest : Outcome (List A)) → f arc ≡ o → gather f arcs ≡ rest → ((ys : List A) → gather f arcs ≡ gives ys → AllByRecursion (λ x. are_at (place x) arcs ≡ true) ys) → (o >>= (λ xs. rest >>= (λ ys. gives (xs ++ ys)))) ≡ gives zs → AllByRecursion (λ x. are_at (place x) (arc ∷ arcs) ≡ true) zs
      by (gives xs) (gives ys) o_is rest_is others e =
          subst (AllByRecursion (λ x. are_at (place x) (arc ∷ arcs) ≡ true)) (given (xs ++ ys) zs e)
          (all_append (λ x. are_at (place x) (arc ∷ arcs) ≡ true) xs ys (all_weaker (λ x. place x ≡ arc.place) (λ x. are_at (place x) (arc ∷ arcs) ≡ true) first xs (each arc xs o_is)) (all_weaker (λ x. are_at (place x) arcs ≡ true) (λ x. are_at (place x) (arc ∷ arcs) ≡ true) later ys (others ys rest_is)))
      by (gives xs) (faults fault) o_is rest_is others e = cc
      by (gives xs) no_meaning o_is rest_is others e = cc
      by (faults fault) rest o_is rest_is others e = cc
      by no_meaning rest o_is rest_is others e = cc

-- the needs of an element stand at input arcs of its transition
pub needs_at : (n : PlainNet) (e : PlainElement) (needs : List Needed) → needs_of n e ≡ gives needs → AllByRecursion (λ need. are_at need.place (transition_at n e.transition).inputs ≡ true) needs
unfolding needs_of
needs_at n e needs is = by (gather (needed_by n.functions e.binding) (transition_at n e.transition).inputs) refl is
  where
    each : (arc : PlainArc) (xs : List Needed) → needed_by n.functions e.binding arc ≡ gives xs → AllByRecursion (λ need. need.place ≡ arc.place) xs
    each arc xs given_so = terms (terms_of n.functions arc.expr arc.colour e.binding 0) given_so
      where
        terms : (o : Outcome (List PlainTerm)) → (o >>= (λ ts. gives (flat_map (λ term. replicate term.count (record { place = arc.place; value = term.value; offset = term.delay })) ts))) ≡ gives xs → AllByRecursion (λ (need : Needed). need.place ≡ arc.place) xs
        terms (gives ts) e = subst (AllByRecursion (λ (need : Needed). need.place ≡ arc.place)) (given _ xs e) (all_flat (λ (need : Needed). need.place ≡ arc.place) (λ term. replicate term.count (record { place = arc.place; value = term.value; offset = term.delay })) ts (λ term. all_copies (λ (need : Needed). need.place ≡ arc.place) term.count _ refl))
        terms (faults fault) e = cc
        terms no_meaning e = cc

    by : (o : Outcome (List Needed)) → gather (needed_by n.functions e.binding) (transition_at n e.transition).inputs ≡ o → (o >>= (λ needs. gives (in_order needed_cmp needs))) ≡ gives needs
        → AllByRecursion (λ need. are_at need.place (transition_at n e.transition).inputs ≡ true) needs
    by (gives xs) o_is e_is =
        subst (AllByRecursion (λ (need : Needed). are_at need.place (transition_at n e.transition).inputs ≡ true)) (given (in_order needed_cmp xs) needs e_is)
        (all_in_order (λ (need : Needed). are_at need.place (transition_at n e.transition).inputs ≡ true) needed_cmp xs (gathered_at (needed_by n.functions e.binding) (λ (need : Needed). need.place) each (transition_at n e.transition).inputs xs o_is))
    by (faults fault) o_is e_is = cc
    by no_meaning o_is e_is = cc

-- and its outputs at output arcs
pub outputs_at : (n : PlainNet) (e : PlainElement) (time : ℕ) (outputs : List Made) → outputs_of n e time ≡ gives outputs → AllByRecursion (λ made. are_at made.place (transition_at n e.transition).outputs ≡ true) outputs
unfolding outputs_of
outputs_at n e time outputs is = delayed (transition_delay n.functions (transition_at n e.transition).delay e.binding time) is
  where
    each : (delay : ℕ) (arc : PlainArc) (xs : List Made) → made_by n e.binding time delay arc ≡ gives xs → AllByRecursion (λ made. made.place ≡ arc.place) xs
    each delay arc xs given_so = terms (terms_of n.functions arc.expr arc.colour e.binding time) given_so
      where
        terms : (o : Outcome (List PlainTerm)) → (o >>= (λ ts. gives (flat_map (λ term. replicate term.count (record { place = arc.place; value = term.value; stamp = stamp_on n arc.place (time + delay + term.delay) })) ts))) ≡ gives xs → AllByRecursion (λ (made : Made). made.place ≡ arc.place) xs
        terms (gives ts) e = subst (AllByRecursion (λ (made : Made). made.place ≡ arc.place)) (given _ xs e) (all_flat (λ (made : Made). made.place ≡ arc.place) (λ term. replicate term.count (record { place = arc.place; value = term.value; stamp = stamp_on n arc.place (time + delay + term.delay) })) ts (λ term. all_copies (λ (made : Made). made.place ≡ arc.place) term.count _ refl))
        terms (faults fault) e = cc
        terms no_meaning e = cc

    by : (delay : ℕ) (o : Outcome (List Made)) → gather (made_by n e.binding time delay) (transition_at n e.transition).outputs ≡ o → (o >>= (λ made. gives (in_order made_cmp made))) ≡ gives outputs
        → AllByRecursion (λ made. are_at made.place (transition_at n e.transition).outputs ≡ true) outputs
    by delay (gives xs) o_is e_is =
        subst (AllByRecursion (λ (made : Made). are_at made.place (transition_at n e.transition).outputs ≡ true)) (given (in_order made_cmp xs) outputs e_is)
        (all_in_order (λ (made : Made). are_at made.place (transition_at n e.transition).outputs ≡ true) made_cmp xs (gathered_at (made_by n e.binding time delay) (λ (made : Made). made.place) (each delay) (transition_at n e.transition).outputs xs o_is))
    by delay (faults fault) o_is e_is = cc
    by delay no_meaning o_is e_is = cc

    delayed : (d : Outcome ℕ) → (d >>= (λ delay. gather (made_by n e.binding time delay) (transition_at n e.transition).outputs >>= (λ made. gives (in_order made_cmp made)))) ≡ gives outputs → AllByRecursion (λ made. are_at made.place (transition_at n e.transition).outputs ≡ true) outputs
    delayed (gives delay) e_is = by delay (gather (made_by n e.binding time delay) (transition_at n e.transition).outputs) refl e_is
    delayed (faults fault) e_is = cc
    delayed no_meaning e_is = cc

-- ---- what is not touched

index_elsewhere : (m : Marking) (q p : ℕ) (ks : Tokens) → (q ≡ p → ⊥) → tokens_at (slice_set m q ks) p ≡ tokens_at m p
index_elsewhere [] q p ks other = refl
index_elsewhere (ts ∷ m) zero zero ks other = absurd (other refl)
index_elsewhere (ts ∷ m) zero (suc p) ks other = refl
index_elsewhere (ts ∷ m) (suc q) zero ks other = refl
index_elsewhere (ts ∷ m) (suc q) (suc p) ks other = index_elsewhere m q p ks (λ e. other (ap (λ (k : ℕ). suc k) e))

pub subtract_elsewhere : (latest : Needed → ℕ) (needs : List Needed) (m : Marking) (p : ℕ) → AllByRecursion (λ (need : Needed). need.place ≡ p → ⊥) needs → tokens_at (subtract latest needs m) p ≡ tokens_at m p
subtract_elsewhere latest [] m p others = refl
subtract_elsewhere latest (need ∷ needs) m p others = subtract_elsewhere latest needs (on_place need.place (without_token need.value (latest need)) m) p others.1 ∙ index_elsewhere m need.place p (without_token need.value (latest need) (tokens_at m need.place)) others.0

pub made_elsewhere : (outputs : List Made) (m : Marking) (p : ℕ) → AllByRecursion (λ (made : Made). made.place ≡ p → ⊥) outputs → tokens_at (add_made outputs m) p ≡ tokens_at m p
made_elsewhere [] m p others = refl
made_elsewhere (made ∷ outputs) m p others = made_elsewhere outputs (on_place made.place (add_token (token_at made.value made.stamp)) m) p others.1 ∙ index_elsewhere m made.place p (add_token (token_at made.value made.stamp) (tokens_at m made.place)) others.0
