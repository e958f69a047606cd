-- Which values of a place are told.
use Rattle.std.proofs.Common.{◌≡◌, ℕ, ◌+◌, ◌<◌, Bool, true, false, ◌&&◌, ◌||◌, not, cond, List, [], ◌∷◌, ◌++◌, map, take, length, get_or, refl, sym, ap, subst, ◌∙◌, true≢false}
use Rattle.std.specs.Borrow.{Bor}
use Rattle.std.proofs.lemmas.List.{take_more}
use Rattle.std.proofs.lemmas.List.Folds.{list_any-append}
use Rattle.cpn_core.specs.Views.{value_view}
use Rattle.cpn_core.specs.declared.values.Value.{Value}
use Rattle.cpn_definitions.proofs.ListItems.{map_more}
use Rattle.cpn_definitions.proofs.NumberTests.{equals_itself}
use Rattle.cpn_tmset.specs.Changed.{PlainChange, is_change, is_told}
use Rattle.cpn_tmset.specs.ListedViews.{pointed_view}
use Rattle.cpn_tmset.proofs.ToldChanges.{told_joined}
use Rattle.std.specs.List.{list_any}
use Rattle.std.proofs.lemmas.Bool.{or_parts}
use Rattle.cpn_definitions.specs.Value.{PlainValue}
use Rattle.cpn_definitions.specs.Order.{same_value}
use Rattle.cpn_definitions.specs.ValueOrder.{same_value_true}
use Rattle.cpn_definitions.specs.Marking.{Tokens, stamps}
use Rattle.cpn_tmset.specs.Listed.{is_last_of, values_of}

was_true : (b : Bool) → not b ≡ false → b ≡ true
was_true true h = refl
was_true false h = absurd (true≢false h)

-- a value that is none of those of the tokens has no stamps among them
pub none_of_value : (v : PlainValue) (ks : Tokens) → list_any (same_value v) (values_of ks) ≡ false → stamps v ks ≡ []
none_of_value v [] none = refl
none_of_value v (k ∷ ks) none = split (none_of_value v ks) (is_last_of k ks) refl none
  where
    own : same_value v k.value ≡ false → stamps v ks ≡ [] → stamps v (k ∷ ks) ≡ []
    own other rest = ap (λ b. cond b (k.stamp ∷ stamps v ks) (stamps v ks)) other ∙ rest

    followed : (ls : Tokens) → is_last_of k ls ≡ false → stamps v ls ≡ [] → same_value v k.value ≡ false
    followed [] is rest = absurd (true≢false is)
    followed (l ∷ ls) is rest = by (same_value v l.value) refl
      where
        by : (b : Bool) → same_value v l.value ≡ b → same_value v k.value ≡ false
        by true same = absurd (let empty = ap (λ b. cond b (l.stamp ∷ stamps v ls) (stamps v ls)) (sym same) ∙ rest in cc)
        by false other = subst (λ w. same_value v w ≡ false) (sym (same_value_true k.value l.value (was_true (same_value k.value l.value) is))) other

    split : (list_any (same_value v) (values_of ks) ≡ false → stamps v ks ≡ []) → (b : Bool) → is_last_of k ks ≡ b → list_any (same_value v) (cond b (k.value ∷ values_of ks) (values_of ks)) ≡ false → stamps v (k ∷ ks) ≡ []
    split empty true is none = let parts = or_parts (same_value v k.value) (list_any (same_value v) (values_of ks)) none in own parts.0 (empty parts.1)
    split empty false is none = let rest = empty none in own (followed ks is rest) rest

-- ---- one value more

-- each of the values whose stamps differ on the place is told
abbrev pub AreTold : ℕ → Tokens → Tokens → List PlainValue → List PlainChange → Type 0
AreTold place old new vs cs = (v : PlainValue) → list_any (same_value v) vs ≡ true → is_told place v cs ≡ false → stamps v new ≡ stamps v old

-- of both lists one has the value
listed_in : (v w : PlainValue) (vs : List PlainValue) → list_any (same_value v) (vs ++ w ∷ []) ≡ true → same_value v w ≡ false → list_any (same_value v) vs ≡ true
listed_in v w vs listed other = by (list_any (same_value v) vs) refl
  where
    both : (list_any (same_value v) vs || (same_value v w || false)) ≡ true
    both = sym (list_any-append (same_value v) vs (w ∷ [])) ∙ listed

    by : (b : Bool) → list_any (same_value v) vs ≡ b → list_any (same_value v) vs ≡ true
    by true is = is
    by false is = absurd (true≢false (sym both ∙ ap (λ b. b || (same_value v w || false)) is ∙ ap (λ b. b || false) other))

-- what was told is told still
pub told_still : (p : ℕ) (v : PlainValue) (cs ds : List PlainChange) → is_told p v (cs ++ ds) ≡ false → is_told p v cs ≡ false
told_still p v cs ds untold = (or_parts (is_told p v cs) (is_told p v ds) (sym (told_joined p v cs ds) ∙ untold)).0

-- with one more that is told
pub one_told : (place : ℕ) (old new : Tokens) (vs : List PlainValue) (w : PlainValue) (cs : List PlainChange) → AreTold place old new vs cs → AreTold place old new (vs ++ w ∷ []) (cs ++ record { place = place; value = w } ∷ [])
one_told place old new vs w cs are = λ v listed untold.
    let parts = or_parts (is_told place v cs) (is_told place v (record { place = place; value = w } ∷ [])) (sym (told_joined place v cs (record { place = place; value = w } ∷ [])) ∙ untold) in
    let last = (or_parts (is_change place v (record { place = place; value = w })) false parts.1).0 in
    are v (listed_in v w vs listed (ap (λ b. b && same_value v w) (sym (equals_itself place)) ∙ last)) parts.0

-- with one more whose stamps are the same
pub one_same : (place : ℕ) (old new : Tokens) (vs : List PlainValue) (w : PlainValue) (cs : List PlainChange) → stamps w new ≡ stamps w old → AreTold place old new vs cs → AreTold place old new (vs ++ w ∷ []) cs
one_same place old new vs w cs same are = λ v listed untold. by v listed untold (same_value v w) refl
  where
    by : (v : PlainValue) → list_any (same_value v) (vs ++ w ∷ []) ≡ true → is_told place v cs ≡ false → (b : Bool) → same_value v w ≡ b → stamps v new ≡ stamps v old
    by v listed untold true is = subst (λ u. stamps u new ≡ stamps u old) (sym (same_value_true v w is)) same
    by v listed untold false is = are v (listed_in v w vs listed is) untold

-- the values up to one more
pub values_more : (values : List (Bor Value)) (i : ℕ) (value : Bor Value) → i < length values → value ≡ get_or values i value → pointed_view (take (i + 1) values) ≡ pointed_view (take i values) ++ value_view value.now ∷ []
values_more values i value within is = ap (map (λ (v : Bor Value). value_view v.now)) (take_more values i value within ∙ ap (λ y. take i values ++ y ∷ []) (sym is)) ∙ map_more (λ (v : Bor Value). value_view v.now) (take i values) value

-- ---- all values

-- where both the old values and the new ones are told, all are
pub all_told : (place : ℕ) (old new : Tokens) (cs ds : List PlainChange) → AreTold place old new (values_of old) cs → AreTold place old new (values_of new) ds → ((p : ℕ) (v : PlainValue) → is_told p v ds ≡ false → is_told p v cs ≡ false)
    → (v : PlainValue) → is_told place v ds ≡ false → stamps v new ≡ stamps v old
all_told place old new cs ds before after more v untold = by (list_any (same_value v) (values_of old)) (list_any (same_value v) (values_of new)) refl refl
  where
    by : (a b : Bool) → list_any (same_value v) (values_of old) ≡ a → list_any (same_value v) (values_of new) ≡ b → stamps v new ≡ stamps v old
    by true b is other = before v is (more place v untold)
    by false true is other = after v other untold
    by false false is other = none_of_value v new other ∙ sym (none_of_value v old is)
