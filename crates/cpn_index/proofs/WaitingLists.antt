-- Who waits: with one element more, without one, and with one back at another time.
use Rattle.std.proofs.Common.{◌≡◌, ℕ, Bool, true, false, not, cond, ◌&&◌, ◌||◌, List, [], ◌∷◌, Some, refl, sym, ap, ◌∙◌, is_lt}
use Rattle.cpn_definitions.specs.Value.{PlainValue}
use Rattle.cpn_definitions.specs.Lists.{Rises, with_item}
use Rattle.cpn_definitions.specs.Occurrence.{PlainElement}
use Rattle.cpn_due.specs.Due.{PlainEnabled, enabled_cmp, is_of, is_kept, kept_of, without}
use Rattle.cpn_index.specs.Watchers.{is_needed}
use Rattle.cpn_index.specs.WatchedElements.{waits}
use Rattle.cpn_index.proofs.KeptLists.{same_as}
use Rattle.cpn_index.proofs.GoneEntries.{none_out, none_behind}

-- whether the element is that of the enabled one, and needs the value
abbrev pub waits_as : PlainEnabled → ℕ → PlainValue → PlainElement → Bool
waits_as x p v e = is_of e x && is_needed p v x.needs

swapped : (a b c : Bool) → (b || (a || c)) ≡ (a || (b || c))
swapped true true c = refl
swapped true false c = refl
swapped false b c = refl

-- one more
pub waits_with : (p : ℕ) (v : PlainValue) (e : PlainElement) (x : PlainEnabled) (ys : List PlainEnabled) → waits (with_item enabled_cmp x ys) p v e ≡ (waits_as x p v e || waits ys p v e)
waits_with p v e x [] = refl
waits_with p v e x (y ∷ ys) = split (is_lt (enabled_cmp x y)) (waits_with p v e x ys)
  where
    split : (b : Bool) → waits (with_item enabled_cmp x ys) p v e ≡ (waits_as x p v e || waits ys p v e)
        → waits (cond b (x ∷ y ∷ ys) (y ∷ with_item enabled_cmp x ys)) p v e ≡ (waits_as x p v e || waits (y ∷ ys) p v e)
    split true rest = refl
    split false rest = ap (λ b. waits_as y p v e || b) rest ∙ swapped (waits_as x p v e) (waits_as y p v e) (waits ys p v e)

-- one less
pub waits_without : (p : ℕ) (v : PlainValue) (e f : PlainElement) (ys : List PlainEnabled) (x : PlainEnabled) → Rises enabled_cmp ys → kept_of f ys ≡ Some x → waits ys p v e ≡ (waits_as x p v e || waits (without f ys) p v e)
waits_without p v e f [] x rising kept = cc
waits_without p v e f (y ∷ ys) x rising kept = split (is_of f y) refl kept (λ is. waits_without p v e f ys x rising.1 is)
  where
    some : (y x : PlainEnabled) → Some y ≡ Some x → y ≡ x
    some y x is = cc

    split
        : (b : Bool) → is_of f y ≡ b → cond b (Some y) (kept_of f ys) ≡ Some x → (kept_of f ys ≡ Some x → waits ys p v e ≡ (waits_as x p v e || waits (without f ys) p v e))
        → waits (y ∷ ys) p v e ≡ (waits_as x p v e || waits (cond (not b) (y ∷ without f ys) (without f ys)) p v e)
    split true of is later =
        ap (λ (z : PlainEnabled). waits_as z p v e || waits ys p v e) (some y x is)
        ∙ ap (λ (zs : List PlainEnabled). waits_as x p v e || waits zs p v e) (sym (none_out f ys (none_behind f y ys rising.0 of)))
    split false of is later = ap (λ b. waits_as y p v e || b) (later is) ∙ swapped (waits_as x p v e) (waits_as y p v e) (waits (without f ys) p v e)

-- one whose element is none of them waits for itself alone
pub waits_apart : (p : ℕ) (v : PlainValue) (e : PlainElement) (x : PlainEnabled) (ys : List PlainEnabled) → is_kept x.entry.element ys ≡ false → (not (waits_as x p v e) && (waits_as x p v e || waits ys p v e)) ≡ waits ys p v e
waits_apart p v e x ys absent = split (is_of e x) refl (is_needed p v x.needs)
  where
    split : (of : Bool) → is_of e x ≡ of → (b : Bool) → (not (of && b) && ((of && b) || waits ys p v e)) ≡ waits ys p v e
    split false other b = refl
    split true of false = refl
    split true of true = sym (none_waits ys absent)
      where
        none_waits : (zs : List PlainEnabled) → is_kept x.entry.element zs ≡ false → waits zs p v e ≡ false
        none_waits [] none = refl
        none_waits (z ∷ zs) none = rw other (none_waits zs (or_false (is_of x.entry.element z) (is_kept x.entry.element zs) none).1)
          where
            or_false : (a b : Bool) → (a || b) ≡ false → (a ≡ false) × (b ≡ false)
            or_false false false h = (refl, refl)
            or_false a b h = cc

            other : is_of e z ≡ false
            other = same_as e x z of ∙ (or_false (is_of x.entry.element z) (is_kept x.entry.element zs) none).0
