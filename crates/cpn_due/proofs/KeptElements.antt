-- Marked items as the elements that they are of: each change of the items is that of the elements, and the marked ones are those that are
-- due where each is marked as its time says.
use Rattle.std.proofs.Common.{◌≡◌, ℕ, ◌≤◌, not, Bool, true, false, cond, ◌||◌, nat_le, List, [], ◌∷◌, map, length, Some, option_map, refl, sym, ap, ◌∙◌, arith, is_lt}
use Rattle.std.specs.List.{filter, list_any}
use Rattle.std.proofs.lemmas.List.{length-map}
use Rattle.cpn_definitions.specs.Lists.{Rises, with_item}
use Rattle.cpn_definitions.specs.Occurrence.{PlainElement}
use Rattle.cpn_definitions.proofs.RisingLists.{each_filtered, rises_mapped}
use Rattle.cpn_definitions.proofs.OrderedLists.{all_with_item}
use Rattle.cpn_due.specs.Due.{PlainEnabled, enabled_cmp, is_of, is_kept, kept_of, without, due_at}
use Rattle.cpn_due.specs.Marked.{PlainMarked, marked_cmp, marked_at, enabled_in, are_due, item_of, without_item, IsMarked, AreMarked}

pub enabled_with : (m : PlainMarked) (items : List PlainMarked) → enabled_in (with_item marked_cmp m items) ≡ with_item enabled_cmp m.enabled (enabled_in items)
enabled_with m [] = refl
enabled_with m (n ∷ items) = split (is_lt (marked_cmp m n)) (enabled_with m items)
  where
    split : (b : Bool) → enabled_in (with_item marked_cmp m items) ≡ with_item enabled_cmp m.enabled (enabled_in items)
        → enabled_in (cond b (m ∷ n ∷ items) (n ∷ with_item marked_cmp m items)) ≡ cond b (m.enabled ∷ n.enabled ∷ enabled_in items) (n.enabled ∷ with_item enabled_cmp m.enabled (enabled_in items))
    split true rest = refl
    split false rest = ap (λ zs. n.enabled ∷ zs) rest

-- those that pass a test
enabled_filtered : (p : PlainEnabled → Bool) (items : List PlainMarked) → enabled_in (filter (λ m. p m.enabled) items) ≡ filter p (enabled_in items)
enabled_filtered p [] = refl
enabled_filtered p (n ∷ items) = split (p n.enabled) (enabled_filtered p items)
  where
    split : (b : Bool) → enabled_in (filter (λ m. p m.enabled) items) ≡ filter p (enabled_in items)
        → enabled_in (cond b (n ∷ filter (λ m. p m.enabled) items) (filter (λ m. p m.enabled) items)) ≡ cond b (n.enabled ∷ filter p (enabled_in items)) (filter p (enabled_in items))
    split true rest = ap (λ zs. n.enabled ∷ zs) rest
    split false rest = rest

pub enabled_without : (e : PlainElement) (items : List PlainMarked) → enabled_in (without_item e items) ≡ without e (enabled_in items)
enabled_without e items = enabled_filtered (λ x. not (is_of e x)) items

pub kept_among : (e : PlainElement) (items : List PlainMarked) → list_any (λ m. is_of e m.enabled) items ≡ is_kept e (enabled_in items)
kept_among e [] = refl
kept_among e (n ∷ items) = ap (λ b. is_of e n.enabled || b) (kept_among e items)

pub kept_found : (e : PlainElement) (items : List PlainMarked) → option_map (λ m. m.enabled) (item_of e items) ≡ kept_of e (enabled_in items)
kept_found e [] = refl
kept_found e (n ∷ items) = split (is_of e n.enabled) (kept_found e items)
  where
    split : (b : Bool) → option_map (λ m. m.enabled) (item_of e items) ≡ kept_of e (enabled_in items) → option_map (λ m. m.enabled) (cond b (Some n) (item_of e items)) ≡ cond b (Some n.enabled) (kept_of e (enabled_in items))
    split true rest = refl
    split false rest = rest

pub enabled_rise : (items : List PlainMarked) → Rises marked_cmp items → Rises enabled_cmp (enabled_in items)
enabled_rise items rise = rises_mapped marked_cmp enabled_cmp (λ (m : PlainMarked). m.enabled) items (λ x y h. h) rise

-- ---- the marks

pub due_are : (clock : ℕ) (items : List PlainMarked) → AreMarked clock items → enabled_in (are_due items) ≡ due_at clock (enabled_in items)
due_are clock [] marked = refl
due_are clock (n ∷ items) marked = split n.is_due (nat_le n.enabled.entry.earliest clock) marked.0 (due_are clock items marked.1)
  where
    split : (b d : Bool) → b ≡ d → enabled_in (are_due items) ≡ due_at clock (enabled_in items)
        → enabled_in (cond b (n ∷ are_due items) (are_due items)) ≡ cond d (n.enabled ∷ due_at clock (enabled_in items)) (due_at clock (enabled_in items))
    split true true e rest = ap (λ zs. n.enabled ∷ zs) rest
    split true false e rest = cc
    split false true e rest = cc
    split false false e rest = rest

pub due_number : (clock : ℕ) (items : List PlainMarked) → AreMarked clock items → length (are_due items) ≡ length (due_at clock (enabled_in items))
due_number clock items marked = sym (length-map (are_due items) (λ (m : PlainMarked). m.enabled)) ∙ ap length (due_are clock items marked)

pub enabled_marked : (clock : ℕ) (items : List PlainMarked) → enabled_in (map (marked_at clock) items) ≡ enabled_in items
enabled_marked clock [] = refl
enabled_marked clock (n ∷ items) = ap (λ zs. n.enabled ∷ zs) (enabled_marked clock items)

-- what is due at a clock is due at a later one
later_due : (time clock later : ℕ) → clock ≤ later → (nat_le time clock || nat_le time later) ≡ nat_le time later
later_due time clock later h = split (nat_le time clock) refl
  where
    split : (b : Bool) → nat_le time clock ≡ b → (b || nat_le time later) ≡ nat_le time later
    split true is = let due : nat_le time later ≡ true = grind (arith, is, h) in sym due
    split false is = refl

pub marked_later : (clock later : ℕ) (items : List PlainMarked) → clock ≤ later → AreMarked clock items → AreMarked later (map (marked_at later) items)
marked_later clock later [] h marked = tt
marked_later clock later (n ∷ items) h marked =
    (ap (λ b. b || nat_le n.enabled.entry.earliest later) marked.0 ∙ later_due n.enabled.entry.earliest clock later h, marked_later clock later items h marked.1)

pub marked_with : (clock : ℕ) (m : PlainMarked) (items : List PlainMarked) → IsMarked clock m → AreMarked clock items → AreMarked clock (with_item marked_cmp m items)
marked_with clock m items is marked = all_with_item marked_cmp (IsMarked clock) m items is marked

pub marked_without : (clock : ℕ) (e : PlainElement) (items : List PlainMarked) → AreMarked clock items → AreMarked clock (without_item e items)
marked_without clock e items marked = each_filtered (IsMarked clock) (λ m. not (is_of e m.enabled)) items marked
