-- The text of a value tells it apart from each other value of its colour set, and from what follows it: two values and what
-- follows them are the same where their texts with that are, and no byte of a word follows.
use Rattle.std.proofs.Common.{◌≡◌, ◌∙◌, refl, sym, ap, ap₂, subst, true≢false, ℕ, zero, suc, ◌<◌, Bool, true, false, nat_le, int_le, ℤ, pos, negsuc, List, [], ◌∷◌, ◌++◌, length, drop, get_or, append_assoc, Option, Some, None, arith}
use Rattle.std.specs.Prelude.{codes}
use Rattle.std.specs.List.{flat_map}
use Rattle.std.proofs.lemmas.Bool.{and_parts}
use Rattle.cpn_definitions.specs.Value.{PlainValue, PlainValues, unit, boolean, int, constant, text, tuple, bare, applied, list, none, more}
use Rattle.cpn_definitions.specs.Colour.{PlainShape, PlainShapes, Constructors, unit_shape, boolean_shape, int_shape, text_shape, constant_shape, tuple_shape, union_shape, list_shape, no_shapes, more_shapes, no_constructors, without, taking, constructor_at, is_bare, takes, has_shape, have_shapes, all_have_shape}
use Rattle.cpn_definitions.specs.DistinctNames.{HasDistinctNames, HasWellSpelledNames, is_letter, is_digit, is_word_byte}
use Rattle.cpn_definitions.specs.Integers.{has_64_bits, has_short_integers, have_short_integers, arguments_have_short_integers}
use Rattle.cpn_definitions.specs.Named.{constructors_of, count_of, has_names, have_names, arguments_have_names}
use Rattle.cpn_definitions.specs.Net.{PlainNet}
use Rattle.cpn_report.specs.Told.{ValuesDiffer}
use Rattle.cpn_report.specs.ValueText.{joined, constant_name, constructor_name, argument_text, shaped_text, tuple_texts, list_texts}
use Rattle.cpn_report.proofs.BytesApart.{bytes_apart, word_bytes, word_begins, decimal_begins, IsShort, short_between, integers_apart, truths_apart, strings_apart}
use Rattle.cpn_report.proofs.JoinedTexts.{joined_after}
use Rattle.cpn_report.proofs.NamesApart.{counted_at, bare_takes_none, constant_is_word, one_constant, constructor_is_word, one_constructor}

-- no byte of a word begins the text
abbrev pub Stops : List ℕ → Type 0
Stops rest = is_word_byte (get_or rest 0 0) ≡ false

-- ---- joined texts

-- texts with a comma before each
abbrev tails : List (List ℕ) → List ℕ
tails texts = flat_map (λ t. codes "," ++ t) texts

-- the first of joined texts stands without a comma
joined_tails : (t : List ℕ) (ts : List (List ℕ)) → joined (codes ",") (t ∷ ts) ≡ t ++ tails ts
joined_tails t ts = joined_after (codes ",") t ts

-- after an item comes a comma or the end
tails_stop : (ts : List (List ℕ)) (end : ℕ) (r : List ℕ) → is_word_byte end ≡ false → Stops (tails ts ++ (end ∷ r))
tails_stop [] end r stops = stops
tails_stop (t ∷ ts) end r stops = refl

-- ---- what is known of shapes

-- the net has the names of a shape, and its integers are short
pub record IsFit (n : PlainNet) (s : PlainShape) : Type 0 where
  pub named : has_names n s ≡ true
  pub short : has_short_integers s ≡ true

pub record AreFit (n : PlainNet) (ss : PlainShapes) : Type 0 where
  pub named : have_names n ss ≡ true
  pub short : have_short_integers ss ≡ true

-- so is that of an argument, where there is one
abbrev IsArgumentFit : PlainNet → Option (Option PlainShape) → Type 0
IsArgumentFit n None = Unit {0}
IsArgumentFit n (Some None) = Unit {0}
IsArgumentFit n (Some (Some s)) = IsFit n s

first_fits : (n : PlainNet) (s : PlainShape) (ss : PlainShapes) → AreFit n (more_shapes s ss) → IsFit n s × AreFit n ss
first_fits n s ss fit =
    let names = and_parts (has_names n s) (have_names n ss) fit.named in
    let integers = and_parts (has_short_integers s) (have_short_integers ss) fit.short in
    (record { named = names.0; short = integers.0 }, record { named = names.1; short = integers.1 })

fits_at : (n : PlainNet) (cs : Constructors) (k : ℕ) → arguments_have_names n cs ≡ true → arguments_have_short_integers cs ≡ true → IsArgumentFit n (constructor_at cs k)
fits_at n no_constructors k named short = tt
fits_at n (without cs) zero named short = tt
fits_at n (taking s cs) zero named short = record { named = (and_parts (has_names n s) (arguments_have_names n cs) named).0; short = (and_parts (has_short_integers s) (arguments_have_short_integers cs) short).0 }
fits_at n (without cs) (suc k) named short = fits_at n cs k named short
fits_at n (taking s cs) (suc k) named short = fits_at n cs k (and_parts (has_names n s) (arguments_have_names n cs) named).1 (and_parts (has_short_integers s) (arguments_have_short_integers cs) short).1

-- ---- the claims

-- a value and what follows it
abbrev pub Apart : PlainNet → PlainValue → Type 0
Apart n v = (s : PlainShape) (w : PlainValue) (r t : List ℕ) → IsFit n s → has_shape v s ≡ true → has_shape w s ≡ true → Stops r → Stops t → shaped_text n v s ++ r ≡ shaped_text n w s ++ t → (v ≡ w) × (r ≡ t)

-- the items of a list up to its bracket, all and those after the first
abbrev Items : PlainNet → PlainValues → Type 0
Items n vs = (s : PlainShape) (ws : PlainValues) (r t : List ℕ) → IsFit n s → all_have_shape vs s ≡ true → all_have_shape ws s ≡ true → joined (codes ",") (list_texts n vs s) ++ (93 ∷ r) ≡ joined (codes ",") (list_texts n ws s) ++ (93 ∷ t) → (vs ≡ ws) × (r ≡ t)

abbrev LaterItems : PlainNet → PlainValues → Type 0
LaterItems n vs = (s : PlainShape) (ws : PlainValues) (r t : List ℕ) → IsFit n s → all_have_shape vs s ≡ true → all_have_shape ws s ≡ true → tails (list_texts n vs s) ++ (93 ∷ r) ≡ tails (list_texts n ws s) ++ (93 ∷ t) → (vs ≡ ws) × (r ≡ t)

-- the items of a tuple up to its parenthesis
abbrev Parts : PlainNet → PlainValues → Type 0
Parts n vs = (ss : PlainShapes) (ws : PlainValues) (r t : List ℕ) → AreFit n ss → have_shapes vs ss ≡ true → have_shapes ws ss ≡ true → joined (codes ",") (tuple_texts n vs ss) ++ (41 ∷ r) ≡ joined (codes ",") (tuple_texts n ws ss) ++ (41 ∷ t) → (vs ≡ ws) × (r ≡ t)

abbrev LaterParts : PlainNet → PlainValues → Type 0
LaterParts n vs = (ss : PlainShapes) (ws : PlainValues) (r t : List ℕ) → AreFit n ss → have_shapes vs ss ≡ true → have_shapes ws ss ≡ true → tails (tuple_texts n vs ss) ++ (41 ∷ r) ≡ tails (tuple_texts n ws ss) ++ (41 ∷ t) → (vs ≡ ws) × (r ≡ t)

record AllApart (n : PlainNet) (vs : PlainValues) : Type 0 where
  items : Items n vs
  later_items : LaterItems n vs
  parts : Parts n vs
  later_parts : LaterParts n vs

module _ (n : PlainNet) (distinct : HasDistinctNames n) (spelled : HasWellSpelledNames n) where
  -- ---- values without parts

  unit_apart : Apart n unit
  unit_apart unit_shape unit r t fit has other sr st e = (refl, ap (drop 2) e)
  unit_apart s w r t fit has other sr st e = absurd cc

  boolean_apart : (b : Bool) → Apart n (boolean b)
  boolean_apart b boolean_shape (boolean c) r t fit has other sr st e = let apart = truths_apart b c r t e in (ap boolean apart.0, apart.1)
  boolean_apart b s w r t fit has other sr st e = absurd cc

  int_is_short : (low high z : ℤ) → IsFit n (int_shape low high) → has_shape (int z) (int_shape low high) ≡ true → IsShort z
  int_is_short low high z fit has =
      let bounds = and_parts (has_64_bits low) (has_64_bits high) fit.short in
      let within = and_parts (int_le low z) (int_le z high) has in
      short_between low high z bounds.0 bounds.1 within.0 within.1

  int_apart : (z : ℤ) → Apart n (int z)
  int_apart z (int_shape low high) (int y) r t fit has other sr st e =
      let apart = integers_apart z y r t (int_is_short low high z fit has) (int_is_short low high y fit other) sr st e in (ap int apart.0, apart.1)
  int_apart z s w r t fit has other sr st e = absurd cc

  text_apart : (bytes : List ℕ) → Apart n (text bytes)
  text_apart bytes text_shape (text others) r t fit has other sr st e = let apart = strings_apart bytes others r t e in (ap text apart.0, apart.1)
  text_apart bytes s w r t fit has other sr st e = absurd cc

  constant_apart : (k : ℕ) → Apart n (constant k)
  constant_apart k (constant_shape number count) (constant j) r t fit has other sr st e =
      let own = word_bytes (constant_name n number k) (constant_is_word n spelled number count k fit.named has) in
      let its = word_bytes (constant_name n number j) (constant_is_word n spelled number count j fit.named other) in
      let apart = bytes_apart is_word_byte (constant_name n number k) (constant_name n number j) r t own its sr st e in
      (ap constant (one_constant n distinct number count k j fit.named has other apart.0), apart.1)
  constant_apart k s w r t fit has other sr st e = absurd cc

  -- ---- constructors

  -- two names of constructors tell the same one, and are followed by the same
  constructors_apart : (number : ℕ) (cs : Constructors) (k j : ℕ) (r t : List ℕ) → IsFit n (union_shape number cs) → k < count_of cs → j < count_of cs → Stops r → Stops t → constructor_name n number k ++ r ≡ constructor_name n number j ++ t → (k ≡ j) × (r ≡ t)
  constructors_apart number cs k j r t fit lk lj sr st e =
      let own = word_bytes (constructor_name n number k) (constructor_is_word n spelled number cs k fit.named lk) in
      let its = word_bytes (constructor_name n number j) (constructor_is_word n spelled number cs j fit.named lj) in
      let apart = bytes_apart is_word_byte (constructor_name n number k) (constructor_name n number j) r t own its sr st e in
      (one_constructor n distinct number cs k j fit.named lk lj apart.0, apart.1)

  -- an argument in its parentheses
  abbrev in_parentheses : Option (Option PlainShape) → PlainValue → List ℕ
  in_parentheses o v = codes "(" ++ argument_text o (λ s. shaped_text n v s) ++ codes ")"

  -- a constructor with its argument, and what follows it
  applied_is : (number : ℕ) (cs : Constructors) (k : ℕ) (v : PlainValue) (r : List ℕ) → shaped_text n (applied k v) (union_shape number cs) ++ r ≡ constructor_name n number k ++ (in_parentheses (constructor_at cs k) v ++ r)
  applied_is number cs k v r =
      let name = constructor_name n number k in
      let argument = argument_text (constructor_at cs k) (λ s. shaped_text n v s) in
      ap (λ t. t ++ r) (append_assoc (name ++ codes "(") argument (codes ")") ∙ append_assoc name (codes "(") (argument ++ codes ")")) ∙ append_assoc name (in_parentheses (constructor_at cs k) v) r

  -- a constructor without an argument is none with one
  bare_or_applied : (number : ℕ) (cs : Constructors) (k j : ℕ) (u : PlainValue) (r t : List ℕ) → IsFit n (union_shape number cs) → has_shape (bare k) (union_shape number cs) ≡ true → has_shape (applied j u) (union_shape number cs) ≡ true → Stops r → shaped_text n (bare k) (union_shape number cs) ++ r ≡ shaped_text n (applied j u) (union_shape number cs) ++ t → ⊥
  bare_or_applied number cs k j u r t fit has other sr e =
      let argument = in_parentheses (constructor_at cs j) u in
      let lk = counted_at is_bare cs k refl has in
      let lj = counted_at (λ o. takes o (λ s. has_shape u s)) cs j refl other in
      let apart = constructors_apart number cs k j r (argument ++ t) fit lk lj sr refl (e ∙ applied_is number cs j u t) in
      bare_takes_none (constructor_at cs j) (λ s. has_shape u s) (subst (λ i. is_bare (constructor_at cs i) ≡ true) apart.0 has) other

  bare_apart : (k : ℕ) → Apart n (bare k)
  bare_apart k (union_shape number cs) (bare j) r t fit has other sr st e =
      let apart = constructors_apart number cs k j r t fit (counted_at is_bare cs k refl has) (counted_at is_bare cs j refl other) sr st e in (ap bare apart.0, apart.1)
  bare_apart k (union_shape number cs) (applied j u) r t fit has other sr st e = absurd (bare_or_applied number cs k j u r t fit has other sr e)
  bare_apart k s w r t fit has other sr st e = absurd cc

  argument_apart : (o : Option (Option PlainShape)) (v u : PlainValue) → Apart n v → IsArgumentFit n o → takes o (λ s. has_shape v s) ≡ true → takes o (λ s. has_shape u s) ≡ true → (r t : List ℕ) → argument_text o (λ s. shaped_text n v s) ++ (41 ∷ r) ≡ argument_text o (λ s. shaped_text n u s) ++ (41 ∷ t) → (v ≡ u) × (r ≡ t)
  argument_apart None v u own fit has other r t e = absurd cc
  argument_apart (Some None) v u own fit has other r t e = absurd cc
  argument_apart (Some (Some s)) v u own fit has other r t e = let apart = own s u (41 ∷ r) (41 ∷ t) fit has other refl refl e in (apart.0, ap (drop 1) apart.1)

  applied_apart : (k : ℕ) (v : PlainValue) → Apart n v → Apart n (applied k v)
  applied_apart k v own (union_shape number cs) (bare j) r t fit has other sr st e = absurd (bare_or_applied number cs j k v t r fit other has st (sym e))
  applied_apart k v own (union_shape number cs) (applied j u) r t fit has other sr st e =
      let text_of : ℕ → PlainValue → List ℕ = λ i w. argument_text (constructor_at cs i) (λ s. shaped_text n w s) in
      let named = and_parts (nat_le (count_of cs) (length (constructors_of n number))) (arguments_have_names n cs) fit.named in
      let lk = counted_at (λ o. takes o (λ s. has_shape v s)) cs k refl has in
      let lj = counted_at (λ o. takes o (λ s. has_shape u s)) cs j refl other in
      let argument = in_parentheses (constructor_at cs k) v in
      let argument' = in_parentheses (constructor_at cs j) u in
      let apart = constructors_apart number cs k j (argument ++ r) (argument' ++ t) fit lk lj refl refl (sym (applied_is number cs k v r) ∙ e ∙ applied_is number cs j u t) in
      let inner = sym (append_assoc (text_of k v) (codes ")") r) ∙ ap (drop 1) apart.1 ∙ append_assoc (text_of j u) (codes ")") t in
      let other_at = subst (λ i. takes (constructor_at cs i) (λ s. has_shape u s) ≡ true) (sym apart.0) other in
      let arguments = argument_apart (constructor_at cs k) v u own (fits_at n cs k named.1 fit.short) has other_at r t (inner ∙ ap (λ i. text_of i u ++ (41 ∷ t)) (sym apart.0)) in
      (ap₂ applied apart.0 arguments.0, arguments.1)
  applied_apart k v own s w r t fit has other sr st e = absurd cc

  -- ---- items

  -- no text of a value begins with the bracket that ends a list
  never_closes : (v : PlainValue) (s : PlainShape) → IsFit n s → has_shape v s ≡ true → (r : List ℕ) → get_or (shaped_text n v s ++ r) 0 0 ≡ 93 → ⊥
  never_closes unit unit_shape fit has r e = omega (arith, e)
  never_closes (boolean false) boolean_shape fit has r e = omega (arith, e)
  never_closes (boolean true) boolean_shape fit has r e = omega (arith, e)
  never_closes (int (pos m)) (int_shape low high) fit has r e = true≢false (sym (decimal_begins m r (omega (arith, int_is_short low high (pos m) fit has))) ∙ ap is_digit e)
  never_closes (int (negsuc m)) (int_shape low high) fit has r e = omega (arith, e)
  never_closes (constant k) (constant_shape number count) fit has r e = true≢false (sym (word_begins (constant_name n number k) r (constant_is_word n spelled number count k fit.named has)) ∙ ap is_letter e)
  never_closes (text bytes) text_shape fit has r e = omega (arith, e)
  never_closes (tuple vs) (tuple_shape ss) fit has r e = omega (arith, e)
  never_closes (bare k) (union_shape number cs) fit has r e =
      true≢false (sym (word_begins (constructor_name n number k) r (constructor_is_word n spelled number cs k fit.named (counted_at is_bare cs k refl has))) ∙ ap is_letter e)
  never_closes (applied k v) (union_shape number cs) fit has r e =
      let argument = in_parentheses (constructor_at cs k) v in
      let word = constructor_is_word n spelled number cs k fit.named (counted_at (λ o. takes o (λ s. has_shape v s)) cs k refl has) in
      true≢false (sym (word_begins (constructor_name n number k) (argument ++ r) word) ∙ ap (λ t. is_letter (get_or t 0 0)) (sym (applied_is number cs k v r)) ∙ ap is_letter e)
  never_closes (list vs) (list_shape s) fit has r e = omega (arith, e)
  never_closes v s fit has r e = cc

  -- one item, and what follows it up to the end
  item_then : (v w : PlainValue) (s : PlainShape) → Apart n v → IsFit n s → has_shape v s ≡ true → has_shape w s ≡ true → (ts us : List (List ℕ)) (end : ℕ) (r t : List ℕ) → is_word_byte end ≡ false → (shaped_text n v s ++ tails ts) ++ (end ∷ r) ≡ (shaped_text n w s ++ tails us) ++ (end ∷ t) → (v ≡ w) × (tails ts ++ (end ∷ r) ≡ tails us ++ (end ∷ t))
  item_then v w s own fit has other ts us end r t stops e =
      own s w (tails ts ++ (end ∷ r)) (tails us ++ (end ∷ t)) fit has other (tails_stop ts end r stops) (tails_stop us end t stops) (sym (append_assoc (shaped_text n v s) (tails ts) (end ∷ r)) ∙ e ∙ append_assoc (shaped_text n w s) (tails us) (end ∷ t))

  -- items are not none
  some_items : (w : PlainValue) (ws : PlainValues) (s : PlainShape) (r t : List ℕ) → IsFit n s → all_have_shape (more w ws) s ≡ true → 93 ∷ r ≡ joined (codes ",") (list_texts n (more w ws) s) ++ (93 ∷ t) → ⊥
  some_items w ws s r t fit has e =
      let texts = list_texts n ws s in
      let all = e ∙ ap (λ x. x ++ (93 ∷ t)) (joined_tails (shaped_text n w s) texts) ∙ append_assoc (shaped_text n w s) (tails texts) (93 ∷ t) in
      never_closes w s fit (and_parts (has_shape w s) (all_have_shape ws s) has).0 (tails texts ++ (93 ∷ t)) (ap (λ x. get_or x 0 0) (sym all))

  no_items : Items n none
  no_items s none r t fit has other e = (refl, ap (drop 1) e)
  no_items s (more w ws) r t fit has other e = absurd (some_items w ws s r t fit other e)

  no_later_items : LaterItems n none
  no_later_items s none r t fit has other e = (refl, ap (drop 1) e)
  no_later_items s (more w ws) r t fit has other e = let first : 93 ≡ 44 = ap (λ x. get_or x 0 0) e in absurd (omega (arith, first))

  module _ (v : PlainValue) (vs : PlainValues) (own : Apart n v) where
    more_items : LaterItems n vs → Items n (more v vs)
    more_items later s none r t fit has other e = absurd (some_items v vs s t r fit has (sym e))
    more_items later s (more w ws) r t fit has other e =
        let its = and_parts (has_shape v s) (all_have_shape vs s) has in
        let others = and_parts (has_shape w s) (all_have_shape ws s) other in
        let one = item_then v w s own fit its.0 others.0 (list_texts n vs s) (list_texts n ws s) 93 r t refl
        (ap (λ x. x ++ (93 ∷ r)) (sym (joined_tails (shaped_text n v s) (list_texts n vs s))) ∙ e ∙ ap (λ x. x ++ (93 ∷ t)) (joined_tails (shaped_text n w s) (list_texts n ws s))) in
        let rest = later s ws r t fit its.1 others.1 one.1 in
        (ap₂ more one.0 rest.0, rest.1)

    more_later_items : LaterItems n vs → LaterItems n (more v vs)
    more_later_items later s none r t fit has other e = let first : 44 ≡ 93 = ap (λ x. get_or x 0 0) e in absurd (omega (arith, first))
    more_later_items later s (more w ws) r t fit has other e =
        let its = and_parts (has_shape v s) (all_have_shape vs s) has in
        let others = and_parts (has_shape w s) (all_have_shape ws s) other in
        let one = item_then v w s own fit its.0 others.0 (list_texts n vs s) (list_texts n ws s) 93 r t refl (ap (drop 1) e) in
        let rest = later s ws r t fit its.1 others.1 one.1 in
        (ap₂ more one.0 rest.0, rest.1)

    more_parts : LaterParts n vs → Parts n (more v vs)
    more_parts later (more_shapes s ss) (more w ws) r t fit has other e =
        let fits = first_fits n s ss fit in
        let its = and_parts (has_shape v s) (have_shapes vs ss) has in
        let others = and_parts (has_shape w s) (have_shapes ws ss) other in
        let one = item_then v w s own fits.0 its.0 others.0 (tuple_texts n vs ss) (tuple_texts n ws ss) 41 r t refl
        (ap (λ x. x ++ (41 ∷ r)) (sym (joined_tails (shaped_text n v s) (tuple_texts n vs ss))) ∙ e ∙ ap (λ x. x ++ (41 ∷ t)) (joined_tails (shaped_text n w s) (tuple_texts n ws ss))) in
        let rest = later ss ws r t fits.1 its.1 others.1 one.1 in
        (ap₂ more one.0 rest.0, rest.1)
    more_parts later ss ws r t fit has other e = absurd cc

    more_later_parts : LaterParts n vs → LaterParts n (more v vs)
    more_later_parts later (more_shapes s ss) (more w ws) r t fit has other e =
        let fits = first_fits n s ss fit in
        let its = and_parts (has_shape v s) (have_shapes vs ss) has in
        let others = and_parts (has_shape w s) (have_shapes ws ss) other in
        let one = item_then v w s own fits.0 its.0 others.0 (tuple_texts n vs ss) (tuple_texts n ws ss) 41 r t refl (ap (drop 1) e) in
        let rest = later ss ws r t fits.1 its.1 others.1 one.1 in
        (ap₂ more one.0 rest.0, rest.1)
    more_later_parts later ss ws r t fit has other e = absurd cc

  no_parts : Parts n none
  no_parts no_shapes none r t fit has other e = (refl, ap (drop 1) e)
  no_parts ss ws r t fit has other e = absurd cc

  no_later_parts : LaterParts n none
  no_later_parts no_shapes none r t fit has other e = (refl, ap (drop 1) e)
  no_later_parts ss ws r t fit has other e = absurd cc

  list_apart : (vs : PlainValues) → Items n vs → Apart n (list vs)
  list_apart vs items (list_shape s) (list ws) r t fit has other sr st e =
      let own = joined (codes ",") (list_texts n vs s) in
      let its = joined (codes ",") (list_texts n ws s) in
      let apart = items s ws r t (record { named = fit.named; short = fit.short }) has other (sym (append_assoc own (codes "]") r) ∙ ap (drop 1) e ∙ append_assoc its (codes "]") t) in
      (ap list apart.0, apart.1)
  list_apart vs items s w r t fit has other sr st e = absurd cc

  tuple_apart : (vs : PlainValues) → Parts n vs → Apart n (tuple vs)
  tuple_apart vs parts (tuple_shape ss) (tuple ws) r t fit has other sr st e =
      let own = joined (codes ",") (tuple_texts n vs ss) in
      let its = joined (codes ",") (tuple_texts n ws ss) in
      let apart = parts ss ws r t (record { named = fit.named; short = fit.short }) has other (sym (append_assoc own (codes ")") r) ∙ ap (drop 1) e ∙ append_assoc its (codes ")") t) in
      (ap tuple apart.0, apart.1)
  tuple_apart vs parts s w r t fit has other sr st e = absurd cc

  -- ---- each value

  mutual
    pub value_apart : (v : PlainValue) → Apart n v
    value_apart unit = unit_apart
    value_apart (boolean b) = boolean_apart b
    value_apart (int z) = int_apart z
    value_apart (constant k) = constant_apart k
    value_apart (text bytes) = text_apart bytes
    value_apart (tuple vs) = tuple_apart vs (values_apart vs).parts
    value_apart (bare k) = bare_apart k
    value_apart (applied k v) = applied_apart k v (value_apart v)
    value_apart (list vs) = list_apart vs (values_apart vs).items

    values_apart : (vs : PlainValues) → AllApart n vs
    values_apart none = record { items = no_items; later_items = no_later_items; parts = no_parts; later_parts = no_later_parts }
    values_apart (more v vs) =
        let own = value_apart v in
        let rest = values_apart vs in
        record {
          items = more_items v vs own rest.later_items;
          later_items = more_later_items v vs own rest.later_items;
          parts = more_parts v vs own rest.later_parts;
          later_parts = more_later_parts v vs own rest.later_parts;
        }

pub values_differ : ValuesDiffer
values_differ n colour v w distinct spelled named short own its e =
    (value_apart n distinct spelled v colour.shape w [] [] (record { named = named; short = short }) own its refl refl (ap (λ t. t ++ []) e)).0
