-- The line of a monitor tells its name and what it measured: its kind is told by its first bytes, each number ends at the space after it,
-- and the name is the rest of the line.
use Rattle.std.proofs.Common.{◌≡◌, ◌∙◌, refl, sym, ap, ap₂, true≢false, ℕ, suc, ◌<◌, ◌^◌, ◌==◌, true, cond, ℤ, pos, negsuc, List, [], ◌∷◌, ◌++◌, drop, get_or, append_assoc, Option, Some, None, arith}
use Rattle.std.specs.Prelude.{codes, IfSome}
use Rattle.std.specs.Fmt.{decimal}
use Rattle.std.specs.Str.Parse.{digits_value}
use Rattle.std.proofs.lemmas.Fmt.{decimal_is_IsNumeral_wide}
use Rattle.cpn_definitions.specs.DistinctNames.{is_digit, is_word_byte}
use Rattle.cpn_monitor.specs.MonitorValues.{PlainMeasured, counted, sized, valued, counted_to_stop, sized_to_stop, PlainMonitorValue}
use Rattle.cpn_report.specs.MonitorText.{bound_text, measured_text, monitor_text}
use Rattle.cpn_report.specs.Told.{without_time, IsShortInteger, HasShortNumbers, MonitorsDiffer}
use Rattle.cpn_report.specs.ValueText.{int_text}
use Rattle.cpn_report.proofs.BytesApart.{bytes_apart, begins_so, decimal_digits, decimal_bytes}

-- ---- numbers of 128 bits

small : (n : ℕ) → n < 2 ^ 128 → n < 10 ^ 64
small n lt = omega (arith, lt)

-- two numbers are the same, and what follows the space after them
long_apart : (j k : ℕ) (r s : List ℕ) → j < 2 ^ 128 → k < 2 ^ 128 → decimal j ++ (32 ∷ r) ≡ decimal k ++ (32 ∷ s) → (j ≡ k) × (r ≡ s)
long_apart j k r s lj lk e =
    let apart = bytes_apart is_word_byte (decimal j) (decimal k) (32 ∷ r) (32 ∷ s) (decimal_bytes j) (decimal_bytes k) refl refl e in
    (sym (decimal_is_IsNumeral_wide j (small j lj)).1 ∙ ap (digits_value 10) apart.0 ∙ (decimal_is_IsNumeral_wide k (small k lk)).1, ap (drop 1) apart.1)

-- a number begins with a digit
long_begins : (n : ℕ) (r : List ℕ) → n < 2 ^ 128 → is_digit (get_or (decimal n ++ r) 0 0) ≡ true
long_begins n r lt = begins_so is_digit (decimal n) r (decimal_digits n) (decimal_is_IsNumeral_wide n (small n lt)).0.0

-- two integers are the same, and what follows the space after them
integers_apart : (y z : ℤ) (r s : List ℕ) → IsShortInteger y → IsShortInteger z → int_text y ++ (32 ∷ r) ≡ int_text z ++ (32 ∷ s) → (y ≡ z) × (r ≡ s)
integers_apart (pos m) (pos n) r s sy sz e = let apart = long_apart m n r s sy sz e in (ap pos apart.0, apart.1)
integers_apart (pos m) (negsuc n) r s sy sz e = absurd (true≢false (sym (long_begins m (32 ∷ r) sy) ∙ ap (λ t. is_digit (get_or t 0 0)) e))
integers_apart (negsuc m) (pos n) r s sy sz e = absurd (true≢false (sym (long_begins n (32 ∷ s) sz) ∙ ap (λ t. is_digit (get_or t 0 0)) (sym e)))
integers_apart (negsuc m) (negsuc n) r s sy sz e =
    let apart = long_apart (suc m) (suc n) r s sy sz (ap (drop 1) e) in
    (ap negsuc (omega (arith, apart.0)), apart.1)

-- no integer begins as `none` does
none_apart : (z : ℤ) (r s : List ℕ) → IsShortInteger z → codes "none" ++ r ≡ int_text z ++ s → ⊥
none_apart (pos n) r s sz e = true≢false (sym (long_begins n s sz) ∙ ap (λ t. is_digit (get_or t 0 0)) (sym e))
none_apart (negsuc n) r s sz e = let first : 110 ≡ 126 = ap (λ t. get_or t 0 0) e in omega (arith, first)

bounds_apart : (y z : Option ℤ) (r s : List ℕ) → IfSome y IsShortInteger → IfSome z IsShortInteger → bound_text y ++ (32 ∷ r) ≡ bound_text z ++ (32 ∷ s) → (y ≡ z) × (r ≡ s)
bounds_apart None None r s sy sz e = (refl, ap (drop 5) e)
bounds_apart None (Some z) r s sy sz e = absurd (none_apart z (32 ∷ r) (32 ∷ s) sz e)
bounds_apart (Some y) None r s sy sz e = absurd (none_apart y (32 ∷ s) (32 ∷ r) sy (sym e))
bounds_apart (Some y) (Some z) r s sy sz e = let apart = integers_apart y z r s sy sz e in (ap (λ x. Some x) apart.0, apart.1)

-- ---- kinds

-- a number for each kind, and the one that the first bytes of a text tell
abbrev kind : PlainMeasured → ℕ
kind (counted n) = 0
kind (sized least greatest last sum until) = 1
kind (valued count sum least greatest faulted) = 2
kind (counted_to_stop n) = 3
kind (sized_to_stop last) = 4

abbrev kind_in : List ℕ → ℕ
kind_in text = cond (get_or text 0 0 == 99) 0 (cond (get_or text 0 0 == 118) 2 (cond (get_or text 1 0 == 105) 1 (cond (get_or text 5 0 == 99) 3 4)))

kind_told : (m : PlainMeasured) (r : List ℕ) → kind_in (measured_text m ++ r) ≡ kind m
kind_told (counted n) r = refl
kind_told (sized least greatest last sum until) r = refl
kind_told (valued count sum least greatest faulted) r = refl
kind_told (counted_to_stop n) r = refl
kind_told (sized_to_stop last) r = refl

same_kind : (m o : PlainMeasured) (r s : List ℕ) → measured_text m ++ r ≡ measured_text o ++ s → kind m ≡ kind o
same_kind m o r s e = sym (kind_told m r) ∙ ap kind_in e ∙ kind_told o s

-- ---- what is measured, of one kind

-- the numbers of sizes, each with the space after it
abbrev sizes_on : ℕ → ℕ → ℕ → ℕ → List ℕ → List ℕ
sizes_on least greatest last sum r = decimal least ++ (32 ∷ (decimal greatest ++ (32 ∷ (decimal last ++ (32 ∷ (decimal sum ++ r))))))

abbrev integers_on : ℕ → ℤ → Option ℤ → Option ℤ → ℕ → List ℕ → List ℕ
integers_on count sum least greatest faulted r = decimal count ++ (32 ∷ (int_text sum ++ (32 ∷ (bound_text least ++ (32 ∷ (bound_text greatest ++ (32 ∷ (decimal faulted ++ r))))))))

sizes_are : (least greatest last sum until : ℕ) (r : List ℕ) → measured_text (sized least greatest last sum until) ++ r ≡ codes "size " ++ sizes_on least greatest last sum r
sizes_are least greatest last sum until r = simp append_assoc

integers_are : (count : ℕ) (sum : ℤ) (least greatest : Option ℤ) (faulted : ℕ) (r : List ℕ) → measured_text (valued count sum least greatest faulted) ++ r ≡ codes "value " ++ integers_on count sum least greatest faulted r
integers_are count sum least greatest faulted r = simp append_assoc

sizes_apart
    : (a b c d u a' b' c' d' u' : ℕ) (r s : List ℕ)
    → HasShortNumbers (sized a b c d u) → HasShortNumbers (sized a' b' c' d' u')
    → measured_text (sized a b c d u) ++ (32 ∷ r) ≡ measured_text (sized a' b' c' d' u') ++ (32 ∷ s)
    → (sized a b c d 0 ≡ sized a' b' c' d' 0) × (r ≡ s)
sizes_apart a b c d u a' b' c' d' u' r s x y e =
    let same = ap (drop 5) (sym (sizes_are a b c d u (32 ∷ r)) ∙ e ∙ sizes_are a' b' c' d' u' (32 ∷ s)) in
    let first = long_apart a a' _ _ x.0 y.0 same in
    let second = long_apart b b' _ _ x.1 y.1 first.1 in
    let third = long_apart c c' _ _ x.2 y.2 second.1 in
    let fourth = long_apart d d' r s x.3 y.3 third.1 in
    (ap₂ (λ (f : ℕ → ℕ → PlainMeasured) (p : ℕ × ℕ). f p.0 p.1) (ap₂ (λ i j. λ k l. sized i j k l 0) first.0 second.0) (ap₂ (λ k l. (k, l)) third.0 fourth.0), fourth.1)

values_apart
    : (a e : ℕ) (b : ℤ) (c d : Option ℤ) (a' e' : ℕ) (b' : ℤ) (c' d' : Option ℤ) (r s : List ℕ)
    → HasShortNumbers (valued a b c d e) → HasShortNumbers (valued a' b' c' d' e')
    → measured_text (valued a b c d e) ++ (32 ∷ r) ≡ measured_text (valued a' b' c' d' e') ++ (32 ∷ s)
    → (valued a b c d e ≡ valued a' b' c' d' e') × (r ≡ s)
values_apart a e b c d a' e' b' c' d' r s x y is =
    let same = ap (drop 6) (sym (integers_are a b c d e (32 ∷ r)) ∙ is ∙ integers_are a' b' c' d' e' (32 ∷ s)) in
    let first = long_apart a a' _ _ x.0 y.0 same in
    let second = integers_apart b b' _ _ x.1 y.1 first.1 in
    let third = bounds_apart c c' _ _ x.2 y.2 second.1 in
    let fourth = bounds_apart d d' _ _ x.3 y.3 third.1 in
    let fifth = long_apart e e' r s x.4 y.4 fourth.1 in
    (cc, fifth.1)

-- ---- any kinds

-- two things that were measured are the same, but for the time of a sum, and what follows the space after them
measured_apart
    : (m o : PlainMeasured) (r s : List ℕ)
    → HasShortNumbers m → HasShortNumbers o
    → measured_text m ++ (32 ∷ r) ≡ measured_text o ++ (32 ∷ s)
    → (without_time m ≡ without_time o) × (r ≡ s)
measured_apart (counted n) (counted k) r s x y e = let apart = long_apart n k r s x y (ap (drop 6) e) in (ap counted apart.0, apart.1)
measured_apart (sized a b c d u) (sized a' b' c' d' u') r s x y e = sizes_apart a b c d u a' b' c' d' u' r s x y e
measured_apart (valued a b c d f) (valued a' b' c' d' f') r s x y e = values_apart a f b c d a' f' b' c' d' r s x y e
measured_apart (counted_to_stop n) (counted_to_stop k) r s x y e = let apart = long_apart n k r s x y (ap (drop 11) e) in (ap counted_to_stop apart.0, apart.1)
measured_apart (sized_to_stop n) (sized_to_stop k) r s x y e = let apart = long_apart n k r s x y (ap (drop 10) e) in (ap sized_to_stop apart.0, apart.1)
measured_apart m o r s x y e = absurd (omega (arith, same_kind m o (32 ∷ r) (32 ∷ s) e))

-- ---- lines

value_apart : (value other : PlainMonitorValue) → HasShortNumbers value.measured → HasShortNumbers other.measured → monitor_text value ≡ monitor_text other → (value.name ≡ other.name) × (without_time value.measured ≡ without_time other.measured)
unfolding monitor_text
value_apart value other x y e =
    let apart = measured_apart value.measured other.measured value.name other.name x y (ap (drop 8) (sym (is value) ∙ e ∙ is other)) in
    (apart.1, apart.0)
  where
    is : (v : PlainMonitorValue) → codes "monitor " ++ measured_text v.measured ++ codes " " ++ v.name ≡ codes "monitor " ++ (measured_text v.measured ++ (32 ∷ v.name))
    is v = simp append_assoc

pub monitors_differ : MonitorsDiffer
monitors_differ [] [] short short' e = refl
monitors_differ [] (other ∷ others) short short' e = absurd cc
monitors_differ (value ∷ values) [] short short' e = absurd cc
monitors_differ (value ∷ values) (other ∷ others) short short' e =
    let apart = value_apart value other short.0 short'.0 (ap (λ ts. get_or ts 0 []) e) in
    ap₂ (λ (v : PlainMonitorValue) vs. v ∷ vs) (ap₂ (λ name measured. record { name = name; measured = measured }) apart.0 apart.1) (monitors_differ values others short.1 short'.1 (ap (drop 1) e))
