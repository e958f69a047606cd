-- Lists of numbers by place: one number more, once, in the lists of some places.
use Rattle.std.proofs.Common.{◌≡◌, ℕ, zero, suc, ◌+◌, ◌-◌, ◌<◌, ◌==◌, Bool, true, false, ◌&&◌, ◌||◌, cond, List, [], ◌∷◌, ◌++◌, map, length, get_or, set, take, Some, slice_get, Vec, Global, refl, sym, ap, ◌∙◌, subst, arith, eqb-true}
use Rattle.std.specs.List.{list_any, AllByRecursion}
use Rattle.std.proofs.Math.Bool.{or-false}
use Rattle.std.proofs.lemmas.Bool.{eqb-false}
use Rattle.std.proofs.lemmas.Bool.Decides.{nat_tests}
use Rattle.std.proofs.lemmas.Option.{slice_get_within}
use Rattle.std.proofs.lemmas.List.{take_more, map-append, map-set, get_or-map, get_or-set_other, length-map, length-set}
use Rattle.std.proofs.lemmas.List.Folds.{list_any-append}
use Rattle.std.proofs.lemmas.Grind.{get_or-set_at}
use Rattle.cpn_definitions.specs.Net.{PlainArc}
use Rattle.cpn_definitions.proofs.NumberTests.{equals_itself}
use Rattle.cpn_core.specs.declared.nets.PlaceArc.{PlaceArc}
use Rattle.cpn_core.specs.Nets.{arc_view, arcs_view}
use Rattle.cpn_index.specs.Readers.{numbers_at, ends_with, with_last, AreWith}

-- ---- the last number

last_at : (xs : List ℕ) (n x t : ℕ) → n + 1 ≡ length xs → slice_get xs n ≡ Some x → ends_with t xs ≡ (x == t)
last_at [] n x t long is = absurd (omega arith)
last_at (y ∷ []) zero x t long is = let same : y ≡ x = cc in ap (λ z. z == t) same
last_at (y ∷ []) (suc n) x t long is = absurd (omega arith)
last_at (y ∷ z ∷ zs) zero x t long is = absurd (omega arith)
last_at (y ∷ z ∷ zs) (suc n) x t long is = last_at (z ∷ zs) n x t (omega arith) is

pub last_is : (xs : List ℕ) (x t : ℕ) → Some x ≡ slice_get xs (length xs - 1) → ends_with t xs ≡ (x == t)
last_is xs x t is = let within = slice_get_within xs (length xs - 1) x (sym is) in last_at xs (length xs - 1) x t (omega (arith, within)) (sym is)

-- a list ends with what was put behind it
ends_again : (t : ℕ) (xs : List ℕ) → ends_with t (xs ++ t ∷ []) ≡ true
ends_again t [] = equals_itself t
ends_again t (x ∷ []) = equals_itself t
ends_again t (x ∷ y ∷ ys) = ends_again t (y ∷ ys)

-- and with no number that all of it are below
ends_below : (t : ℕ) (xs : List ℕ) → AllByRecursion (λ x. x < t) xs → ends_with t xs ≡ false
ends_below t [] below = refl
ends_below t (x ∷ []) below = apart x below.0
  where
    apart : (x : ℕ) → x < t → (x == t) ≡ false
    apart x lt = grind (arith, nat_tests)
ends_below t (x ∷ y ∷ ys) below = ends_below t (y ∷ ys) below.1

pub put_behind : (t : ℕ) (xs : List ℕ) → AllByRecursion (λ x. x < t) xs → with_last true t xs ≡ xs ++ t ∷ []
put_behind t xs below = rw (ends_below t xs below) refl

-- ---- once

once : (t : ℕ) (xs : List ℕ) → with_last true t (with_last true t xs) ≡ with_last true t xs
once t xs = split (ends_with t xs) refl
  where
    split : (b : Bool) → ends_with t xs ≡ b → with_last true t (cond b xs (xs ++ t ∷ [])) ≡ cond b xs (xs ++ t ∷ [])
    split true is = rw is refl
    split false is = rw (ends_again t xs) refl

either : (a b : Bool) (t : ℕ) (xs : List ℕ) → with_last (a || b) t xs ≡ with_last b t (with_last a t xs)
either true true t xs = sym (once t xs)
either true false t xs = refl
either false b t xs = refl

-- the number in the lists of some places, and then in those of others
pub with_both : (places others all : ℕ → Bool) (t : ℕ) (old now new : List (Vec ℕ Global)) → AreWith places t old now → AreWith others t now new → ((p : ℕ) → all p ≡ (places p || others p)) → AreWith all t old new
with_both places others all t old now new first second are = record {
  as_many = second.as_many ∙ first.as_many;
  listed = λ p. second.listed p ∙ ap (with_last (others p) t) (first.listed p) ∙ sym (either (places p) (others p) t (numbers_at old p)) ∙ ap (λ b. with_last b t (numbers_at old p)) (sym (are p));
}

-- ---- in the list of one place

module _ (place t : ℕ) (old : List (Vec ℕ Global)) (d w : Vec ℕ Global) (within : place < length old) (is : w.items ≡ with_last true t (get_or old place d).items) where
  abbrev view : Vec ℕ Global → List ℕ
  view numbers = numbers.items

  set_at : (p : ℕ) → numbers_at (set old place w) p ≡ with_last (place == p) t (numbers_at old p)
  set_at p = ap (λ lists. get_or lists p []) (map-set view old place w) ∙ split (place == p) refl
    where
      split : (same : Bool) → (place == p) ≡ same → get_or (set (map view old) place (view w)) p [] ≡ with_last same t (numbers_at old p)
      split true e =
          let at : p ≡ place = sym (eqb-true place p e) in
          let here : get_or (map view old) place [] ≡ view (get_or old place d) = get_or-map view old place d [] within in
          let in_range : place < length (map view old) = let long = length-map old view in omega (arith, within, long) in
          get_or-set_at (map view old) place p (view w) [] at in_range ∙ is ∙ ap (with_last true t) (sym here ∙ ap (numbers_at old) (sym at))
      split false e = get_or-set_other (map view old) place p (view w) [] (λ same. eqb-false place p e (sym same))

  pub with_one : (b : Bool) (new : List (Vec ℕ Global)) → b ≡ true → new ≡ set old place w → AreWith (λ p. (place == p) && b) t old new
  with_one b new holds now = record {
    as_many = ap length now ∙ length-set old place w;
    listed = λ p. ap (λ lists. numbers_at lists p) now ∙ set_at p ∙ ap (λ c. with_last c t (numbers_at old p)) (split (place == p) b holds);
  }
    where
      split : (a b : Bool) → b ≡ true → a ≡ (a && b)
      split true b holds = sym holds
      split false b holds = refl

-- ---- the arcs so far

pub any_next : (f : PlainArc → Bool) (arcs : List PlaceArc) (i : ℕ) (arc : PlaceArc) → i < length arcs → arc ≡ get_or arcs i arc → list_any f (arcs_view (take (i + 1) arcs)) ≡ (list_any f (arcs_view (take i arcs)) || f (arc_view arc))
any_next f arcs i arc lt is =
    ap (λ xs. list_any f (arcs_view xs)) (take_more arcs i arc lt ∙ ap (λ x. take i arcs ++ x ∷ []) (sym is))
    ∙ ap (list_any f) (map-append arc_view (take i arcs) (arc ∷ []))
    ∙ list_any-append f (arcs_view (take i arcs)) (arc_view arc ∷ [])
    ∙ ap (λ b. list_any f (arcs_view (take i arcs)) || b) (or-false (f (arc_view arc)))

pub arc_known : (P : PlainArc → Type 0) (arcs : List PlaceArc) (i : ℕ) (arc : PlaceArc) → i < length arcs → arc ≡ get_or arcs i arc → AllByRecursion P (arcs_view arcs) → P (arc_view arc)
arc_known P [] i arc lt is all = absurd (omega arith)
arc_known P (x ∷ xs) zero arc lt is all = subst (λ (y : PlaceArc). P (arc_view y)) (sym is) all.0
arc_known P (x ∷ xs) (suc i) arc lt is all = arc_known P xs i arc (omega arith) is all.1

-- ---- empty lists

-- one empty list more
pub empty_more : (lists : List (Vec ℕ Global)) (more : Vec ℕ Global) → more.items ≡ [] → ((p : ℕ) → numbers_at lists p ≡ []) → (p : ℕ) → numbers_at (lists ++ more ∷ []) p ≡ []
empty_more [] more none all zero = none
empty_more [] more none all (suc p) = refl
empty_more (xs ∷ lists) more none all zero = all 0
empty_more (xs ∷ lists) more none all (suc p) = empty_more lists more none (λ q. all (suc q)) p
