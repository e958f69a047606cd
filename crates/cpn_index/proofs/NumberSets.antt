-- Sets of numbers: one number more.
use Rattle.std.proofs.Common.{◌≡◌, ℕ, ◌+◌, ◌<◌, ◌==◌, Bool, true, false, cond, ◌||◌, List, [], ◌∷◌, length, take, get_or, refl, sym, ap, ◌∙◌, arith}
use Rattle.std.specs.BTreeSet as sets
use Rattle.std.specs.BTreeSet.{BTreeSet, contains}
use Rattle.std.specs.Ordering.{is_eq, nat_cmp}
use Rattle.std.proofs.lemmas.Bool.Decides.{nat_tests}
use Rattle.std.proofs.lemmas.List.{take_more}
use Rattle.std.proofs.lemmas.List.Folds.{list_any-append}
use Rattle.cpn_index.specs.Readers.{is_one_of}

pub equal_test : (x t : ℕ) → is_eq (nat_cmp x t) ≡ (t == x)
equal_test x t = grind (arith, nat_tests)

either : (b o n : Bool) → cond b true (o || n) ≡ (o || (n || (b || false)))
either true true n = refl
either true false true = refl
either true false false = refl
either false o true = refl
either false true false = refl
either false false false = refl

pub number_more
    : (numbers : List ℕ) (i : ℕ) (first old new : BTreeSet ℕ) → i < length numbers → sets.Updates nat_cmp old new (get_or numbers i 0) true
    → ((t : ℕ) → contains nat_cmp old t ≡ (contains nat_cmp first t || is_one_of (take i numbers) t)) → (t : ℕ) → contains nat_cmp new t ≡ (contains nat_cmp first t || is_one_of (take (i + 1) numbers) t)
number_more numbers i first old new lt updates before t =
    updates.0 t ∙ ap (λ b. cond b true (contains nat_cmp old t)) (equal_test (get_or numbers i 0) t) ∙ ap (λ b. cond (t == get_or numbers i 0) true b) (before t)
    ∙ either (t == get_or numbers i 0) (contains nat_cmp first t) (is_one_of (take i numbers) t)
    ∙ ap (λ b. contains nat_cmp first t || b) (sym (ap (λ ts. is_one_of ts t) (take_more numbers i 0 lt) ∙ list_any-append (λ number. t == number) (take i numbers) (get_or numbers i 0 ∷ [])))
