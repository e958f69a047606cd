-- A part of a root sum is at most one binding term, so there are as many terms as parts just where each part is one.
use Rattle.std.proofs.Common.{◌≡◌, ℕ, zero, suc, ◌≤◌, ◌==◌, pos, negsuc, Bool, true, false, ◌&&◌, cond, List, [], ◌∷◌, ◌++◌, map, length, Option, Some, None, refl, sym, ap, ◌∙◌, arith}
use Rattle.std.proofs.lemmas.Bool.Decides.{nat_tests}
use Rattle.std.proofs.lemmas.List.{length-append, length-map}
use Rattle.cpn_definitions.specs.Value.{int}
use Rattle.cpn_definitions.specs.Inscription.{PlainPattern, literal, ArcInscription, one, times, sum_of, ArcInscriptions, no_inscriptions, more_inscriptions, inscriptions_from}
use Rattle.cpn_definitions.specs.Bindable.{pattern_of, term_with, binding_term, binding_terms, binding_terms_of_each}
use Rattle.cpn_core.specs.declared.inscriptions.BindingTerm.{BindingTerm}
use Rattle.cpn_core.specs.declared.inscriptions.MExpr.{MExpr}
use Rattle.cpn_core.specs.Inscriptions.{multiset_view, term_view}
use Rattle.cpn_stages.specs.Reading.{is_there, each_is_term, is_of_terms}
use Rattle.cpn_index.specs.Readers.{count_of, part_count}

pub parts_counted : (xs : List MExpr) → count_of (inscriptions_from (map multiset_view xs)) ≡ length xs
parts_counted [] = refl
parts_counted (x ∷ xs) = ap (λ (k : ℕ). suc k) (parts_counted xs)

-- ---- of one part

of_term : (k : ℕ) (o : Option PlainPattern) → length (term_with k o) ≡ cond (is_there (term_with k o)) 1 0
of_term k None = refl
of_term k (Some p) = refl

one_or_none : (m : ArcInscription) → length (binding_term m) ≡ cond (is_there (binding_term m)) 1 0
one_or_none (one e) = of_term 1 (pattern_of e)
one_or_none (times (literal (int (pos zero))) e) = refl
one_or_none (times (literal (int (pos (suc k)))) e) = of_term (suc k) (pattern_of e)
one_or_none (times (literal (int (negsuc k))) e) = refl
one_or_none (times (literal v) e) = refl
one_or_none (times k e) = refl
one_or_none m = refl

at_most_one : (m : ArcInscription) → length (binding_term m) ≤ 1
at_most_one m = split (is_there (binding_term m)) (one_or_none m)
  where
    split : (b : Bool) → length (binding_term m) ≡ cond b 1 0 → length (binding_term m) ≤ 1
    split true is = omega (arith, is)
    split false is = omega (arith, is)

one_part : (m : ArcInscription) → (length (binding_term m) == 1) ≡ is_there (binding_term m)
one_part m = split (is_there (binding_term m)) (one_or_none m)
  where
    split : (b : Bool) → length (binding_term m) ≡ cond b 1 0 → (length (binding_term m) == 1) ≡ b
    split true is = rw is refl
    split false is = rw is refl

-- ---- of all parts

same_test : (a b : ℕ) → (suc a == suc b) ≡ (a == b)
same_test a b = grind (arith, nat_tests)

fewer_test : (a b : ℕ) → a ≤ b → (a == suc b) ≡ false
fewer_test a b le = grind (arith, nat_tests)

fewer : (ms : ArcInscriptions) → length (binding_terms_of_each ms) ≤ count_of ms
fewer no_inscriptions = omega arith
fewer (more_inscriptions m ms) =
    let rest = fewer ms in let here = at_most_one m in let whole = length-append (binding_term m) (binding_terms_of_each ms) in omega (arith, rest, here, whole)

each_or_fewer : (ms : ArcInscriptions) → (length (binding_terms_of_each ms) == count_of ms) ≡ each_is_term ms
each_or_fewer no_inscriptions = refl
each_or_fewer (more_inscriptions m ms) = split (each_or_fewer ms) (is_there (binding_term m)) (one_or_none m)
  where
    split : (length (binding_terms_of_each ms) == count_of ms) ≡ each_is_term ms → (b : Bool) → length (binding_term m) ≡ cond b 1 0 → (length (binding_term m ++ binding_terms_of_each ms) == suc (count_of ms)) ≡ (b && each_is_term ms)
    split rest true is =
        let whole : length (binding_term m ++ binding_terms_of_each ms) ≡ suc (length (binding_terms_of_each ms)) = let parts = length-append (binding_term m) (binding_terms_of_each ms) in omega (arith, parts, is) in
        rw whole (same_test (length (binding_terms_of_each ms)) (count_of ms) ∙ rest)
    split rest false is =
        let whole : length (binding_term m ++ binding_terms_of_each ms) ≡ length (binding_terms_of_each ms) = let parts = length-append (binding_term m) (binding_terms_of_each ms) in omega (arith, parts, is) in
        rw whole (fewer_test (length (binding_terms_of_each ms)) (count_of ms) (fewer ms))

as_many_as_parts : (m : ArcInscription) → (length (binding_terms m) == part_count m) ≡ is_of_terms m
as_many_as_parts (sum_of ms) = each_or_fewer ms
as_many_as_parts m = one_part m

-- ---- of what an arc carries

pub carried_of_terms : (terms : List BindingTerm) (m : ArcInscription) → map term_view terms ≡ binding_terms m → (length terms == part_count m) ≡ is_of_terms m
carried_of_terms terms m carried = ap (λ k. k == part_count m) (sym (length-map terms term_view) ∙ ap length carried) ∙ as_many_as_parts m
