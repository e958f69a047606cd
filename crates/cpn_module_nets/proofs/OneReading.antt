-- A document is accepted as at most one thing: each step of its reading has at most one outcome.
use Rattle.std.proofs.Common.{◌≡◌, ◌<◌, inl, inr, arith, ℕ, suc, List, [], ◌∷◌, refl, sym, ap, ◌∙◌, subst}
use Rattle.std.specs.Prelude.{Contains}
use Rattle.std.specs.Ordering.{nat_cmp}
use Rattle.std.specs.List.{AllByRecursion}
use Rattle.std.specs.declared.cmp.Ordering.TheVariants.{Less}
use Rattle.cpn_definitions.specs.Lists.{Rises}
use Rattle.cpn_definitions.specs.Net.{PlainTransition, Coloured, PlainNet}
use Rattle.cpn_definitions.proofs.RisingLists.{IsIn, of_one_in, in_from_contains, contains_from_in}
use Rattle.cpn_definitions.proofs.NumberTests.{less_number}
use Rattle.cpn_typing.specs.Names.{Declared, ok, nothing_declared}
use Rattle.cpn_typing.specs.Names as checks
use Rattle.cpn_typing.specs.AcceptedTransitions.{transition_variables}
use Rattle.cpn_typing.proofs.BindableAnswers.{one_answer}
use Rattle.cpn_readings.specs.ItemByItem.{EachIs}
use Rattle.cpn_readings.specs.Relations.{just, such_that, refused_by, HasOne}
use Rattle.cpn_readings.proofs.RelatedReadings.{IsOne, just_one, such_one, then_one, each_so_one, each_one}
use Rattle.cpn_document.specs.Document.{RawDocument}
use Rattle.cpn_module.specs.Checked.{IsChecked}
use Rattle.cpn_module.specs.Hierarchy.{PlainStructure, PlainHierarchy, structure_at}
use Rattle.cpn_module_trees.specs.Trees.{ModuleTrees, AreTrees}
use Rattle.cpn_accepted.specs.Completed.{with_variables, IsCompleted}
use Rattle.cpn_accepted.specs.Nets.{places_at, net_from}
use Rattle.cpn_module_nets.proofs.OneTree.{trees_one}
use Rattle.cpn_module_nets.specs.Reading.{of_modules, read, each_from}
use Rattle.cpn_module_nets.specs.Accepted.{declared_from, places_of, initial_of, bare_transition, arc_of, joined_from}
use Rattle.cpn_module_nets.specs.Transitions.{AreBindable, none_left, these_are, one_is_not}
use Rattle.cpn_module_nets.specs.Documents.{transitions_so, net_so, nets_so, accepted_in}
use Rattle.cpn_module_nets.proofs.CheckedModules.{checks_one}

-- ---- variables

above_all : (x y : ℕ) (xs : List ℕ) → AllByRecursion (λ z. nat_cmp x z ≡ Less) xs → IsIn y xs → x < y
above_all x y xs all is = less_number x y (of_one_in (λ z. nat_cmp x z ≡ Less) xs y all is)

-- lists that rise, with the same items, are one
same_head : (x y : ℕ) (xs ys : List ℕ) → Rises nat_cmp (x ∷ xs) → Rises nat_cmp (y ∷ ys) → IsIn x (y ∷ ys) → IsIn y (x ∷ xs) → x ≡ y
same_head x y xs ys h k (inl e) is = sym e
same_head x y xs ys h k (inr at) (inl e) = e
same_head x y xs ys h k (inr at) (inr is) = let a = above_all y x ys k.0 at in let b = above_all x y xs h.0 is in absurd (omega arith)

in_tail : (x z : ℕ) (xs ys : List ℕ) → AllByRecursion (λ w. nat_cmp x w ≡ Less) xs → IsIn z xs → IsIn z (x ∷ ys) → IsIn z ys
in_tail x z xs ys all is (inl e) = let a = above_all x z xs all is in absurd (omega arith)
in_tail x z xs ys all is (inr at) = at

rising_one : (xs ys : List ℕ) → Rises nat_cmp xs → Rises nat_cmp ys → ((x : ℕ) → IsIn x xs → IsIn x ys) → ((x : ℕ) → IsIn x ys → IsIn x xs) → xs ≡ ys
rising_one [] [] h k to from = refl
rising_one [] (y ∷ ys) h k to from = absurd (from y (inl refl))
rising_one (x ∷ xs) [] h k to from = absurd (to x (inl refl))
rising_one (x ∷ xs) (y ∷ ys) h k to from =
    let first : x ≡ y = same_head x y xs ys h k (to x (inl refl)) (from y (inl refl)) in
    let rest : xs ≡ ys = rising_one xs ys h.1 k.1 (λ z is. in_tail x z xs ys h.0 is (subst (λ w. IsIn z (w ∷ ys)) (sym first) (to z (inr is)))) (λ z is. in_tail y z ys xs k.0 is (subst (λ w. IsIn z (w ∷ xs)) first (from z (inr is)))) in
    cc

completed_one : (bare : PlainTransition) → IsOne (IsCompleted bare)
completed_one bare x y h k = h.same ∙ ap (with_variables bare) vars ∙ sym k.same
  where
    its : (z : PlainTransition) → IsCompleted bare z → transition_variables z ≡ transition_variables bare
    its z is = ap transition_variables is.same

    through : (v w : PlainTransition) → IsCompleted bare v → IsCompleted bare w → (z : ℕ) → IsIn z v.vars → IsIn z w.vars
    through v w a b z is =
        in_from_contains w.vars z ((b.variables.exact z).1 (subst (λ zs. Contains zs z) (its v a ∙ sym (its w b)) ((a.variables.exact z).0 (contains_from_in v.vars z is))))

    vars : x.vars ≡ y.vars
    vars = rising_one x.vars y.vars h.variables.listed k.variables.listed (through x y h k) (through y x k h)

bindable_one : (n : PlainNet) (m i : ℕ) (ts : List PlainTransition) → HasOne (AreBindable n m i ts)
bindable_one n m i [] x y (none_left i') (none_left i'') = refl
bindable_one n m i (t ∷ ts) x y (these_are i' t' ts' r h more) (these_are i'' t'' ts'' s k more_too) = bindable_one n m (suc i) ts x y more more_too
bindable_one n m i (t ∷ ts) x y (these_are i' t' ts' r h more) (one_is_not i'' t'' ts'' s k) = let e = one_answer n t (ok tt) (checks.refused s) h k in cc
bindable_one n m i (t ∷ ts) x y (one_is_not i' t' ts' r h) (these_are i'' t'' ts'' s k more) = let e = one_answer n t (checks.refused r) (ok tt) h k in cc
bindable_one n m i (t ∷ ts) x y (one_is_not i' t' ts' r h) (one_is_not i'' t'' ts'' s k) = let e = one_answer n t (checks.refused r) (checks.refused s) h k in cc

-- ---- the document

transitions_one : (ds : Declared) (places : List Coloured) (m : ℕ) (s : PlainStructure) (trees : ModuleTrees) → HasOne (transitions_so ds places m s trees)
unfolding transitions_so
transitions_one ds places m s trees =
    then_one (just (each_from (bare_transition ds m) 0 trees.transitions)) _ (just_one _) (λ bares. then_one (just (each_from (arc_of ds places m s) 0 trees.arcs)) _ (just_one _) (λ arcs.
    then_one (such_that (EachIs IsCompleted (joined_from 0 bares arcs))) _ (such_one _ (each_one IsCompleted completed_one (joined_from 0 bares arcs))) (λ ts. then_one (AreBindable (net_from ds places ts) m 0 ts) _ (bindable_one (net_from ds places ts) m 0 ts) (λ b. just_one (read ts)))))

net_one : (ds : Declared) (places : List Coloured) (m : ℕ) (s : PlainStructure) (trees : ModuleTrees) → HasOne (net_so ds places m s trees)
unfolding net_so
net_one ds places m s trees = then_one (just (each_from (initial_of ds places m) 0 trees.places)) _ (just_one _) (λ initials. then_one (transitions_so ds places m s trees) _ (transitions_one ds places m s trees) (λ ts. just_one _))

nets_one : (ds : Declared) (places : List (List Coloured)) (h : PlainHierarchy) (trees : List ModuleTrees) → HasOne (nets_so ds places h trees)
unfolding nets_so
nets_one ds places h trees = each_so_one (λ m. net_so ds (places_at places m) m (structure_at h m)) (λ m. net_one ds (places_at places m) m (structure_at h m)) 0 trees

-- A document is accepted as at most one thing.
pub accepted_one : (d : RawDocument) → HasOne (accepted_in d)
unfolding accepted_in
accepted_one d =
    then_one (such_that (AreTrees d)) _ (such_one (AreTrees d) (trees_one d)) (λ trees. then_one (just (declared_from 0 nothing_declared trees.declarations)) _ (just_one _) (λ ds.
    then_one (just (each_from (places_of ds) 0 trees.modules)) _ (just_one _) (λ places. then_one (refused_by of_modules (IsChecked ds d)) _ (checks_one of_modules ds d) (λ h.
    then_one (nets_so ds places h trees.modules) _ (nets_one ds places h trees.modules) (λ nets. just_one _)))))
