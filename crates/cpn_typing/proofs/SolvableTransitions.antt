-- A transition of accepted inscriptions is solvable in each net of what is declared.
use Rattle.std.proofs.Common.{◌≡◌, ℕ, true, List, [], ◌∷◌, ◌++◌, Option, Some, refl, sym, subst, ⊎_elim, Contains}
use Rattle.std.specs.List.{flat_map, AllByRecursion}
use Rattle.cpn_definitions.specs.Outcome.{HasMeaning}
use Rattle.cpn_definitions.specs.Inscription.{PlainExpr, variable}
use Rattle.cpn_definitions.specs.Meaning.{PlainBinding, meaning}
use Rattle.cpn_definitions.specs.Bindable.{variables_of, conjuncts_of, equation, IsEquated}
use Rattle.cpn_definitions.specs.Net.{PlainTransition, PlainNet}
use Rattle.cpn_definitions.specs.Occurrence.{binds}
use Rattle.cpn_definitions.proofs.RisingLists.{IsIn, in_from_contains, contains_from_in, in_append_left, of_one_in}
use Rattle.cpn_trees.specs.Trees.{PlainAst, PlainAsts, no_ast, more_asts}
use Rattle.cpn_trees.specs.DeclTrees.{PlainDecl}
use Rattle.cpn_typing.specs.Types.{PlainTy, bool_type}
use Rattle.cpn_typing.specs.Names.{Declared, nothing_declared, Checked, ok, refused}
use Rattle.cpn_typing.specs.Contexts.{Context, in_guard}
use Rattle.cpn_typing.specs.Rules.{Typed}
use Rattle.cpn_typing.specs.Expressions.{typed}
use Rattle.cpn_typing.specs.TypedValues.{sets_of, HasType}
use Rattle.cpn_typing.specs.Declarations.{all_declared}
use Rattle.cpn_typing.specs.GuardsAndDelays.{checked_guard}
use Rattle.cpn_typing.specs.AcceptedTransitions.{delay_variables, arcs_variables, transition_variables, IsAcceptedTransition, IsNetOf}
use Rattle.cpn_typing.specs.Consistency.{IsConsistent}
use Rattle.cpn_typing.proofs.Outcomes.{Accepts, accepts_at}
use Rattle.cpn_typing.proofs.Acceptance.{accepted_has_meaning}
use Rattle.cpn_typing.proofs.TermsOfForms.{there_is_meaning}
use Rattle.cpn_typing.proofs.Consistent.{accepted_parts, same_accepted, declarations_consistent}
use Rattle.cpn_typing.proofs.MeaningsInNets.{world_of, are_bound}
use Rattle.cpn_definitions.specs.Sound.{IsSolvable}
use Rattle.cpn_typing.specs.Sides.{SidesHave}
use Rattle.cpn_typing.proofs.AcceptedSides.{sides_have, sides_at}

-- ---- what is accepted has a meaning

-- an inscription has a meaning under each binding of its own variables
abbrev HasMeaningWhereBound : PlainNet → PlainExpr → Type 0
HasMeaningWhereBound n e = (xs : List ℕ) (b : PlainBinding) → binds n xs b ≡ true → ((y : ℕ) → Contains (variables_of e) y → Contains xs y) → HasMeaning (meaning n.functions e b 0)

-- what holds of whatever is accepted holds of the answer
accepts_each : {A : Type 0} (P : A → Type 0) (c : Checked A) → ((x : A) → c ≡ ok x → P x) → Accepts P c
accepts_each P (ok x) h = h x refl
accepts_each P (refused r) h = tt

module _ (ds : Declared) (good : IsConsistent ds) (n : PlainNet) (of : IsNetOf ds n) where
  text_has_meaning : (context : Context) (a : PlainAst) (w : Option PlainTy) (r : Typed) → typed ds context a [] w ≡ ok r → HasMeaningWhereBound n r.expr
  text_has_meaning context a w r is xs b bound among =
      subst (λ funs. HasMeaning (meaning funs r.expr b 0)) (sym of.functions_are)
      (there_is_meaning (λ v. HasType (sets_of ds) v r.type_of) (meaning ds.functions r.expr b 0)
      (accepted_has_meaning (world_of ds good b 0) context a [] w r [] is tt
      (are_bound ds good n xs b (variables_of r.expr) of bound (λ x here. in_from_contains xs x (among x (contains_from_in (variables_of r.expr) x here))))))

  -- so have both sides of an equation in a conjunct of a guard
  conjunct_sides : (a : PlainAst) (w : Option PlainTy) (r : Typed) → typed ds in_guard a [] w ≡ ok r → SidesHave (HasMeaningWhereBound n) r.expr
  conjunct_sides a w r is =
      accepts_at (λ (made : Typed). SidesHave (HasMeaningWhereBound n) made.expr) (typed ds in_guard a [] w) r
      (sides_have (HasMeaningWhereBound n) ds in_guard [] (λ tree v. accepts_each (λ (made : Typed). HasMeaningWhereBound n made.expr) (typed ds in_guard tree [] v) (text_has_meaning in_guard tree v)) a w)
      is

  guard_sides : (trees : PlainAsts) (guard : List PlainExpr) → checked_guard ds trees ≡ ok guard → AllByRecursion (SidesHave (HasMeaningWhereBound n)) guard
  guard_sides no_ast guard is = subst (AllByRecursion (SidesHave (HasMeaningWhereBound n))) (same_accepted [] guard is) tt
  guard_sides (more_asts a rest) guard is =
      let first = accepted_parts (typed ds in_guard a [] (Some bool_type)) _ guard is in
      let others = accepted_parts (checked_guard ds rest) _ guard first.2 in
      subst (AllByRecursion (SidesHave (HasMeaningWhereBound n))) (same_accepted (first.0.expr ∷ others.0) guard others.2)
      (conjunct_sides a (Some bool_type) first.0 first.1, guard_sides rest others.0 others.1)

  -- ---- a transition

  equation_sides : (t : PlainTransition) → IsAcceptedTransition ds t → (conjunct left right part : PlainExpr) → Contains t.guard conjunct → Contains (conjuncts_of conjunct) part → part ≡ equation left right
      → HasMeaningWhereBound n left × HasMeaningWhereBound n right
  equation_sides t h conjunct left right part among is same =
      sides_at (HasMeaningWhereBound n) conjunct left right
      (of_one_in (SidesHave (HasMeaningWhereBound n)) t.guard conjunct (guard_sides h.guard_tree t.guard h.guard) (in_from_contains t.guard conjunct among))
      (subst (λ p. IsIn p (conjuncts_of conjunct)) same (in_from_contains (conjuncts_of conjunct) part is))

  -- The law.
  pub accepted_is_solvable : (t : PlainTransition) → IsAcceptedTransition ds t → IsSolvable n t
  accepted_is_solvable t h = record {
    guard_listed = λ x is.
        (h.variables.exact x).1
        (contains_from_in (transition_variables t) x
        (in_append_left (flat_map variables_of t.guard) (delay_variables t.delay ++ (arcs_variables t.inputs ++ arcs_variables t.outputs)) x (in_from_contains (flat_map variables_of t.guard) x is)));
    equations_mean = λ x e is. equated_means x e is;
  }
    where
      equated_means : (x : ℕ) (e : PlainExpr) → IsEquated t x e → HasMeaningWhereBound n e
      equated_means x e is =
          ⊎_elim (λ same. (equation_sides t h is.conjunct (variable x) e is.part is.is_conjunct is.is_part same).1) (λ same. (equation_sides t h is.conjunct e (variable x) is.part is.is_conjunct is.is_part same).0) is.is_equation

  each_solvable : (ts : List PlainTransition) → AllByRecursion (IsAcceptedTransition ds) ts → AllByRecursion (IsSolvable n) ts
  each_solvable [] h = tt
  each_solvable (t ∷ ts) h = (accepted_is_solvable t h.0, each_solvable ts h.1)

  -- The same of a net of such transitions.
  pub accepted_are_solvable : AllByRecursion (IsAcceptedTransition ds) n.transitions → AllByRecursion (IsSolvable n) n.transitions
  accepted_are_solvable h = each_solvable n.transitions h

-- The same after any declarations that are accepted.
pub solvable_after_declarations : (decls : List PlainDecl) (ds : Declared) → all_declared nothing_declared decls ≡ ok ds → (n : PlainNet) → IsNetOf ds n → AllByRecursion (IsAcceptedTransition ds) n.transitions → AllByRecursion (IsSolvable n) n.transitions
solvable_after_declarations decls ds are n of h = accepted_are_solvable ds (declarations_consistent decls ds are) n of h
