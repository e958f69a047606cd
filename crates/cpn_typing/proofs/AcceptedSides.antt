-- Both sides of each equation in an accepted inscription have what each accepted inscription has: the forms, one by one.
use Rattle.std.proofs.Common.{ℕ, Bool, true, false, Option, Some, None, inl, inr, ⊎_elim, subst}
use Rattle.cpn_definitions.specs.Inscription.{Operation, addition, subtraction, multiplication, division, remainder, negation, concatenation, equality, inequality, less_than, at_most, greater_than, at_least, complement, cons, appending, head, tail, list_length, reversal, membership, string_size, component, operation, constructing, calling, tupling, listing, PlainExpr, literal, variable, local, the_time, apply, conjunction, disjunction, PlainExprs, no_exprs, more_exprs, PlainArms}
use Rattle.cpn_definitions.specs.Value as value
use Rattle.cpn_definitions.specs.Bindable.{conjuncts_of, equation}
use Rattle.cpn_definitions.proofs.RisingLists.{IsIn, in_append_cases}
use Rattle.cpn_trees.specs.declared.operators.Infix.{Infix}
use Rattle.cpn_trees.specs.declared.operators.Infix.TheVariants as sign
use Rattle.cpn_trees.specs.declared.operators.Prefix.{Prefix}
use Rattle.cpn_trees.specs.declared.operators.Prefix.TheVariants as front
use Rattle.cpn_trees.specs.Trees.{PlainAst, ast, PlainForm, number, text, truth, empty, time, name, call, unit, tuple, list, let_in, prefixed, infixed, stamped, sum, if_else, case_of, fold, PlainAsts, no_local, more_locals}
use Rattle.cpn_typing.specs.Types.{PlainTy, bool_type, int_type, text_type, unit_type, enumeration, union, tuples, lists, PlainTys, no_types, more_types, same_type}
use Rattle.cpn_typing.specs.Names.{Name, a_variable, a_constant, a_constructor, a_function, Scope, Found, a_local, found, declared, Declared, Refusal, mismatch, Checked, ok, refused, ◌>>=◌, required}
use Rattle.cpn_typing.specs.Contexts.{Context, is_closed, misplaced_delay, may_tell_time}
use Rattle.cpn_typing.specs.Rules.{Typed, Sides, Part, Spot, part, meets, item_wanted, list_wanted, parts_wanted, two, alike, sides, waits, any_type, ordered, a_list, item_of, part_of, part_number, both_of, on_two_of, equated, compared, joined, put_in_front, both_truths, misplaced, infix_rule, on_one_of, prefix_rule, variable_rule, name_rule, time_rule, Called, does, constructs, calls, nothing_called, called_as, Arguments, all_of, parts_of_types, on_list, predeclared_rule, argument_rule, call_rule, list_rule, if_rule, case_rule}
use Rattle.cpn_typing.specs.Expressions.{spot_at, typed, typed_form, typed_parts, typed_items, typed_arms, typed_let}
use Rattle.cpn_typing.proofs.Outcomes.{Accepts, accepts_then, accepts_if}
use Rattle.cpn_typing.specs.Sides.{SidesHave}

-- ---- steps of a check

anything : {A : Type 0} (c : Checked A) → Accepts (λ x. Unit {0}) c
anything (ok x) = tt
anything (refused r) = tt

-- what holds of each last step holds of all of them
then_any : {A B : Type 0} (Q : B → Type 0) (c : Checked A) (f : A → Checked B) → ((x : A) → Accepts Q (f x)) → Accepts Q (c >>= f)
then_any Q c f q = accepts_then (λ x. Unit {0}) Q c f (anything c) (λ x h. q x)

-- ---- the rules

module _ (P : PlainExpr → Type 0) where
  -- both sides of the equations of what is typed
  abbrev Has : Typed → Type 0
  Has r = SidesHave P r.expr

  -- an operation under which there is no equation
  abbrev IsOther : Operation → Type 0
  IsOther o = (es : PlainExprs) → SidesHave P (apply (operation o) es)

  -- whatever is accepted of a part has the property, and its equations have it on both sides
  abbrev PartHas : Part → Type 0
  PartHas a = (w : Option PlainTy) → Accepts (λ (r : Typed). P r.expr) (a.check w)

  abbrev PartSplits : Part → Type 0
  PartSplits a = (w : Option PlainTy) → Accepts Has (a.check w)

  meets_has : (w : Option PlainTy) (at : ℕ) (e : PlainExpr) (t : PlainTy) → SidesHave P e → Accepts Has (meets w at e t)
  meets_has None at e t h = h
  meets_has (Some w) at e t h = accepts_if Has (same_type t w) (mismatch at) (record { expr = e; type_of = t }) (λ is. h)

  on_two_has : (t : PlainTy) (o : Operation) (spot : Spot) (a b : Part) → IsOther o → Accepts Has (on_two_of t o spot a b)
  on_two_has t o spot a b h = then_any Has (both_of t t a b) _ (λ es. meets_has spot.wanted spot.at (apply (operation o) es) t (h es))

  abbrev Both : Sides → Type 0
  Both s = P s.left × P s.right

  alike_has : (test : PlainTy → ℕ → Checked PlainTy) (left_waits : Bool) (w : Option PlainTy) (a b : Part) → PartHas a → PartHas b → Accepts Both (alike test left_waits w a b)
  alike_has test false w a b p q =
      accepts_then (λ (r : Typed). P r.expr) Both (a.check w) _ (p w)
      (λ x k. then_any Both (test x.type_of a.at) _ (λ t. accepts_then (λ (r : Typed). P r.expr) Both (b.check (Some x.type_of)) _ (q (Some x.type_of)) (λ y m. (k, m))))
  alike_has test true w a b p q =
      accepts_then (λ (r : Typed). P r.expr) Both (b.check w) _ (q w)
      (λ y m. then_any Both (test y.type_of b.at) _ (λ t. accepts_then (λ (r : Typed). P r.expr) Both (a.check (Some y.type_of)) _ (p (Some y.type_of)) (λ x k. (k, m))))

  equal_has : (spot : Spot) (a b : Part) → PartHas a → PartHas b → Accepts Has (equated equality spot a b)
  equal_has spot a b p q =
      accepts_then Both Has (sides any_type None a b) _ (alike_has any_type (waits a b) None a b p q)
      (λ s k. meets_has spot.wanted spot.at (apply (operation equality) (two s.left s.right)) bool_type k)

  unequal_has : (spot : Spot) (a b : Part) → Accepts Has (equated inequality spot a b)
  unequal_has spot a b =
      then_any Has (sides any_type None a b) _ (λ s. meets_has spot.wanted spot.at (apply (operation inequality) (two s.left s.right)) bool_type tt)

  compared_has : (o : Operation) (spot : Spot) (a b : Part) → IsOther o → Accepts Has (compared o spot a b)
  compared_has o spot a b h =
      then_any Has (alike ordered false None a b) _ (λ s. meets_has spot.wanted spot.at (apply (operation o) (two s.left s.right)) bool_type (h (two s.left s.right)))

  joined_has : (spot : Spot) (a b : Part) → Accepts Has (joined spot a b)
  joined_has spot a b =
      then_any Has (sides a_list (list_wanted spot.wanted) a b) _ (λ s. meets_has spot.wanted spot.at (apply (operation appending) (two s.left s.right)) s.side tt)

  front_has : (spot : Spot) (a b : Part) → Accepts Has (put_in_front spot a b)
  front_has spot a b =
      then_any Has (a.check (item_wanted spot.wanted)) _
      (λ x. then_any Has (b.check (Some (lists x.type_of))) _ (λ y. meets_has spot.wanted spot.at (apply (operation cons) (two x.expr y.expr)) (lists x.type_of) tt))

  truths_have : (form : PlainExpr → PlainExpr → PlainExpr) (spot : Spot) (a b : Part) → ((d e : PlainExpr) → SidesHave P d → SidesHave P e → SidesHave P (form d e)) → PartSplits a → PartSplits b
      → Accepts Has (both_truths form spot a b)
  truths_have form spot a b h p q =
      accepts_then Has Has (a.check (Some bool_type)) _ (p (Some bool_type))
      (λ x k. accepts_then Has Has (b.check (Some bool_type)) _ (q (Some bool_type)) (λ y l. meets_has spot.wanted spot.at (form x.expr y.expr) bool_type (h x.expr y.expr k l)))

  misplaced_has : (s t : Option PlainTy) (r : Refusal) (a b : Part) → Accepts Has (misplaced s t r a b)
  misplaced_has s t r a b = then_any Has (a.check s) _ (λ x. then_any Has (b.check t) _ (λ y. tt))

  infix_has : (o : Infix) (spot : Spot) (s : ℕ) (a b : Part) → PartHas a → PartHas b → PartSplits a → PartSplits b → Accepts Has (infix_rule o spot s a b)
  infix_has sign.Add spot s a b p q k l = on_two_has int_type addition spot a b (λ es. tt)
  infix_has sign.Subtract spot s a b p q k l = on_two_has int_type subtraction spot a b (λ es. tt)
  infix_has sign.Multiply spot s a b p q k l = on_two_has int_type multiplication spot a b (λ es. tt)
  infix_has sign.Div spot s a b p q k l = on_two_has int_type division spot a b (λ es. tt)
  infix_has sign.Mod spot s a b p q k l = on_two_has int_type remainder spot a b (λ es. tt)
  infix_has sign.Concatenate spot s a b p q k l = on_two_has text_type concatenation spot a b (λ es. tt)
  infix_has sign.Equal spot s a b p q k l = equal_has spot a b p q
  infix_has sign.NotEqual spot s a b p q k l = unequal_has spot a b
  infix_has sign.Less spot s a b p q k l = compared_has less_than spot a b (λ es. tt)
  infix_has sign.LessOrEqual spot s a b p q k l = compared_has at_most spot a b (λ es. tt)
  infix_has sign.Greater spot s a b p q k l = compared_has greater_than spot a b (λ es. tt)
  infix_has sign.GreaterOrEqual spot s a b p q k l = compared_has at_least spot a b (λ es. tt)
  infix_has sign.Andalso spot s a b p q k l = truths_have conjunction spot a b (λ d e g h. (g, h)) k l
  infix_has sign.Orelse spot s a b p q k l = truths_have disjunction spot a b (λ d e g h. tt) k l
  infix_has sign.Cons spot s a b p q k l = front_has spot a b
  infix_has sign.Append spot s a b p q k l = joined_has spot a b
  infix_has sign.Later spot s a b p q k l = misplaced_has None (Some int_type) (misplaced_delay spot.context spot.at s) a b
  infix_has sign.Times spot s a b p q k l = misplaced_has (Some int_type) None (mismatch spot.at) a b

  on_one_has : (t : PlainTy) (o : Operation) (spot : Spot) (a : Part) → IsOther o → Accepts Has (on_one_of t o spot a)
  on_one_has t o spot a h = then_any Has (a.check (Some t)) _ (λ x. meets_has spot.wanted spot.at (apply (operation o) (more_exprs x.expr no_exprs)) t (h (more_exprs x.expr no_exprs)))

  prefix_has : (o : Prefix) (spot : Spot) (a : Part) → Accepts Has (prefix_rule o spot a)
  prefix_has front.Not spot a = on_one_has bool_type complement spot a (λ es. tt)
  prefix_has front.Negate spot a = on_one_has int_type negation spot a (λ es. tt)
  prefix_has (front.Component k) spot a =
      then_any Has (a.check None) _
      (λ x. then_any Has (required (part_of x.type_of k) (mismatch a.at)) _ (λ t. meets_has spot.wanted spot.at (apply (operation (component (part_number k))) (more_exprs x.expr no_exprs)) t tt))

  variable_has : (closed : Bool) (x : ℕ) (t : PlainTy) (spot : Spot) (n : Name) → Accepts Has (variable_rule closed x t spot n)
  variable_has true x t spot n = tt
  variable_has false x t spot n = meets_has spot.wanted spot.at (variable x) t tt

  name_has : (f : Found) (spot : Spot) (n : Name) → Accepts Has (name_rule f spot n)
  name_has (a_local k t) spot n = meets_has spot.wanted spot.at (local k) t tt
  name_has (declared (a_variable x t)) spot n = variable_has (is_closed spot.context) x t spot n
  name_has (declared (a_constant id k)) spot n = meets_has spot.wanted spot.at (literal (value.constant k)) (enumeration id) tt
  name_has (declared (a_constructor id k None)) spot n = meets_has spot.wanted spot.at (apply (constructing k) no_exprs) (union id) tt
  name_has (declared (a_function k no_types t)) spot n = meets_has spot.wanted spot.at (apply (calling k) no_exprs) t tt
  name_has f spot n = tt

  time_has : (may : Bool) (spot : Spot) → Accepts Has (time_rule may spot)
  time_has true spot = meets_has spot.wanted spot.at the_time int_type tt
  time_has false spot = tt

  on_list_has : (o : Operation) (others : PlainTy → PlainTys) (result : PlainTy → PlainTy) (spot : Spot) (xs : Arguments) → IsOther o → Accepts Has (on_list o others result spot xs)
  on_list_has o others result spot xs h =
      then_any Has (xs.first.check None) _
      (λ a. then_any Has (item_of a.type_of xs.first.at) _
      (λ t. then_any Has (parts_of_types (others t) spot.at xs.rest) _ (λ es. meets_has spot.wanted spot.at (apply (operation o) (more_exprs a.expr es)) (result t) (h (more_exprs a.expr es)))))

  predeclared_has : (o : Operation) (spot : Spot) (n : Name) (xs : Arguments) → Accepts Has (predeclared_rule o spot n xs)
  predeclared_has head spot n xs = on_list_has head (λ t. no_types) (λ t. t) spot xs (λ es. tt)
  predeclared_has tail spot n xs = on_list_has tail (λ t. no_types) lists spot xs (λ es. tt)
  predeclared_has list_length spot n xs = on_list_has list_length (λ t. no_types) (λ t. int_type) spot xs (λ es. tt)
  predeclared_has reversal spot n xs = on_list_has reversal (λ t. no_types) lists spot xs (λ es. tt)
  predeclared_has membership spot n xs = on_list_has membership (λ t. more_types t no_types) (λ t. bool_type) spot xs (λ es. tt)
  predeclared_has string_size spot n xs =
      then_any Has (xs.first.check (Some text_type)) _
      (λ a. then_any Has (parts_of_types no_types spot.at xs.rest) _ (λ es. meets_has spot.wanted spot.at (apply (operation string_size) (more_exprs a.expr es)) int_type tt))
  predeclared_has o spot n xs = tt

  call_has : (c : Called) (spot : Spot) (n : Name) (asts : PlainAsts) (xs : Arguments) → Accepts Has (call_rule c spot n asts xs)
  call_has (does o) spot n asts xs = predeclared_has o spot n xs
  call_has (constructs id k t) spot n asts xs = then_any Has (argument_rule asts t xs) _ (λ e. meets_has spot.wanted spot.at (apply (constructing k) (more_exprs e no_exprs)) (union id) tt)
  call_has (calls k ts t) spot n asts xs = then_any Has (parts_of_types ts spot.at (all_of xs)) _ (λ es. meets_has spot.wanted spot.at (apply (calling k) es) t tt)
  call_has nothing_called spot n asts xs = tt

  list_has : (spot : Spot) (t : Option PlainTy) (es : PlainExprs) → Accepts Has (list_rule spot t es)
  list_has spot (Some t) es = meets_has spot.wanted spot.at (apply listing es) (lists t) tt
  list_has spot None es = tt

  if_has : (w : Option PlainTy) (test a b : Part) → Accepts Has (if_rule w test a b)
  if_has w test a b = then_any Has (test.check (Some bool_type)) _ (λ c. then_any Has (sides any_type w a b) _ (λ s. tt))

  arms_have : (at : ℕ) (subject : PlainExpr) (t : Option PlainTy) (arms : PlainArms) → Accepts Has (case_rule at subject t arms)
  arms_have at subject (Some t) arms = tt
  arms_have at subject None arms = tt

  -- ---- the trees

  module _ (ds : Declared) (context : Context) (sc : Scope) (each : (a : PlainAst) (w : Option PlainTy) → Accepts (λ (r : Typed). P r.expr) (typed ds context a sc w)) where
    mutual
      pub sides_have : (a : PlainAst) (w : Option PlainTy) → Accepts Has (typed ds context a sc w)
      sides_have (ast at form) w = form_has form at w

      form_has : (form : PlainForm) (at : ℕ) (w : Option PlainTy) → Accepts Has (typed_form ds context form at sc w)
      form_has (number z) at w = meets_has w at (literal (value.int z)) int_type tt
      form_has (text bytes) at w = meets_has w at (literal (value.text bytes)) text_type tt
      form_has (truth b) at w = meets_has w at (literal (value.boolean b)) bool_type tt
      form_has unit at w = meets_has w at (literal value.unit) unit_type tt
      form_has time at w = time_has (may_tell_time context) (spot_at context at w)
      form_has (name n) at w = name_has (found n sc ds) (spot_at context at w) n
      form_has (call n xs) at w = call_has (called_as (found n sc ds)) (spot_at context at w) n xs _
      form_has (tuple xs) at w = then_any Has (typed_parts ds context xs sc (parts_wanted w)) _ (λ p. meets_has w at (apply tupling p.exprs) (tuples p.types) tt)
      form_has (list xs) at w = then_any Has (typed_items ds context xs sc (item_wanted w)) _ (λ r. list_has (spot_at context at w) r.item_type r.items)
      form_has (prefixed o a) at w = prefix_has o (spot_at context at w) (part a (typed ds context a sc))
      form_has (infixed o s a b) at w =
          infix_has o (spot_at context at w) s (part a (typed ds context a sc)) (part b (typed ds context b sc)) (λ v. each a v) (λ v. each b v) (λ v. sides_have a v) (λ v. sides_have b v)
      form_has (if_else c a b) at w = if_has w (part c (typed ds context c sc)) (part a (typed ds context a sc)) (part b (typed ds context b sc))
      form_has (case_of a arms) at w =
          then_any Has (typed ds context a sc None) _ (λ subject. then_any Has (typed_arms ds context arms sc subject.type_of w) _ (λ r. arms_have at subject.expr r.arm_type r.arms))
      form_has (let_in no_local body) at w = sides_have body w
      form_has (let_in (more_locals n a locals) body) at w =
          then_any Has (typed ds context a sc None) _ (λ first. then_any Has (typed_let ds context locals _ _) _ (λ rest. tt))
      form_has (fold item total xs start body) at w =
          then_any Has (typed ds context xs sc None) _ (λ over. then_any Has (item_of over.type_of _) _ (λ t. then_any Has (typed ds context start sc w) _ (λ s. then_any Has (typed ds context body _ (Some s.type_of)) _ (λ b. tt))))
      form_has empty at w = tt
      form_has (sum xs) at w = then_any Has (typed_parts ds context xs sc no_types) _ (λ p. tt)
      form_has (stamped a s z) at w = then_any Has (typed ds context a sc None) _ (λ r. tt)

-- ---- an equation among the conjuncts

-- where both sides have the property, those of an equation among the conjuncts have it
pub sides_at : (P : PlainExpr → Type 0) (whole left right : PlainExpr) → SidesHave P whole → IsIn (equation left right) (conjuncts_of whole) → P left × P right
sides_at P (conjunction e f) left right h is =
    ⊎_elim (sides_at P e left right h.0) (sides_at P f left right h.1) (in_append_cases (conjuncts_of e) (conjuncts_of f) (equation left right) is)
sides_at P e left right h (inl same) = subst (SidesHave P) same h
sides_at P e left right h (inr none) = absurd none
