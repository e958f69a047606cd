-- What is accepted on the input side of an arc is accepted on its output side, and becomes the same there.
use Rattle.std.proofs.Common.{◌≡◌, ℕ, Bool, true, false, [], ◌∷◌, ◌++◌, Option, Some, None, refl, ap, ◌∙◌}
use Rattle.cpn_definitions.specs.Inscription.{Operation, addition, subtraction, multiplication, division, remainder, negation, concatenation, equality, inequality, less_than, at_most, greater_than, at_least, complement, head, tail, list_length, reversal, membership, string_size, PlainExpr, conjunction, disjunction, ArcInscription, one}
use Rattle.cpn_definitions.specs.Colour.{PlainColour}
use Rattle.cpn_trees.specs.declared.operators.Infix.{Infix}
use Rattle.cpn_trees.specs.declared.operators.Infix.TheVariants as sign
use Rattle.cpn_trees.specs.declared.operators.Prefix.{Prefix}
use Rattle.cpn_trees.specs.declared.operators.Prefix.TheVariants as front
use Rattle.cpn_trees.specs.Trees.{PlainAst, ast, PlainForm, number, text, truth, empty, time, name, call, unit, tuple, list, let_in, prefixed, infixed, sum, if_else, case_of, fold, PlainAsts, no_ast, more_asts, PlainArms, no_arm, more_arms, PlainLocals, no_local, more_locals}
use Rattle.cpn_trees.specs.Trees as tree
use Rattle.cpn_typing.specs.Types.{PlainTy, PlainTys, bool_type, int_type, text_type, lists, tuples, no_types, more_types, type_of_shape}
use Rattle.cpn_typing.specs.Names.{Name, a_variable, a_constant, a_constructor, a_function, Declared, Scope, local_of, Found, a_local, predeclared, declared, nothing, found, Checked, ok, refused, ◌>>=◌}
use Rattle.cpn_typing.specs.Contexts.{on_input, on_output}
use Rattle.cpn_typing.specs.PatternRules.{typed_pattern}
use Rattle.cpn_typing.specs.Rules.{Typed, Parts, Checker, Part, Spot, part, item_wanted, list_wanted, parts_wanted, first_wanted, later_wanted, waits, any_type, ordered, a_list, item_of, offset_of, first_offset, alike, sides, both_of, on_two_of, equated, compared, both_truths, infix_rule, on_one_of, prefix_rule, name_rule, Called, does, constructs, calls, nothing_called, called_as, Arguments, all_of, parts_of_types, on_list, predeclared_rule, argument_rule, call_rule}
use Rattle.cpn_typing.specs.Expressions.{spot_at, typed, typed_form, typed_first, typed_rest, typed_parts, typed_items, typed_arms, typed_let}
use Rattle.cpn_typing.specs.Multisets.{input, output, Site, marked, marked_form, marked_each, marked_arms, marked_let, checked_arc}
use Rattle.cpn_typing.proofs.Outcomes.{Accepts, accepts_at}

-- what the first accepts the second accepts too, as the same
abbrev pub Carries : {A : Type 0} → Checked A → Checked A → Type 0
Carries c d = Accepts (λ x. d ≡ ok x) c

pub carries_same : {A : Type 0} (c : Checked A) → Carries c c
carries_same (ok x) = refl
carries_same (refused r) = tt

accepts_so : {A : Type 0} (P Q : A → Type 0) (c : Checked A) → ((x : A) → P x → Q x) → Accepts P c → Accepts Q c
accepts_so P Q (ok x) f h = f x h
accepts_so P Q (refused r) f h = tt

pub carries_then : {A B : Type 0} (c d : Checked A) (f g : A → Checked B) → Carries c d → ((x : A) → Carries (f x) (g x)) → Carries (c >>= f) (d >>= g)
carries_then (ok x) d f g h k = accepts_so (λ y. g x ≡ ok y) (λ y. (d >>= g) ≡ ok y) (f x) (λ y e. ap (λ o. o >>= g) h ∙ e) (k x)
carries_then (refused r) d f g h k = tt

-- so for parts, which differ in what is found of them alone
abbrev part_with : Part → Checker → Part
part_with a h = record { at = a.at; is_empty = a.is_empty; check = h }

abbrev CarriesAt : Checker → Checker → Type 0
CarriesAt f g = (w : Option PlainTy) → Carries (f w) (g w)

abbrev CarriesParts : (PlainTys → Checked Parts) → (PlainTys → Checked Parts) → Type 0
CarriesParts f g = (ts : PlainTys) → Carries (f ts) (g ts)

-- the same form on both sides
abbrev in_spot : ℕ → Option PlainTy → Spot
in_spot at w = spot_at on_input at w

abbrev out_spot : ℕ → Option PlainTy → Spot
out_spot at w = spot_at on_output at w

-- ---- operators

alike_carries : (test : PlainTy → ℕ → Checked PlainTy) (c : Bool) (w : Option PlainTy) (a b : Part) (h k : Checker) → CarriesAt a.check h → CarriesAt b.check k → Carries (alike test c w a b) (alike test c w (part_with a h) (part_with b k))
alike_carries test false w a b h k p q =
    carries_then (a.check w) (h w) _ _ (p w) (λ x. carries_then (test x.type_of a.at) (test x.type_of a.at) _ _ (carries_same (test x.type_of a.at)) (λ t. carries_then (b.check (Some x.type_of)) (k (Some x.type_of)) _ _ (q (Some x.type_of)) (λ y. refl)))
alike_carries test true w a b h k p q =
    carries_then (b.check w) (k w) _ _ (q w) (λ y. carries_then (test y.type_of b.at) (test y.type_of b.at) _ _ (carries_same (test y.type_of b.at)) (λ t. carries_then (a.check (Some y.type_of)) (h (Some y.type_of)) _ _ (p (Some y.type_of)) (λ x. refl)))

sides_carries : (test : PlainTy → ℕ → Checked PlainTy) (w : Option PlainTy) (a b : Part) (h k : Checker) → CarriesAt a.check h → CarriesAt b.check k → Carries (sides test w a b) (sides test w (part_with a h) (part_with b k))
sides_carries test (Some w) a b h k p q = alike_carries test false (Some w) a b h k p q
sides_carries test None a b h k p q = alike_carries test (waits a b) None a b h k p q

on_two_carries : (t : PlainTy) (o : Operation) (at : ℕ) (w : Option PlainTy) (a b : Part) (h k : Checker) → CarriesAt a.check h → CarriesAt b.check k → Carries (on_two_of t o (in_spot at w) a b) (on_two_of t o (out_spot at w) (part_with a h) (part_with b k))
on_two_carries t o at w a b h k p q =
    carries_then (both_of t t a b) (both_of t t (part_with a h) (part_with b k)) _ _ (carries_then (a.check (Some t)) (h (Some t)) _ _ (p (Some t)) (λ x. carries_then (b.check (Some t)) (k (Some t)) _ _ (q (Some t)) (λ y. refl))) (λ es. carries_same _)

equated_carries : (o : Operation) (at : ℕ) (w : Option PlainTy) (a b : Part) (h k : Checker) → CarriesAt a.check h → CarriesAt b.check k → Carries (equated o (in_spot at w) a b) (equated o (out_spot at w) (part_with a h) (part_with b k))
equated_carries o at w a b h k p q = carries_then (sides any_type None a b) (sides any_type None (part_with a h) (part_with b k)) _ _ (sides_carries any_type None a b h k p q) (λ s. carries_same _)

compared_carries : (o : Operation) (at : ℕ) (w : Option PlainTy) (a b : Part) (h k : Checker) → CarriesAt a.check h → CarriesAt b.check k → Carries (compared o (in_spot at w) a b) (compared o (out_spot at w) (part_with a h) (part_with b k))
compared_carries o at w a b h k p q = carries_then (alike ordered false None a b) (alike ordered false None (part_with a h) (part_with b k)) _ _ (alike_carries ordered false None a b h k p q) (λ s. carries_same _)

truths_carry : (form : PlainExpr → PlainExpr → PlainExpr) (at : ℕ) (w : Option PlainTy) (a b : Part) (h k : Checker) → CarriesAt a.check h → CarriesAt b.check k → Carries (both_truths form (in_spot at w) a b) (both_truths form (out_spot at w) (part_with a h) (part_with b k))
truths_carry form at w a b h k p q = carries_then (a.check (Some bool_type)) (h (Some bool_type)) _ _ (p (Some bool_type)) (λ x. carries_then (b.check (Some bool_type)) (k (Some bool_type)) _ _ (q (Some bool_type)) (λ y. carries_same _))

infix_carries : (o : Infix) (at s : ℕ) (w : Option PlainTy) (a b : Part) (h k : Checker) → CarriesAt a.check h → CarriesAt b.check k → Carries (infix_rule o (in_spot at w) s a b) (infix_rule o (out_spot at w) s (part_with a h) (part_with b k))
infix_carries sign.Add at s w a b h k p q = on_two_carries int_type addition at w a b h k p q
infix_carries sign.Subtract at s w a b h k p q = on_two_carries int_type subtraction at w a b h k p q
infix_carries sign.Multiply at s w a b h k p q = on_two_carries int_type multiplication at w a b h k p q
infix_carries sign.Div at s w a b h k p q = on_two_carries int_type division at w a b h k p q
infix_carries sign.Mod at s w a b h k p q = on_two_carries int_type remainder at w a b h k p q
infix_carries sign.Concatenate at s w a b h k p q = on_two_carries text_type concatenation at w a b h k p q
infix_carries sign.Equal at s w a b h k p q = equated_carries equality at w a b h k p q
infix_carries sign.NotEqual at s w a b h k p q = equated_carries inequality at w a b h k p q
infix_carries sign.Less at s w a b h k p q = compared_carries less_than at w a b h k p q
infix_carries sign.LessOrEqual at s w a b h k p q = compared_carries at_most at w a b h k p q
infix_carries sign.Greater at s w a b h k p q = compared_carries greater_than at w a b h k p q
infix_carries sign.GreaterOrEqual at s w a b h k p q = compared_carries at_least at w a b h k p q
infix_carries sign.Andalso at s w a b h k p q = truths_carry conjunction at w a b h k p q
infix_carries sign.Orelse at s w a b h k p q = truths_carry disjunction at w a b h k p q
infix_carries sign.Cons at s w a b h k p q =
    carries_then (a.check (item_wanted w)) (h (item_wanted w)) _ _ (p (item_wanted w)) (λ x. carries_then (b.check (Some (lists x.type_of))) (k (Some (lists x.type_of))) _ _ (q (Some (lists x.type_of))) (λ y. carries_same _))
infix_carries sign.Append at s w a b h k p q =
    carries_then (sides a_list (list_wanted w) a b) (sides a_list (list_wanted w) (part_with a h) (part_with b k)) _ _ (sides_carries a_list (list_wanted w) a b h k p q) (λ x. carries_same _)
infix_carries sign.Later at s w a b h k p q = carries_then (a.check None) (h None) _ _ (p None) (λ x. carries_then (b.check (Some int_type)) (k (Some int_type)) _ _ (q (Some int_type)) (λ y. tt))
infix_carries sign.Times at s w a b h k p q = carries_then (a.check (Some int_type)) (h (Some int_type)) _ _ (p (Some int_type)) (λ x. carries_then (b.check None) (k None) _ _ (q None) (λ y. tt))

one_carries : (t : PlainTy) (o : Operation) (at : ℕ) (w : Option PlainTy) (a : Part) (h : Checker) → CarriesAt a.check h → Carries (on_one_of t o (in_spot at w) a) (on_one_of t o (out_spot at w) (part_with a h))
one_carries t o at w a h p = carries_then (a.check (Some t)) (h (Some t)) _ _ (p (Some t)) (λ x. carries_same _)

prefix_carries : (o : Prefix) (at : ℕ) (w : Option PlainTy) (a : Part) (h : Checker) → CarriesAt a.check h → Carries (prefix_rule o (in_spot at w) a) (prefix_rule o (out_spot at w) (part_with a h))
prefix_carries front.Not at w a h p = one_carries bool_type complement at w a h p
prefix_carries front.Negate at w a h p = one_carries int_type negation at w a h p
prefix_carries (front.Component k) at w a h p = carries_then (a.check None) (h None) _ _ (p None) (λ x. carries_same _)

name_carries : (f : Found) (at : ℕ) (w : Option PlainTy) (n : Name) → Carries (name_rule f (in_spot at w) n) (name_rule f (out_spot at w) n)
name_carries (a_local k t) at w n = carries_same (name_rule (a_local k t) (in_spot at w) n)
name_carries (predeclared o) at w n = tt
name_carries (declared (a_variable x t)) at w n = carries_same (name_rule (declared (a_variable x t)) (in_spot at w) n)
name_carries (declared (a_constant id k)) at w n = carries_same (name_rule (declared (a_constant id k)) (in_spot at w) n)
name_carries (declared (a_constructor id k None)) at w n = carries_same (name_rule (declared (a_constructor id k None)) (in_spot at w) n)
name_carries (declared (a_constructor id k (Some t))) at w n = tt
name_carries (declared (a_function k no_types t)) at w n = carries_same (name_rule (declared (a_function k no_types t)) (in_spot at w) n)
name_carries (declared (a_function k (more_types s ts) t)) at w n = tt
name_carries nothing at w n = tt

-- ---- calls

-- arguments that differ in what is found of them alone
abbrev arguments_with : Arguments → Checker → (PlainTys → Checked Parts) → Arguments
arguments_with xs h k = record { first = part_with xs.first h; rest = k }

of_types_carry : (ts : PlainTys) (at : ℕ) (f h : PlainTys → Checked Parts) → CarriesParts f h → Carries (parts_of_types ts at f) (parts_of_types ts at h)
of_types_carry ts at f h p = carries_then (f ts) (h ts) _ _ (p ts) (λ x. carries_same _)

all_carry : (xs : Arguments) (h : Checker) (k : PlainTys → Checked Parts) → CarriesAt xs.first.check h → CarriesParts xs.rest k → CarriesParts (all_of xs) (all_of (arguments_with xs h k))
all_carry xs h k p q ts = carries_then (xs.first.check (first_wanted ts)) (h (first_wanted ts)) _ _ (p (first_wanted ts)) (λ a. carries_then (xs.rest (later_wanted ts)) (k (later_wanted ts)) _ _ (q (later_wanted ts)) (λ x. refl))

list_carries : (o : Operation) (others : PlainTy → PlainTys) (result : PlainTy → PlainTy) (at : ℕ) (w : Option PlainTy) (xs : Arguments) (h : Checker) (k : PlainTys → Checked Parts) → CarriesAt xs.first.check h → CarriesParts xs.rest k → Carries (on_list o others result (in_spot at w) xs) (on_list o others result (out_spot at w) (arguments_with xs h k))
list_carries o others result at w xs h k p q =
    carries_then (xs.first.check None) (h None) _ _ (p None) (λ a. carries_then (item_of a.type_of xs.first.at) (item_of a.type_of xs.first.at) _ _ (carries_same (item_of a.type_of xs.first.at))
    (λ t. carries_then (parts_of_types (others t) at xs.rest) (parts_of_types (others t) at k) _ _ (of_types_carry (others t) at xs.rest k q) (λ es. carries_same _)))

predeclared_carries : (o : Operation) (at : ℕ) (w : Option PlainTy) (n : Name) (xs : Arguments) (h : Checker) (k : PlainTys → Checked Parts) → CarriesAt xs.first.check h → CarriesParts xs.rest k → Carries (predeclared_rule o (in_spot at w) n xs) (predeclared_rule o (out_spot at w) n (arguments_with xs h k))
predeclared_carries head at w n xs h k p q = list_carries head (λ t. no_types) (λ t. t) at w xs h k p q
predeclared_carries tail at w n xs h k p q = list_carries tail (λ t. no_types) lists at w xs h k p q
predeclared_carries list_length at w n xs h k p q = list_carries list_length (λ t. no_types) (λ t. int_type) at w xs h k p q
predeclared_carries reversal at w n xs h k p q = list_carries reversal (λ t. no_types) lists at w xs h k p q
predeclared_carries membership at w n xs h k p q = list_carries membership (λ t. more_types t no_types) (λ t. bool_type) at w xs h k p q
predeclared_carries string_size at w n xs h k p q =
    carries_then (xs.first.check (Some text_type)) (h (Some text_type)) _ _ (p (Some text_type)) (λ a. carries_then (parts_of_types no_types at xs.rest) (parts_of_types no_types at k) _ _ (of_types_carry no_types at xs.rest k q) (λ es. carries_same _))
predeclared_carries o at w n xs h k p q = tt

argument_carries : (asts : PlainAsts) (t : PlainTy) (xs : Arguments) (h : Checker) (k : PlainTys → Checked Parts) → CarriesAt xs.first.check h → CarriesParts xs.rest k → Carries (argument_rule asts t xs) (argument_rule asts t (arguments_with xs h k))
argument_carries (more_asts a no_ast) t xs h k p q = carries_then (xs.first.check (Some t)) (h (Some t)) _ _ (p (Some t)) (λ e. refl)
argument_carries asts (tuples ts) xs h k p q =
    carries_then (parts_of_types ts xs.first.at (all_of xs)) (parts_of_types ts xs.first.at (all_of (arguments_with xs h k))) _ _ (of_types_carry ts xs.first.at (all_of xs) (all_of (arguments_with xs h k)) (all_carry xs h k p q)) (λ es. refl)
argument_carries asts t xs h k p q = carries_then (all_of xs no_types) (all_of (arguments_with xs h k) no_types) _ _ (all_carry xs h k p q no_types) (λ x. tt)

call_carries : (c : Called) (at : ℕ) (w : Option PlainTy) (n : Name) (asts : PlainAsts) (xs : Arguments) (h : Checker) (k : PlainTys → Checked Parts) → CarriesAt xs.first.check h → CarriesParts xs.rest k → Carries (call_rule c (in_spot at w) n asts xs) (call_rule c (out_spot at w) n asts (arguments_with xs h k))
call_carries (does o) at w n asts xs h k p q = predeclared_carries o at w n xs h k p q
call_carries (constructs id i t) at w n asts xs h k p q =
    carries_then (argument_rule asts t xs) (argument_rule asts t (arguments_with xs h k)) _ _ (argument_carries asts t xs h k p q) (λ e. carries_same _)
call_carries (calls i ts t) at w n asts xs h k p q =
    carries_then (parts_of_types ts at (all_of xs)) (parts_of_types ts at (all_of (arguments_with xs h k))) _ _ (of_types_carry ts at (all_of xs) (all_of (arguments_with xs h k)) (all_carry xs h k p q)) (λ es. carries_same _)
call_carries nothing_called at w n asts xs h k p q = tt

-- ---- inscriptions of one value

mutual
  typed_carries : (ds : Declared) (a : PlainAst) (sc : Scope) (w : Option PlainTy) → Carries (typed ds on_input a sc w) (typed ds on_output a sc w)
  typed_carries ds (ast at form) sc w = form_carries ds form at sc w

  form_carries : (ds : Declared) (form : PlainForm) (at : ℕ) (sc : Scope) (w : Option PlainTy) → Carries (typed_form ds on_input form at sc w) (typed_form ds on_output form at sc w)
  form_carries ds (number z) at sc w = carries_same (typed_form ds on_input (number z) at sc w)
  form_carries ds (text bytes) at sc w = carries_same (typed_form ds on_input (text bytes) at sc w)
  form_carries ds (truth b) at sc w = carries_same (typed_form ds on_input (truth b) at sc w)
  form_carries ds unit at sc w = carries_same (typed_form ds on_input unit at sc w)
  form_carries ds time at sc w = tt
  form_carries ds (name n) at sc w = name_carries (found n sc ds) at w n
  form_carries ds (call n xs) at sc w =
      call_carries (called_as (found n sc ds)) at w n xs (record { first = record { at = first_offset at xs; is_empty = false; check = typed_first ds on_input xs at sc }; rest = typed_rest ds on_input xs sc }) (typed_first ds on_output xs at sc) (typed_rest ds on_output xs sc)
      (λ v. first_carries ds xs at sc v) (λ ts. rest_carries ds xs sc ts)
  form_carries ds (tuple xs) at sc w =
      carries_then (typed_parts ds on_input xs sc (parts_wanted w)) (typed_parts ds on_output xs sc (parts_wanted w)) _ _ (parts_carry ds xs sc (parts_wanted w)) (λ p. carries_same _)
  form_carries ds (list xs) at sc w =
      carries_then (typed_items ds on_input xs sc (item_wanted w)) (typed_items ds on_output xs sc (item_wanted w)) _ _ (items_carry ds xs sc (item_wanted w)) (λ r. carries_same _)
  form_carries ds (prefixed o a) at sc w = prefix_carries o at w (part a (typed ds on_input a sc)) (typed ds on_output a sc) (λ v. typed_carries ds a sc v)
  form_carries ds (infixed o s a b) at sc w =
      infix_carries o at s w (part a (typed ds on_input a sc)) (part b (typed ds on_input b sc)) (typed ds on_output a sc) (typed ds on_output b sc) (λ v. typed_carries ds a sc v) (λ v. typed_carries ds b sc v)
  form_carries ds (if_else c a b) at sc w =
      carries_then (typed ds on_input c sc (Some bool_type)) (typed ds on_output c sc (Some bool_type)) _ _ (typed_carries ds c sc (Some bool_type))
      (λ test. carries_then (sides any_type w (part a (typed ds on_input a sc)) (part b (typed ds on_input b sc))) (sides any_type w (part a (typed ds on_output a sc)) (part b (typed ds on_output b sc))) _ _
      (sides_carries any_type w (part a (typed ds on_input a sc)) (part b (typed ds on_input b sc)) (typed ds on_output a sc) (typed ds on_output b sc) (λ v. typed_carries ds a sc v) (λ v. typed_carries ds b sc v)) (λ s. refl))
  form_carries ds (case_of a arms) at sc w =
      carries_then (typed ds on_input a sc None) (typed ds on_output a sc None) _ _ (typed_carries ds a sc None)
      (λ s. carries_then (typed_arms ds on_input arms sc s.type_of w) (typed_arms ds on_output arms sc s.type_of w) _ _ (arms_carry ds arms sc s.type_of w) (λ r. carries_same _))
  form_carries ds (let_in locals body) at sc w =
      let_carries ds locals sc (λ inner. typed ds on_input body inner w) (λ inner. typed ds on_output body inner w) (λ inner. typed_carries ds body inner w)
  form_carries ds (fold item total xs start body) at sc w =
      carries_then (typed ds on_input xs sc None) (typed ds on_output xs sc None) _ _ (typed_carries ds xs sc None)
      (λ over. carries_then (item_of over.type_of (offset_of xs)) (item_of over.type_of (offset_of xs)) _ _ (carries_same (item_of over.type_of (offset_of xs)))
      (λ t. carries_then (typed ds on_input start sc w) (typed ds on_output start sc w) _ _ (typed_carries ds start sc w)
      (λ s. carries_then (typed ds on_input body (sc ++ local_of item t ∷ local_of total s.type_of ∷ []) (Some s.type_of)) (typed ds on_output body (sc ++ local_of item t ∷ local_of total s.type_of ∷ []) (Some s.type_of)) _ _
      (typed_carries ds body (sc ++ local_of item t ∷ local_of total s.type_of ∷ []) (Some s.type_of)) (λ b. refl))))
  form_carries ds empty at sc w = tt
  form_carries ds (sum xs) at sc w = carries_then (typed_parts ds on_input xs sc no_types) (typed_parts ds on_output xs sc no_types) _ _ (parts_carry ds xs sc no_types) (λ p. tt)
  form_carries ds (tree.stamped a s z) at sc w = carries_then (typed ds on_input a sc None) (typed ds on_output a sc None) _ _ (typed_carries ds a sc None) (λ r. tt)

  first_carries : (ds : Declared) (xs : PlainAsts) (at : ℕ) (sc : Scope) (w : Option PlainTy) → Carries (typed_first ds on_input xs at sc w) (typed_first ds on_output xs at sc w)
  first_carries ds no_ast at sc w = tt
  first_carries ds (more_asts a xs) at sc w = typed_carries ds a sc w

  rest_carries : (ds : Declared) (xs : PlainAsts) (sc : Scope) (ts : PlainTys) → Carries (typed_rest ds on_input xs sc ts) (typed_rest ds on_output xs sc ts)
  rest_carries ds no_ast sc ts = refl
  rest_carries ds (more_asts a xs) sc ts = parts_carry ds xs sc ts

  parts_carry : (ds : Declared) (xs : PlainAsts) (sc : Scope) (ts : PlainTys) → Carries (typed_parts ds on_input xs sc ts) (typed_parts ds on_output xs sc ts)
  parts_carry ds no_ast sc ts = refl
  parts_carry ds (more_asts a xs) sc ts =
      carries_then (typed ds on_input a sc (first_wanted ts)) (typed ds on_output a sc (first_wanted ts)) _ _ (typed_carries ds a sc (first_wanted ts))
      (λ x. carries_then (typed_parts ds on_input xs sc (later_wanted ts)) (typed_parts ds on_output xs sc (later_wanted ts)) _ _ (parts_carry ds xs sc (later_wanted ts)) (λ r. refl))

  items_carry : (ds : Declared) (xs : PlainAsts) (sc : Scope) (w : Option PlainTy) → Carries (typed_items ds on_input xs sc w) (typed_items ds on_output xs sc w)
  items_carry ds no_ast sc w = refl
  items_carry ds (more_asts a xs) sc w =
      carries_then (typed ds on_input a sc w) (typed ds on_output a sc w) _ _ (typed_carries ds a sc w)
      (λ x. carries_then (typed_items ds on_input xs sc (Some x.type_of)) (typed_items ds on_output xs sc (Some x.type_of)) _ _ (items_carry ds xs sc (Some x.type_of)) (λ r. refl))

  arms_carry : (ds : Declared) (arms : PlainArms) (sc : Scope) (s : PlainTy) (w : Option PlainTy) → Carries (typed_arms ds on_input arms sc s w) (typed_arms ds on_output arms sc s w)
  arms_carry ds no_arm sc s w = refl
  arms_carry ds (more_arms p a arms) sc s w =
      carries_then (typed_pattern ds p sc s) (typed_pattern ds p sc s) _ _ (carries_same (typed_pattern ds p sc s))
      (λ b. carries_then (typed ds on_input a (sc ++ b.locals) w) (typed ds on_output a (sc ++ b.locals) w) _ _ (typed_carries ds a (sc ++ b.locals) w)
      (λ x. carries_then (typed_arms ds on_input arms sc s (Some x.type_of)) (typed_arms ds on_output arms sc s (Some x.type_of)) _ _ (arms_carry ds arms sc s (Some x.type_of)) (λ r. refl)))

  let_carries : (ds : Declared) (locals : PlainLocals) (sc : Scope) (f g : Scope → Checked Typed) → ((inner : Scope) → Carries (f inner) (g inner)) → Carries (typed_let ds on_input locals sc f) (typed_let ds on_output locals sc g)
  let_carries ds no_local sc f g p = p sc
  let_carries ds (more_locals n a locals) sc f g p =
      carries_then (typed ds on_input a sc None) (typed ds on_output a sc None) _ _ (typed_carries ds a sc None)
      (λ x. carries_then (typed_let ds on_input locals (sc ++ local_of n x.type_of ∷ []) f) (typed_let ds on_output locals (sc ++ local_of n x.type_of ∷ []) g) _ _ (let_carries ds locals (sc ++ local_of n x.type_of ∷ []) f g p) (λ r. refl))

-- ---- multisets

abbrev in_site : Declared → PlainTy → Bool → Site
in_site ds t timed = record { declared = ds; side = input; token_type = t; timed = timed }

abbrev out_site : Declared → PlainTy → Bool → Site
out_site ds t timed = record { declared = ds; side = output; token_type = t; timed = timed }

one_token_carries : (ds : Declared) (t : PlainTy) (a : PlainAst) (sc : Scope) → Carries (typed ds on_input a sc (Some t) >>= λ token. ok (one token.expr)) (typed ds on_output a sc (Some t) >>= λ token. ok (one token.expr))
one_token_carries ds t a sc = carries_then (typed ds on_input a sc (Some t)) (typed ds on_output a sc (Some t)) _ _ (typed_carries ds a sc (Some t)) (λ token. refl)

mutual
  marked_carries : (ds : Declared) (t : PlainTy) (timed : Bool) (a : PlainAst) (sc : Scope) → Carries (marked (in_site ds t timed) a sc) (marked (out_site ds t timed) a sc)
  marked_carries ds t timed (ast at form) sc = marked_form_carries ds t timed form at sc

  marked_form_carries : (ds : Declared) (t : PlainTy) (timed : Bool) (form : PlainForm) (at : ℕ) (sc : Scope) → Carries (marked_form (in_site ds t timed) form at sc) (marked_form (out_site ds t timed) form at sc)
  marked_form_carries ds t timed empty at sc = refl
  marked_form_carries ds t timed (infixed sign.Times s k e) at sc =
      carries_then (typed ds on_input k sc (Some int_type)) (typed ds on_output k sc (Some int_type)) _ _ (typed_carries ds k sc (Some int_type))
      (λ count. carries_then (typed ds on_input e sc (Some t)) (typed ds on_output e sc (Some t)) _ _ (typed_carries ds e sc (Some t)) (λ token. refl))
  marked_form_carries ds t timed (infixed sign.Later s m d) at sc =
      carries_then (marked (in_site ds t timed) m sc) (marked (out_site ds t timed) m sc) _ _ (marked_carries ds t timed m sc)
      (λ terms. carries_then (typed ds on_input d sc (Some int_type)) (typed ds on_output d sc (Some int_type)) _ _ (typed_carries ds d sc (Some int_type)) (λ delay. tt))
  marked_form_carries ds t timed (tree.stamped m s z) at sc =
      carries_then (marked (in_site ds t timed) m sc) (marked (out_site ds t timed) m sc) _ _ (marked_carries ds t timed m sc) (λ terms. tt)
  marked_form_carries ds t timed (sum ms) at sc =
      carries_then (marked_each (in_site ds t timed) ms sc) (marked_each (out_site ds t timed) ms sc) _ _ (each_carries ds t timed ms sc) (λ parts. refl)
  marked_form_carries ds t timed (if_else c m n) at sc =
      carries_then (typed ds on_input c sc (Some bool_type)) (typed ds on_output c sc (Some bool_type)) _ _ (typed_carries ds c sc (Some bool_type))
      (λ test. carries_then (marked (in_site ds t timed) m sc) (marked (out_site ds t timed) m sc) _ _ (marked_carries ds t timed m sc)
      (λ first. carries_then (marked (in_site ds t timed) n sc) (marked (out_site ds t timed) n sc) _ _ (marked_carries ds t timed n sc) (λ second. refl)))
  marked_form_carries ds t timed (case_of e arms) at sc =
      carries_then (typed ds on_input e sc None) (typed ds on_output e sc None) _ _ (typed_carries ds e sc None)
      (λ subject. carries_then (marked_arms (in_site ds t timed) arms sc subject.type_of) (marked_arms (out_site ds t timed) arms sc subject.type_of) _ _ (marked_arms_carry ds t timed arms sc subject.type_of) (λ results. refl))
  marked_form_carries ds t timed (let_in locals m) at sc =
      marked_let_carries ds t timed locals sc (marked (in_site ds t timed) m) (marked (out_site ds t timed) m) (λ inner. marked_carries ds t timed m inner)
  marked_form_carries ds t timed form at sc = one_token_carries ds t (ast at form) sc

  each_carries : (ds : Declared) (t : PlainTy) (timed : Bool) (ms : PlainAsts) (sc : Scope) → Carries (marked_each (in_site ds t timed) ms sc) (marked_each (out_site ds t timed) ms sc)
  each_carries ds t timed no_ast sc = refl
  each_carries ds t timed (more_asts m ms) sc =
      carries_then (marked (in_site ds t timed) m sc) (marked (out_site ds t timed) m sc) _ _ (marked_carries ds t timed m sc)
      (λ first. carries_then (marked_each (in_site ds t timed) ms sc) (marked_each (out_site ds t timed) ms sc) _ _ (each_carries ds t timed ms sc) (λ rest. refl))

  marked_arms_carry : (ds : Declared) (t : PlainTy) (timed : Bool) (arms : PlainArms) (sc : Scope) (u : PlainTy) → Carries (marked_arms (in_site ds t timed) arms sc u) (marked_arms (out_site ds t timed) arms sc u)
  marked_arms_carry ds t timed no_arm sc u = refl
  marked_arms_carry ds t timed (more_arms p m arms) sc u =
      carries_then (typed_pattern ds p sc u) (typed_pattern ds p sc u) _ _ (carries_same (typed_pattern ds p sc u))
      (λ b. carries_then (marked (in_site ds t timed) m (sc ++ b.locals)) (marked (out_site ds t timed) m (sc ++ b.locals)) _ _ (marked_carries ds t timed m (sc ++ b.locals))
      (λ result. carries_then (marked_arms (in_site ds t timed) arms sc u) (marked_arms (out_site ds t timed) arms sc u) _ _ (marked_arms_carry ds t timed arms sc u) (λ rest. refl)))

  marked_let_carries : (ds : Declared) (t : PlainTy) (timed : Bool) (locals : PlainLocals) (sc : Scope) (f g : Scope → Checked ArcInscription) → ((inner : Scope) → Carries (f inner) (g inner)) → Carries (marked_let (in_site ds t timed) locals sc f) (marked_let (out_site ds t timed) locals sc g)
  marked_let_carries ds t timed no_local sc f g p = p sc
  marked_let_carries ds t timed (more_locals n e locals) sc f g p =
      carries_then (typed ds on_input e sc None) (typed ds on_output e sc None) _ _ (typed_carries ds e sc None)
      (λ value. carries_then (marked_let (in_site ds t timed) locals (sc ++ local_of n value.type_of ∷ []) f) (marked_let (out_site ds t timed) locals (sc ++ local_of n value.type_of ∷ []) g) _ _ (marked_let_carries ds t timed locals (sc ++ local_of n value.type_of ∷ []) f g p) (λ m. refl))

-- What is accepted on the input side is accepted on the output side, as the same inscription.
pub both_sides : (ds : Declared) (colour : PlainColour) (a : PlainAst) (m : ArcInscription) → checked_arc ds input colour a ≡ ok m → checked_arc ds output colour a ≡ ok m
both_sides ds colour a m is = accepts_at (λ x. checked_arc ds output colour a ≡ ok x) (checked_arc ds input colour a) m (marked_carries ds (type_of_shape colour.shape) colour.timed a []) is
