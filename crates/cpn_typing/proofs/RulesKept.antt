-- What each rule accepts means a value of its type or a fault, where its parts do.
use Rattle.std.proofs.Common.{◌≡◌, ℕ, ℤ, Bool, true, false, List, [], ◌∷◌, ◌++◌, Option, Some, None, refl, sym, subst}
use Rattle.std.specs.Ordering.{is_lt, is_le, is_gt, is_ge}
use Rattle.cpn_definitions.specs.Value.{PlainValue}
use Rattle.cpn_definitions.specs.Value as value
use Rattle.cpn_definitions.specs.Inscription.{Operation, addition, subtraction, multiplication, division, remainder, negation, concatenation, equality, inequality, less_than, at_most, greater_than, at_least, complement, cons, appending, head, tail, list_length, reversal, membership, string_size, component, operation, constructing, calling, PlainExpr, literal, variable, local, the_time, apply, conjunction, disjunction, no_exprs, more_exprs}
use Rattle.cpn_definitions.specs.Operations.{operated}
use Rattle.cpn_trees.specs.declared.operators.Infix.{Infix}
use Rattle.cpn_trees.specs.declared.operators.Infix.TheVariants as sign
use Rattle.cpn_trees.specs.declared.operators.Prefix.{Prefix}
use Rattle.cpn_trees.specs.declared.operators.Prefix.TheVariants as front
use Rattle.cpn_trees.specs.Trees.{PlainAsts, no_ast, more_asts}
use Rattle.cpn_typing.specs.Types.{PlainTy, bool_type, int_type, text_type, enumeration, union, tuples, lists, PlainTys, no_types, more_types, same_type, same_types}
use Rattle.cpn_typing.specs.Names.{Name, a_variable, a_constant, a_constructor, a_function, meant_among, Scope, local_of, Found, a_local, predeclared, declared, Refusal, mismatch, Checked, required}
use Rattle.cpn_typing.specs.Contexts.{Context, is_closed, misplaced_delay}
use Rattle.cpn_typing.specs.Rules.{Typed, Parts, Sides, Part, Spot, Checker, two, meets, item_wanted, list_wanted, first_wanted, later_wanted, alike, sides, waits, any_type, ordered, a_list, item_of, part_of, part_number, both_of, on_two_of, equated, compared, joined, put_in_front, both_truths, misplaced, infix_rule, component_rule, on_one_of, prefix_rule, variable_rule, name_rule, time_rule, Called, does, constructs, calls, nothing_called, called_as, Arguments, all_of, parts_of_types, on_list, on_string, predeclared_rule, argument_rule, call_rule, if_rule, fold_rule}
use Rattle.cpn_typing.specs.TypedValues.{HasType, of_int, of_constant}
use Rattle.cpn_typing.specs.Law.{CallMeans, World, IsWanted}
use Rattle.cpn_typing.proofs.Outcomes.{Accepts, accepts_then, accepts_if, accepts_required}
use Rattle.cpn_typing.proofs.NamesKept.{FoundKept}
use Rattle.cpn_typing.proofs.SameTypes.{same_type_is, same_types_is}
use Rattle.cpn_typing.proofs.Operands.{Gives, AreOperands, IsOrdered, alone, pair_of, adds, subtracts, multiplies, divides, leaves, negates, complements, joins, measures, equates, distinguishes, compares, puts, appends, heads, tails, counts, reverses, finds, takes_part}
use Rattle.cpn_typing.proofs.Meanings.{Meaningful, AllMeaningful, no_operands, more_operands, one_operand, two_operands, operation_means, tuple_means, bare_means, construct_means, call_means, conjunction_means, disjunction_means, choose_means, fold_means}

-- a part that is accepted has the wanted type and a meaning
pub record Sound (g : World) (context : Context) (sc : Scope) (w : Option PlainTy) (r : Typed) : Type 0 where
  pub wanted : IsWanted w r.type_of
  pub meaningful : Meaningful g context sc r.expr r.type_of

abbrev pub PartsSound : World → Context → Scope → Parts → Type 0
PartsSound g context sc p = AllMeaningful g context sc p.exprs (AreOperands g.sets p.types)

-- two sides of one type, which has a property
pub record SidesSound (g : World) (context : Context) (sc : Scope) (w : Option PlainTy) (passes : PlainTy → Type 0) (r : Sides) : Type 0 where
  pub wanted : IsWanted w r.side
  pub passed : passes r.side
  pub left_means : Meaningful g context sc r.left r.side
  pub right_means : Meaningful g context sc r.right r.side

-- whatever is accepted of a part is sound
abbrev pub SoundChecker : World → Context → Scope → Checker → Type 0
SoundChecker g context sc f = (w : Option PlainTy) → Accepts (Sound g context sc w) (f w)

abbrev pub SoundParts : World → Context → Scope → (PlainTys → Checked Parts) → Type 0
SoundParts g context sc f = (ts : PlainTys) → Accepts (PartsSound g context sc) (f ts)

pub record SoundArguments (g : World) (context : Context) (sc : Scope) (xs : Arguments) : Type 0 where
  pub first : SoundChecker g context sc xs.first.check
  pub rest : SoundParts g context sc xs.rest

pub at_type : (g : World) (context : Context) (sc : Scope) (e : PlainExpr) (t u : PlainTy) → t ≡ u → Meaningful g context sc e t → Meaningful g context sc e u
at_type g context sc e t u h p = subst (Meaningful g context sc e) h p

-- what is accepted at a type means a value of that type
pub at_wanted : (g : World) (context : Context) (sc : Scope) (t : PlainTy) (r : Typed) → Sound g context sc (Some t) r → Meaningful g context sc r.expr t
at_wanted g context sc t r h = at_type g context sc r.expr r.type_of t h.wanted h.meaningful

pub meets_sound : (g : World) (context : Context) (sc : Scope) (w : Option PlainTy) (at : ℕ) (e : PlainExpr) (t : PlainTy) → Meaningful g context sc e t → Accepts (Sound g context sc w) (meets w at e t)
meets_sound g context sc None at e t p = record { wanted = tt; meaningful = p }
meets_sound g context sc (Some w) at e t p =
    accepts_if (Sound g context sc (Some w)) (same_type t w) (mismatch at) (record { expr = e; type_of = t }) (λ h. record { wanted = same_type_is t w h; meaningful = p })

-- ---- two sides

abbrev pub Tests : (PlainTy → Type 0) → (PlainTy → ℕ → Checked PlainTy) → Type 0
Tests passes test = (t : PlainTy) (at : ℕ) → Accepts (λ u. passes t) (test t at)

any_passes : Tests (λ t. Unit {0}) any_type
any_passes t at = tt

ordered_passes : Tests IsOrdered ordered
ordered_passes int_type at = tt
ordered_passes text_type at = tt
ordered_passes t at = tt

abbrev IsList : PlainTy → Type 0
IsList (lists t) = Unit {0}
IsList t = ⊥

list_passes : Tests IsList a_list
list_passes (lists t) at = tt
list_passes t at = tt

alike_sound : (g : World) (context : Context) (sc : Scope) (passes : PlainTy → Type 0) (test : PlainTy → ℕ → Checked PlainTy) (left_waits : Bool) (w : Option PlainTy) (a b : Part) → Tests passes test → SoundChecker g context sc a.check → SoundChecker g context sc b.check → Accepts (SidesSound g context sc w passes) (alike test left_waits w a b)
alike_sound g context sc passes test false w a b pass p q =
    accepts_then (Sound g context sc w) (SidesSound g context sc w passes) (a.check w) _ (p w)
    (λ x k. accepts_then (λ u. passes x.type_of) (SidesSound g context sc w passes) (test x.type_of a.at) _ (pass x.type_of a.at)
    (λ u o. accepts_then (Sound g context sc (Some x.type_of)) (SidesSound g context sc w passes) (b.check (Some x.type_of)) _ (q (Some x.type_of))
    (λ y m. record {
      wanted = subst (IsWanted w) (sym m.wanted) k.wanted;
      passed = subst passes (sym m.wanted) o;
      left_means = at_type g context sc x.expr x.type_of y.type_of (sym m.wanted) k.meaningful;
      right_means = m.meaningful;
    })))
alike_sound g context sc passes test true w a b pass p q =
    accepts_then (Sound g context sc w) (SidesSound g context sc w passes) (b.check w) _ (q w)
    (λ x k. accepts_then (λ u. passes x.type_of) (SidesSound g context sc w passes) (test x.type_of b.at) _ (pass x.type_of b.at)
    (λ u o. accepts_then (Sound g context sc (Some x.type_of)) (SidesSound g context sc w passes) (a.check (Some x.type_of)) _ (p (Some x.type_of))
    (λ y m. record {
      wanted = subst (IsWanted w) (sym m.wanted) k.wanted;
      passed = subst passes (sym m.wanted) o;
      left_means = m.meaningful;
      right_means = at_type g context sc x.expr x.type_of y.type_of (sym m.wanted) k.meaningful;
    })))

sides_sound : (g : World) (context : Context) (sc : Scope) (passes : PlainTy → Type 0) (test : PlainTy → ℕ → Checked PlainTy) (w : Option PlainTy) (a b : Part) → Tests passes test → SoundChecker g context sc a.check → SoundChecker g context sc b.check → Accepts (SidesSound g context sc w passes) (sides test w a b)
sides_sound g context sc passes test (Some w) a b pass p q = alike_sound g context sc passes test false (Some w) a b pass p q
sides_sound g context sc passes test None a b pass p q = alike_sound g context sc passes test (waits a b) None a b pass p q

-- ---- operators

both_sound : (g : World) (context : Context) (sc : Scope) (s t : PlainTy) (a b : Part) → SoundChecker g context sc a.check → SoundChecker g context sc b.check → Accepts (λ es. AllMeaningful g context sc es (AreOperands g.sets (pair_of s t))) (both_of s t a b)
both_sound g context sc s t a b p q =
    accepts_then (Sound g context sc (Some s)) _ (a.check (Some s)) _ (p (Some s))
    (λ x k. accepts_then (Sound g context sc (Some t)) (λ es. AllMeaningful g context sc es (AreOperands g.sets (pair_of s t))) (b.check (Some t)) _ (q (Some t))
    (λ y l. two_operands g context sc x.expr y.expr s t (at_wanted g context sc s x k) (at_wanted g context sc t y l)))

on_two_sound : (g : World) (context : Context) (sc : Scope) (t : PlainTy) (o : Operation) (spot : Spot) (a b : Part) → ((vs : List PlainValue) → AreOperands g.sets (pair_of t t) vs → Gives g.sets t (operated o vs)) → SoundChecker g context sc a.check → SoundChecker g context sc b.check → Accepts (Sound g context sc spot.wanted) (on_two_of t o spot a b)
on_two_sound g context sc t o spot a b m p q =
    accepts_then _ (Sound g context sc spot.wanted) (both_of t t a b) _ (both_sound g context sc t t a b p q)
    (λ es k. meets_sound g context sc spot.wanted spot.at (apply (operation o) es) t (operation_means g context sc o es (pair_of t t) t k m))

-- an operation on two sides
sides_operation : (g : World) (context : Context) (sc : Scope) (o : Operation) (t u : PlainTy) (d e : PlainExpr) → Meaningful g context sc d t → Meaningful g context sc e t → ((vs : List PlainValue) → AreOperands g.sets (pair_of t t) vs → Gives g.sets u (operated o vs)) → Meaningful g context sc (apply (operation o) (two d e)) u
sides_operation g context sc o t u d e p q m = operation_means g context sc o (two d e) (pair_of t t) u (two_operands g context sc d e t t p q) m

equated_sound : (g : World) (context : Context) (sc : Scope) (o : Operation) (spot : Spot) (a b : Part) → ((t : PlainTy) (vs : List PlainValue) → AreOperands g.sets (pair_of t t) vs → Gives g.sets bool_type (operated o vs)) → SoundChecker g context sc a.check → SoundChecker g context sc b.check → Accepts (Sound g context sc spot.wanted) (equated o spot a b)
equated_sound g context sc o spot a b m p q =
    accepts_then (SidesSound g context sc None (λ t. Unit {0})) (Sound g context sc spot.wanted) (sides any_type None a b) _ (sides_sound g context sc (λ t. Unit {0}) any_type None a b any_passes p q)
    (λ s k. meets_sound g context sc spot.wanted spot.at (apply (operation o) (two s.left s.right)) bool_type (sides_operation g context sc o s.side bool_type s.left s.right k.left_means k.right_means (m s.side)))

compared_sound : (g : World) (context : Context) (sc : Scope) (o : Operation) (spot : Spot) (a b : Part) → ((t : PlainTy) → IsOrdered t → (vs : List PlainValue) → AreOperands g.sets (pair_of t t) vs → Gives g.sets bool_type (operated o vs)) → SoundChecker g context sc a.check → SoundChecker g context sc b.check → Accepts (Sound g context sc spot.wanted) (compared o spot a b)
compared_sound g context sc o spot a b m p q =
    accepts_then (SidesSound g context sc None IsOrdered) (Sound g context sc spot.wanted) (alike ordered false None a b) _ (alike_sound g context sc IsOrdered ordered false None a b ordered_passes p q)
    (λ s k. meets_sound g context sc spot.wanted spot.at (apply (operation o) (two s.left s.right)) bool_type (sides_operation g context sc o s.side bool_type s.left s.right k.left_means k.right_means (m s.side k.passed)))

appends_sides : (g : World) (t : PlainTy) → IsList t → (vs : List PlainValue) → AreOperands g.sets (pair_of t t) vs → Gives g.sets t (operated appending vs)
appends_sides g (lists t) h = appends g.sets t
appends_sides g t h = absurd h

joined_sound : (g : World) (context : Context) (sc : Scope) (spot : Spot) (a b : Part) → SoundChecker g context sc a.check → SoundChecker g context sc b.check → Accepts (Sound g context sc spot.wanted) (joined spot a b)
joined_sound g context sc spot a b p q =
    accepts_then (SidesSound g context sc (list_wanted spot.wanted) IsList) (Sound g context sc spot.wanted) (sides a_list (list_wanted spot.wanted) a b) _ (sides_sound g context sc IsList a_list (list_wanted spot.wanted) a b list_passes p q)
    (λ s k. meets_sound g context sc spot.wanted spot.at (apply (operation appending) (two s.left s.right)) s.side (sides_operation g context sc appending s.side s.side s.left s.right k.left_means k.right_means (appends_sides g s.side k.passed)))

front_sound : (g : World) (context : Context) (sc : Scope) (spot : Spot) (a b : Part) → SoundChecker g context sc a.check → SoundChecker g context sc b.check → Accepts (Sound g context sc spot.wanted) (put_in_front spot a b)
front_sound g context sc spot a b p q =
    accepts_then (Sound g context sc (item_wanted spot.wanted)) (Sound g context sc spot.wanted) (a.check (item_wanted spot.wanted)) _ (p (item_wanted spot.wanted))
    (λ x k. accepts_then (Sound g context sc (Some (lists x.type_of))) (Sound g context sc spot.wanted) (b.check (Some (lists x.type_of))) _ (q (Some (lists x.type_of)))
    (λ y l. meets_sound g context sc spot.wanted spot.at (apply (operation cons) (two x.expr y.expr)) (lists x.type_of)
    (operation_means g context sc cons (two x.expr y.expr) (pair_of x.type_of (lists x.type_of)) (lists x.type_of)
    (two_operands g context sc x.expr y.expr x.type_of (lists x.type_of) k.meaningful (at_wanted g context sc (lists x.type_of) y l)) (puts g.sets x.type_of))))

truths_sound : (g : World) (context : Context) (sc : Scope) (form : PlainExpr → PlainExpr → PlainExpr) (spot : Spot) (a b : Part) → ((d e : PlainExpr) → Meaningful g context sc d bool_type → Meaningful g context sc e bool_type → Meaningful g context sc (form d e) bool_type) → SoundChecker g context sc a.check → SoundChecker g context sc b.check → Accepts (Sound g context sc spot.wanted) (both_truths form spot a b)
truths_sound g context sc form spot a b m p q =
    accepts_then (Sound g context sc (Some bool_type)) (Sound g context sc spot.wanted) (a.check (Some bool_type)) _ (p (Some bool_type))
    (λ x k. accepts_then (Sound g context sc (Some bool_type)) (Sound g context sc spot.wanted) (b.check (Some bool_type)) _ (q (Some bool_type))
    (λ y l. meets_sound g context sc spot.wanted spot.at (form x.expr y.expr) bool_type (m x.expr y.expr (at_wanted g context sc bool_type x k) (at_wanted g context sc bool_type y l))))

misplaced_sound : (g : World) (context : Context) (sc : Scope) (s t w : Option PlainTy) (r : Refusal) (a b : Part) → SoundChecker g context sc a.check → SoundChecker g context sc b.check → Accepts (Sound g context sc w) (misplaced s t r a b)
misplaced_sound g context sc s t w r a b p q =
    accepts_then (Sound g context sc s) (Sound g context sc w) (a.check s) _ (p s)
    (λ x k. accepts_then (Sound g context sc t) (Sound g context sc w) (b.check t) _ (q t) (λ y l. tt))

pub infix_sound : (g : World) (context : Context) (sc : Scope) (o : Infix) (spot : Spot) (s : ℕ) (a b : Part) → SoundChecker g context sc a.check → SoundChecker g context sc b.check → Accepts (Sound g context sc spot.wanted) (infix_rule o spot s a b)
infix_sound g context sc sign.Add spot s a b p q = on_two_sound g context sc int_type addition spot a b (adds g.sets) p q
infix_sound g context sc sign.Subtract spot s a b p q = on_two_sound g context sc int_type subtraction spot a b (subtracts g.sets) p q
infix_sound g context sc sign.Multiply spot s a b p q = on_two_sound g context sc int_type multiplication spot a b (multiplies g.sets) p q
infix_sound g context sc sign.Div spot s a b p q = on_two_sound g context sc int_type division spot a b (divides g.sets) p q
infix_sound g context sc sign.Mod spot s a b p q = on_two_sound g context sc int_type remainder spot a b (leaves g.sets) p q
infix_sound g context sc sign.Concatenate spot s a b p q = on_two_sound g context sc text_type concatenation spot a b (joins g.sets) p q
infix_sound g context sc sign.Equal spot s a b p q = equated_sound g context sc equality spot a b (equates g.sets) p q
infix_sound g context sc sign.NotEqual spot s a b p q = equated_sound g context sc inequality spot a b (distinguishes g.sets) p q
infix_sound g context sc sign.Less spot s a b p q = compared_sound g context sc less_than spot a b (compares g.sets is_lt) p q
infix_sound g context sc sign.LessOrEqual spot s a b p q = compared_sound g context sc at_most spot a b (compares g.sets is_le) p q
infix_sound g context sc sign.Greater spot s a b p q = compared_sound g context sc greater_than spot a b (compares g.sets is_gt) p q
infix_sound g context sc sign.GreaterOrEqual spot s a b p q = compared_sound g context sc at_least spot a b (compares g.sets is_ge) p q
infix_sound g context sc sign.Andalso spot s a b p q = truths_sound g context sc conjunction spot a b (conjunction_means g context sc) p q
infix_sound g context sc sign.Orelse spot s a b p q = truths_sound g context sc disjunction spot a b (disjunction_means g context sc) p q
infix_sound g context sc sign.Cons spot s a b p q = front_sound g context sc spot a b p q
infix_sound g context sc sign.Append spot s a b p q = joined_sound g context sc spot a b p q
infix_sound g context sc sign.Later spot s a b p q = misplaced_sound g context sc None (Some int_type) spot.wanted (misplaced_delay spot.context spot.at s) a b p q
infix_sound g context sc sign.Times spot s a b p q = misplaced_sound g context sc (Some int_type) None spot.wanted (mismatch spot.at) a b p q

one_operation : (g : World) (context : Context) (sc : Scope) (o : Operation) (s t : PlainTy) (e : PlainExpr) → Meaningful g context sc e s → ((vs : List PlainValue) → AreOperands g.sets (alone s) vs → Gives g.sets t (operated o vs)) → Meaningful g context sc (apply (operation o) (more_exprs e no_exprs)) t
one_operation g context sc o s t e p m = operation_means g context sc o (more_exprs e no_exprs) (alone s) t (one_operand g context sc e s p) m

on_one_sound : (g : World) (context : Context) (sc : Scope) (t : PlainTy) (o : Operation) (spot : Spot) (a : Part) → ((vs : List PlainValue) → AreOperands g.sets (alone t) vs → Gives g.sets t (operated o vs)) → SoundChecker g context sc a.check → Accepts (Sound g context sc spot.wanted) (on_one_of t o spot a)
on_one_sound g context sc t o spot a m p =
    accepts_then (Sound g context sc (Some t)) (Sound g context sc spot.wanted) (a.check (Some t)) _ (p (Some t))
    (λ x k. meets_sound g context sc spot.wanted spot.at (apply (operation o) (more_exprs x.expr no_exprs)) t (one_operation g context sc o t t x.expr (at_wanted g context sc t x k) m))

component_sound : (g : World) (context : Context) (sc : Scope) (k : ℤ) (spot : Spot) (a : Part) → SoundChecker g context sc a.check → Accepts (Sound g context sc spot.wanted) (component_rule k spot a)
component_sound g context sc k spot a p =
    accepts_then (Sound g context sc None) (Sound g context sc spot.wanted) (a.check None) _ (p None)
    (λ x h. accepts_then (λ t. part_of x.type_of k ≡ Some t) (Sound g context sc spot.wanted) (required (part_of x.type_of k) (mismatch a.at)) _ (accepts_required (part_of x.type_of k) (mismatch a.at))
    (λ t e. meets_sound g context sc spot.wanted spot.at (apply (operation (component (part_number k))) (more_exprs x.expr no_exprs)) t
    (one_operation g context sc (component (part_number k)) x.type_of t x.expr h.meaningful (takes_part g.sets x.type_of t k e))))

pub prefix_sound : (g : World) (context : Context) (sc : Scope) (o : Prefix) (spot : Spot) (a : Part) → SoundChecker g context sc a.check → Accepts (Sound g context sc spot.wanted) (prefix_rule o spot a)
prefix_sound g context sc front.Not spot a p = on_one_sound g context sc bool_type complement spot a (complements g.sets) p
prefix_sound g context sc front.Negate spot a p = on_one_sound g context sc int_type negation spot a (negates g.sets) p
prefix_sound g context sc (front.Component k) spot a p = component_sound g context sc k spot a p

-- ---- names

-- what reads no variable and means a value of its type whatever the locals are
pub constant_means : (g : World) (context : Context) (sc : Scope) (v : PlainValue) (t : PlainTy) → HasType g.sets v t → Meaningful g context sc (literal v) t
constant_means g context sc v t h = record { means = λ ls f b. h; reads = tt }

variable_sound : (g : World) (sc : Scope) (closed : Bool) (x : ℕ) (t : PlainTy) (spot : Spot) (n : Name) → is_closed spot.context ≡ closed → meant_among n g.declared.names ≡ Some (a_variable x t) → Accepts (Sound g spot.context sc spot.wanted) (variable_rule closed x t spot n)
variable_sound g sc true x t spot n c e = tt
variable_sound g sc false x t spot n c e =
    meets_sound g spot.context sc spot.wanted spot.at (variable x) t (record { means = λ ls f b. b.0 n t e; reads = ((c, (n, (t, e))), tt) })

local_means : (g : World) (context : Context) (sc : Scope) (n : Name) (k : ℕ) (t : PlainTy) → FoundKept g sc n (a_local k t) → Meaningful g context sc (local k) t
local_means g context sc n k t h = record { means = λ ls f b. h ls f; reads = tt }

pub name_sound : (g : World) (sc : Scope) (spot : Spot) (n : Name) (f : Found) → FoundKept g sc n f → Accepts (Sound g spot.context sc spot.wanted) (name_rule f spot n)
name_sound g sc spot n (a_local k t) h = meets_sound g spot.context sc spot.wanted spot.at (local k) t (local_means g spot.context sc n k t h)
name_sound g sc spot n (declared (a_variable x t)) h = variable_sound g sc (is_closed spot.context) x t spot n refl h
name_sound g sc spot n (declared (a_constant id k)) h =
    meets_sound g spot.context sc spot.wanted spot.at (literal (value.constant k)) (enumeration id) (constant_means g spot.context sc (value.constant k) (enumeration id) (of_constant id k (g.kept n (a_constant id k) h)))
name_sound g sc spot n (declared (a_constructor id k None)) h =
    meets_sound g spot.context sc spot.wanted spot.at (apply (constructing k) no_exprs) (union id) (bare_means g spot.context sc id k (g.kept n (a_constructor id k None) h))
name_sound g sc spot n (declared (a_function k no_types t)) h =
    meets_sound g spot.context sc spot.wanted spot.at (apply (calling k) no_exprs) t (call_means g spot.context sc k no_exprs no_types t (no_operands g spot.context sc) (g.kept n (a_function k no_types t) h))
name_sound g sc spot n f h = tt

pub time_sound : (g : World) (context : Context) (sc : Scope) (may : Bool) (spot : Spot) → Accepts (Sound g context sc spot.wanted) (time_rule may spot)
time_sound g context sc true spot = meets_sound g context sc spot.wanted spot.at the_time int_type (record { means = λ ls f b. of_int _; reads = tt })
time_sound g context sc false spot = tt

-- ---- calls

-- what is called is kept
abbrev pub CalledKept : World → Called → Type 0
CalledKept g (does o) = Unit {0}
CalledKept g (constructs id k t) = g.sets.constructor id k ≡ Some (Some t)
CalledKept g (calls k ts t) = CallMeans g.sets g.setting.calls k ts t
CalledKept g nothing_called = Unit {0}

pub called_kept : (g : World) (sc : Scope) (n : Name) (f : Found) → FoundKept g sc n f → CalledKept g (called_as f)
called_kept g sc n (predeclared o) h = tt
called_kept g sc n (declared (a_constructor id k (Some t))) h = g.kept n (a_constructor id k (Some t)) h
called_kept g sc n (declared (a_function k (more_types t ts) r)) h = g.kept n (a_function k (more_types t ts) r) h
called_kept g sc n f h = tt

all_sound : (g : World) (context : Context) (sc : Scope) (xs : Arguments) → SoundArguments g context sc xs → SoundParts g context sc (all_of xs)
all_sound g context sc xs p ts =
    accepts_then (Sound g context sc (first_wanted ts)) (PartsSound g context sc) (xs.first.check (first_wanted ts)) _ (p.first (first_wanted ts))
    (λ x k. accepts_then (PartsSound g context sc) (PartsSound g context sc) (xs.rest (later_wanted ts)) _ (p.rest (later_wanted ts))
    (λ r l. more_operands g context sc x.expr r.exprs x.type_of r.types k.meaningful l))

types_sound : (g : World) (context : Context) (sc : Scope) (ts : PlainTys) (at : ℕ) (parts : PlainTys → Checked Parts) → SoundParts g context sc parts → Accepts (λ es. AllMeaningful g context sc es (AreOperands g.sets ts)) (parts_of_types ts at parts)
types_sound g context sc ts at parts p =
    accepts_then (PartsSound g context sc) (λ es. AllMeaningful g context sc es (AreOperands g.sets ts)) (parts ts) _ (p ts)
    (λ x m. accepts_if (λ es. AllMeaningful g context sc es (AreOperands g.sets ts)) (same_types x.types ts) (mismatch at) x.exprs
    (λ e. subst (λ us. AllMeaningful g context sc x.exprs (AreOperands g.sets us)) (same_types_is x.types ts e) m))

item_of_lists : (t : PlainTy) (at : ℕ) → Accepts (λ u. t ≡ lists u) (item_of t at)
item_of_lists (lists t) at = refl
item_of_lists t at = tt

on_list_sound : (g : World) (context : Context) (sc : Scope) (o : Operation) (others : PlainTy → PlainTys) (result : PlainTy → PlainTy) (spot : Spot) (xs : Arguments) → ((t : PlainTy) (vs : List PlainValue) → AreOperands g.sets (more_types (lists t) (others t)) vs → Gives g.sets (result t) (operated o vs)) → SoundArguments g context sc xs → Accepts (Sound g context sc spot.wanted) (on_list o others result spot xs)
on_list_sound g context sc o others result spot xs m p =
    accepts_then (Sound g context sc None) (Sound g context sc spot.wanted) (xs.first.check None) _ (p.first None)
    (λ x h. accepts_then (λ t. x.type_of ≡ lists t) (Sound g context sc spot.wanted) (item_of x.type_of xs.first.at) _ (item_of_lists x.type_of xs.first.at)
    (λ t e. accepts_then (λ es. AllMeaningful g context sc es (AreOperands g.sets (others t))) (Sound g context sc spot.wanted) (parts_of_types (others t) spot.at xs.rest) _ (types_sound g context sc (others t) spot.at xs.rest p.rest)
    (λ es k. meets_sound g context sc spot.wanted spot.at (apply (operation o) (more_exprs x.expr es)) (result t)
    (operation_means g context sc o (more_exprs x.expr es) (more_types (lists t) (others t)) (result t)
    (more_operands g context sc x.expr es (lists t) (others t) (at_type g context sc x.expr x.type_of (lists t) e h.meaningful) k) (m t)))))

on_string_sound : (g : World) (context : Context) (sc : Scope) (o : Operation) (result : PlainTy) (spot : Spot) (xs : Arguments) → ((vs : List PlainValue) → AreOperands g.sets (alone text_type) vs → Gives g.sets result (operated o vs)) → SoundArguments g context sc xs → Accepts (Sound g context sc spot.wanted) (on_string o result spot xs)
on_string_sound g context sc o result spot xs m p =
    accepts_then (Sound g context sc (Some text_type)) (Sound g context sc spot.wanted) (xs.first.check (Some text_type)) _ (p.first (Some text_type))
    (λ x h. accepts_then (λ es. AllMeaningful g context sc es (AreOperands g.sets no_types)) (Sound g context sc spot.wanted) (parts_of_types no_types spot.at xs.rest) _ (types_sound g context sc no_types spot.at xs.rest p.rest)
    (λ es k. meets_sound g context sc spot.wanted spot.at (apply (operation o) (more_exprs x.expr es)) result
    (operation_means g context sc o (more_exprs x.expr es) (alone text_type) result
    (more_operands g context sc x.expr es text_type no_types (at_wanted g context sc text_type x h) k) m)))

predeclared_sound : (g : World) (context : Context) (sc : Scope) (o : Operation) (spot : Spot) (n : Name) (xs : Arguments) → SoundArguments g context sc xs → Accepts (Sound g context sc spot.wanted) (predeclared_rule o spot n xs)
predeclared_sound g context sc head spot n xs p = on_list_sound g context sc head (λ t. no_types) (λ t. t) spot xs (heads g.sets) p
predeclared_sound g context sc tail spot n xs p = on_list_sound g context sc tail (λ t. no_types) lists spot xs (tails g.sets) p
predeclared_sound g context sc list_length spot n xs p = on_list_sound g context sc list_length (λ t. no_types) (λ t. int_type) spot xs (counts g.sets) p
predeclared_sound g context sc reversal spot n xs p = on_list_sound g context sc reversal (λ t. no_types) lists spot xs (reverses g.sets) p
predeclared_sound g context sc membership spot n xs p = on_list_sound g context sc membership alone (λ t. bool_type) spot xs (finds g.sets) p
predeclared_sound g context sc string_size spot n xs p = on_string_sound g context sc string_size int_type spot xs (measures g.sets) p
predeclared_sound g context sc o spot n xs p = tt

argument_sound : (g : World) (context : Context) (sc : Scope) (t : PlainTy) (asts : PlainAsts) (xs : Arguments) → SoundArguments g context sc xs → Accepts (λ e. Meaningful g context sc e t) (argument_rule asts t xs)
argument_sound g context sc t (more_asts a no_ast) xs p =
    accepts_then (Sound g context sc (Some t)) (λ e. Meaningful g context sc e t) (xs.first.check (Some t)) _ (p.first (Some t)) (λ x k. at_wanted g context sc t x k)
argument_sound g context sc (tuples ts) asts xs p =
    accepts_then (λ es. AllMeaningful g context sc es (AreOperands g.sets ts)) (λ e. Meaningful g context sc e (tuples ts)) (parts_of_types ts xs.first.at (all_of xs)) _ (types_sound g context sc ts xs.first.at (all_of xs) (all_sound g context sc xs p))
    (λ es k. tuple_means g context sc es ts k)
argument_sound g context sc t asts xs p =
    accepts_then (PartsSound g context sc) (λ e. Meaningful g context sc e t) (all_of xs no_types) _ (all_sound g context sc xs p no_types) (λ x k. tt)

pub call_sound : (g : World) (context : Context) (sc : Scope) (c : Called) (spot : Spot) (n : Name) (asts : PlainAsts) (xs : Arguments) → CalledKept g c → SoundArguments g context sc xs → Accepts (Sound g context sc spot.wanted) (call_rule c spot n asts xs)
call_sound g context sc (does o) spot n asts xs h p = predeclared_sound g context sc o spot n xs p
call_sound g context sc (constructs id k t) spot n asts xs h p =
    accepts_then (λ e. Meaningful g context sc e t) (Sound g context sc spot.wanted) (argument_rule asts t xs) _ (argument_sound g context sc t asts xs p)
    (λ e m. meets_sound g context sc spot.wanted spot.at (apply (constructing k) (more_exprs e no_exprs)) (union id) (construct_means g context sc id k e t h m))
call_sound g context sc (calls k ts t) spot n asts xs h p =
    accepts_then (λ es. AllMeaningful g context sc es (AreOperands g.sets ts)) (Sound g context sc spot.wanted) (parts_of_types ts spot.at (all_of xs)) _ (types_sound g context sc ts spot.at (all_of xs) (all_sound g context sc xs p))
    (λ es m. meets_sound g context sc spot.wanted spot.at (apply (calling k) es) t (call_means g context sc k es ts t m h))
call_sound g context sc nothing_called spot n asts xs h p = tt

-- ---- forms with several parts

pub if_sound : (g : World) (context : Context) (sc : Scope) (w : Option PlainTy) (test a b : Part) → SoundChecker g context sc test.check → SoundChecker g context sc a.check → SoundChecker g context sc b.check → Accepts (Sound g context sc w) (if_rule w test a b)
if_sound g context sc w test a b o p q =
    accepts_then (Sound g context sc (Some bool_type)) (Sound g context sc w) (test.check (Some bool_type)) _ (o (Some bool_type))
    (λ c k. accepts_then (SidesSound g context sc w (λ t. Unit {0})) (Sound g context sc w) (sides any_type w a b) _ (sides_sound g context sc (λ t. Unit {0}) any_type w a b any_passes p q)
    (λ s m. record { wanted = m.wanted; meaningful = choose_means g context sc c.expr s.left s.right s.side (at_wanted g context sc bool_type c k) m.left_means m.right_means }))

pub fold_sound : (g : World) (context : Context) (sc : Scope) (item total : Name) (w : Option PlainTy) (over start : Part) (body : PlainTy → PlainTy → Checker) → SoundChecker g context sc over.check → SoundChecker g context sc start.check → ((t s : PlainTy) → SoundChecker g context (sc ++ local_of item t ∷ local_of total s ∷ []) (body t s)) → Accepts (Sound g context sc w) (fold_rule w over start body)
fold_sound g context sc item total w over start body p q r =
    accepts_then (Sound g context sc None) (Sound g context sc w) (over.check None) _ (p None)
    (λ xs h. accepts_then (λ t. xs.type_of ≡ lists t) (Sound g context sc w) (item_of xs.type_of over.at) _ (item_of_lists xs.type_of over.at)
    (λ t e. accepts_then (Sound g context sc w) (Sound g context sc w) (start.check w) _ (q w)
    (λ s k. accepts_then (Sound g context (sc ++ local_of item t ∷ local_of total s.type_of ∷ []) (Some s.type_of)) (Sound g context sc w) (body t s.type_of (Some s.type_of)) _ (r t s.type_of (Some s.type_of))
    (λ b m. record {
      wanted = k.wanted;
      meaningful = fold_means g context sc item total xs.expr s.expr b.expr t s.type_of (at_type g context sc xs.expr xs.type_of (lists t) e h.meaningful) k.meaningful (at_wanted g context (sc ++ local_of item t ∷ local_of total s.type_of ∷ []) s.type_of b m);
    }))))
