-- What an inscription means under a binding at a time: a value, or the first fault. Evaluation is strict, from left to
-- right; `andalso`, `orelse`, `if` and `case` evaluate only what they need.
-- Source: our own profile of CPN ML; a binding is that of Jensen and Kristensen, chapter 4.
use Rattle.std.specs.Prelude.{ℕ, zero, suc, ◌==◌, pos, Bool, true, false, cond, if◌then◌else◌, List, [], ◌∷◌, ◌++◌, length, slice_get, Option, Some, None}
use Rattle.cpn_definitions.specs.Value.{PlainValue, boolean, int, tuple, bare, applied, list, from_list}
use Rattle.cpn_definitions.specs.Outcome.{Outcome, gives, faults, no_meaning, ◌>>=◌, given, no_case}
use Rattle.cpn_definitions.specs.Inscription.{Head, operation, tupling, listing, constructing, calling, PlainExpr, literal, variable, local, the_time, apply, conjunction, disjunction, choose, select, bind, accumulate, PlainExprs, no_exprs, more_exprs, PlainArms, no_arms, more_arms, PlainFunction, Functions}
use Rattle.cpn_definitions.specs.Matching.{matched}
use Rattle.cpn_definitions.specs.Operations.{sized, truth_in, items_in, operated}

-- A binding: the number and the value of each variable of a transition, in declaration order.
abbrev pub PlainBinding : Type 0
PlainBinding = List (ℕ × PlainValue)

-- the value that a binding gives to a variable
abbrev pub bound_value : ℕ → PlainBinding → Option PlainValue
bound_value x [] = None
bound_value x (pair ∷ pairs) = if x == pair.0 then Some pair.1 else bound_value x pairs

-- What a call of a function, by its number, gives for its arguments.
abbrev pub Calls : Type 0
Calls = ℕ → List PlainValue → Outcome PlainValue

-- Where an inscription is evaluated: the calls that it may make, the binding, the time.
pub record Setting : Type 0 where
  pub calls : Calls
  pub binding : PlainBinding
  pub time : ℕ

-- a constructor without its argument, or with it, which is then not too large
abbrev pub constructed : ℕ → List PlainValue → Outcome PlainValue
constructed k [] = gives (bare k)
constructed k (v ∷ []) = sized (applied k v)
constructed k (v ∷ w ∷ vs) = no_meaning

-- what a head gives for the values of its parts
abbrev pub done_with : Head → Calls → List PlainValue → Outcome PlainValue
done_with (operation o) calls = operated o
done_with tupling calls = λ vs. sized (tuple (from_list vs))
done_with listing calls = λ vs. sized (list (from_list vs))
done_with (constructing k) calls = constructed k
done_with (calling k) calls = calls k

-- the first of several values, and those behind it
abbrev pub with_first : PlainValue → List PlainValue → Outcome (List PlainValue)
with_first v vs = gives (v ∷ vs)

-- what an arm gives at the values that its pattern binds, or what the later arms give
abbrev pub arm_or : {A : Type 0} → Option (List PlainValue) → (List PlainValue → Outcome A) → Outcome A → Outcome A
arm_or None arm later = later
arm_or (Some vs) arm later = arm vs

-- the items of a list, one after another, each with what those before it made
abbrev pub accumulated : (PlainValue → PlainValue → Outcome PlainValue) → List PlainValue → PlainValue → Outcome PlainValue
accumulated f [] made = gives made
accumulated f (v ∷ vs) made = f v made >>= accumulated f vs

abbrev mutual
  -- an inscription among the values of the locals
  pub meant : PlainExpr → Setting → List PlainValue → Outcome PlainValue
  meant (literal v) s locals = gives v
  meant (variable x) s locals = given (bound_value x s.binding)
  meant (local k) s locals = given (slice_get locals k)
  meant the_time s locals = gives (int (pos s.time))
  meant (apply head es) s locals = meant_each es s locals >>= done_with head s.calls
  meant (conjunction e f) s locals = meant e s locals >>= (λ v. truth_in v >>= (λ b. cond b (meant f s locals) (gives (boolean false))))
  meant (disjunction e f) s locals = meant e s locals >>= (λ v. truth_in v >>= (λ b. cond b (gives (boolean true)) (meant f s locals)))
  meant (choose c e f) s locals = meant c s locals >>= (λ v. truth_in v >>= (λ b. cond b (meant e s locals) (meant f s locals)))
  meant (select e arms) s locals = meant e s locals >>= (λ v. meant_among arms v s locals)
  meant (bind e body) s locals = meant e s locals >>= (λ v. meant body s (locals ++ v ∷ []))
  meant (accumulate xs start body) s locals =
      meant xs s locals >>= (λ v. items_in v >>= (λ vs. meant start s locals >>= accumulated (λ x made. meant body s (locals ++ x ∷ made ∷ [])) vs))

  -- several inscriptions, from left to right
  pub meant_each : PlainExprs → Setting → List PlainValue → Outcome (List PlainValue)
  meant_each no_exprs s locals = gives []
  meant_each (more_exprs e es) s locals = meant e s locals >>= (λ v. meant_each es s locals >>= with_first v)

  -- the first arm whose pattern matches the value
  pub meant_among : PlainArms → PlainValue → Setting → List PlainValue → Outcome PlainValue
  meant_among no_arms v s locals = faults no_case
  meant_among (more_arms p e arms) v s locals = arm_or (matched p v) (λ vs. meant e s (locals ++ vs)) (meant_among arms v s locals)

-- a call: the function's body with the arguments, as many as it has parameters, put in for these
abbrev pub called : Option PlainFunction → Setting → List PlainValue → Outcome PlainValue
called None s arguments = no_meaning
called (Some f) s arguments = if length arguments == f.parameters then meant f.body s arguments else no_meaning

-- The calls that may be made where the functions below a number are there: in the body of each of them only those before
-- it are. So a call of the same or a later function has no meaning.
abbrev pub calls_below : Functions → PlainBinding → ℕ → ℕ → Calls
calls_below funs b time zero k arguments = no_meaning
calls_below funs b time (suc n) k arguments =
    if k == n then called (slice_get funs n) (record { calls = calls_below funs b time n; binding = b; time = time }) arguments
    else calls_below funs b time n k arguments

-- the setting where the functions below a number are there, and that where all of them are
abbrev pub setting_below : Functions → PlainBinding → ℕ → ℕ → Setting
setting_below funs b time n = record { calls = calls_below funs b time n; binding = b; time = time }

abbrev pub setting_of : Functions → PlainBinding → ℕ → Setting
setting_of funs b time = setting_below funs b time (length funs)

-- Meaning, with the functions that an inscription may call.
abbrev pub meaning : Functions → PlainExpr → PlainBinding → ℕ → Outcome PlainValue
meaning funs e b time = meant e (setting_of funs b time) []

-- whether a value is the truth value true
abbrev pub is_true : PlainValue → Bool
is_true (boolean b) = b
is_true v = false
