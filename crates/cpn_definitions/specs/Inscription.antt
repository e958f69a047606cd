-- The inscriptions of a net, once they are typed, as plain data. Locals are numbered from 0, from the outermost binder
-- inwards, those of one binder from left to right; the parameters of a function come first. Source: our own profile of
-- CPN ML.
use Rattle.std.specs.Prelude.{ℕ, ℤ, List, [], ◌∷◌}
use Rattle.cpn_definitions.specs.Value.{PlainValue}

-- What is done with the values of operands: `+ - * div mod ~ ^ = <> < <= > >= not :: ^^`, `hd tl length rev mem size`,
-- and `#k`, the k-th component of a tuple, from 1.
pub data Operation : Type 0 where
  addition : Operation
  subtraction : Operation
  multiplication : Operation
  division : Operation
  remainder : Operation
  negation : Operation
  concatenation : Operation
  equality : Operation
  inequality : Operation
  less_than : Operation
  at_most : Operation
  greater_than : Operation
  at_least : Operation
  complement : Operation
  cons : Operation
  appending : Operation
  head : Operation
  tail : Operation
  list_length : Operation
  reversal : Operation
  membership : Operation
  string_size : Operation
  component : ℕ → Operation

-- What is done with the values of all the parts of a form: an operation on operands, a tuple, a list, a constructor without
-- or with its argument, a call of a function by its number.
pub data Head : Type 0 where
  operation : Operation → Head
  tupling : Head
  listing : Head
  constructing : ℕ → Head
  calling : ℕ → Head

mutual
  -- A pattern: any value; any value, bound to the variable or the local of a number; one value; a tuple or a list by its
  -- parts; a list by its head and its tail; a constructor without or with its argument.
  pub data PlainPattern : Type 0 where
    any_pattern : PlainPattern
    variable_pattern : ℕ → PlainPattern
    literal_pattern : PlainValue → PlainPattern
    tuple_pattern : PlainPatterns → PlainPattern
    list_pattern : PlainPatterns → PlainPattern
    cons_pattern : PlainPattern → PlainPattern → PlainPattern
    bare_pattern : ℕ → PlainPattern
    applied_pattern : ℕ → PlainPattern → PlainPattern

  -- Several patterns, one after another.
  pub data PlainPatterns : Type 0 where
    no_patterns : PlainPatterns
    more_patterns : PlainPattern → PlainPatterns → PlainPatterns

mutual
  -- An inscription: a literal; a variable and a local by their numbers; `time`; what is done with the values of its parts;
  -- `andalso`, `orelse`, `if`; `case` with its arms; `let` with one value and its body; `foldl` over a list, from a start, with
  -- its body, whose last two locals are the item and what has been made so far.
  pub data PlainExpr : Type 0 where
    literal : PlainValue → PlainExpr
    variable : ℕ → PlainExpr
    local : ℕ → PlainExpr
    the_time : PlainExpr
    apply : Head → PlainExprs → PlainExpr
    conjunction : PlainExpr → PlainExpr → PlainExpr
    disjunction : PlainExpr → PlainExpr → PlainExpr
    choose : PlainExpr → PlainExpr → PlainExpr → PlainExpr
    select : PlainExpr → PlainArms → PlainExpr
    bind : PlainExpr → PlainExpr → PlainExpr
    accumulate : PlainExpr → PlainExpr → PlainExpr → PlainExpr

  -- The parts of a form, from left to right.
  pub data PlainExprs : Type 0 where
    no_exprs : PlainExprs
    more_exprs : PlainExpr → PlainExprs → PlainExprs

  -- The arms of a `case`, each a pattern and its result.
  pub data PlainArms : Type 0 where
    no_arms : PlainArms
    more_arms : PlainPattern → PlainExpr → PlainArms → PlainArms

mutual
  -- An inscription of an arc or an initial marking, whose value is a multiset of tokens: `empty`; one token of a value; a
  -- coefficient, a backtick and a value; a sum; `@+` with a delay; `@` with a time stamp; `if`, `case` and `let` over such
  -- inscriptions.
  pub data ArcInscription : Type 0 where
    no_token : ArcInscription
    one : PlainExpr → ArcInscription
    times : PlainExpr → PlainExpr → ArcInscription
    sum_of : ArcInscriptions → ArcInscription
    later : ArcInscription → PlainExpr → ArcInscription
    stamped : ArcInscription → ℤ → ArcInscription
    chosen : PlainExpr → ArcInscription → ArcInscription → ArcInscription
    selected : PlainExpr → ArcArms → ArcInscription
    bound : PlainExpr → ArcInscription → ArcInscription

  -- The parts of a sum, from left to right.
  pub data ArcInscriptions : Type 0 where
    no_inscriptions : ArcInscriptions
    more_inscriptions : ArcInscription → ArcInscriptions → ArcInscriptions

  -- The arms of such a `case`.
  pub data ArcArms : Type 0 where
    no_arc_arms : ArcArms
    more_arc_arms : PlainPattern → ArcInscription → ArcArms → ArcArms

-- A function: how many parameters it has, and its body, in which it may call those before it. A `val` is a function
-- without parameters.
pub record PlainFunction : Type 0 where
  pub parameters : ℕ
  pub body : PlainExpr

-- The functions of a net, each by its number.
abbrev pub Functions : Type 0
Functions = List PlainFunction

-- the parts of a list as those of a form
abbrev pub patterns_from : List PlainPattern → PlainPatterns
patterns_from [] = no_patterns
patterns_from (p ∷ ps) = more_patterns p (patterns_from ps)

abbrev pub exprs_from : List PlainExpr → PlainExprs
exprs_from [] = no_exprs
exprs_from (e ∷ es) = more_exprs e (exprs_from es)

abbrev pub arms_from : List (PlainPattern × PlainExpr) → PlainArms
arms_from [] = no_arms
arms_from (arm ∷ arms) = more_arms arm.0 arm.1 (arms_from arms)

abbrev pub inscriptions_from : List ArcInscription → ArcInscriptions
inscriptions_from [] = no_inscriptions
inscriptions_from (m ∷ ms) = more_inscriptions m (inscriptions_from ms)

abbrev pub arc_arms_from : List (PlainPattern × ArcInscription) → ArcArms
arc_arms_from [] = no_arc_arms
arc_arms_from (arm ∷ arms) = more_arc_arms arm.0 arm.1 (arc_arms_from arms)
