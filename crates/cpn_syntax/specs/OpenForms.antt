-- The forms that are open while an inscription is read, the innermost first: what stands left of the part that
-- is read next. Source: own choice.
use Rattle.std.specs.Prelude.{ℕ, List, [], ◌∷◌}
use Rattle.cpn_trees.specs.declared.operators.Infix.{Infix}
use Rattle.cpn_trees.specs.declared.operators.Prefix.{Prefix}
use Rattle.cpn_syntax.specs.Inscriptions.{right}
use Rattle.cpn_trees.specs.Trees.{PlainPat, PlainAst, PlainAsts, more_asts, PlainArms, more_arms, PlainLocals, more_locals}

-- The first number of each is the offset of the form's first token.
pub data PlainOpen : Type 0 where
  -- if _
  condition : ℕ → PlainOpen
  -- if e then _
  consequence : ℕ → PlainAst → PlainOpen
  -- if e then e else _
  alternative : ℕ → PlainAst → PlainAst → PlainOpen
  -- case _
  subject : ℕ → PlainOpen
  -- case e of {pat => e |} pat => _
  arm : ℕ → PlainAst → List (PlainPat × PlainAst) → PlainPat → PlainOpen
  -- foldl N , N over _
  fold_list : ℕ → List ℕ → List ℕ → PlainOpen
  -- foldl N , N over e from _
  fold_start : ℕ → List ℕ → List ℕ → PlainAst → PlainOpen
  -- foldl N , N over e from e do _
  fold_body : ℕ → List ℕ → List ℕ → PlainAst → PlainAst → PlainOpen
  -- late {++ late} ++ _
  terms : ℕ → List PlainAst → PlainOpen
  -- an infix operator with the offset of its sign, behind its left operand
  behind : ℕ → Infix → ℕ → PlainAst → PlainOpen
  -- a prefix operator
  front : ℕ → Prefix → PlainOpen
  -- ( {e ,} _
  group : ℕ → List PlainAst → PlainOpen
  -- [ {e ,} _
  items : ℕ → List PlainAst → PlainOpen
  -- N ( {e ,} _
  arguments : ℕ → List ℕ → List PlainAst → PlainOpen
  -- let {val N = e} val N = _
  local : ℕ → List (List ℕ × PlainAst) → List ℕ → PlainOpen
  -- let val N = e {val N = e} in _
  body : ℕ → List (List ℕ × PlainAst) → PlainOpen

abbrev pub Opens : Type 0
Opens = List PlainOpen

-- how tightly the part that is read next has to bind
abbrev pub wanted : PlainOpen → ℕ
wanted (condition at) = 0
wanted (consequence at c) = 0
wanted (alternative at c a) = 0
wanted (subject at) = 0
wanted (arm at a arms p) = 0
wanted (fold_list at item total) = 0
wanted (fold_start at item total a) = 0
wanted (fold_body at item total a s) = 0
wanted (terms at parts) = 3
wanted (behind at o s a) = right o
wanted (front at p) = 11
wanted (group at parts) = 0
wanted (items at parts) = 0
wanted (arguments at n parts) = 0
wanted (local at locals n) = 0
wanted (body at locals) = 0

abbrev pub wants : Opens → ℕ
wants [] = 0
wants (open_form ∷ below) = wanted open_form

-- parts in front of further ones
abbrev pub after_asts : List PlainAst → PlainAsts → PlainAsts
after_asts [] rest = rest
after_asts (a ∷ before) rest = more_asts a (after_asts before rest)

abbrev pub after_arms : List (PlainPat × PlainAst) → PlainArms → PlainArms
after_arms [] rest = rest
after_arms (a ∷ before) rest = more_arms a.0 a.1 (after_arms before rest)

abbrev pub after_locals : List (List ℕ × PlainAst) → PlainLocals → PlainLocals
after_locals [] rest = rest
after_locals (a ∷ before) rest = more_locals a.0 a.1 (after_locals before rest)
