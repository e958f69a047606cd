-- Trees of inscriptions as plain data: what a tree of the program stands for.
use Rattle.std.specs.Prelude.{ℕ, ℤ, Bool, List, [], ◌∷◌}
use Rattle.cpn_trees.specs.declared.operators.Infix.{Infix}
use Rattle.cpn_trees.specs.declared.operators.Prefix.{Prefix}

-- A pattern: the offset of its first token, and its form.
mutual
  pub data PlainPat : Type 0 where
    pat : ℕ → PlainPatForm → PlainPat

  pub data PlainPatForm : Type 0 where
    any : PlainPatForm
    pat_name : List ℕ → PlainPatForm
    pat_number : ℤ → PlainPatForm
    pat_text : List ℕ → PlainPatForm
    pat_truth : Bool → PlainPatForm
    pat_call : List ℕ → PlainPats → PlainPatForm
    pat_unit : PlainPatForm
    pat_tuple : PlainPats → PlainPatForm
    pat_list : PlainPats → PlainPatForm
    pat_cons : PlainPat → PlainPat → PlainPatForm

  pub data PlainPats : Type 0 where
    no_pat : PlainPats
    more_pats : PlainPat → PlainPats → PlainPats

-- An inscription: the offset of its first token, and its form.
mutual
  pub data PlainAst : Type 0 where
    ast : ℕ → PlainForm → PlainAst

  pub data PlainForm : Type 0 where
    number : ℤ → PlainForm
    text : List ℕ → PlainForm
    truth : Bool → PlainForm
    empty : PlainForm
    time : PlainForm
    name : List ℕ → PlainForm
    call : List ℕ → PlainAsts → PlainForm
    unit : PlainForm
    tuple : PlainAsts → PlainForm
    list : PlainAsts → PlainForm
    let_in : PlainLocals → PlainAst → PlainForm
    prefixed : Prefix → PlainAst → PlainForm
    -- an operator with the offset of its sign, and its operands
    infixed : Infix → ℕ → PlainAst → PlainAst → PlainForm
    -- a token, the offset of the `@` behind it, and its time stamp
    stamped : PlainAst → ℕ → ℤ → PlainForm
    sum : PlainAsts → PlainForm
    if_else : PlainAst → PlainAst → PlainAst → PlainForm
    case_of : PlainAst → PlainArms → PlainForm
    fold : List ℕ → List ℕ → PlainAst → PlainAst → PlainAst → PlainForm

  pub data PlainAsts : Type 0 where
    no_ast : PlainAsts
    more_asts : PlainAst → PlainAsts → PlainAsts

  pub data PlainArms : Type 0 where
    no_arm : PlainArms
    more_arms : PlainPat → PlainAst → PlainArms → PlainArms

  pub data PlainLocals : Type 0 where
    no_local : PlainLocals
    more_locals : List ℕ → PlainAst → PlainLocals → PlainLocals

abbrev pub asts_from : List PlainAst → PlainAsts
asts_from [] = no_ast
asts_from (a ∷ rest) = more_asts a (asts_from rest)

abbrev pub pats_from : List PlainPat → PlainPats
pats_from [] = no_pat
pats_from (p ∷ rest) = more_pats p (pats_from rest)
