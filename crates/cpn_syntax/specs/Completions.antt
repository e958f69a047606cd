-- Which tokens complete the forms that are open, and to which inscription. Wants says so where a part is to be
-- read next, Has where a part was read: it began at an offset and binds so tightly. Each case takes the tokens that
-- a line of the grammar has next. Source: own choice.
use Rattle.std.specs.Prelude.{ℕ, ℤ, ◌≤◌, min, true, false, List, [], ◌∷◌, ◌++◌}
use Rattle.cpn_lex.specs.Token.{PlainToken}
use Rattle.cpn_lex.specs.declared.symbols.Symbol.TheVariants as sign
use Rattle.cpn_trees.specs.declared.operators.Infix.{Infix}
use Rattle.cpn_trees.specs.declared.operators.Prefix.{Prefix}
use Rattle.cpn_trees.specs.declared.operators.Prefix.TheVariants as prefix
use Rattle.cpn_syntax.specs.Texts.{Text, Is, IsName, IsNumber, IsText}
use Rattle.cpn_syntax.specs.Patterns.{SpellsPat}
use Rattle.cpn_syntax.specs.Inscriptions.{sign_of, precedence, left, right}
use Rattle.cpn_trees.specs.Trees.{PlainPat, PlainAst, ast, number, text, truth, empty, time, name, call, unit, tuple, list, let_in, prefixed, infixed, stamped, sum, if_else, case_of, fold, no_ast, more_asts, no_arm, more_arms, no_local}
use Rattle.cpn_syntax.specs.OpenForms.{condition, consequence, alternative, subject, arm, fold_list, fold_start, fold_body, terms, behind, front, group, items, arguments, local, body, Opens, wants, after_asts, after_arms, after_locals}

-- what stands behind the inscription: nothing, or a semicolon
pub data Closing : Type 0 where
  nothing_more : Closing
  semicolon : Closing

pub data Closes : Closing → Text → Type 0 where
  at_end : Closes nothing_more []
  at_semicolon : (t : PlainToken) → Is sign.Semicolon t → Closes semicolon (t ∷ [])

mutual
  pub data Wants (close : Closing) : Opens → PlainAst → Text → Type 0 where
    begin_if : {st : Opens} {b : PlainAst} {w : Text} (t : PlainToken) → wants st ≤ 1 → Is sign.If t → Wants close (condition t.at ∷ st) b w
        → Wants close st b (t ∷ w)
    begin_case : {st : Opens} {b : PlainAst} {w : Text} (t : PlainToken) → wants st ≤ 0 → Is sign.Case t → Wants close (subject t.at ∷ st) b w
        → Wants close st b (t ∷ w)
    begin_fold : {st : Opens} {b : PlainAst} {w : Text} {item total : List ℕ} (t1 n1 t2 n2 t3 : PlainToken) → wants st ≤ 1
        → Is sign.Foldl t1 → IsName item n1 → Is sign.Comma t2 → IsName total n2 → Is sign.Over t3
        → Wants close (fold_list t1.at item total ∷ st) b w
        → Wants close st b (t1 ∷ n1 ∷ t2 ∷ n2 ∷ t3 ∷ w)
    begin_not : {st : Opens} {b : PlainAst} {w : Text} (t : PlainToken) → Is sign.Not t → Wants close (front t.at prefix.Not ∷ st) b w
        → Wants close st b (t ∷ w)
    begin_negate : {st : Opens} {b : PlainAst} {w : Text} (t : PlainToken) → Is sign.Tilde t → Wants close (front t.at prefix.Negate ∷ st) b w
        → Wants close st b (t ∷ w)
    begin_component : {st : Opens} {b : PlainAst} {w : Text} {z : ℤ} (t n : PlainToken) → Is sign.Hash t → IsNumber z n
        → Wants close (front t.at (prefix.Component z) ∷ st) b w
        → Wants close st b (t ∷ n ∷ w)
    whole_number : {st : Opens} {b : PlainAst} {w : Text} {z : ℤ} (t : PlainToken) → IsNumber z t → Has close t.at 11 (ast t.at (number z)) st b w
        → Wants close st b (t ∷ w)
    whole_text : {st : Opens} {b : PlainAst} {w : Text} {bytes : List ℕ} (t : PlainToken) → IsText bytes t → Has close t.at 11 (ast t.at (text bytes)) st b w
        → Wants close st b (t ∷ w)
    whole_true : {st : Opens} {b : PlainAst} {w : Text} (t : PlainToken) → Is sign.True t → Has close t.at 11 (ast t.at (truth true)) st b w
        → Wants close st b (t ∷ w)
    whole_false : {st : Opens} {b : PlainAst} {w : Text} (t : PlainToken) → Is sign.False t → Has close t.at 11 (ast t.at (truth false)) st b w
        → Wants close st b (t ∷ w)
    whole_empty : {st : Opens} {b : PlainAst} {w : Text} (t : PlainToken) → Is sign.Empty t → Has close t.at 11 (ast t.at empty) st b w
        → Wants close st b (t ∷ w)
    whole_time : {st : Opens} {b : PlainAst} {w : Text} (t : PlainToken) → Is sign.Time t → Has close t.at 11 (ast t.at time) st b w
        → Wants close st b (t ∷ w)
    whole_name : {st : Opens} {b : PlainAst} {w : Text} {n : List ℕ} (t : PlainToken) → IsName n t → Has close t.at 11 (ast t.at (name n)) st b w
        → Wants close st b (t ∷ w)
    begin_call : {st : Opens} {b : PlainAst} {w : Text} {n : List ℕ} (t t1 : PlainToken) → IsName n t → Is sign.OpenParenthesis t1
        → Wants close (arguments t.at n [] ∷ st) b w
        → Wants close st b (t ∷ t1 ∷ w)
    whole_unit : {st : Opens} {b : PlainAst} {w : Text} (t1 t2 : PlainToken) → Is sign.OpenParenthesis t1 → Is sign.CloseParenthesis t2
        → Has close t1.at 11 (ast t1.at unit) st b w
        → Wants close st b (t1 ∷ t2 ∷ w)
    begin_group : {st : Opens} {b : PlainAst} {w : Text} (t : PlainToken) → Is sign.OpenParenthesis t → Wants close (group t.at [] ∷ st) b w
        → Wants close st b (t ∷ w)
    whole_no_items : {st : Opens} {b : PlainAst} {w : Text} (t1 t2 : PlainToken) → Is sign.OpenBracket t1 → Is sign.CloseBracket t2
        → Has close t1.at 11 (ast t1.at (list no_ast)) st b w
        → Wants close st b (t1 ∷ t2 ∷ w)
    begin_items : {st : Opens} {b : PlainAst} {w : Text} (t : PlainToken) → Is sign.OpenBracket t → Wants close (items t.at [] ∷ st) b w
        → Wants close st b (t ∷ w)
    begin_let : {st : Opens} {b : PlainAst} {w : Text} {n : List ℕ} (t1 t2 m t3 : PlainToken)
        → Is sign.Let t1 → Is sign.Val t2 → IsName n m → Is sign.Equal t3
        → Wants close (local t1.at [] n ∷ st) b w
        → Wants close st b (t1 ∷ t2 ∷ m ∷ t3 ∷ w)

  pub data Has (close : Closing) : ℕ → ℕ → PlainAst → Opens → PlainAst → Text → Type 0 where
    -- an operator takes the part as its left operand
    go_on : {at k : ℕ} {c b : PlainAst} {st : Opens} {w : Text} (o : Infix) (t : PlainToken) → left o ≤ k → wants st ≤ precedence o → Is (sign_of o) t
        → Wants close (behind at o t.at c ∷ st) b w
        → Has close at k c st b (t ∷ w)
    stamp : {at k : ℕ} {c b : PlainAst} {st : Opens} {w : Text} {z : ℤ} (t n : PlainToken) → 4 ≤ k → wants st ≤ 3 → Is sign.At t → IsNumber z n
        → Has close at 3 (ast at (stamped c t.at z)) st b w
        → Has close at k c st b (t ∷ n ∷ w)
    first_term : {at k : ℕ} {c b : PlainAst} {st : Opens} {w : Text} (t : PlainToken) → 3 ≤ k → wants st ≤ 2 → Is sign.DoublePlus t
        → Wants close (terms at (c ∷ []) ∷ st) b w
        → Has close at k c st b (t ∷ w)
    further_term : {at k start : ℕ} {c b : PlainAst} {parts : List PlainAst} {st : Opens} {w : Text} (t : PlainToken) → 3 ≤ k → Is sign.DoublePlus t
        → Wants close (terms start (parts ++ c ∷ []) ∷ st) b w
        → Has close at k c (terms start parts ∷ st) b (t ∷ w)
    -- the innermost open form is complete
    end_operand : {at k start sign : ℕ} {a c b : PlainAst} {o : Infix} {st : Opens} {w : Text} → right o ≤ k
        → Has close start (precedence o) (ast start (infixed o sign a c)) st b w
        → Has close at k c (behind start o sign a ∷ st) b w
    end_prefix : {at k start : ℕ} {c b : PlainAst} {p : Prefix} {st : Opens} {w : Text} → 11 ≤ k
        → Has close start 11 (ast start (prefixed p c)) st b w
        → Has close at k c (front start p ∷ st) b w
    end_sum : {at k start : ℕ} {c b : PlainAst} {parts : List PlainAst} {st : Opens} {w : Text} → 3 ≤ k
        → Has close start 2 (ast start (sum (after_asts parts (more_asts c no_ast)))) st b w
        → Has close at k c (terms start parts ∷ st) b w
    end_if : {at k start : ℕ} {i a c b : PlainAst} {st : Opens} {w : Text}
        → Has close start (min k 1) (ast start (if_else i a c)) st b w
        → Has close at k c (alternative start i a ∷ st) b w
    end_fold : {at k start : ℕ} {item total : List ℕ} {a s c b : PlainAst} {st : Opens} {w : Text}
        → Has close start (min k 1) (ast start (fold item total a s c)) st b w
        → Has close at k c (fold_body start item total a s ∷ st) b w
    end_case : {at k start : ℕ} {a c b : PlainAst} {arms : List (PlainPat × PlainAst)} {p : PlainPat} {st : Opens} {w : Text}
        → Has close start 0 (ast start (case_of a (after_arms arms (more_arms p c no_arm)))) st b w
        → Has close at k c (arm start a arms p ∷ st) b w
    -- the innermost open form goes on behind the part
    then_word : {at k start : ℕ} {c b : PlainAst} {st : Opens} {w : Text} (t : PlainToken) → Is sign.Then t
        → Wants close (consequence start c ∷ st) b w
        → Has close at k c (condition start ∷ st) b (t ∷ w)
    else_word : {at k start : ℕ} {i c b : PlainAst} {st : Opens} {w : Text} (t : PlainToken) → Is sign.Else t
        → Wants close (alternative start i c ∷ st) b w
        → Has close at k c (consequence start i ∷ st) b (t ∷ w)
    of_word : {at k start : ℕ} {c b : PlainAst} {p : PlainPat} {st : Opens} {w : Text} (t1 t2 : PlainToken) (u : Text)
        → Is sign.Of t1 → SpellsPat 0 p u → Is sign.Arrow t2
        → Wants close (arm start c [] p ∷ st) b w
        → Has close at k c (subject start ∷ st) b (t1 ∷ u ++ t2 ∷ w)
    bar : {at k start : ℕ} {a c b : PlainAst} {arms : List (PlainPat × PlainAst)} {p q : PlainPat} {st : Opens} {w : Text} (t1 t2 : PlainToken) (u : Text)
        → 1 ≤ k → Is sign.Bar t1 → SpellsPat 0 q u → Is sign.Arrow t2
        → Wants close (arm start a (arms ++ (p, c) ∷ []) q ∷ st) b w
        → Has close at k c (arm start a arms p ∷ st) b (t1 ∷ u ++ t2 ∷ w)
    from_word : {at k start : ℕ} {item total : List ℕ} {c b : PlainAst} {st : Opens} {w : Text} (t : PlainToken) → Is sign.From t
        → Wants close (fold_start start item total c ∷ st) b w
        → Has close at k c (fold_list start item total ∷ st) b (t ∷ w)
    do_word : {at k start : ℕ} {item total : List ℕ} {a c b : PlainAst} {st : Opens} {w : Text} (t : PlainToken) → Is sign.Do t
        → Wants close (fold_body start item total a c ∷ st) b w
        → Has close at k c (fold_start start item total a ∷ st) b (t ∷ w)
    next_in_group : {at k start : ℕ} {c b : PlainAst} {parts : List PlainAst} {st : Opens} {w : Text} (t : PlainToken) → Is sign.Comma t
        → Wants close (group start (parts ++ c ∷ []) ∷ st) b w
        → Has close at k c (group start parts ∷ st) b (t ∷ w)
    end_group : {at k start : ℕ} {c b : PlainAst} {st : Opens} {w : Text} (t : PlainToken) → Is sign.CloseParenthesis t
        → Has close start 11 c st b w
        → Has close at k c (group start [] ∷ st) b (t ∷ w)
    end_tuple : {at k start : ℕ} {a c b : PlainAst} {parts : List PlainAst} {st : Opens} {w : Text} (t : PlainToken) → Is sign.CloseParenthesis t
        → Has close start 11 (ast start (tuple (more_asts a (after_asts parts (more_asts c no_ast))))) st b w
        → Has close at k c (group start (a ∷ parts) ∷ st) b (t ∷ w)
    next_item : {at k start : ℕ} {c b : PlainAst} {parts : List PlainAst} {st : Opens} {w : Text} (t : PlainToken) → Is sign.Comma t
        → Wants close (items start (parts ++ c ∷ []) ∷ st) b w
        → Has close at k c (items start parts ∷ st) b (t ∷ w)
    end_items : {at k start : ℕ} {c b : PlainAst} {parts : List PlainAst} {st : Opens} {w : Text} (t : PlainToken) → Is sign.CloseBracket t
        → Has close start 11 (ast start (list (after_asts parts (more_asts c no_ast)))) st b w
        → Has close at k c (items start parts ∷ st) b (t ∷ w)
    next_argument : {at k start : ℕ} {n : List ℕ} {c b : PlainAst} {parts : List PlainAst} {st : Opens} {w : Text} (t : PlainToken) → Is sign.Comma t
        → Wants close (arguments start n (parts ++ c ∷ []) ∷ st) b w
        → Has close at k c (arguments start n parts ∷ st) b (t ∷ w)
    end_call : {at k start : ℕ} {n : List ℕ} {c b : PlainAst} {parts : List PlainAst} {st : Opens} {w : Text} (t : PlainToken) → Is sign.CloseParenthesis t
        → Has close start 11 (ast start (call n (after_asts parts (more_asts c no_ast)))) st b w
        → Has close at k c (arguments start n parts ∷ st) b (t ∷ w)
    next_local : {at k start : ℕ} {n m : List ℕ} {c b : PlainAst} {locals : List (List ℕ × PlainAst)} {st : Opens} {w : Text} (t1 t2 t3 : PlainToken)
        → Is sign.Val t1 → IsName m t2 → Is sign.Equal t3
        → Wants close (local start (locals ++ (n, c) ∷ []) m ∷ st) b w
        → Has close at k c (local start locals n ∷ st) b (t1 ∷ t2 ∷ t3 ∷ w)
    in_word : {at k start : ℕ} {n : List ℕ} {c b : PlainAst} {locals : List (List ℕ × PlainAst)} {st : Opens} {w : Text} (t : PlainToken) → Is sign.In t
        → Wants close (body start (locals ++ (n, c) ∷ []) ∷ st) b w
        → Has close at k c (local start locals n ∷ st) b (t ∷ w)
    end_let : {at k start : ℕ} {c b : PlainAst} {locals : List (List ℕ × PlainAst)} {st : Opens} {w : Text} (t : PlainToken) → Is sign.End t
        → Has close start 11 (ast start (let_in (after_locals locals no_local) c)) st b w
        → Has close at k c (body start locals ∷ st) b (t ∷ w)
    -- nothing is open
    all_read : {at k : ℕ} {c : PlainAst} {w : Text} → Closes close w → Has close at k c [] c w
