-- A tree with an operator at its root: a backtick, `@+`, or another one.
use Rattle.std.proofs.Common.{◌≡◌, ℕ, true, false, Box, Global, refl, sym, ap, ◌∙◌, rules}
use Rattle.cpn_trees.specs.declared.operators.Infix.{Infix}
use Rattle.cpn_trees.specs.declared.operators.Infix.TheVariants as sign
use Rattle.cpn_trees.specs.declared.trees.Ast.{Ast}
use Rattle.cpn_trees.specs.declared.trees.Ast as tree
use Rattle.cpn_trees.specs.declared.trees.Form.{the_lemmas}
use Rattle.cpn_trees.specs.declared.trees.Form.TheVariants as form
use Rattle.cpn_trees.specs.Trees.{PlainAst, ast, infixed}
use Rattle.cpn_trees.specs.AstViews.{ast_view, form_view}
use Rattle.cpn_trees.proofs.FormViews.{view_infix}
use Rattle.cpn_typing.specs.Names.{Scope}
use Rattle.cpn_typing.specs.Multisets.{Site, marked, marked_form}
use Rattle.cpn_types.specs.Sites.{is_times, is_later, many_tokens, one_token}

view_tree : (a : Ast) → ast_view a ≡ ast a.at (form_view a.form)
view_tree a = search (rules, tree.the_lemmas)

times_alone : (o : Infix) → is_times o ≡ true → o ≡ sign.Times
times_alone sign.Times h = refl
times_alone o h = cc

pub many_marked : (g : Site) (a : Ast) (o : Infix) (s : ℕ) (l r : Box Ast Global) (x y : Ast) (sc : Scope) → a.form ≡ form.Infix o s l r → is_times o ≡ true → x ≡ l.value → y ≡ r.value → many_tokens g (ast_view x) (ast_view y) sc ≡ marked g (ast_view a) sc
many_marked g a o s l r x y sc is times left right =
    ap (λ z. many_tokens g (ast_view z) (ast_view y) sc) left
    ∙ ap (λ z. many_tokens g (ast_view l.value) (ast_view z) sc) right
    ∙ ap (λ z. marked g (ast a.at (infixed z s (ast_view l.value) (ast_view r.value))) sc) (sym (times_alone o times))
    ∙ ap (λ f. marked g (ast a.at f) sc) (sym (view_infix o s l r))
    ∙ ap (λ f. marked g (ast a.at (form_view f)) sc) (sym is)
    ∙ ap (λ z. marked g z sc) (sym (view_tree a))

later_alone : (o : Infix) → is_later o ≡ true → o ≡ sign.Later
later_alone sign.Later h = refl
later_alone o h = cc

pub later_marked : (g : Site) (a : Ast) (o : Infix) (s : ℕ) (l r : Box Ast Global) (x y : Ast) (sc : Scope) → a.form ≡ form.Infix o s l r → is_later o ≡ true → x ≡ l.value → y ≡ r.value
    → marked_form g (infixed sign.Later s (ast_view x) (ast_view y)) 0 sc ≡ marked g (ast_view a) sc
later_marked g a o s l r x y sc is later left right =
    ap (λ z. marked_form g (infixed sign.Later s (ast_view z) (ast_view y)) 0 sc) left
    ∙ ap (λ z. marked_form g (infixed sign.Later s (ast_view l.value) (ast_view z)) 0 sc) right
    ∙ ap (λ z. marked g (ast a.at (infixed z s (ast_view l.value) (ast_view r.value))) sc) (sym (later_alone o later))
    ∙ ap (λ f. marked g (ast a.at f) sc) (sym (view_infix o s l r))
    ∙ ap (λ f. marked g (ast a.at (form_view f)) sc) (sym is)
    ∙ ap (λ z. marked g z sc) (sym (view_tree a))

-- any other operator makes a value
other_sign : (g : Site) (o : Infix) (at s : ℕ) (x y : PlainAst) (sc : Scope) → is_times o ≡ false → is_later o ≡ false → one_token g (ast at (infixed o s x y)) sc ≡ marked g (ast at (infixed o s x y)) sc
other_sign g sign.Times at s x y sc t l = cc
other_sign g sign.Later at s x y sc t l = cc
other_sign g sign.Orelse at s x y sc t l = refl
other_sign g sign.Andalso at s x y sc t l = refl
other_sign g sign.Equal at s x y sc t l = refl
other_sign g sign.NotEqual at s x y sc t l = refl
other_sign g sign.Less at s x y sc t l = refl
other_sign g sign.LessOrEqual at s x y sc t l = refl
other_sign g sign.Greater at s x y sc t l = refl
other_sign g sign.GreaterOrEqual at s x y sc t l = refl
other_sign g sign.Cons at s x y sc t l = refl
other_sign g sign.Append at s x y sc t l = refl
other_sign g sign.Add at s x y sc t l = refl
other_sign g sign.Subtract at s x y sc t l = refl
other_sign g sign.Concatenate at s x y sc t l = refl
other_sign g sign.Multiply at s x y sc t l = refl
other_sign g sign.Div at s x y sc t l = refl
other_sign g sign.Mod at s x y sc t l = refl

pub one_marked : (g : Site) (a : Ast) (o : Infix) (s : ℕ) (l r : Box Ast Global) (sc : Scope) → a.form ≡ form.Infix o s l r → is_times o ≡ false → is_later o ≡ false → one_token g (ast_view a) sc ≡ marked g (ast_view a) sc
one_marked g a o s l r sc is times later =
    let v : ast_view a ≡ ast a.at (infixed o s (ast_view l.value) (ast_view r.value)) = view_tree a ∙ ap (λ f. ast a.at (form_view f)) is ∙ ap (ast a.at) (view_infix o s l r) in
    ap (λ z. one_token g z sc) v ∙ other_sign g o a.at s (ast_view l.value) (ast_view r.value) sc times later ∙ ap (λ z. marked g z sc) (sym v)
