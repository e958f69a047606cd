-- What the rules say of a pattern, form by form: what its parts are, and the refusal of a part, which is its own.
use Rattle.std.proofs.Common.{◌≡◌, ℕ, List, map, sym, ap, ◌∙◌, subst, rules, Box, Vec, String, Global, string_bytes, Option, Some, None, Result, Err}
use Rattle.cpn_trees.specs.Trees.{pat, pat_call, pat_list, pat_cons, PlainPat, pats_from}
use Rattle.cpn_trees.specs.PatViews.{pat_view}
use Rattle.cpn_trees.specs.declared.patterns.Pat.{Pat}
use Rattle.cpn_trees.specs.declared.patterns.Pat as trees
use Rattle.cpn_trees.specs.declared.patterns.PatForm as tree_forms
use Rattle.cpn_trees.specs.declared.patterns.PatForm.TheVariants as forms
use Rattle.cpn_definitions.specs.Inscription.{PlainPattern, list_pattern, cons_pattern}
use Rattle.cpn_core.specs.Inscriptions.{pattern_view, patterns_view}
use Rattle.cpn_core.specs.declared.inscriptions.Pat as core
use Rattle.cpn_core.specs.declared.inscriptions.Pat.TheViews as pats
use Rattle.cpn_typing.specs.Types.{PlainTy, lists}
use Rattle.cpn_typing.specs.Names.{Scope, found, Refusal, Checked, ok, ◌>>=◌}
use Rattle.cpn_typing.specs.Answers.{Refuses}
use Rattle.cpn_typing.specs.PatternRules.{Around, BoundPattern, BoundPatterns, bound_by, bound_by_items, list_rule, cons_rule, Constructor, constructor_named, applied_rule}
use Rattle.cpn_declared.specs.Answers.{Answers, refusal_of}
use Rattle.cpn_declared.specs.TypeViews.{ty_view}
use Rattle.cpn_declared.specs.declared.types.Ty.{Ty}
use Rattle.cpn_declared.specs.declared.types.Ty as ty
use Rattle.cpn_declared.specs.declared.types.Ty.TheViews as tys
use Rattle.std.specs.declared.sync.Arc.{Arc}
use Rattle.cpn_declared.specs.declared.refusals.TypeError.{TypeError}
use Rattle.cpn_forms.specs.BoundViews.{argument_in, bound_with, RefusesTaking}
use Rattle.cpn_forms.proofs.PatternFronts.{view_call}

-- ---- one thing after another

pub then_ok : {Y Z : Type 0} (all : Checked Z) (first : Checked Y) (next : Y → Checked Z) (y : Y) → all ≡ (first >>= next) → first ≡ ok y → all ≡ next y
then_ok all first next y e h = e ∙ ap (λ c. c >>= next) h

pub then_refused : {Y Z : Type 0} (all : Checked Z) (first : Checked Y) (next : Y → Checked Z) (o : Option Refusal) → all ≡ (first >>= next) → Refuses o first → Refuses o all
then_refused all first next None e h = tt
then_refused all first next (Some r) e h = e ∙ ap (λ c. c >>= next) h

pub not_taken : (all : Checked BoundPattern) (taken : Constructor) (inside : PlainTy → Checked BoundPattern) (o : Option Refusal) → all ≡ applied_rule taken inside → RefusesTaking o taken → Refuses o all
not_taken all taken inside None e h = tt
not_taken all taken inside (Some r) e h = e ∙ ap (λ c. applied_rule c inside) h

-- an error that is passed on
pub passed_on : {X Y : Type 0} (view : X → Y) (r : Result X TypeError) (e f : TypeError) (c : Checked Y) → r ≡ Err e → e ≡ f → Refuses (refusal_of f) c → Answers view r c
passed_on view r e f c is same h = subst (λ q. Answers view q c) (sym is) (subst (λ g. Refuses (refusal_of g) c) (sym same) h)

-- ---- the forms

abbrev made : Scope → PlainPattern → Checked BoundPattern
made next p = ok (record { pattern = p; locals = next })

pub call_is : (around : Around) (p : Pat) (n : String Global) (ps : Vec Pat Global) (name : List ℕ) (arguments : List Pat) (t : PlainTy) (bound : Scope) → p.form ≡ forms.Call n ps → name ≡ string_bytes n → arguments ≡ ps.items
    → bound_by around (pat_view p) t bound ≡ applied_rule (constructor_named (found name around.scope around.declared) name p.at t) (λ u. argument_in around (pats_from (map pat_view arguments)) p.at bound u)
call_is around p n ps name arguments t bound e m a =
    ap (λ f. bound_by around (pat_view (record { at = p.at; form = f })) t bound) e
    ∙ ap (λ x. bound_by around x t bound) (view_call p.at n ps)
    ∙ ap (λ x. bound_by around (pat p.at (pat_call x (pats_from (map pat_view ps.items)))) t bound) (sym m)
    ∙ ap (λ xs. bound_by around (pat p.at (pat_call name (pats_from (map pat_view xs)))) t bound) (sym a)

view_lists : (b : Arc Ty Global) → ty_view (tys.List b) ≡ lists (ty_view b.value)
view_lists b = search (rules, ty.the_lemmas)

view_list : (at : ℕ) (ps : Vec Pat Global) → pat_view (record { at = at; form = forms.List ps }) ≡ pat at (pat_list (pats_from (map pat_view ps.items)))
view_list at ps = search (rules, trees.the_lemmas, tree_forms.the_lemmas)

view_cons : (at : ℕ) (head tail : Box Pat Global) → pat_view (record { at = at; form = forms.Cons head tail }) ≡ pat at (pat_cons (pat_view head.value) (pat_view tail.value))
view_cons at head tail = search (rules, trees.the_lemmas, tree_forms.the_lemmas)

view_list_pattern : (ps : Vec core.Pat Global) → pattern_view (pats.List ps) ≡ list_pattern (patterns_view ps.items)
view_list_pattern ps = search (rules, core.the_lemmas)

abbrev listed : BoundPatterns → Checked BoundPattern
listed b = made b.locals (list_pattern b.patterns)

pub list_is : (around : Around) (p : Pat) (ps : Vec Pat Global) (items : List Pat) (t u : Ty) (item : Arc Ty Global) (bound : Scope) → p.form ≡ forms.List ps → items ≡ ps.items → t ≡ tys.List item → u ≡ item.value
    → bound_by around (pat_view p) (ty_view t) bound ≡ (bound_by_items around (pats_from (map pat_view items)) (ty_view u) bound >>= listed)
list_is around p ps items t u item bound e a s v =
    ap (λ f. bound_by around (pat_view (record { at = p.at; form = f })) (ty_view t) bound) e
    ∙ ap (λ x. bound_by around x (ty_view t) bound) (view_list p.at ps)
    ∙ ap (λ w. list_rule w p.at (λ x. bound_by_items around (pats_from (map pat_view ps.items)) x bound)) (ap ty_view s ∙ view_lists item)
    ∙ ap (λ xs. bound_by_items around (pats_from (map pat_view xs)) (ty_view item.value) bound >>= listed) (sym a)
    ∙ ap (λ w. bound_by_items around (pats_from (map pat_view items)) (ty_view w) bound >>= listed) (sym v)

pub list_made : (next : Scope) (items : Vec core.Pat Global) → listed (record { patterns = patterns_view items.items; locals = next }) ≡ ok (bound_with next (pats.List items))
list_made next items = ap (made next) (sym (view_list_pattern items))

abbrev pub in_front : BoundPattern → BoundPattern → Checked BoundPattern
in_front x y = made y.locals (cons_pattern x.pattern y.pattern)

abbrev pub with_tail : Around → PlainPat → PlainTy → BoundPattern → Checked BoundPattern
with_tail around q t x = bound_by around q t x.locals >>= in_front x

pub cons_is : (around : Around) (p a b : Pat) (head tail : Box Pat Global) (t u : Ty) (item : Arc Ty Global) (bound : Scope) → p.form ≡ forms.Cons head tail → a ≡ head.value → b ≡ tail.value → t ≡ tys.List item → u ≡ item.value
    → bound_by around (pat_view p) (ty_view t) bound ≡ (bound_by around (pat_view a) (ty_view u) bound >>= with_tail around (pat_view b) (ty_view t))
cons_is around p a b head tail t u item bound e m n s v =
    ap (λ f. bound_by around (pat_view (record { at = p.at; form = f })) (ty_view t) bound) e
    ∙ ap (λ x. bound_by around x (ty_view t) bound) (view_cons p.at head tail)
    ∙ ap (λ w. cons_rule w p.at (λ x. bound_by around (pat_view head.value) x bound) (λ now. bound_by around (pat_view tail.value) (ty_view t) now)) (ap ty_view s ∙ view_lists item)
    ∙ ap (λ x. bound_by around (pat_view x) (ty_view item.value) bound >>= with_tail around (pat_view tail.value) (ty_view t)) (sym m)
    ∙ ap (λ x. bound_by around (pat_view a) (ty_view item.value) bound >>= with_tail around (pat_view x) (ty_view t)) (sym n)
    ∙ ap (λ w. bound_by around (pat_view a) (ty_view w) bound >>= with_tail around (pat_view b) (ty_view t)) (sym v)
