-- The arguments of a call, one by one, and its rule taken apart.
use Rattle.std.proofs.Common.{◌≡◌, ℕ, ◌<◌, true, false, nat_eq, List, [], ◌∷◌, length, get_or, drop, map, refl, sym, ap, ◌∙◌, arith, rules, Option, Some, None}
use Rattle.cpn_definitions.specs.Inscription.{PlainExprs, apply, operation, more_exprs, head, tail, list_length, reversal, membership, string_size, Operation}
use Rattle.cpn_trees.specs.Trees.{PlainAsts, asts_from}
use Rattle.cpn_trees.specs.AstViews.{ast_view}
use Rattle.cpn_trees.specs.declared.trees.Ast.{Ast, the_lemmas}
use Rattle.cpn_typing.specs.Types.{PlainTy, PlainTys, more_types, unit_type, bool_type, int_type, text_type, enumeration, union, tuples, lists, no_types, same_types}
use Rattle.cpn_typing.specs.Names.{Name, Declared, Scope, Checked, ok, refused, Refusal, mismatch, ◌>>=◌, accepted_if}
use Rattle.cpn_typing.specs.Contexts.{Context}
use Rattle.cpn_typing.specs.Rules.{Typed, Parts, Spot, Arguments, does, calls, call_rule, on_list, all_of, argument_rule, parts_of_types, parts_wanted, first_offset, item_of, meets, offset_of}
use Rattle.cpn_typing.specs.Expressions.{typed, typed_first, typed_rest, typed_parts}
use Rattle.cpn_declared.specs.DeclsViews.{decls_view}
use Rattle.cpn_forms.specs.ScopeViews.{scope_view}
use Rattle.cpn_forms.specs.ContextViews.{context_view}
use Rattle.cpn_forms.specs.LookupViews.{predeclared_view}
use Rattle.cpn_types.specs.Around.{arguments_in}
use Rattle.cpn_typing.specs.Answers.{Refuses}
use Rattle.cpn_forms.specs.Calls.{from_arguments, function_makes, tuple_made, item_or}
use Rattle.cpn_forms.specs.declared.scopes.Local.{Local}
use Rattle.cpn_types.specs.declared.surroundings.Surroundings.{Surroundings}
use Rattle.cpn_forms.specs.declared.lookups.Predeclared.{Predeclared}
use Rattle.cpn_forms.specs.declared.lookups.Predeclared.TheVariants as predeclared

pub first_is : (ds : Declared) (context : Context) (xs : List Ast) (x : Ast) (at : ℕ) (sc : Scope) (w : Option PlainTy) → 0 < length xs → x ≡ get_or xs 0 x → typed_first ds context (asts_from (map ast_view xs)) at sc w ≡ typed ds context (ast_view x) sc w
first_is ds context [] x at sc w lt e = absurd (omega arith)
first_is ds context (y ∷ ys) x at sc w lt e = ap (λ z. typed ds context (ast_view z) sc w) (sym e)

pub offset_there : (x : Ast) → offset_of (ast_view x) ≡ x.at
offset_there x = search (rules, the_lemmas)

pub offset_is : (xs : List Ast) (x : Ast) (at : ℕ) → 0 < length xs → x ≡ get_or xs 0 x → first_offset at (asts_from (map ast_view xs)) ≡ x.at
offset_is [] x at lt e = absurd (omega arith)
offset_is (y ∷ ys) x at lt e = offset_there y ∙ ap (λ z. z.at) (sym e)

pub rest_is : (ds : Declared) (context : Context) (xs : List Ast) (sc : Scope) (ts : PlainTys) → typed_rest ds context (asts_from (map ast_view xs)) sc ts ≡ typed_parts ds context (asts_from (map ast_view (drop 1 xs))) sc ts
rest_is ds context [] sc ts = refl
rest_is ds context (x ∷ xs) sc ts = refl

pub none_first : (ds : Declared) (context : Context) (xs : List Ast) (at : ℕ) (sc : Scope) (w : Option PlainTy) → nat_eq (length xs) 0 ≡ true → typed_first ds context (asts_from (map ast_view xs)) at sc w ≡ refused (mismatch at)
none_first ds context [] at sc w h = refl
none_first ds context (x ∷ xs) at sc w h = let no : nat_eq (length (x ∷ xs)) 0 ≡ false = search rules in cc

-- ---- the first refusal counts, however what follows is grouped

pub regrouped : {A B C : Type 0} (c : Checked A) (f : A → Checked B) (g : B → Checked C) → ((c >>= f) >>= g) ≡ (c >>= λ x. f x >>= g)
regrouped (ok x) f g = refl
regrouped (refused r) f g = refl

pub alike_behind : {A B : Type 0} (c : Checked A) (f g : A → Checked B) → ((x : A) → f x ≡ g x) → (c >>= f) ≡ (c >>= g)
alike_behind (ok x) f g h = h x
alike_behind (refused r) f g h = refl

pub refused_behind : {A B : Type 0} (q : Option Refusal) (c : Checked A) (f : A → Checked B) → Refuses q c → Refuses q (c >>= f)
refused_behind None c f h = tt
refused_behind (Some q) c f h = ap (λ x. x >>= f) h

-- ---- predeclared functions

at_item : (u : PlainTy) (at spot_at : ℕ) (others : PlainTy → PlainTys) (rest : PlainTys → Checked Parts) (made : PlainTy → PlainTy → PlainExprs → Checked Typed)
    → (item_of u at >>= λ t. parts_of_types (others t) spot_at rest >>= made u t) ≡ ((item_of u at >>= λ t. ok (others t)) >>= λ ts. rest ts >>= λ p. accepted_if (same_types p.types ts) (mismatch spot_at) p.exprs >>= made u (item_or u))
at_item unit_type at spot_at others rest made = refl
at_item bool_type at spot_at others rest made = refl
at_item int_type at spot_at others rest made = refl
at_item text_type at spot_at others rest made = refl
at_item (enumeration i) at spot_at others rest made = refl
at_item (union i) at spot_at others rest made = refl
at_item (tuples ts) at spot_at others rest made = refl
at_item (lists t) at spot_at others rest made = regrouped (rest (others t)) (λ p. accepted_if (same_types p.types (others t)) (mismatch spot_at) p.exprs) (made (lists t) t)

-- where the type of what is given is that of the list, it is that of its items in a list
same_list : (u : PlainTy) (at : ℕ) (X : Type 0) (f : PlainTy → PlainTy → Checked X) → (item_of u at >>= λ t. f u t) ≡ (item_of u at >>= λ t. f (lists t) t)
same_list unit_type at X f = refl
same_list bool_type at X f = refl
same_list int_type at X f = refl
same_list text_type at X f = refl
same_list (enumeration i) at X f = refl
same_list (union i) at X f = refl
same_list (tuples ts) at X f = refl
same_list (lists t) at X f = refl

-- of a list that is given back
gives_list : (o : Operation) (spot : Spot) (xs : Arguments)
    → on_list o (λ t. no_types) lists spot xs
    ≡ (xs.first.check None >>= λ a. (item_of a.type_of xs.first.at >>= λ t. ok no_types) >>= λ ts. xs.rest ts >>= λ p. accepted_if (same_types p.types ts) (mismatch spot.at) p.exprs >>= λ es. meets spot.wanted spot.at (apply (operation o) (more_exprs a.expr es)) a.type_of)
gives_list o spot xs = alike_behind (xs.first.check None) _ _ (λ a.
    sym (same_list a.type_of xs.first.at Typed (λ v t. parts_of_types no_types spot.at xs.rest >>= λ es. meets spot.wanted spot.at (apply (operation o) (more_exprs a.expr es)) v))
    ∙ at_item a.type_of xs.first.at spot.at (λ t. no_types) xs.rest (λ u t es. meets spot.wanted spot.at (apply (operation o) (more_exprs a.expr es)) u))

-- of its items, or of a type of its own
gives_other : (o : Operation) (others : PlainTy → PlainTys) (given : PlainTy → PlainTy) (spot : Spot) (xs : Arguments)
    → on_list o others given spot xs
    ≡ (xs.first.check None >>= λ a. (item_of a.type_of xs.first.at >>= λ t. ok (others t)) >>= λ ts. xs.rest ts >>= λ p. accepted_if (same_types p.types ts) (mismatch spot.at) p.exprs >>= λ es. meets spot.wanted spot.at (apply (operation o) (more_exprs a.expr es)) (given (item_or a.type_of)))
gives_other o others given spot xs = alike_behind (xs.first.check None) _ _ (λ a. at_item a.type_of xs.first.at spot.at others xs.rest (λ u t es. meets spot.wanted spot.at (apply (operation o) (more_exprs a.expr es)) (given t)))

pub predeclared_is : (o : Predeclared) (spot : Spot) (n : Name) (asts : PlainAsts) (xs : Arguments) → call_rule (does (predeclared_view o)) spot n asts xs ≡ from_arguments o spot xs
predeclared_is predeclared.Head spot n asts xs = gives_other head (λ t. no_types) (λ t. t) spot xs
predeclared_is predeclared.Tail spot n asts xs = gives_list tail spot xs
predeclared_is predeclared.Length spot n asts xs = gives_other list_length (λ t. no_types) (λ t. int_type) spot xs
predeclared_is predeclared.Rev spot n asts xs = gives_list reversal spot xs
predeclared_is predeclared.Mem spot n asts xs = gives_other membership (λ t. more_types t no_types) (λ t. bool_type) spot xs
predeclared_is predeclared.Size spot n asts xs = alike_behind (xs.first.check (Some text_type)) _ _ (λ a. regrouped (xs.rest no_types) (λ p. accepted_if (same_types p.types no_types) (mismatch spot.at) p.exprs) (λ es. meets spot.wanted spot.at (apply (operation string_size) (more_exprs a.expr es)) int_type))

-- ---- functions

pub function_is : (around : Surroundings) (xs ys : List Ast) (at : ℕ) (scope : List Local) (k : ℕ) (ts : PlainTys) (t : PlainTy) (spot : Spot) (n : Name) → 0 < length xs → ys ≡ xs
    → call_rule (calls k ts t) spot n (asts_from (map ast_view xs)) (arguments_in around xs at scope)
    ≡ (typed_parts (decls_view around.decls.now) (context_view around.context) (asts_from (map ast_view (drop 0 ys))) (scope_view scope) ts >>= function_makes k spot ts t)
function_is around [] ys at scope k ts t spot n lt e = absurd (omega arith)
function_is around (x ∷ xs) ys at scope k ts t spot n lt e = rw e (regrouped (all_of (arguments_in around (x ∷ xs) at scope) ts) _ _)

-- ---- constructors

several : (around : Surroundings) (y z : Ast) (zs : List Ast) (at : ℕ) (scope : List Local) (t : PlainTy)
    → argument_rule (asts_from (map ast_view (y ∷ z ∷ zs))) t (arguments_in around (y ∷ z ∷ zs) at scope)
    ≡ (typed_parts (decls_view around.decls.now) (context_view around.context) (asts_from (map ast_view (y ∷ z ∷ zs))) (scope_view scope) (parts_wanted (Some t)) >>= tuple_made t (offset_of (ast_view y)))
several around y z zs at scope unit_type = refl
several around y z zs at scope bool_type = refl
several around y z zs at scope int_type = refl
several around y z zs at scope text_type = refl
several around y z zs at scope (enumeration i) = refl
several around y z zs at scope (union i) = refl
several around y z zs at scope (tuples ts) = regrouped (all_of (arguments_in around (y ∷ z ∷ zs) at scope) ts) _ _
several around y z zs at scope (lists t) = refl

pub arguments_are : (around : Surroundings) (xs ys : List Ast) (x : Ast) (at : ℕ) (scope : List Local) (t : PlainTy) (ws : PlainTys) → 1 < length xs → ys ≡ xs → ws ≡ parts_wanted (Some t) → x ≡ get_or xs 0 x
    → argument_rule (asts_from (map ast_view xs)) t (arguments_in around xs at scope)
    ≡ (typed_parts (decls_view around.decls.now) (context_view around.context) (asts_from (map ast_view (drop 0 ys))) (scope_view scope) ws >>= tuple_made t x.at)
arguments_are around [] ys x at scope t ws lt e v f = absurd (omega arith)
arguments_are around (y ∷ []) ys x at scope t ws lt e v f = absurd (omega arith)
arguments_are around (y ∷ z ∷ zs) ys x at scope t ws lt e v f =
    let k : offset_of (ast_view y) ≡ x.at = offset_there y ∙ ap (λ u. u.at) (sym f) in
    rw (e, v, ← k) (several around y z zs at scope t)

pub some_there : (xs : List Ast) → nat_eq (length xs) 0 ≡ false → 0 < length xs
some_there [] h = absurd (let no : nat_eq 0 0 ≡ true = refl in cc)
some_there (x ∷ xs) h = omega arith
