-- Patterns that are checked already, in front of what the rules say of the rest; and the arguments of a constructor.
use Rattle.std.proofs.Common.{◌≡◌, ℕ, zero, suc, ◌+◌, ◌<◌, ◌≤◌, min, true, false, nat_eq, drop_of_length-le, List, [], ◌∷◌, ◌++◌, length, get_or, drop, map, refl, sym, ap, ◌∙◌, arith, rules, add-one, drop-cons, Box, Vec, String, Global, string_bytes, Some}
use Rattle.cpn_trees.specs.Trees.{pat, pat_call, pats_from}
use Rattle.cpn_trees.specs.declared.patterns.PatForm as tree_forms
use Rattle.cpn_trees.specs.declared.patterns.PatForm.TheVariants as forms
use Rattle.cpn_trees.specs.PatViews.{pat_view}
use Rattle.cpn_trees.specs.declared.patterns.Pat.{Pat}
use Rattle.cpn_trees.specs.declared.patterns.Pat as trees
use Rattle.cpn_definitions.specs.Inscription.{PlainPattern, applied_pattern, PlainPatterns, no_patterns, more_patterns, patterns_from}
use Rattle.cpn_definitions.proofs.ListItems.{map_more}
use Rattle.cpn_core.specs.Inscriptions.{pattern_view}
use Rattle.cpn_core.specs.declared.inscriptions.Pat as core
use Rattle.cpn_core.specs.declared.inscriptions.Pat.TheVariants as pats
use Rattle.cpn_core.proofs.InscriptionLevels.{view_con_pattern}
use Rattle.cpn_typing.specs.Types.{PlainTy}
use Rattle.cpn_typing.specs.Names.{Scope, found, Checked, ok, refused, mismatch, ◌>>=◌}
use Rattle.cpn_typing.specs.PatternRules.{Around, BoundPattern, BoundPatterns, bound_by, bound_by_parts, bound_by_items, tuple_rule, first_at, takes, constructor_named, applied_rule}
use Rattle.cpn_forms.specs.ScopeViews.{scope_view}
use Rattle.cpn_declared.specs.TypeViews.{ty_view, tys_view}
use Rattle.cpn_forms.specs.BoundViews.{argument_in, bound_with}
use Rattle.cpn_forms.specs.declared.scopes.Local.{Local}
use Rattle.cpn_declared.specs.declared.types.Ty.{Ty}

pub scope_length : (xs : List Local) → length (scope_view xs) ≡ length xs
scope_length [] = refl
scope_length (x ∷ xs) = ap suc (scope_length xs)

-- ---- the arguments of a constructor

at_first : (x : Pat) (xs : List Pat) (at : ℕ) → first_at at (pats_from (map pat_view (x ∷ xs))) ≡ x.at
at_first x xs at = search (rules, trees.the_lemmas)

pub first_is : (xs : List Pat) (x : Pat) (at : ℕ) → nat_eq (length xs) 0 ≡ false → x ≡ get_or xs 0 x → first_at at (pats_from (map pat_view xs)) ≡ x.at
first_is [] x at h e = absurd (let no : nat_eq 0 0 ≡ true = refl in cc)
first_is (y ∷ ys) x at h e = at_first y ys at ∙ ap (λ z. z.at) (sym e)

pub none_first : (xs : List Pat) (at : ℕ) → nat_eq (length xs) 0 ≡ true → first_at at (pats_from (map pat_view xs)) ≡ at
none_first [] at h = refl
none_first (x ∷ xs) at h = let no : nat_eq (length (x ∷ xs)) 0 ≡ false = search rules in cc

pub one_argument : (around : Around) (xs : List Pat) (x : Pat) (at : ℕ) (bound : Scope) (t : PlainTy) → length xs ≡ 1 → x ≡ get_or xs 0 x
    → argument_in around (pats_from (map pat_view xs)) at bound t ≡ bound_by around (pat_view x) t bound
one_argument around [] x at bound t n e = absurd (omega arith)
one_argument around (y ∷ []) x at bound t n e = ap (λ z. bound_by around (pat_view z) t bound) (sym e)
one_argument around (y ∷ z ∷ zs) x at bound t n e = absurd (omega arith)

pub not_one_argument : (around : Around) (xs : List Pat) (at first : ℕ) (bound : Scope) (t : PlainTy) → (length xs ≡ 1 → ⊥) → first ≡ first_at at (pats_from (map pat_view xs))
    → argument_in around (pats_from (map pat_view xs)) at bound t ≡ tuple_rule t first (λ ts. bound_by_parts around (pats_from (map pat_view xs)) first ts bound)
not_one_argument around [] at first bound t n e = ap (λ k. tuple_rule t k (λ ts. bound_by_parts around (pats_from (map pat_view [])) k ts bound)) (sym e)
not_one_argument around (y ∷ []) at first bound t n e = absurd (n refl)
not_one_argument around (y ∷ z ∷ zs) at first bound t n e = ap (λ k. tuple_rule t k (λ ts. bound_by_parts around (pats_from (map pat_view (y ∷ z ∷ zs))) k ts bound)) (sym e)

-- ---- a constructor with its argument

pub view_call : (at : ℕ) (n : String Global) (ps : Vec Pat Global) → pat_view (record { at = at; form = forms.Call n ps }) ≡ pat at (pat_call (string_bytes n) (pats_from (map pat_view ps.items)))
view_call at n ps = search (rules, trees.the_lemmas, tree_forms.the_lemmas)

abbrev made : Scope → PlainPattern → Checked BoundPattern
made next p = ok (record { pattern = p; locals = next })

pub applied_is : (around : Around) (p : Pat) (n : String Global) (ps : Vec Pat Global) (name : List ℕ) (arguments : List Pat) (t u : PlainTy) (k : ℕ) (bound next : Scope) (q : core.Pat) (b : Box core.Pat Global)
    → p.form ≡ forms.Call n ps → name ≡ string_bytes n → arguments ≡ ps.items
    → constructor_named (found name around.scope around.declared) name p.at t ≡ takes k u
    → argument_in around (pats_from (map pat_view arguments)) p.at bound u ≡ ok (bound_with next q)
    → b.value ≡ q
    → bound_by around (pat_view p) t bound ≡ ok (bound_with next (pats.Con k (Some b)))
applied_is around p n ps name arguments t u k bound next q b e m a c d v =
    ap (λ f. bound_by around (pat_view (record { at = p.at; form = f })) t bound) e
    ∙ ap (λ x. bound_by around x t bound) (view_call p.at n ps)
    ∙ ap (λ x. bound_by around (pat p.at (pat_call x (pats_from (map pat_view ps.items)))) t bound) (sym m)
    ∙ ap (λ xs. bound_by around (pat p.at (pat_call name (pats_from (map pat_view xs)))) t bound) (sym a)
    ∙ ap (λ x. applied_rule x (λ w. argument_in around (pats_from (map pat_view arguments)) p.at bound w)) c
    ∙ ap (λ r. r >>= λ y. made y.locals (applied_pattern k y.pattern)) d
    ∙ ap (made next) (sym (view_con_pattern k b ∙ ap (λ z. applied_pattern k (pattern_view z)) v))

-- ---- several

abbrev pub patterns_before : List PlainPattern → PlainPatterns → PlainPatterns
patterns_before [] ps = ps
patterns_before (x ∷ xs) ps = more_patterns x (patterns_before xs ps)

abbrev pub before_patterns : List PlainPattern → Checked BoundPatterns → Checked BoundPatterns
before_patterns xs (ok b) = ok (record { patterns = patterns_before xs b.patterns; locals = b.locals })
before_patterns xs (refused r) = refused r

patterns_more : (xs : List PlainPattern) (p : PlainPattern) (rest : PlainPatterns) → patterns_before (xs ++ p ∷ []) rest ≡ patterns_before xs (more_patterns p rest)
patterns_more [] p rest = refl
patterns_more (x ∷ xs) p rest = ap (more_patterns x) (patterns_more xs p rest)

in_front : (xs : List PlainPattern) (p : PlainPattern) (c : Checked BoundPatterns) → before_patterns (xs ++ p ∷ []) c ≡ before_patterns xs (c >>= λ rest. ok (record { patterns = more_patterns p rest.patterns; locals = rest.locals }))
in_front xs p (ok b) = rw (patterns_more xs p b.patterns) refl
in_front xs p (refused r) = refl

patterns_all : (xs : List PlainPattern) → patterns_before xs no_patterns ≡ patterns_from xs
patterns_all [] = refl
patterns_all (x ∷ xs) = ap (more_patterns x) (patterns_all xs)

pub part_step : (around : Around) (xs : List Pat) (ts : List Ty) (i at : ℕ) (x : Pat) (t : Ty) (ps ps2 : List core.Pat) (p : core.Pat) (now next : Scope) (all : Checked BoundPatterns)
    → i < length xs → i < length ts → x ≡ get_or xs i x → t ≡ get_or ts i t → bound_by around (pat_view x) (ty_view t) now ≡ ok (bound_with next p) → ps2 ≡ ps ++ p ∷ []
    → before_patterns (map pattern_view ps) (bound_by_parts around (pats_from (map pat_view (drop i xs))) at (tys_view (drop i ts)) now) ≡ all
    → before_patterns (map pattern_view ps2) (bound_by_parts around (pats_from (map pat_view (drop (i + 1) xs))) at (tys_view (drop (i + 1) ts)) next) ≡ all
part_step around xs ts i at x t ps ps2 p now next all lx lt ex et f y h =
    let dx : drop i xs ≡ x ∷ drop (suc i) xs = drop-cons xs i x lx ∙ ap (λ z. z ∷ drop (suc i) xs) (sym ex) in
    let dt : drop i ts ≡ t ∷ drop (suc i) ts = drop-cons ts i t lt ∙ ap (λ z. z ∷ drop (suc i) ts) (sym et) in
    let k = rw (dx, dt, f) at h in
    let m : map pattern_view ps2 ≡ map pattern_view ps ++ pattern_view p ∷ [] = ap (map pattern_view) y ∙ map_more pattern_view ps p in
    rw (add-one i, m) (in_front (map pattern_view ps) (pattern_view p) (bound_by_parts around (pats_from (map pat_view (drop (suc i) xs))) at (tys_view (drop (suc i) ts)) next) ∙ k)

pub parts_done : (around : Around) (xs : List Pat) (ts : List Ty) (i at : ℕ) (ps : List core.Pat) (now : Scope) → i ≡ min (length xs) (length ts) → length xs ≡ length ts
    → before_patterns (map pattern_view ps) (bound_by_parts around (pats_from (map pat_view (drop i xs))) at (tys_view (drop i ts)) now) ≡ ok (record { patterns = patterns_from (map pattern_view ps); locals = now })
parts_done around xs ts i at ps now e s =
    let dx : drop i xs ≡ [] = drop_of_length-le xs (omega arith) in
    let dt : drop i ts ≡ [] = drop_of_length-le ts (omega arith) in
    rw (dx, dt, patterns_all (map pattern_view ps)) refl

differ : (around : Around) (xs : List Pat) (ts : List Ty) (i at : ℕ) (now : Scope) → i ≡ min (length xs) (length ts) → (length xs ≡ length ts → ⊥)
    → bound_by_parts around (pats_from (map pat_view (drop i xs))) at (tys_view (drop i ts)) now ≡ refused (mismatch at)
differ around [] [] i at now e n = absurd (n refl)
differ around [] (t ∷ ts) i at now e n = let z : i ≡ 0 = omega arith in rw z refl
differ around (x ∷ xs) [] i at now e n = let z : i ≡ 0 = omega arith in rw z refl
differ around (x ∷ xs) (t ∷ ts) zero at now e n = let no : ⊥ = omega arith in absurd no
differ around (x ∷ xs) (t ∷ ts) (suc i) at now e n = differ around xs ts i at now (omega arith) (λ h. n (ap suc h))

pub parts_differ : (around : Around) (xs : List Pat) (ts : List Ty) (i at : ℕ) (ps : List core.Pat) (now : Scope) (all : Checked BoundPatterns) → i ≡ min (length xs) (length ts) → (length xs ≡ length ts → ⊥)
    → before_patterns (map pattern_view ps) (bound_by_parts around (pats_from (map pat_view (drop i xs))) at (tys_view (drop i ts)) now) ≡ all → all ≡ refused (mismatch at)
parts_differ around xs ts i at ps now all e n h = sym h ∙ ap (before_patterns (map pattern_view ps)) (differ around xs ts i at now e n)

pub item_step : (around : Around) (xs : List Pat) (t : PlainTy) (i : ℕ) (x : Pat) (ps ps2 : List core.Pat) (p : core.Pat) (now next : Scope) (all : Checked BoundPatterns)
    → i < length xs → x ≡ get_or xs i x → bound_by around (pat_view x) t now ≡ ok (bound_with next p) → ps2 ≡ ps ++ p ∷ []
    → before_patterns (map pattern_view ps) (bound_by_items around (pats_from (map pat_view (drop i xs))) t now) ≡ all
    → before_patterns (map pattern_view ps2) (bound_by_items around (pats_from (map pat_view (drop (i + 1) xs))) t next) ≡ all
item_step around xs t i x ps ps2 p now next all lx ex f y h =
    let dx : drop i xs ≡ x ∷ drop (suc i) xs = drop-cons xs i x lx ∙ ap (λ z. z ∷ drop (suc i) xs) (sym ex) in
    let k = rw (dx, f) at h in
    let m : map pattern_view ps2 ≡ map pattern_view ps ++ pattern_view p ∷ [] = ap (map pattern_view) y ∙ map_more pattern_view ps p in
    rw (add-one i, m) (in_front (map pattern_view ps) (pattern_view p) (bound_by_items around (pats_from (map pat_view (drop (suc i) xs))) t next) ∙ k)

pub items_done : (around : Around) (xs : List Pat) (t : PlainTy) (i : ℕ) (ps : List core.Pat) (now : Scope) → length xs ≤ i
    → before_patterns (map pattern_view ps) (bound_by_items around (pats_from (map pat_view (drop i xs))) t now) ≡ ok (record { patterns = patterns_from (map pattern_view ps); locals = now })
items_done around xs t i ps now le =
    let dx : drop i xs ≡ [] = drop_of_length-le xs le in
    rw (dx, patterns_all (map pattern_view ps)) refl
