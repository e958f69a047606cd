-- A pattern that is typed, held against a value of its type, either matches and binds values of its locals' types, or does
-- not match.
use Rattle.std.proofs.Common.{◌≡◌, ℕ, ◌==◌, ◌∙◌, Bool, true, false, List, [], ◌∷◌, ◌++◌, Option, Some, None, refl, sym, ap, subst, append_assoc, IfSome, cond, rules}
use Rattle.std.proofs.lemmas.Bool.{eqb-true}
use Rattle.cpn_definitions.specs.Value.{PlainValue, PlainValues, none, more}
use Rattle.cpn_definitions.specs.Value as value
use Rattle.cpn_definitions.specs.Order.{same_value}
use Rattle.cpn_definitions.specs.Inscription.{PlainPattern, literal_pattern, tuple_pattern, list_pattern, cons_pattern, bare_pattern, applied_pattern, PlainPatterns, no_patterns, more_patterns}
use Rattle.cpn_definitions.specs.Matching.{matched, matched_each, both_bound}
use Rattle.cpn_trees.specs.Trees.{PlainPat, pat, PlainPatForm, any, pat_name, pat_number, pat_text, pat_truth, pat_call, pat_unit, pat_tuple, pat_list, pat_cons, PlainPats, no_pat, more_pats}
use Rattle.cpn_typing.specs.Types.{PlainTy, unit_type, bool_type, int_type, text_type, enumeration, union, tuples, lists, PlainTys, no_types, more_types, same_type}
use Rattle.cpn_typing.specs.Names.{Name, a_constant, a_constructor, Scope, local_of, Found, declared, found, is_local, mismatch, Checked}
use Rattle.cpn_typing.specs.PatternRules.{Around, BoundPattern, BoundPatterns, holding, binding, name_pattern, first_at, Constructor, takes, refuses, constructor_of, constructor_named, applied_rule, tuple_rule, argument_rule, bound_by_first, list_rule, cons_rule, bound_by, bound_by_form, bound_by_parts, bound_by_items}
use Rattle.cpn_typing.specs.TypedValues.{Sets, HasType, of_tuple, of_bare, of_applied, of_list, HaveTypes, of_none, of_more, AllHave, all_none, all_more}
use Rattle.cpn_typing.specs.Law.{Fits, World}
use Rattle.cpn_typing.proofs.Outcomes.{Accepts, accepts_then, accepts_if}
use Rattle.cpn_typing.proofs.NamesKept.{fits_more, FoundKept, found_kept}
use Rattle.cpn_typing.proofs.SameTypes.{same_type_is}

-- What a typed pattern does: the locals that it binds stand behind those bound before it, and where it
-- matches a value of the type, it binds values of their types.
pub record PatternFits (sets : Sets) (bound : Scope) (t : PlainTy) (r : BoundPattern) : Type 0 where
  pub inner : Scope
  pub locals_are : r.locals ≡ bound ++ inner
  pub matches : (v : PlainValue) → HasType sets v t → IfSome (matched r.pattern v) (Fits sets inner)

pub record PatternsFit (sets : Sets) (bound : Scope) (ts : PlainTys) (r : BoundPatterns) : Type 0 where
  pub inner : Scope
  pub locals_are : r.locals ≡ bound ++ inner
  pub matches : (vs : PlainValues) → HaveTypes sets vs ts → IfSome (matched_each r.patterns vs) (Fits sets inner)

pub record ItemsFit (sets : Sets) (bound : Scope) (t : PlainTy) (r : BoundPatterns) : Type 0 where
  pub inner : Scope
  pub locals_are : r.locals ≡ bound ++ inner
  pub matches : (vs : PlainValues) → AllHave sets vs t → IfSome (matched_each r.patterns vs) (Fits sets inner)

-- two matches, one behind the other
both_match : (sets : Sets) (inner later : Scope) (o p : Option (List PlainValue)) → IfSome o (Fits sets inner) → IfSome p (Fits sets later) → IfSome (both_bound o p) (Fits sets (inner ++ later))
both_match sets inner later (Some xs) (Some ys) f h = fits_more sets inner later xs ys f h
both_match sets inner later (Some xs) None f h = tt
both_match sets inner later None p f h = tt

-- a match that binds nothing
nothing_bound : (sets : Sets) (b : Bool) → IfSome (cond b (Some []) None) (Fits sets [])
nothing_bound sets true = tt
nothing_bound sets false = tt

holding_fits : (sets : Sets) (bound : Scope) (t : PlainTy) (b : Bool) (at : ℕ) (p : PlainPattern) → ((b ≡ true) → (v : PlainValue) → HasType sets v t → IfSome (matched p v) (Fits sets [])) → Accepts (PatternFits sets bound t) (holding b at p bound)
holding_fits sets bound t b at p f =
    accepts_if (PatternFits sets bound t) b (mismatch at) (record { pattern = p; locals = bound }) (λ e. record { inner = []; locals_are = search rules; matches = f e })

literal_fits : (sets : Sets) (bound : Scope) (t : PlainTy) (b : Bool) (at : ℕ) (w : PlainValue) → Accepts (PatternFits sets bound t) (holding b at (literal_pattern w) bound)
literal_fits sets bound t b at w = holding_fits sets bound t b at (literal_pattern w) (λ e v h. nothing_bound sets (same_value w v))

bare_matches : (sets : Sets) (id k : ℕ) (v : PlainValue) → HasType sets v (union id) → IfSome (matched (bare_pattern k) v) (Fits sets [])
bare_matches sets id k v (of_bare i j e) = nothing_bound sets (k == j)
bare_matches sets id k v (of_applied i j t w e h) = tt

binding_fits : (sets : Sets) (around : Around) (n : Name) (t : PlainTy) (bound : Scope) (b : Bool) → Accepts (PatternFits sets bound t) (binding b around n t bound)
binding_fits sets around n t bound true = tt
binding_fits sets around n t bound false = record { inner = local_of n t ∷ []; locals_are = refl; matches = λ v h. (h, tt) }

name_fits : (sets : Sets) (around : Around) (at : ℕ) (n : Name) (t : PlainTy) (bound : Scope) (f : Found) → Accepts (PatternFits sets bound t) (name_pattern f around at n t bound)
name_fits sets around at n t bound (declared (a_constant id k)) = literal_fits sets bound t (same_type (enumeration id) t) at (value.constant k)
name_fits sets around at n t bound (declared (a_constructor id k None)) =
    holding_fits sets bound t (same_type (union id) t) at (bare_pattern k)
    (λ e v h. bare_matches sets id k v (subst (HasType sets v) (sym (same_type_is (union id) t e)) h))
name_fits sets around at n t bound (declared (a_constructor id k (Some u))) = tt
name_fits sets around at n t bound f = binding_fits sets around n t bound (is_local n bound)

locals_joined : (bound inner later l m : Scope) → l ≡ bound ++ inner → m ≡ l ++ later → m ≡ bound ++ (inner ++ later)
locals_joined bound inner later l m e f = f ∙ ap (λ x. x ++ later) e ∙ append_assoc bound inner later

-- tuples
tuple_matches : (sets : Sets) (inner : Scope) (ps : PlainPatterns) (ts : PlainTys) → ((vs : PlainValues) → HaveTypes sets vs ts → IfSome (matched_each ps vs) (Fits sets inner)) → (v : PlainValue) → HasType sets v (tuples ts) → IfSome (matched (tuple_pattern ps) v) (Fits sets inner)
tuple_matches sets inner ps ts f v (of_tuple vs us h) = f vs h

tuple_fits : (sets : Sets) (bound : Scope) (t : PlainTy) (at : ℕ) (parts : PlainTys → Checked BoundPatterns) → ((ts : PlainTys) → Accepts (PatternsFit sets bound ts) (parts ts)) → Accepts (PatternFits sets bound t) (tuple_rule t at parts)
tuple_fits sets bound (tuples ts) at parts f =
    accepts_then (PatternsFit sets bound ts) (PatternFits sets bound (tuples ts)) (parts ts) _ (f ts)
    (λ b h. record { inner = h.inner; locals_are = h.locals_are; matches = tuple_matches sets h.inner b.patterns ts h.matches })
tuple_fits sets bound t at parts f = tt

argument_fits : (sets : Sets) (bound : Scope) (u : PlainTy) (ps : PlainPats) (at : ℕ) (one : PlainTy → Checked BoundPattern) (parts : PlainTys → Checked BoundPatterns) → ((t : PlainTy) → Accepts (PatternFits sets bound t) (one t)) → ((ts : PlainTys) → Accepts (PatternsFit sets bound ts) (parts ts)) → Accepts (PatternFits sets bound u) (argument_rule ps at one parts u)
argument_fits sets bound u (more_pats p no_pat) at one parts f h = f u
argument_fits sets bound u ps at one parts f h = tuple_fits sets bound u at parts h

-- lists
list_matches : (sets : Sets) (inner : Scope) (ps : PlainPatterns) (t : PlainTy) → ((vs : PlainValues) → AllHave sets vs t → IfSome (matched_each ps vs) (Fits sets inner)) → (v : PlainValue) → HasType sets v (lists t) → IfSome (matched (list_pattern ps) v) (Fits sets inner)
list_matches sets inner ps t f v (of_list vs u h) = f vs h

list_fits : (sets : Sets) (bound : Scope) (t : PlainTy) (at : ℕ) (items : PlainTy → Checked BoundPatterns) → ((u : PlainTy) → Accepts (ItemsFit sets bound u) (items u)) → Accepts (PatternFits sets bound t) (list_rule t at items)
list_fits sets bound (lists t) at items f =
    accepts_then (ItemsFit sets bound t) (PatternFits sets bound (lists t)) (items t) _ (f t)
    (λ b h. record { inner = h.inner; locals_are = h.locals_are; matches = list_matches sets h.inner b.patterns t h.matches })
list_fits sets bound t at items f = tt

-- an item in front of a list
cons_matches : (sets : Sets) (inner later : Scope) (p q : PlainPattern) (t : PlainTy) → ((v : PlainValue) → HasType sets v t → IfSome (matched p v) (Fits sets inner)) → ((v : PlainValue) → HasType sets v (lists t) → IfSome (matched q v) (Fits sets later)) → (v : PlainValue) → HasType sets v (lists t) → IfSome (matched (cons_pattern p q) v) (Fits sets (inner ++ later))
cons_matches sets inner later p q t f h v (of_list ws u (all_none x)) = tt
cons_matches sets inner later p q t f h v (of_list ws u (all_more w vs x k ks)) = both_match sets inner later (matched p w) (matched q (value.list vs)) (f w k) (h (value.list vs) (of_list vs t ks))

cons_fits : (sets : Sets) (bound : Scope) (t : PlainTy) (at : ℕ) (front : PlainTy → Checked BoundPattern) (behind : PlainTy → Scope → Checked BoundPattern) → ((u : PlainTy) → Accepts (PatternFits sets bound u) (front u)) → ((now : Scope) → Accepts (PatternFits sets now t) (behind t now)) → Accepts (PatternFits sets bound t) (cons_rule t at front (behind t))
cons_fits sets bound (lists t) at front behind f h =
    accepts_then (PatternFits sets bound t) (PatternFits sets bound (lists t)) (front t) _ (f t)
    (λ p k. accepts_then (PatternFits sets p.locals (lists t)) (PatternFits sets bound (lists t)) (behind (lists t) p.locals) _ (h p.locals)
    (λ q l. record {
      inner = k.inner ++ l.inner;
      locals_are = locals_joined bound k.inner l.inner p.locals q.locals k.locals_are l.locals_are;
      matches = cons_matches sets k.inner l.inner p.pattern q.pattern t k.matches l.matches;
    }))
cons_fits sets bound t at front behind f h = tt

-- a constructor with its argument
applied_matches : (sets : Sets) (inner : Scope) (id k : ℕ) (p : PlainPattern) (u : PlainTy) → sets.constructor id k ≡ Some (Some u) → ((v : PlainValue) → HasType sets v u → IfSome (matched p v) (Fits sets inner)) → (v : PlainValue) → HasType sets v (union id) → IfSome (matched (applied_pattern k p) v) (Fits sets inner)
applied_matches sets inner id k p u e f v (of_bare i j d) = tt
applied_matches sets inner id k p u e f v (of_applied i j t w d h) = by_test (k == j) refl
  where
    by_test : (b : Bool) → (k == j) ≡ b → IfSome (cond b (matched p w) None) (Fits sets inner)
    by_test true g = f w (let same : k ≡ j = eqb-true k j g in let types : t ≡ u = cc in subst (HasType sets w) types h)
    by_test false g = tt

-- the rules of a name in front of a parenthesis
abbrev ConstructorKept : Sets → PlainTy → Constructor → Type 0
ConstructorKept sets t (takes k u) = (id : ℕ) × (t ≡ union id) × (sets.constructor id k ≡ Some (Some u))
ConstructorKept sets t (refuses r) = Unit {0}

constructor_of_kept : (sets : Sets) (t : PlainTy) (id k : ℕ) (u : PlainTy) (at : ℕ) (b : Bool) → ((b ≡ true) → union id ≡ t) → sets.constructor id k ≡ Some (Some u) → ConstructorKept sets t (constructor_of b at k u)
constructor_of_kept sets t id k u at true e d = (id, sym (e refl), d)
constructor_of_kept sets t id k u at false e d = tt

constructor_kept : (g : World) (sc : Scope) (f : Found) (n : Name) (at : ℕ) (t : PlainTy) → FoundKept g sc n f → ConstructorKept g.sets t (constructor_named f n at t)
constructor_kept g sc (declared (a_constructor id k (Some u))) n at t h = constructor_of_kept g.sets t id k u at (same_type (union id) t) (same_type_is (union id) t) (g.kept n (a_constructor id k (Some u)) h)
constructor_kept g sc f n at t h = tt

applied_fits : (sets : Sets) (bound : Scope) (t : PlainTy) (f : Constructor) (inside : PlainTy → Checked BoundPattern) → ConstructorKept sets t f → ((u : PlainTy) → Accepts (PatternFits sets bound u) (inside u)) → Accepts (PatternFits sets bound t) (applied_rule f inside)
applied_fits sets bound t (takes k u) inside h f =
    accepts_then (PatternFits sets bound u) (PatternFits sets bound t) (inside u) _ (f u)
    (λ b l. record { inner = l.inner; locals_are = l.locals_are; matches = λ v d. applied_matches sets l.inner h.0 k b.pattern u h.2 l.matches v (subst (HasType sets v) h.1 d) })
applied_fits sets bound t (refuses r) inside h f = tt

-- several, each against its own type and all against one type
none_match : (sets : Sets) (vs : PlainValues) → HaveTypes sets vs no_types → IfSome (matched_each no_patterns vs) (Fits sets [])
none_match sets vs of_none = tt

more_match : (sets : Sets) (inner later : Scope) (p : PlainPattern) (ps : PlainPatterns) (t : PlainTy) (ts : PlainTys) → ((v : PlainValue) → HasType sets v t → IfSome (matched p v) (Fits sets inner)) → ((vs : PlainValues) → HaveTypes sets vs ts → IfSome (matched_each ps vs) (Fits sets later)) → (vs : PlainValues) → HaveTypes sets vs (more_types t ts) → IfSome (matched_each (more_patterns p ps) vs) (Fits sets (inner ++ later))
more_match sets inner later p ps t ts f h vs (of_more w ws u us k ks) = both_match sets inner later (matched p w) (matched_each ps ws) (f w k) (h ws ks)

no_item_matches : (sets : Sets) (t : PlainTy) (vs : PlainValues) → AllHave sets vs t → IfSome (matched_each no_patterns vs) (Fits sets [])
no_item_matches sets t vs (all_none u) = tt
no_item_matches sets t vs (all_more w ws u k ks) = tt

items_match : (sets : Sets) (inner later : Scope) (p : PlainPattern) (ps : PlainPatterns) (t : PlainTy) → ((v : PlainValue) → HasType sets v t → IfSome (matched p v) (Fits sets inner)) → ((vs : PlainValues) → AllHave sets vs t → IfSome (matched_each ps vs) (Fits sets later)) → (vs : PlainValues) → AllHave sets vs t → IfSome (matched_each (more_patterns p ps) vs) (Fits sets (inner ++ later))
items_match sets inner later p ps t f h vs (all_none u) = tt
items_match sets inner later p ps t f h vs (all_more w ws u k ks) = both_match sets inner later (matched p w) (matched_each ps ws) (f w k) (h ws ks)

abbrev around_of : World → Scope → Around
around_of g sc = record { declared = g.declared; scope = sc }

mutual
  pub pattern_fits : (g : World) (sc : Scope) (p : PlainPat) (t : PlainTy) (bound : Scope) → Accepts (PatternFits g.sets bound t) (bound_by (around_of g sc) p t bound)
  pattern_fits g sc (pat at form) t bound = form_fits g sc form at t bound

  form_fits : (g : World) (sc : Scope) (form : PlainPatForm) (at : ℕ) (t : PlainTy) (bound : Scope) → Accepts (PatternFits g.sets bound t) (bound_by_form (around_of g sc) form at t bound)
  form_fits g sc any at t bound = record { inner = []; locals_are = search rules; matches = λ v h. tt }
  form_fits g sc (pat_name n) at t bound = name_fits g.sets (around_of g sc) at n t bound (found n sc g.declared)
  form_fits g sc (pat_number z) at t bound = literal_fits g.sets bound t (same_type int_type t) at (value.int z)
  form_fits g sc (pat_text bytes) at t bound = literal_fits g.sets bound t (same_type text_type t) at (value.text bytes)
  form_fits g sc (pat_truth b) at t bound = literal_fits g.sets bound t (same_type bool_type t) at (value.boolean b)
  form_fits g sc pat_unit at t bound = literal_fits g.sets bound t (same_type unit_type t) at value.unit
  form_fits g sc (pat_call n ps) at t bound =
      applied_fits g.sets bound t (constructor_named (found n sc g.declared) n at t) _ (constructor_kept g sc (found n sc g.declared) n at t (found_kept g n sc))
      (λ u. argument_fits g.sets bound u ps (first_at at ps) _ _ (λ x. first_fits g sc ps at x bound) (λ ts. parts_fit g sc ps (first_at at ps) ts bound))
  form_fits g sc (pat_tuple ps) at t bound = tuple_fits g.sets bound t at _ (λ ts. parts_fit g sc ps at ts bound)
  form_fits g sc (pat_list ps) at t bound = list_fits g.sets bound t at _ (λ u. items_fit g sc ps u bound)
  form_fits g sc (pat_cons p q) at t bound =
      cons_fits g.sets bound t at _ (λ u now. bound_by (around_of g sc) q u now) (λ u. pattern_fits g sc p u bound) (λ now. pattern_fits g sc q t now)

  first_fits : (g : World) (sc : Scope) (ps : PlainPats) (at : ℕ) (t : PlainTy) (bound : Scope) → Accepts (PatternFits g.sets bound t) (bound_by_first (around_of g sc) ps at t bound)
  first_fits g sc no_pat at t bound = tt
  first_fits g sc (more_pats p ps) at t bound = pattern_fits g sc p t bound

  parts_fit : (g : World) (sc : Scope) (ps : PlainPats) (at : ℕ) (ts : PlainTys) (bound : Scope) → Accepts (PatternsFit g.sets bound ts) (bound_by_parts (around_of g sc) ps at ts bound)
  parts_fit g sc no_pat at no_types bound = record { inner = []; locals_are = search rules; matches = none_match g.sets }
  parts_fit g sc (more_pats p ps) at (more_types t ts) bound =
      accepts_then (PatternFits g.sets bound t) (PatternsFit g.sets bound (more_types t ts)) (bound_by (around_of g sc) p t bound) _ (pattern_fits g sc p t bound)
      (λ first k. accepts_then (PatternsFit g.sets first.locals ts) (PatternsFit g.sets bound (more_types t ts)) (bound_by_parts (around_of g sc) ps at ts first.locals) _ (parts_fit g sc ps at ts first.locals)
      (λ rest l. record {
        inner = k.inner ++ l.inner;
        locals_are = locals_joined bound k.inner l.inner first.locals rest.locals k.locals_are l.locals_are;
        matches = more_match g.sets k.inner l.inner first.pattern rest.patterns t ts k.matches l.matches;
      }))
  parts_fit g sc ps at ts bound = tt

  items_fit : (g : World) (sc : Scope) (ps : PlainPats) (t : PlainTy) (bound : Scope) → Accepts (ItemsFit g.sets bound t) (bound_by_items (around_of g sc) ps t bound)
  items_fit g sc no_pat t bound = record { inner = []; locals_are = search rules; matches = no_item_matches g.sets t }
  items_fit g sc (more_pats p ps) t bound =
      accepts_then (PatternFits g.sets bound t) (ItemsFit g.sets bound t) (bound_by (around_of g sc) p t bound) _ (pattern_fits g sc p t bound)
      (λ first k. accepts_then (ItemsFit g.sets first.locals t) (ItemsFit g.sets bound t) (bound_by_items (around_of g sc) ps t first.locals) _ (items_fit g sc ps t first.locals)
      (λ rest l. record {
        inner = k.inner ++ l.inner;
        locals_are = locals_joined bound k.inner l.inner first.locals rest.locals k.locals_are l.locals_are;
        matches = items_match g.sets k.inner l.inner first.pattern rest.patterns t k.matches l.matches;
      }))
