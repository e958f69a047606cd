-- The scope of parameters, one parameter after another.
use Rattle.std.proofs.Common.{◌≡◌, ◌∙◌, ℕ, ◌+◌, ◌<◌, ◌≤◌, Bool, true, false, List, [], ◌∷◌, ◌++◌, length, map, drop, get_or, sym, ap, string_bytes, if◌then◌else◌}
use Rattle.std.proofs.lemmas.List.{at_drop_more, at_drop_all}
use Rattle.cpn_trees.specs.DeclTrees.{parameter_view}
use Rattle.cpn_trees.specs.declared.declaration_trees.Parameter.{Parameter}
use Rattle.cpn_typing.specs.Declarations.{scope_of, type_named}
use Rattle.cpn_typing.specs.Names.{Name, Scope, Declared, Refusal, Checked, ok, refused, ◌>>=◌, is_local, local_of, duplicate, accepted_if}
use Rattle.cpn_typing.specs.Types.{PlainTy}

module _ (ds : Declared) (ps : List Parameter) (i : ℕ) (sc : Scope) where
  module _ (p : Parameter) (lt : i < length ps) (at : p ≡ get_or ps i p) (n : Name) (is : n ≡ string_bytes p.name) where
    -- behind the type of the next parameter, and the whole by whether its name is taken
    abbrev behind : PlainTy → Checked Scope
    behind t = scope_of ds (map parameter_view (drop (i + 1) ps)) (sc ++ local_of (string_bytes p.name) t ∷ [])

    abbrev by : Bool → Checked Scope
    by taken = accepted_if (if taken then false else true) (duplicate (string_bytes p.name)) (string_bytes p.colour) >>= λ colour. type_named ds colour >>= behind

    next : scope_of ds (map parameter_view (drop i ps)) sc ≡ by (is_local n sc)
    next =
        at_drop_more (λ qs. scope_of ds (map parameter_view qs) sc) ps i p lt
        ∙ ap (λ q. scope_of ds (parameter_view q ∷ map parameter_view (drop (i + 1) ps)) sc) (sym at)
        ∙ ap (λ m. by (is_local m sc)) (sym is)

    pub name_taken : is_local n sc ≡ true → scope_of ds (map parameter_view (drop i ps)) sc ≡ refused (duplicate n)
    name_taken taken = next ∙ ap by taken ∙ ap (λ m. refused (duplicate m)) (sym is)

    pub no_type : is_local n sc ≡ false → (r : Refusal) → type_named ds (string_bytes p.colour) ≡ refused r → scope_of ds (map parameter_view (drop i ps)) sc ≡ refused r
    no_type new r h = next ∙ ap by new ∙ ap (λ c. c >>= behind) h

    pub local_more : is_local n sc ≡ false → (t : PlainTy) → type_named ds (string_bytes p.colour) ≡ ok t
        → scope_of ds (map parameter_view (drop (i + 1) ps)) (sc ++ local_of n t ∷ []) ≡ scope_of ds (map parameter_view (drop i ps)) sc
    local_more new t h = ap (λ m. scope_of ds (map parameter_view (drop (i + 1) ps)) (sc ++ local_of m t ∷ [])) is ∙ sym (next ∙ ap by new ∙ ap (λ c. c >>= behind) h)

  pub scope_ends : length ps ≤ i → scope_of ds (map parameter_view (drop i ps)) sc ≡ ok sc
  scope_ends past = at_drop_all (λ qs. scope_of ds (map parameter_view qs) sc) ps i past
