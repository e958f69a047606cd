-- Typed: the typed inscription of a tree among the declared names and its locals, at a wanted type or with none,
-- or the first refusal. Each form goes by its rule. Source: own choice, after CPN ML.
use Rattle.std.specs.Prelude.{ℕ, false, [], ◌∷◌, ◌++◌, Option, Some, None}
use Rattle.cpn_definitions.specs.Value as value
use Rattle.cpn_definitions.specs.Inscription.{tupling, literal, apply, bind, no_exprs, more_exprs, no_arms, more_arms}
use Rattle.cpn_trees.specs.Trees.{PlainAst, ast, PlainForm, number, text, truth, empty, time, name, call, unit, tuple, list, let_in, prefixed, infixed, stamped, sum, if_else, case_of, fold, PlainAsts, no_ast, more_asts, PlainArms, no_arm, PlainLocals, no_local, more_locals}
use Rattle.cpn_trees.specs.Trees as tree
use Rattle.cpn_typing.specs.Types.{PlainTy, unit_type, bool_type, int_type, text_type, tuples, PlainTys, no_types, more_types}
use Rattle.cpn_typing.specs.Names.{Declared, Scope, local_of, found, mismatch, Checked, ok, refused, ◌>>=◌}
use Rattle.cpn_typing.specs.Contexts.{Context, may_tell_time, misplaced_stamp}
use Rattle.cpn_typing.specs.PatternRules.{typed_pattern}
use Rattle.cpn_typing.specs.Rules.{Typed, Parts, Items, Arms, Spot, part, meets, item_wanted, parts_wanted, first_wanted, later_wanted, infix_rule, prefix_rule, name_rule, time_rule, called_as, call_rule, first_offset, list_rule, if_rule, case_rule, fold_rule}

-- where a form stands
abbrev pub spot_at : Context → ℕ → Option PlainTy → Spot
spot_at context at w = record { context = context; at = at; wanted = w }

abbrev mutual
  pub typed : Declared → Context → PlainAst → Scope → Option PlainTy → Checked Typed
  typed ds context (ast at form) sc w = typed_form ds context form at sc w

  pub typed_form : Declared → Context → PlainForm → ℕ → Scope → Option PlainTy → Checked Typed
  typed_form ds context (number z) at sc w = meets w at (literal (value.int z)) int_type
  typed_form ds context (text bytes) at sc w = meets w at (literal (value.text bytes)) text_type
  typed_form ds context (truth b) at sc w = meets w at (literal (value.boolean b)) bool_type
  typed_form ds context unit at sc w = meets w at (literal value.unit) unit_type
  typed_form ds context time at sc w = time_rule (may_tell_time context) (spot_at context at w)
  typed_form ds context (name n) at sc w = name_rule (found n sc ds) (spot_at context at w) n
  typed_form ds context (call n xs) at sc w =
      call_rule (called_as (found n sc ds)) (spot_at context at w) n xs (record { first = record { at = first_offset at xs; is_empty = false; check = typed_first ds context xs at sc }; rest = typed_rest ds context xs sc })
  typed_form ds context (tuple xs) at sc w =
      typed_parts ds context xs sc (parts_wanted w) >>= λ p. meets w at (apply tupling p.exprs) (tuples p.types)
  typed_form ds context (list xs) at sc w =
      typed_items ds context xs sc (item_wanted w) >>= λ r. list_rule (spot_at context at w) r.item_type r.items
  typed_form ds context (prefixed o a) at sc w = prefix_rule o (spot_at context at w) (part a (typed ds context a sc))
  typed_form ds context (infixed o s a b) at sc w =
      infix_rule o (spot_at context at w) s (part a (typed ds context a sc)) (part b (typed ds context b sc))
  typed_form ds context (if_else c a b) at sc w =
      if_rule w (part c (typed ds context c sc)) (part a (typed ds context a sc)) (part b (typed ds context b sc))
  typed_form ds context (case_of a arms) at sc w =
      typed ds context a sc None >>= λ subject. typed_arms ds context arms sc subject.type_of w >>= λ r. case_rule at subject.expr r.arm_type r.arms
  typed_form ds context (let_in locals body) at sc w = typed_let ds context locals sc (λ inner. typed ds context body inner w)
  typed_form ds context (fold item total xs start body) at sc w =
      fold_rule w (part xs (typed ds context xs sc)) (part start (typed ds context start sc))
      (λ t s. typed ds context body (sc ++ local_of item t ∷ local_of total s ∷ []))
  -- the forms of multisets are no inscriptions of one value
  typed_form ds context empty at sc w = refused (mismatch at)
  typed_form ds context (sum xs) at sc w = typed_parts ds context xs sc no_types >>= λ p. refused (mismatch at)
  typed_form ds context (stamped a s z) at sc w = typed ds context a sc None >>= λ r. refused (misplaced_stamp context at s)

  -- the first of several parts, and those behind it
  pub typed_first : Declared → Context → PlainAsts → ℕ → Scope → Option PlainTy → Checked Typed
  typed_first ds context no_ast at sc w = refused (mismatch at)
  typed_first ds context (more_asts a xs) at sc w = typed ds context a sc w

  pub typed_rest : Declared → Context → PlainAsts → Scope → PlainTys → Checked Parts
  typed_rest ds context no_ast sc ts = ok (record { exprs = no_exprs; types = no_types })
  typed_rest ds context (more_asts a xs) sc ts = typed_parts ds context xs sc ts

  -- parts with the types that are wanted of each
  pub typed_parts : Declared → Context → PlainAsts → Scope → PlainTys → Checked Parts
  typed_parts ds context no_ast sc ts = ok (record { exprs = no_exprs; types = no_types })
  typed_parts ds context (more_asts a xs) sc ts =
      typed ds context a sc (first_wanted ts) >>= λ first. typed_parts ds context xs sc (later_wanted ts) >>= λ rest. ok (record { exprs = more_exprs first.expr rest.exprs; types = more_types first.type_of rest.types })

  -- the items of a list: the type of the first is wanted of those behind it
  pub typed_items : Declared → Context → PlainAsts → Scope → Option PlainTy → Checked Items
  typed_items ds context no_ast sc w = ok (record { items = no_exprs; item_type = w })
  typed_items ds context (more_asts a xs) sc w =
      typed ds context a sc w >>= λ first. typed_items ds context xs sc (Some first.type_of) >>= λ rest. ok (record { items = more_exprs first.expr rest.items; item_type = rest.item_type })

  -- the arms of a `case` over a subject of a type: the type of the first result is wanted of those behind it
  pub typed_arms : Declared → Context → PlainArms → Scope → PlainTy → Option PlainTy → Checked Arms
  typed_arms ds context no_arm sc subject w = ok (record { arms = no_arms; arm_type = w })
  typed_arms ds context (tree.more_arms p a arms) sc subject w =
      typed_pattern ds p sc subject >>= λ b. typed ds context a (sc ++ b.locals) w >>= λ first. typed_arms ds context arms sc subject (Some first.type_of) >>= λ rest. ok (record { arms = more_arms b.pattern first.expr rest.arms; arm_type = rest.arm_type })

  -- the values of a `let`, each seen by those behind it, and what follows in their scope
  pub typed_let : Declared → Context → PlainLocals → Scope → (Scope → Checked Typed) → Checked Typed
  typed_let ds context no_local sc body = body sc
  typed_let ds context (more_locals n a locals) sc body =
      typed ds context a sc None >>= λ first. typed_let ds context locals (sc ++ local_of n first.type_of ∷ []) body >>= λ rest. ok (record { expr = bind first.expr rest.expr; type_of = rest.type_of })
