-- What is accepted has a meaning, at the wanted type, and reads what is declared: by going through the trees.
use Rattle.std.proofs.Common.{◌≡◌, ℕ, [], ◌∷◌, ◌++◌, Option, Some, None, refl, sym, ap, subst, ◌∙◌}
use Rattle.cpn_definitions.specs.Value.{PlainValue}
use Rattle.cpn_definitions.specs.Value as value
use Rattle.cpn_definitions.specs.Inscription.{tupling, listing, apply, PlainExpr}
use Rattle.cpn_definitions.specs.Bindable.{variables_of}
use Rattle.cpn_trees.specs.Trees.{PlainAst, ast, PlainForm, number, text, truth, empty, time, name, call, unit, tuple, list, let_in, prefixed, infixed, stamped, sum, if_else, case_of, fold, PlainAsts, no_ast, more_asts, PlainArms, no_arm, more_arms, PlainLocals, no_local, more_locals}
use Rattle.cpn_typing.specs.Types.{PlainTy, unit_type, bool_type, int_type, text_type, tuples, lists, PlainTys, no_types}
use Rattle.cpn_typing.specs.Names.{Scope, local_of, found, Checked, ok}
use Rattle.cpn_typing.specs.Contexts.{Context, may_tell_time}
use Rattle.cpn_typing.specs.PatternRules.{typed_pattern}
use Rattle.cpn_typing.specs.Rules.{Typed, Items, Arms, part, item_wanted, parts_wanted, first_wanted, later_wanted, called_as, list_rule, case_rule}
use Rattle.cpn_typing.specs.Expressions.{spot_at, typed, typed_form, typed_first, typed_rest, typed_parts, typed_items, typed_arms, typed_let}
use Rattle.cpn_typing.specs.TypedValues.{of_unit, of_bool, of_int, of_text}
use Rattle.cpn_typing.specs.Law.{World, IsWanted, AcceptedHasMeaning, OneAnswer}
use Rattle.cpn_typing.proofs.Outcomes.{Accepts, accepts_then, accepts_at}
use Rattle.cpn_typing.proofs.NamesKept.{found_kept}
use Rattle.cpn_typing.proofs.PatternsFit.{PatternFits, pattern_fits}
use Rattle.cpn_typing.proofs.Operands.{AreItems}
use Rattle.cpn_typing.proofs.Meanings.{Meaningful, AllMeaningful, ArmsMeaningful, AreReadable, no_operands, no_items, more_operands, more_items, tuple_means, list_means, bind_means, no_arms_mean, more_arms_mean, select_means}
use Rattle.cpn_typing.proofs.RulesKept.{Sound, PartsSound, at_type, meets_sound, constant_means, infix_sound, prefix_sound, name_sound, time_sound, called_kept, call_sound, if_sound, fold_sound}

-- the one type of several is the wanted one, if one is wanted
abbrev AllWanted : Option PlainTy → Option PlainTy → Type 0
AllWanted None t = Unit {0}
AllWanted (Some w) t = t ≡ Some w

itself_wanted : (o : Option PlainTy) → AllWanted o o
itself_wanted None = tt
itself_wanted (Some u) = refl

record ItemsSound (g : World) (context : Context) (sc : Scope) (w : Option PlainTy) (r : Items) : Type 0 where
  wanted : AllWanted w r.item_type
  mean : (t : PlainTy) → r.item_type ≡ Some t → AllMeaningful g context sc r.items (AreItems g.sets t)

record ArmsSound (g : World) (context : Context) (sc : Scope) (s : PlainTy) (w : Option PlainTy) (r : Arms) : Type 0 where
  wanted : AllWanted w r.arm_type
  mean : (t : PlainTy) → r.arm_type ≡ Some t → ArmsMeaningful g context sc s r.arms t

list_sound : (g : World) (context : Context) (sc : Scope) (w v : Option PlainTy) (at : ℕ) (r : Items) → ItemsSound g context sc v r → Accepts (Sound g context sc w) (list_rule (spot_at context at w) r.item_type r.items)
list_sound g context sc w v at r h = by_type r.item_type h.mean
  where
    by_type : (o : Option PlainTy) → ((t : PlainTy) → o ≡ Some t → AllMeaningful g context sc r.items (AreItems g.sets t)) → Accepts (Sound g context sc w) (list_rule (spot_at context at w) o r.items)
    by_type (Some t) m = meets_sound g context sc w at (apply listing r.items) (lists t) (list_means g context sc r.items t (m t refl))
    by_type None m = tt

some_same : (a b : PlainTy) → Some a ≡ Some b → a ≡ b
some_same a b e = cc

wanted_of_all : (w : Option PlainTy) (t : PlainTy) → AllWanted w (Some t) → IsWanted w t
wanted_of_all None t h = tt
wanted_of_all (Some u) t h = some_same t u h

case_sound : (g : World) (context : Context) (sc : Scope) (s : PlainTy) (a : PlainExpr) (w : Option PlainTy) (at : ℕ) (r : Arms) → Meaningful g context sc a s → ArmsSound g context sc s w r → Accepts (Sound g context sc w) (case_rule at a r.arm_type r.arms)
case_sound g context sc s a w at r p h = by_type r.arm_type h.wanted h.mean
  where
    by_type : (o : Option PlainTy) → AllWanted w o → ((t : PlainTy) → o ≡ Some t → ArmsMeaningful g context sc s r.arms t) → Accepts (Sound g context sc w) (case_rule at a o r.arms)
    by_type (Some t) k m = record { wanted = wanted_of_all w t k; meaningful = select_means g context sc a s r.arms t p (m t refl) }
    by_type None k m = tt

-- the type of the first is that of all
first_wanted_of_all : (w : Option PlainTy) (t : PlainTy) (all : Option PlainTy) → IsWanted w t → all ≡ Some t → AllWanted w all
first_wanted_of_all None t all h e = tt
first_wanted_of_all (Some u) t all h e = e ∙ ap (λ x. Some x) h

first_type : (t u : PlainTy) (all : Option PlainTy) → all ≡ Some t → all ≡ Some u → t ≡ u
first_type t u all e f = cc

mutual
  pub typed_sound : (g : World) (context : Context) (a : PlainAst) (sc : Scope) (w : Option PlainTy) → Accepts (Sound g context sc w) (typed g.declared context a sc w)
  typed_sound g context (ast at form) sc w = form_sound g context form at sc w

  form_sound : (g : World) (context : Context) (form : PlainForm) (at : ℕ) (sc : Scope) (w : Option PlainTy) → Accepts (Sound g context sc w) (typed_form g.declared context form at sc w)
  form_sound g context (number z) at sc w = meets_sound g context sc w at _ int_type (constant_means g context sc (value.int z) int_type (of_int z))
  form_sound g context (text bytes) at sc w = meets_sound g context sc w at _ text_type (constant_means g context sc (value.text bytes) text_type (of_text bytes))
  form_sound g context (truth b) at sc w = meets_sound g context sc w at _ bool_type (constant_means g context sc (value.boolean b) bool_type (of_bool b))
  form_sound g context unit at sc w = meets_sound g context sc w at _ unit_type (constant_means g context sc value.unit unit_type of_unit)
  form_sound g context time at sc w = time_sound g context sc (may_tell_time context) (spot_at context at w)
  form_sound g context (name n) at sc w = name_sound g sc (spot_at context at w) n (found n sc g.declared) (found_kept g n sc)
  form_sound g context (call n xs) at sc w =
      call_sound g context sc (called_as (found n sc g.declared)) (spot_at context at w) n xs _ (called_kept g sc n (found n sc g.declared) (found_kept g n sc))
      (record { first = λ v. first_sound g context xs at sc v; rest = λ ts. rest_sound g context xs sc ts })
  form_sound g context (tuple xs) at sc w =
      accepts_then (PartsSound g context sc) (Sound g context sc w) (typed_parts g.declared context xs sc (parts_wanted w)) _ (parts_sound g context xs sc (parts_wanted w))
      (λ p k. meets_sound g context sc w at (apply tupling p.exprs) (tuples p.types) (tuple_means g context sc p.exprs p.types k))
  form_sound g context (list xs) at sc w =
      accepts_then (ItemsSound g context sc (item_wanted w)) (Sound g context sc w) (typed_items g.declared context xs sc (item_wanted w)) _ (items_sound g context xs sc (item_wanted w))
      (λ r k. list_sound g context sc w (item_wanted w) at r k)
  form_sound g context (prefixed o a) at sc w = prefix_sound g context sc o (spot_at context at w) (part a (typed g.declared context a sc)) (λ v. typed_sound g context a sc v)
  form_sound g context (infixed o s a b) at sc w =
      infix_sound g context sc o (spot_at context at w) s (part a (typed g.declared context a sc)) (part b (typed g.declared context b sc)) (λ v. typed_sound g context a sc v) (λ v. typed_sound g context b sc v)
  form_sound g context (if_else c a b) at sc w =
      if_sound g context sc w (part c (typed g.declared context c sc)) (part a (typed g.declared context a sc)) (part b (typed g.declared context b sc))
      (λ v. typed_sound g context c sc v) (λ v. typed_sound g context a sc v) (λ v. typed_sound g context b sc v)
  form_sound g context (case_of a arms) at sc w =
      accepts_then (Sound g context sc None) (Sound g context sc w) (typed g.declared context a sc None) _ (typed_sound g context a sc None)
      (λ s k. accepts_then (ArmsSound g context sc s.type_of w) (Sound g context sc w) (typed_arms g.declared context arms sc s.type_of w) _ (arms_sound g context arms sc s.type_of w)
      (λ r l. case_sound g context sc s.type_of s.expr w at r k.meaningful l))
  form_sound g context (let_in locals body) at sc w = let_sound g context locals sc w _ (λ inner. typed_sound g context body inner w)
  form_sound g context (fold item total xs start body) at sc w =
      fold_sound g context sc item total w (part xs (typed g.declared context xs sc)) (part start (typed g.declared context start sc)) _
      (λ v. typed_sound g context xs sc v) (λ v. typed_sound g context start sc v) (λ t s v. typed_sound g context body (sc ++ local_of item t ∷ local_of total s ∷ []) v)
  form_sound g context empty at sc w = tt
  form_sound g context (sum xs) at sc w =
      accepts_then (PartsSound g context sc) (Sound g context sc w) (typed_parts g.declared context xs sc no_types) _ (parts_sound g context xs sc no_types) (λ p k. tt)
  form_sound g context (stamped a s z) at sc w =
      accepts_then (Sound g context sc None) (Sound g context sc w) (typed g.declared context a sc None) _ (typed_sound g context a sc None) (λ r k. tt)

  first_sound : (g : World) (context : Context) (xs : PlainAsts) (at : ℕ) (sc : Scope) (w : Option PlainTy) → Accepts (Sound g context sc w) (typed_first g.declared context xs at sc w)
  first_sound g context no_ast at sc w = tt
  first_sound g context (more_asts a xs) at sc w = typed_sound g context a sc w

  rest_sound : (g : World) (context : Context) (xs : PlainAsts) (sc : Scope) (ts : PlainTys) → Accepts (PartsSound g context sc) (typed_rest g.declared context xs sc ts)
  rest_sound g context no_ast sc ts = no_operands g context sc
  rest_sound g context (more_asts a xs) sc ts = parts_sound g context xs sc ts

  parts_sound : (g : World) (context : Context) (xs : PlainAsts) (sc : Scope) (ts : PlainTys) → Accepts (PartsSound g context sc) (typed_parts g.declared context xs sc ts)
  parts_sound g context no_ast sc ts = no_operands g context sc
  parts_sound g context (more_asts a xs) sc ts =
      accepts_then (Sound g context sc (first_wanted ts)) (PartsSound g context sc) (typed g.declared context a sc (first_wanted ts)) _ (typed_sound g context a sc (first_wanted ts))
      (λ e k. accepts_then (PartsSound g context sc) (PartsSound g context sc) (typed_parts g.declared context xs sc (later_wanted ts)) _ (parts_sound g context xs sc (later_wanted ts))
      (λ p l. more_operands g context sc e.expr p.exprs e.type_of p.types k.meaningful l))

  items_sound : (g : World) (context : Context) (xs : PlainAsts) (sc : Scope) (w : Option PlainTy) → Accepts (ItemsSound g context sc w) (typed_items g.declared context xs sc w)
  items_sound g context no_ast sc w = record { wanted = itself_wanted w; mean = λ t e. no_items g context sc t }
  items_sound g context (more_asts a xs) sc w =
      accepts_then (Sound g context sc w) (ItemsSound g context sc w) (typed g.declared context a sc w) _ (typed_sound g context a sc w)
      (λ e k. accepts_then (ItemsSound g context sc (Some e.type_of)) (ItemsSound g context sc w) (typed_items g.declared context xs sc (Some e.type_of)) _ (items_sound g context xs sc (Some e.type_of))
      (λ r l. record {
        wanted = first_wanted_of_all w e.type_of r.item_type k.wanted l.wanted;
        mean = λ t h. more_items g context sc e.expr r.items t (at_type g context sc e.expr e.type_of t (first_type e.type_of t r.item_type l.wanted h) k.meaningful) (l.mean t h);
      }))

  arms_sound : (g : World) (context : Context) (arms : PlainArms) (sc : Scope) (s : PlainTy) (w : Option PlainTy) → Accepts (ArmsSound g context sc s w) (typed_arms g.declared context arms sc s w)
  arms_sound g context no_arm sc s w = record { wanted = itself_wanted w; mean = λ t e. no_arms_mean g context sc s t }
  arms_sound g context (more_arms p a arms) sc s w =
      accepts_then (PatternFits g.sets [] s) (ArmsSound g context sc s w) (typed_pattern g.declared p sc s) _ (pattern_fits g sc p s [])
      (λ b m. accepts_then (Sound g context (sc ++ b.locals) w) (ArmsSound g context sc s w) (typed g.declared context a (sc ++ b.locals) w) _ (typed_sound g context a (sc ++ b.locals) w)
      (λ e k. accepts_then (ArmsSound g context sc s (Some e.type_of)) (ArmsSound g context sc s w) (typed_arms g.declared context arms sc s (Some e.type_of)) _ (arms_sound g context arms sc s (Some e.type_of))
      (λ r l. record {
        wanted = first_wanted_of_all w e.type_of r.arm_type k.wanted l.wanted;
        mean = λ t h. more_arms_mean g context sc m.inner s t b.pattern e.expr r.arms m.matches
            (subst (λ inner. Meaningful g context (sc ++ inner) e.expr t) m.locals_are (at_type g context (sc ++ b.locals) e.expr e.type_of t (first_type e.type_of t r.arm_type l.wanted h) k.meaningful))
            (l.mean t h);
      })))

  let_sound : (g : World) (context : Context) (locals : PlainLocals) (sc : Scope) (w : Option PlainTy) (body : Scope → Checked Typed) → ((inner : Scope) → Accepts (Sound g context inner w) (body inner)) → Accepts (Sound g context sc w) (typed_let g.declared context locals sc body)
  let_sound g context no_local sc w body p = p sc
  let_sound g context (more_locals n a locals) sc w body p =
      accepts_then (Sound g context sc None) (Sound g context sc w) (typed g.declared context a sc None) _ (typed_sound g context a sc None)
      (λ e k. accepts_then (Sound g context (sc ++ local_of n e.type_of ∷ []) w) (Sound g context sc w) (typed_let g.declared context locals (sc ++ local_of n e.type_of ∷ []) body) _ (let_sound g context locals (sc ++ local_of n e.type_of ∷ []) w body p)
      (λ r l. record { wanted = l.wanted; meaningful = bind_means g context sc n e.expr r.expr e.type_of r.type_of k.meaningful l.meaningful }))

-- what is accepted, as one record
pub accepted : (g : World) (context : Context) (tree : PlainAst) (sc : Scope) (w : Option PlainTy) (r : Typed) → typed g.declared context tree sc w ≡ ok r → Sound g context sc w r
accepted g context tree sc w r e = accepts_at (Sound g context sc w) (typed g.declared context tree sc w) r (typed_sound g context tree sc w) e

-- The law.
pub accepted_has_meaning : AcceptedHasMeaning
accepted_has_meaning g context tree sc w r ls e f b = (accepted g context tree sc w r e).meaningful.means ls f b

-- the type that is found is the wanted one
pub accepted_as_wanted : (g : World) (context : Context) (tree : PlainAst) (sc : Scope) (w : Option PlainTy) (r : Typed) → typed g.declared context tree sc w ≡ ok r → IsWanted w r.type_of
accepted_as_wanted g context tree sc w r e = (accepted g context tree sc w r e).wanted

-- what is accepted reads variables that are declared, and none in a closed text
pub accepted_reads : (g : World) (context : Context) (tree : PlainAst) (sc : Scope) (w : Option PlainTy) (r : Typed) → typed g.declared context tree sc w ≡ ok r → AreReadable g context (variables_of r.expr)
accepted_reads g context tree sc w r e = (accepted g context tree sc w r e).meaningful.reads

-- Typed is a function.
pub one_answer : OneAnswer
one_answer ds context tree sc w a c e f = sym e ∙ f
