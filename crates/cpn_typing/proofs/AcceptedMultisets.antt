-- What is accepted as an inscription of an arc or as an initial marking has terms, or a fault: by going through the rules.
use Rattle.std.proofs.Common.{◌≡◌, ℕ, Bool, true, false, List, [], ◌∷◌, ◌++◌, Option, Some, None, refl, subst}
use Rattle.std.specs.List.{AllByRecursion}
use Rattle.cpn_definitions.specs.Colour.{PlainColour}
use Rattle.cpn_definitions.specs.Outcome.{HasMeaning}
use Rattle.cpn_definitions.specs.Inscription.{ArcInscription, one, later, stamped, ArcInscriptions, ArcArms}
use Rattle.cpn_definitions.specs.Bindable.{variables_of}
use Rattle.cpn_definitions.specs.Terms.{terms_behind}
use Rattle.cpn_definitions.proofs.RisingLists.{each_appended}
use Rattle.cpn_trees.specs.declared.operators.Infix.TheVariants as sign
use Rattle.cpn_trees.specs.Trees.{PlainAst, ast, PlainForm, empty, let_in, infixed, sum, if_else, case_of, PlainAsts, no_ast, more_asts, PlainArms, no_arm, more_arms, PlainLocals, no_local, more_locals}
use Rattle.cpn_trees.specs.Trees as tree
use Rattle.cpn_typing.specs.Types.{PlainTy, bool_type, int_type}
use Rattle.cpn_typing.specs.Names.{Scope, Checked, ok, refused, ◌>>=◌, local_of}
use Rattle.cpn_typing.specs.Contexts.{Context}
use Rattle.cpn_typing.specs.PatternRules.{typed_pattern}
use Rattle.cpn_typing.specs.Rules.{Typed}
use Rattle.cpn_typing.specs.Expressions.{typed}
use Rattle.cpn_typing.specs.Law.{World, AreBound, IsReadable, IsWanted}
use Rattle.cpn_typing.specs.Multisets.{Side, input, output, initial, inside, Site, delay_rule, stamp_rule, marked, marked_form, marked_each, marked_arms, marked_let, checked_arc, checked_init, site_of}
use Rattle.cpn_typing.specs.InscriptionVariables.{inscription_variables, each_variables, arms_variables}
use Rattle.cpn_typing.proofs.Outcomes.{Accepts, accepts_then, accepts_at}
use Rattle.cpn_typing.proofs.PatternsFit.{PatternFits, pattern_fits}
use Rattle.cpn_typing.proofs.TermsOfForms.{Valued, there_is_meaning, Marked, one_means, times_means, later_means, stamped_means, chosen_means, bound_means, EachMarked, more_mean, ArmsMarked, more_arms_mean, selected_means}
use Rattle.cpn_typing.proofs.RulesKept.{Sound}
use Rattle.cpn_typing.proofs.Acceptance.{accepted}

-- what is accepted as an inscription of one value
record IsAccepted (g : World) (context : Context) (sc : Scope) (w : Option PlainTy) (r : Typed) : Type 0 where
  wanted : IsWanted w r.type_of
  readable : AllByRecursion (IsReadable g.declared context) (variables_of r.expr)
  valued : Valued g sc r.expr r.type_of

accepted_is : (g : World) (context : Context) (a : PlainAst) (sc : Scope) (w : Option PlainTy) → Accepts (IsAccepted g context sc w) (typed g.declared context a sc w)
accepted_is g context a sc w = split (typed g.declared context a sc w) (λ r is. accepted g context a sc w r is)
  where
    split : (c : Checked Typed) → ((r : Typed) → c ≡ ok r → Sound g context sc w r) → Accepts (IsAccepted g context sc w) c
    split (ok r) h = let sound = h r refl in record { wanted = sound.wanted; readable = sound.meaningful.reads; valued = sound.meaningful.means }
    split (refused r) h = tt

-- where a multiset inscription stands, among what is declared in a world
abbrev site_in : World → Side → PlainTy → Bool → Site
site_in g side t timed = record { declared = g.declared; side = side; token_type = t; timed = timed }

-- each of the variables is one that may be read there
abbrev Readable : World → Side → List ℕ → Type 0
Readable g side xs = AllByRecursion (IsReadable g.declared (inside side)) xs

record IsMarked (g : World) (side : Side) (sc : Scope) (m : ArcInscription) : Type 0 where
  readable : Readable g side (inscription_variables m)
  has_terms : Marked g sc m

record AreMarked (g : World) (side : Side) (sc : Scope) (ms : ArcInscriptions) : Type 0 where
  readable : Readable g side (each_variables ms)
  have_terms : EachMarked g sc ms

record ArmsAreMarked (g : World) (side : Side) (sc : Scope) (t : PlainTy) (arms : ArcArms) : Type 0 where
  readable : Readable g side (arms_variables arms)
  have_terms : ArmsMarked g sc t arms

both_readable : (g : World) (side : Side) (xs ys : List ℕ) → Readable g side xs → Readable g side ys → Readable g side (xs ++ ys)
both_readable g side xs ys h k = each_appended (IsReadable g.declared (inside side)) xs ys h k

-- an inscription of a wanted type
at_wanted : (g : World) (side : Side) (sc : Scope) (t : PlainTy) (r : Typed) → IsAccepted g (inside side) sc (Some t) r → Valued g sc r.expr t
at_wanted g side sc t r h = subst (Valued g sc r.expr) h.wanted h.valued

delay_marked : (g : World) (side : Side) (sc : Scope) (timed : Bool) (s : ℕ) (m : ArcInscription) → IsMarked g side sc m → Accepts (IsMarked g side sc) (delay_rule side timed s m)
delay_marked g input sc timed s m h = tt
delay_marked g output sc true s m h = h
delay_marked g output sc false s m h = tt
delay_marked g initial sc timed s m h = tt

stamp_marked : (g : World) (side : Side) (sc : Scope) (timed : Bool) (s : ℕ) (m : ArcInscription) → IsMarked g side sc m → Accepts (IsMarked g side sc) (stamp_rule side timed s m)
stamp_marked g input sc timed s m h = tt
stamp_marked g output sc timed s m h = tt
stamp_marked g initial sc true s m h = h
stamp_marked g initial sc false s m h = tt

-- an inscription of the place's own type is one token
one_marked : (g : World) (side : Side) (t : PlainTy) (a : PlainAst) (sc : Scope) → Accepts (IsMarked g side sc) (typed g.declared (inside side) a sc (Some t) >>= λ token. ok (one token.expr))
one_marked g side t a sc =
    accepts_then (IsAccepted g (inside side) sc (Some t)) (IsMarked g side sc) (typed g.declared (inside side) a sc (Some t)) _ (accepted_is g (inside side) a sc (Some t))
    (λ r h. record { readable = h.readable; has_terms = one_means g sc r.expr t (at_wanted g side sc t r h) })

mutual
  marked_is : (g : World) (side : Side) (t : PlainTy) (timed : Bool) (a : PlainAst) (sc : Scope) → Accepts (IsMarked g side sc) (marked (site_in g side t timed) a sc)
  marked_is g side t timed (ast at form) sc = form_is g side t timed form at sc

  form_is : (g : World) (side : Side) (t : PlainTy) (timed : Bool) (form : PlainForm) (at : ℕ) (sc : Scope) → Accepts (IsMarked g side sc) (marked_form (site_in g side t timed) form at sc)
  form_is g side t timed empty at sc = record { readable = tt; has_terms = λ ls f b colour before. tt }
  form_is g side t timed (infixed sign.Times s k e) at sc =
      accepts_then (IsAccepted g (inside side) sc (Some int_type)) (IsMarked g side sc) (typed g.declared (inside side) k sc (Some int_type)) _ (accepted_is g (inside side) k sc (Some int_type))
      (λ x h. accepts_then (IsAccepted g (inside side) sc (Some t)) (IsMarked g side sc) (typed g.declared (inside side) e sc (Some t)) _ (accepted_is g (inside side) e sc (Some t))
      (λ y i. record {
        readable = both_readable g side (variables_of x.expr) (variables_of y.expr) h.readable i.readable;
        has_terms = times_means g sc x.expr y.expr t (at_wanted g side sc int_type x h) (at_wanted g side sc t y i);
      }))
  form_is g side t timed (infixed sign.Later s m d) at sc =
      accepts_then (IsMarked g side sc) (IsMarked g side sc) (marked (site_in g side t timed) m sc) _ (marked_is g side t timed m sc)
      (λ x h. accepts_then (IsAccepted g (inside side) sc (Some int_type)) (IsMarked g side sc) (typed g.declared (inside side) d sc (Some int_type)) _ (accepted_is g (inside side) d sc (Some int_type))
      (λ y i. delay_marked g side sc timed s (later x y.expr) (record {
        readable = both_readable g side (inscription_variables x) (variables_of y.expr) h.readable i.readable;
        has_terms = later_means g sc x y.expr h.has_terms (at_wanted g side sc int_type y i);
      })))
  form_is g side t timed (tree.stamped m s z) at sc =
      accepts_then (IsMarked g side sc) (IsMarked g side sc) (marked (site_in g side t timed) m sc) _ (marked_is g side t timed m sc)
      (λ x h. stamp_marked g side sc timed s (stamped x z) (record { readable = h.readable; has_terms = stamped_means g sc x z h.has_terms }))
  form_is g side t timed (sum ms) at sc =
      accepts_then (AreMarked g side sc) (IsMarked g side sc) (marked_each (site_in g side t timed) ms sc) _ (each_is g side t timed ms sc)
      (λ x h. record { readable = h.readable; has_terms = h.have_terms })
  form_is g side t timed (if_else c m n) at sc =
      accepts_then (IsAccepted g (inside side) sc (Some bool_type)) (IsMarked g side sc) (typed g.declared (inside side) c sc (Some bool_type)) _ (accepted_is g (inside side) c sc (Some bool_type))
      (λ x h. accepts_then (IsMarked g side sc) (IsMarked g side sc) (marked (site_in g side t timed) m sc) _ (marked_is g side t timed m sc)
      (λ y i. accepts_then (IsMarked g side sc) (IsMarked g side sc) (marked (site_in g side t timed) n sc) _ (marked_is g side t timed n sc)
      (λ z j. record {
        readable = both_readable g side (variables_of x.expr) (inscription_variables y ++ inscription_variables z) h.readable
            (both_readable g side (inscription_variables y) (inscription_variables z) i.readable j.readable);
        has_terms = chosen_means g sc x.expr y z (at_wanted g side sc bool_type x h) i.has_terms j.has_terms;
      })))
  form_is g side t timed (case_of e arms) at sc =
      accepts_then (IsAccepted g (inside side) sc None) (IsMarked g side sc) (typed g.declared (inside side) e sc None) _ (accepted_is g (inside side) e sc None)
      (λ x h. accepts_then (ArmsAreMarked g side sc x.type_of) (IsMarked g side sc) (marked_arms (site_in g side t timed) arms sc x.type_of) _ (arms_are g side t timed arms sc x.type_of)
      (λ y i. record {
        readable = both_readable g side (variables_of x.expr) (arms_variables y) h.readable i.readable;
        has_terms = selected_means g sc x.expr x.type_of y h.valued i.have_terms;
      }))
  form_is g side t timed (let_in locals m) at sc = let_is g side t timed locals sc (marked (site_in g side t timed) m) (λ inner. marked_is g side t timed m inner)
  form_is g side t timed form at sc = one_marked g side t (ast at form) sc

  each_is : (g : World) (side : Side) (t : PlainTy) (timed : Bool) (ms : PlainAsts) (sc : Scope) → Accepts (AreMarked g side sc) (marked_each (site_in g side t timed) ms sc)
  each_is g side t timed no_ast sc = record { readable = tt; have_terms = λ ls f b colour before. tt }
  each_is g side t timed (more_asts m ms) sc =
      accepts_then (IsMarked g side sc) (AreMarked g side sc) (marked (site_in g side t timed) m sc) _ (marked_is g side t timed m sc)
      (λ x h. accepts_then (AreMarked g side sc) (AreMarked g side sc) (marked_each (site_in g side t timed) ms sc) _ (each_is g side t timed ms sc)
      (λ y i. record {
        readable = both_readable g side (inscription_variables x) (each_variables y) h.readable i.readable;
        have_terms = more_mean g sc x y h.has_terms i.have_terms;
      }))

  arms_are : (g : World) (side : Side) (t : PlainTy) (timed : Bool) (arms : PlainArms) (sc : Scope) (u : PlainTy) → Accepts (ArmsAreMarked g side sc u) (marked_arms (site_in g side t timed) arms sc u)
  arms_are g side t timed no_arm sc u = record { readable = tt; have_terms = λ ls f b v h colour before. tt }
  arms_are g side t timed (more_arms p m arms) sc u =
      accepts_then (PatternFits g.sets [] u) (ArmsAreMarked g side sc u) (typed_pattern g.declared p sc u) _ (pattern_fits g sc p u [])
      (λ b k. accepts_then (IsMarked g side (sc ++ b.locals)) (ArmsAreMarked g side sc u) (marked (site_in g side t timed) m (sc ++ b.locals)) _ (marked_is g side t timed m (sc ++ b.locals))
      (λ x h. accepts_then (ArmsAreMarked g side sc u) (ArmsAreMarked g side sc u) (marked_arms (site_in g side t timed) arms sc u) _ (arms_are g side t timed arms sc u)
      (λ y i. record {
        readable = both_readable g side (inscription_variables x) (arms_variables y) h.readable i.readable;
        have_terms = more_arms_mean g sc k.inner u b.pattern x y k.matches (subst (λ inner. Marked g (sc ++ inner) x) k.locals_are h.has_terms) i.have_terms;
      })))

  let_is : (g : World) (side : Side) (t : PlainTy) (timed : Bool) (locals : PlainLocals) (sc : Scope) (body : Scope → Checked ArcInscription) → ((inner : Scope) → Accepts (IsMarked g side inner) (body inner)) → Accepts (IsMarked g side sc) (marked_let (site_in g side t timed) locals sc body)
  let_is g side t timed no_local sc body p = p sc
  let_is g side t timed (more_locals n e locals) sc body p =
      accepts_then (IsAccepted g (inside side) sc None) (IsMarked g side sc) (typed g.declared (inside side) e sc None) _ (accepted_is g (inside side) e sc None)
      (λ x h. accepts_then (IsMarked g side (sc ++ local_of n x.type_of ∷ [])) (IsMarked g side sc) (marked_let (site_in g side t timed) locals (sc ++ local_of n x.type_of ∷ []) body) _ (let_is g side t timed locals (sc ++ local_of n x.type_of ∷ []) body p)
      (λ y i. record {
        readable = both_readable g side (variables_of x.expr) (inscription_variables y) h.readable i.readable;
        has_terms = bound_means g sc n x.expr y x.type_of h.valued i.has_terms;
      }))

-- ---- arcs and initial markings

-- The inscription of an arc has terms or a fault wherever its variables are bound to values of their types.
pub arc_has_terms : (g : World) (side : Side) (colour : PlainColour) (a : PlainAst) (m : ArcInscription) → checked_arc g.declared side colour a ≡ ok m → AreBound g (inscription_variables m) → (at : PlainColour) → HasMeaning (terms_behind m at g.setting [] 0)
arc_has_terms g side colour a m is b at =
    let here = accepts_at (IsMarked g side []) (checked_arc g.declared side colour a) m (marked_is g side (site_of g.declared side colour).token_type colour.timed a []) is in
    there_is_meaning (λ terms. Unit {0}) (terms_behind m at g.setting [] 0) (here.has_terms [] tt b at 0)

-- its variables are declared, and stand in no closed text
pub arc_is_readable : (g : World) (side : Side) (colour : PlainColour) (a : PlainAst) (m : ArcInscription) → checked_arc g.declared side colour a ≡ ok m → AllByRecursion (IsReadable g.declared (inside side)) (inscription_variables m)
arc_is_readable g side colour a m is =
    (accepts_at (IsMarked g side []) (checked_arc g.declared side colour a) m (marked_is g side (site_of g.declared side colour).token_type colour.timed a []) is).readable

-- An initial marking has terms or a fault: it reads no variable.
pub init_has_terms : (g : World) (colour : PlainColour) (a : PlainAst) (m : ArcInscription) → checked_init g.declared colour a ≡ ok m → HasMeaning (terms_behind m colour g.setting [] 0)
init_has_terms g colour a m is =
    arc_has_terms g initial colour a m is (none_read (inscription_variables m) (arc_is_readable g initial colour a m is)) colour
  where
    none_read : (xs : List ℕ) → AllByRecursion (IsReadable g.declared (inside initial)) xs → AreBound g xs
    none_read [] h = tt
    none_read (x ∷ xs) h = let open_there = h.0.0 in absurd (cc)
