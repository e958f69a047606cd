-- The rules of inscriptions whose value is a multiset: those of arcs and of initial markings. `++`, the backtick, `empty`,
-- `@+` and `@` stand at the root, and there under `++`, `@+`, `@`, parentheses and as a result of `if`, `case` and `let`; an
-- inscription of the place's own type stands there for one token. Parts come before the form's own rule, which is here
-- whether time may be named. Source: own choice, after CPN ML.
use Rattle.std.specs.Prelude.{ℕ, Bool, true, false, [], ◌∷◌, ◌++◌, Some, None}
use Rattle.cpn_definitions.specs.Inscription.{ArcInscription, no_token, one, times, sum_of, later, stamped, chosen, selected, bound, ArcInscriptions, no_inscriptions, more_inscriptions, ArcArms, no_arc_arms, more_arc_arms}
use Rattle.cpn_definitions.specs.Colour.{PlainColour}
use Rattle.cpn_trees.specs.declared.operators.Infix.TheVariants as sign
use Rattle.cpn_trees.specs.Trees.{PlainAst, ast, PlainForm, empty, let_in, infixed, sum, if_else, case_of, PlainAsts, no_ast, more_asts, PlainArms, no_arm, more_arms, PlainLocals, no_local, more_locals}
use Rattle.cpn_trees.specs.Trees as tree
use Rattle.cpn_typing.specs.Types.{PlainTy, bool_type, int_type, type_of_shape}
use Rattle.cpn_typing.specs.Names.{Declared, Scope, local_of, input_delay, time_not_allowed, Checked, ok, refused, ◌>>=◌}
use Rattle.cpn_typing.specs.Contexts.{Context, on_input, on_output, in_marking}
use Rattle.cpn_typing.specs.PatternRules.{typed_pattern}
use Rattle.cpn_typing.specs.Expressions.{typed}

-- Where a multiset inscription stands: an arc into its transition, an arc out of it, an initial marking.
pub data Side : Type 0 where
  input : Side
  output : Side
  initial : Side

-- the same, for an inscription inside it
abbrev pub inside : Side → Context
inside input = on_input
inside output = on_output
inside initial = in_marking

-- What is around such an inscription: what is declared, where it stands, the type of its place's tokens, and whether they
-- carry time stamps.
pub record Site : Type 0 where
  pub declared : Declared
  pub side : Side
  pub token_type : PlainTy
  pub timed : Bool

abbrev pub site_of : Declared → Side → PlainColour → Site
site_of ds side colour = record { declared = ds; side = side; token_type = type_of_shape colour.shape; timed = colour.timed }

-- `@+` stands on output arcs of timed places alone
abbrev pub delay_rule : Side → Bool → ℕ → ArcInscription → Checked ArcInscription
delay_rule input timed at m = refused (input_delay at)
delay_rule output true at m = ok m
delay_rule output false at m = refused (time_not_allowed at)
delay_rule initial timed at m = refused (time_not_allowed at)

-- `@` stands in initial markings of timed places alone
abbrev pub stamp_rule : Side → Bool → ℕ → ArcInscription → Checked ArcInscription
stamp_rule input timed at m = refused (time_not_allowed at)
stamp_rule output timed at m = refused (time_not_allowed at)
stamp_rule initial true at m = ok m
stamp_rule initial false at m = refused (time_not_allowed at)

abbrev mutual
  pub marked : Site → PlainAst → Scope → Checked ArcInscription
  marked g (ast at form) sc = marked_form g form at sc

  pub marked_form : Site → PlainForm → ℕ → Scope → Checked ArcInscription
  marked_form g empty at sc = ok no_token
  marked_form g (infixed sign.Times s k e) at sc =
      typed g.declared (inside g.side) k sc (Some int_type) >>= λ count. typed g.declared (inside g.side) e sc (Some g.token_type) >>= λ token. ok (times count.expr token.expr)
  marked_form g (infixed sign.Later s m d) at sc =
      marked g m sc >>= λ terms. typed g.declared (inside g.side) d sc (Some int_type) >>= λ delay. delay_rule g.side g.timed s (later terms delay.expr)
  marked_form g (tree.stamped m s z) at sc = marked g m sc >>= λ terms. stamp_rule g.side g.timed s (stamped terms z)
  marked_form g (sum ms) at sc = marked_each g ms sc >>= λ parts. ok (sum_of parts)
  marked_form g (if_else c m n) at sc =
      typed g.declared (inside g.side) c sc (Some bool_type) >>= λ test. marked g m sc >>= λ first. marked g n sc >>= λ second. ok (chosen test.expr first second)
  marked_form g (case_of e arms) at sc =
      typed g.declared (inside g.side) e sc None >>= λ subject. marked_arms g arms sc subject.type_of >>= λ results. ok (selected subject.expr results)
  marked_form g (let_in locals m) at sc = marked_let g locals sc (marked g m)
  marked_form g form at sc = typed g.declared (inside g.side) (ast at form) sc (Some g.token_type) >>= λ token. ok (one token.expr)

  -- the parts of a sum, from left to right
  pub marked_each : Site → PlainAsts → Scope → Checked ArcInscriptions
  marked_each g no_ast sc = ok no_inscriptions
  marked_each g (more_asts m ms) sc = marked g m sc >>= λ first. marked_each g ms sc >>= λ rest. ok (more_inscriptions first rest)

  -- the arms of a `case` over a subject of a type
  pub marked_arms : Site → PlainArms → Scope → PlainTy → Checked ArcArms
  marked_arms g no_arm sc t = ok no_arc_arms
  marked_arms g (more_arms p m arms) sc t =
      typed_pattern g.declared p sc t >>= λ b. marked g m (sc ++ b.locals) >>= λ result. marked_arms g arms sc t >>= λ rest. ok (more_arc_arms b.pattern result rest)

  -- the values of a `let`, each seen by those behind it, and what follows in their scope
  pub marked_let : Site → PlainLocals → Scope → (Scope → Checked ArcInscription) → Checked ArcInscription
  marked_let g no_local sc body = body sc
  marked_let g (more_locals n e locals) sc body =
      typed g.declared (inside g.side) e sc None >>= λ value. marked_let g locals (sc ++ local_of n value.type_of ∷ []) body >>= λ m. ok (bound value.expr m)

-- The inscription of an arc at a place of a colour set, on the input or the output side. An arc on both sides is checked
-- on the input side first: what is accepted there is accepted on the other side too.
abbrev pub checked_arc : Declared → Side → PlainColour → PlainAst → Checked ArcInscription
checked_arc ds side colour a = marked (site_of ds side colour) a []

-- The initial marking of a place of a colour set.
abbrev pub checked_init : Declared → PlainColour → PlainAst → Checked ArcInscription
checked_init ds colour a = marked (site_of ds initial colour) a []
