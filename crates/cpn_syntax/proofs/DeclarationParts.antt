-- What stands behind the first token of a declaration, of the body of a colour set and of their parts, one part
-- after the other.
use Rattle.std.proofs.Common.{◌≡◌, ◌≢◌, ◌⊎◌, inl, inr, ℕ, ℤ, Bool, true, false, Some, None, Result, Ok, Err, IfOk, List, [], ◌∷◌, ◌++◌, refl, sym, ap, ◌∙◌, append_assoc, append-nil}
use Rattle.cpn_lex.specs.Token.{PlainToken}
use Rattle.cpn_lex.specs.declared.symbols.Symbol.{Symbol}
use Rattle.cpn_lex.specs.declared.symbols.Symbol.TheVariants as sign
use Rattle.cpn_syntax.specs.Texts.{Text, Is, IsName, IsNumber}
use Rattle.cpn_syntax.specs.Unread.{Begins}
use Rattle.cpn_syntax.specs.Inscriptions.{Spells}
use Rattle.cpn_syntax.specs.Completions.{Closes, nothing_more, semicolon, at_end, at_semicolon}
use Rattle.cpn_syntax.specs.Phrases.{One, one, Optional, present, absent, Each, last_one, Names}
use Rattle.cpn_syntax.specs.Endings.{No, EndsBody}
use Rattle.cpn_trees.specs.DeclTrees.{PlainAlternative, PlainParameter, PlainBody, unit, bool, int, int_range, string, enumeration, product, list, union, named, PlainDecl, decl, colour_set, variables, value, function, form_view}
use Rattle.cpn_syntax.specs.Declarations as line
use Rattle.cpn_syntax.specs.Declarations.{SpellsAlternative, SpellsParameter, SpellsBody, SpellsForm, SpellsDecl}
use Rattle.cpn_syntax.specs.Fragments.{Whole, whole, Leaves, ReadsAs, Halts}
use Rattle.cpn_trees.specs.declared.declaration_trees.DeclForm.{DeclForm}
use Rattle.cpn_syntax.specs.declared.refusals.SyntaxError.{SyntaxError}
use Rattle.cpn_syntax.specs.declared.refusals.SyntaxError.TheVariants.{Unexpected, EndOfText}
use Rattle.cpn_syntax.proofs.Fragments.{Then, next, Sign, Can, leaves_same, leaves_token, halts_at_once, split_whole, empty_front, whole_ends, other_sign}
use Rattle.cpn_syntax.proofs.Phrases.{a_sign, is_sign, a_name, is_a_name}

-- a sign that ends no body doesn't stand behind one
pub ends_body : (s : Symbol) → sign.Timed ≢ s → sign.Semicolon ≢ s → (v : Text) → EndsBody v → No s v
ends_body s no_timed no_semicolon v (inl is) = other_sign sign.Timed s no_timed v is
ends_body s no_timed no_semicolon v (inr is) = other_sign sign.Semicolon s no_semicolon v is

-- ---- N [: N]

abbrev pub Argument : List ℕ → Bool → PlainAlternative → Text → Type 0
Argument n true = Then (One IsName) (λ m. Whole (record { constructor = n; argument = Some m }))
Argument n false = Whole (record { constructor = n; argument = None })

abbrev pub AlternativeParts : PlainAlternative → Text → Type 0
AlternativeParts = Then (One IsName) (λ n. Then (Optional sign.Colon) (Argument n))

alternative_to : (a : PlainAlternative) (u : Text) → SpellsAlternative a u → AlternativeParts a u
alternative_to a u (line.bare_line n is) = next (n ∷ []) [] (one n is) (next [] [] absent whole)
alternative_to a u (line.applied_line n t m name colon colour) =
    next (n ∷ []) (t ∷ m ∷ []) (one n name) (next (t ∷ []) (m ∷ []) (present t colon) (next (m ∷ []) [] (one m colour) whole))

argument_from : (n : PlainToken) (name : List ℕ) → IsName name n → (a : PlainAlternative) (there : Bool) (z w : Text) → Optional sign.Colon there z → Argument name there a w → SpellsAlternative a (n ∷ z ++ w)
argument_from n name is a there z w (present t colon) (next p q (one m colour) rest) = let e = split_whole rest in rw (← e.0, e.1) (line.applied_line n t m is colon colour)
argument_from n name is a there z w absent rest = let e = split_whole rest in rw (← e.0, e.1) (line.bare_line n is)

alternative_from : (a : PlainAlternative) (u : Text) → AlternativeParts a u → SpellsAlternative a u
alternative_from a u (next x y (one {a = name} n is) (next {a = there} z w colon rest)) = argument_from n name is a there z w colon rest

-- only without an argument nothing of a colon is read
pub no_colon : (n : List ℕ) (a : PlainAlternative) (u v : Text) → Argument n false a u → No sign.Colon v → No sign.Colon (u ++ v)
no_colon n a u v rest ends = rw (split_whole rest).1 ends

pub alternative_begins : {Ends : Text → Type 0} {from : Text} → Leaves SpellsAlternative AlternativeParts Ends from from
alternative_begins = leaves_same alternative_to alternative_from

-- ---- N : N

abbrev pub ParameterParts : PlainParameter → Text → Type 0
ParameterParts = Then (One IsName) (λ n. Then (Sign sign.Colon) (λ _. Then (One IsName) (λ m. Whole (record { name = n; colour = m }))))

parameter_to : (a : PlainParameter) (u : Text) → SpellsParameter a u → ParameterParts a u
parameter_to a u (line.parameter_line n t m name colon colour) =
    next (n ∷ []) (t ∷ m ∷ []) (one n name) (next {a = tt} (t ∷ []) (m ∷ []) (one t colon) (next (m ∷ []) [] (one m colour) whole))

parameter_from : (a : PlainParameter) (u : Text) → ParameterParts a u → SpellsParameter a u
parameter_from a u (next x y (one n name) (next z w (one t colon) (next p q (one m colour) rest))) =
    let e = split_whole rest in rw (← e.0, e.1) (line.parameter_line n t m name colon colour)

pub parameter_begins : {Ends : Text → Type 0} {from : Text} → Leaves SpellsParameter ParameterParts Ends from from
parameter_begins = leaves_same parameter_to parameter_from

-- ---- the body of a colour set

abbrev pub IntRange : Bool → PlainBody → Text → Type 0
IntRange true = Then (One IsNumber) (λ low. Then (Sign sign.DoubleDot) (λ _. Then (One IsNumber) (λ high. Whole (int_range low high))))
IntRange false = Whole int

abbrev pub ProductParts : PlainBody → Text → Type 0
ProductParts = Then (One IsName) (λ n. Then (Sign sign.Star) (λ _. Then (Names sign.Star) (λ ns. Whole (product (n ∷ ns)))))

-- what stands behind the symbol that a body begins with
abbrev pub BodyBy : Symbol → PlainBody → Text → Type 0
BodyBy sign.Unit = Whole unit
BodyBy sign.Bool = Whole bool
BodyBy sign.Int = Then (Optional sign.With) IntRange
BodyBy sign.String = Whole string
BodyBy sign.With = Then (Names sign.Bar) (λ ns. Whole (enumeration ns))
BodyBy sign.Product = ProductParts
BodyBy sign.List = Then (One IsName) (λ n. Whole (list n))
BodyBy sign.Union = Then (Each SpellsAlternative sign.Plus) (λ found. Whole (union found))
BodyBy _ = λ b u. ⊥

body_to : (b : PlainBody) (u : Text) → SpellsBody b u → ((t : PlainToken) × (s : Symbol) × (w : Text) × (u ≡ t ∷ w) × Is s t × BodyBy s b w) ⊎ ((n : List ℕ) × (t : PlainToken) × IsName n t × (u ≡ t ∷ []) × (b ≡ named n))
body_to b u (line.unit_line t is) = inl (t, sign.Unit, [], refl, is, whole)
body_to b u (line.bool_line t is) = inl (t, sign.Bool, [], refl, is, whole)
body_to b u (line.int_line t is) = inl (t, sign.Int, [], refl, is, next [] [] absent whole)
body_to b u (line.string_line t is) = inl (t, sign.String, [], refl, is, whole)
body_to b u (line.range_line t1 t2 m t3 n is is2 low dots high) =
    inl (t1, sign.Int, t2 ∷ m ∷ t3 ∷ n ∷ [], refl, is, next (t2 ∷ []) (m ∷ t3 ∷ n ∷ []) (present t2 is2) (next (m ∷ []) (t3 ∷ n ∷ []) (one m low) (next {a = tt} (t3 ∷ []) (n ∷ []) (one t3 dots) (next (n ∷ []) [] (one n high) whole))))
body_to b u (line.with_line t v is names) = inl (t, sign.With, v, refl, is, rw (← append-nil v) (next v [] names whole))
body_to b u (line.product_line t1 n t2 v is first star names) =
    inl (t1, sign.Product, n ∷ t2 ∷ v, refl, is, rw (← append-nil v) (next (n ∷ []) (t2 ∷ v ++ []) (one n first) (next {a = tt} (t2 ∷ []) (v ++ []) (one t2 star) (next v [] names whole))))
body_to b u (line.list_line t n is name) = inl (t, sign.List, n ∷ [], refl, is, next (n ∷ []) [] (one n name) whole)
body_to b u (line.union_line t v is found) = inl (t, sign.Union, v, refl, is, rw (← append-nil v) (next v [] found whole))
body_to b u (line.named_line t {name = n} name) = inr (n, t, name, refl, refl)

range_from : (t : PlainToken) → Is sign.Int t → (b : PlainBody) (there : Bool) (x y : Text) → Optional sign.With there x → IntRange there b y → SpellsBody b (t ∷ x ++ y)
range_from t is b there x y (present t2 is2) (next p q (one m low) (next r v (one t3 dots) (next w z (one n high) rest))) =
    let e = split_whole rest in rw (← e.0, e.1) (line.range_line t t2 m t3 n is is2 low dots high)
range_from t is b there x y absent rest = let e = split_whole rest in rw (← e.0, e.1) (line.int_line t is)

body_from : (t : PlainToken) (s : Symbol) → Is s t → (b : PlainBody) (u : Text) → BodyBy s b u → SpellsBody b (t ∷ u)
body_from t sign.Unit is b u rest = let e = split_whole rest in rw (← e.0, e.1) (line.unit_line t is)
body_from t sign.Bool is b u rest = let e = split_whole rest in rw (← e.0, e.1) (line.bool_line t is)
body_from t sign.Int is b u (next {a = there} x y with_it rest) = range_from t is b there x y with_it rest
body_from t sign.String is b u rest = let e = split_whole rest in rw (← e.0, e.1) (line.string_line t is)
body_from t sign.With is b u (next v w names rest) = let e = split_whole rest in rw (← e.0, e.1, append-nil) (line.with_line t v is names)
body_from t sign.Product is b u (next _ _ (one n first) (next _ _ (one t2 star) (next v w names rest))) =
    let e = split_whole rest in rw (← e.0, e.1, append-nil) (line.product_line t n t2 v is first star names)
body_from t sign.List is b u (next _ _ (one n name) rest) = let e = split_whole rest in rw (← e.0, e.1) (line.list_line t n is name)
body_from t sign.Union is b u (next v w found rest) = let e = split_whole rest in rw (← e.0, e.1, append-nil) (line.union_line t v is found)
body_from t _ is b u rest = absurd rest

-- the body behind its first token
body_into : (t : PlainToken) (s : Symbol) → Is s t → (b : PlainBody) (u text : Text) → SpellsBody b u → (v : Text) → u ++ v ≡ t ∷ text → (w : Text) × (text ≡ w ++ v) × BodyBy s b w
body_into t s is b u text body v e = elim (body_to b u body) [
  | inl x ↦ (let same : s ≡ x.1 = cc in let e2 : text ≡ x.2 ++ v = cc in (x.2, e2, rw same x.5))
  | inr x ↦ (let e2 : t ≡ x.1 = cc in absurd cc)
]

pub body_begins : {Ends : Text → Type 0} {from : Text} (t : PlainToken) (s : Symbol) → Is s t → Leaves SpellsBody (BodyBy s) Ends (t ∷ from) from
body_begins t s is = leaves_token t (body_into t s is) (body_from t s is)

pub can_body : Can SpellsBody
can_body = (unit, a_sign sign.Unit ∷ [], line.unit_line (a_sign sign.Unit) (is_sign sign.Unit))

empty_body : (b : PlainBody) (u : Text) → SpellsBody b u → u ≡ [] → ⊥
empty_body b u body e = elim (body_to b u body) [ inl x ↦ cc | inr x ↦ cc ]

-- no body is at the end of a text
pub no_body_at_end : {Ends : Text → Type 0} → Halts SpellsBody Ends [] EndOfText
no_body_at_end = halts_at_once [] can_body (λ b u v body e. empty_body b u body (empty_front u v e))

-- nor with anything but a symbol or a name
pub no_body_of : {Ends : Text → Type 0} {from : Text} (t : PlainToken) → ((n : List ℕ) → IsName n t → ⊥) → ((s : Symbol) → Is s t → ⊥) → Halts SpellsBody Ends (t ∷ from) (Unexpected t.at)
no_body_of {from = from} t no_name no_symbol = halts_at_once (t ∷ from) can_body (λ b u v body agrees. refused b u v body agrees.0 agrees.1) where
  refused : (b : PlainBody) (u v : Text) → SpellsBody b u → (text : Text) → u ++ v ≡ t ∷ text → ⊥
  refused b u v body text e = elim (body_to b u body) [
    | inl x ↦ (let same : x.0 ≡ t = cc in no_symbol x.1 (rw (← same) x.4))
    | inr x ↦ (let same : x.1 ≡ t = cc in no_name x.0 (rw (← same) x.2))
  ]

pub named_read : {Ends : Text → Type 0} {from : Text} (t : PlainToken) (n : List ℕ) → IsName n t → ReadsAs SpellsBody Ends (t ∷ from) from (named n)
named_read t n is = leaves_token t into back where
  into : (b : PlainBody) (u text : Text) → SpellsBody b u → (v : Text) → u ++ v ≡ t ∷ text → (w : Text) × (text ≡ w ++ v) × Whole (named n) b w
  into b u text body v e = elim (body_to b u body) [
    | inl x ↦ (let same : x.0 ≡ t = cc in absurd cc)
    | inr x ↦ (let same : x.1 ≡ t = cc in let e2 : text ≡ v = cc in let e3 : b ≡ named n = cc in ([], e2, rw e3 whole))
  ]

  back : (b : PlainBody) (u : Text) → Whole (named n) b u → SpellsBody b (t ∷ u)
  back b u rest = let e = split_whole rest in rw (← e.0, e.1) (line.named_line t is)

-- nor with another symbol
pub no_body_by : {Ends : Text → Type 0} {from : Text} (t : PlainToken) (s : Symbol) → Is s t → ((b : PlainBody) (w : Text) → BodyBy s b w → ⊥) → Halts SpellsBody Ends (t ∷ from) (Unexpected t.at)
no_body_by {from = from} t s is refused = halts_at_once (t ∷ from) can_body (λ b u v body agrees. let found = body_into t s is b u agrees.0 body v agrees.1 in refused b found.0 found.2)

-- ---- declarations

abbrev pub ColourSetParts : ℕ → PlainDecl → Text → Type 0
ColourSetParts at = Then (One IsName) (λ n. Then (Sign sign.Equal) (λ _. Then SpellsBody (λ b. Then (Optional sign.Timed) (λ timed. Whole (decl at (colour_set n b timed))))))

abbrev pub VariablesParts : ℕ → PlainDecl → Text → Type 0
VariablesParts at = Then (Names sign.Comma) (λ ns. Then (Sign sign.Colon) (λ _. Then (One IsName) (λ c. Whole (decl at (variables ns c)))))

abbrev pub ValueParts : ℕ → PlainDecl → Text → Type 0
ValueParts at = Then (One IsName) (λ n. Then (Sign sign.Equal) (λ _. Then (Spells 0) (λ a. Whole (decl at (value n a)))))

-- the result of a function and what it gives
abbrev pub ResultParts : ℕ → List ℕ → List PlainParameter → PlainDecl → Text → Type 0
ResultParts at n ps = Then (One IsName) (λ r. Then (Sign sign.Equal) (λ _. Then (Spells 0) (λ a. Whole (decl at (function n ps r a)))))

abbrev pub FunctionParts : ℕ → PlainDecl → Text → Type 0
FunctionParts at = Then (One IsName) (λ n. Then (Sign sign.OpenParenthesis) (λ _. Then (Each SpellsParameter sign.Comma) (λ ps. Then (Sign sign.CloseParenthesis) (λ _. Then (Sign sign.Colon) (λ _. ResultParts at n ps)))))

-- what stands behind the symbol that a declaration begins with
abbrev pub FormBy : Symbol → ℕ → PlainDecl → Text → Type 0
FormBy sign.Colset = ColourSetParts
FormBy sign.Var = VariablesParts
FormBy sign.Val = ValueParts
FormBy sign.Fun = FunctionParts
FormBy _ = λ at f u. ⊥

form_to : (f : PlainDecl) (u : Text) → SpellsForm f u → (t : PlainToken) × (s : Symbol) × (w : Text) × (u ≡ t ∷ w) × Is s t × FormBy s t.at f w
form_to f u (line.colour_set_line t1 n t2 v w is name equal body timed) =
    (t1, sign.Colset, n ∷ t2 ∷ v ++ w, refl, is, next (n ∷ []) (t2 ∷ v ++ w) (one n name) (next {a = tt} (t2 ∷ []) (v ++ w) (one t2 equal) (next v w body (rw (← append-nil w) (next w [] timed whole)))))
form_to f u (line.variables_line t1 t2 n v is names colon name) =
    (t1, sign.Var, v ++ t2 ∷ n ∷ [], refl, is, next v (t2 ∷ n ∷ []) names (next {a = tt} (t2 ∷ []) (n ∷ []) (one t2 colon) (next (n ∷ []) [] (one n name) whole)))
form_to f u (line.value_line t1 n t2 v is name equal a) =
    (t1, sign.Val, n ∷ t2 ∷ v, refl, is, next (n ∷ []) (t2 ∷ v) (one n name) (next {a = tt} (t2 ∷ []) v (one t2 equal) (rw (← append-nil v) (next v [] a whole))))
form_to f u (line.function_line t1 n t2 t3 t4 m t5 v w is name opens parameters closes colon result equal a) = (
  t1,
  sign.Fun,
  n ∷ t2 ∷ v ++ t3 ∷ t4 ∷ m ∷ t5 ∷ w,
  refl,
  is,
  next (n ∷ []) (t2 ∷ v ++ t3 ∷ t4 ∷ m ∷ t5 ∷ w) (one n name) (next {a = tt} (t2 ∷ []) (v ++ t3 ∷ t4 ∷ m ∷ t5 ∷ w) (one t2 opens)
      (next v (t3 ∷ t4 ∷ m ∷ t5 ∷ w) parameters (next {a = tt} (t3 ∷ []) (t4 ∷ m ∷ t5 ∷ w) (one t3 closes) (next {a = tt} (t4 ∷ []) (m ∷ t5 ∷ w) (one t4 colon)
      (next (m ∷ []) (t5 ∷ w) (one m result) (next {a = tt} (t5 ∷ []) w (one t5 equal) (rw (← append-nil w) (next w [] a whole)))))))),
)

form_from : (t : PlainToken) (s : Symbol) → Is s t → (f : PlainDecl) (u : Text) → FormBy s t.at f u → SpellsForm f (t ∷ u)
form_from t sign.Colset is f u (next _ _ (one n name) (next _ _ (one t2 equal) (next v x body (next w y timed rest)))) =
    let e = split_whole rest in rw (← e.0, e.1, append-nil) (line.colour_set_line t n t2 v w is name equal body timed)
form_from t sign.Var is f u (next v _ names (next _ _ (one t2 colon) (next _ _ (one n name) rest))) =
    let e = split_whole rest in rw (← e.0, e.1) (line.variables_line t t2 n v is names colon name)
form_from t sign.Val is f u (next _ _ (one n name) (next _ _ (one t2 equal) (next v x a rest))) =
    let e = split_whole rest in rw (← e.0, e.1, append-nil) (line.value_line t n t2 v is name equal a)
form_from t sign.Fun is f u (next _ _ (one n name) (next _ _ (one t2 opens) (next v _ parameters (next _ _ (one t3 closes) (next _ _ (one t4 colon) (next _ _ (one m result) (next _ _ (one t5 equal) (next w x a rest)))))))) =
    let e = split_whole rest in rw (← e.0, e.1, append-nil) (line.function_line t n t2 t3 t4 m t5 v w is name opens parameters closes colon result equal a)
form_from t _ is f u rest = absurd rest

form_into : (t : PlainToken) (s : Symbol) → Is s t → (f : PlainDecl) (u text : Text) → SpellsForm f u → (v : Text) → u ++ v ≡ t ∷ text → (w : Text) × (text ≡ w ++ v) × FormBy s t.at f w
form_into t s is f u text form v e =
    let x = form_to f u form in let same : s ≡ x.1 = cc in let e1 : t ≡ x.0 = cc in let e2 : text ≡ x.2 ++ v = cc in (x.2, e2, rw (same, e1) x.5)

pub form_begins : {Ends : Text → Type 0} {from : Text} (t : PlainToken) (s : Symbol) → Is s t → Leaves SpellsForm (FormBy s t.at) Ends (t ∷ from) from
form_begins t s is = leaves_token t (form_into t s is) (form_from t s is)

-- what stands behind a body, and behind a declaration
pub ends_form : (v : Text) → Closes semicolon v → Begins (Is sign.Semicolon) v
ends_form v (at_semicolon t is) = is

pub int_alone : (b : PlainBody) (u v : Text) → IntRange false b u → EndsBody v → No sign.With (u ++ v)
int_alone = whole_ends (λ (b : PlainBody). b) (ends_body sign.With (λ no. cc) (λ no. cc)) int

pub range_read : {Ends : Text → Type 0} {from to : Text} {low low2 high high2 : ℤ} → low2 ≡ low → high2 ≡ high → ReadsAs SpellsBody Ends from to (int_range low high) → ReadsAs SpellsBody Ends from to (int_range low2 high2)
range_read same_low same_high read = rw (same_low, same_high) read

-- a symbol that begins no body
pub no_body : (s : Symbol) → s ≢ sign.Unit → s ≢ sign.Bool → s ≢ sign.Int → s ≢ sign.String → s ≢ sign.With → s ≢ sign.Product → s ≢ sign.List → s ≢ sign.Union
    → (b : PlainBody) (w : Text) → BodyBy s b w → ⊥
no_body sign.Unit a c d e f g h i b w rest = a refl
no_body sign.Bool a c d e f g h i b w rest = c refl
no_body sign.Int a c d e f g h i b w rest = d refl
no_body sign.String a c d e f g h i b w rest = e refl
no_body sign.With a c d e f g h i b w rest = f refl
no_body sign.Product a c d e f g h i b w rest = g refl
no_body sign.List a c d e f g h i b w rest = h refl
no_body sign.Union a c d e f g h i b w rest = i refl
no_body _ a c d e f g h i b w rest = rest

pub no_timed : (d : PlainDecl) (a : PlainDecl) (u v : Text) → Whole d a u → Closes semicolon v → No sign.Timed (u ++ v)
no_timed d = whole_ends (λ (b : PlainDecl). b) (λ v ends. other_sign sign.Semicolon sign.Timed (λ e. cc) v (ends_form v ends)) d

-- what a declaration begins with
pub can_form : Can SpellsForm
can_form = (_, _, line.variables_line (a_sign sign.Var) (a_sign sign.Colon) (a_name []) (a_name [] ∷ []) (is_sign sign.Var) (last_one (a_name [] ∷ []) (one (a_name []) (is_a_name []))) (is_sign sign.Colon) (is_a_name []))

-- what is left behind the body of a colour set
abbrev pub ColourSetRest : ℕ → List ℕ → PlainBody → PlainDecl → Text → Type 0
ColourSetRest at n b = Then (Optional sign.Timed) (λ timed. Whole (decl at (colour_set n b timed)))

pub body_ends : (at : ℕ) (n : List ℕ) (b : PlainBody) (d : PlainDecl) (u v : Text) → ColourSetRest at n b d u → Closes semicolon v → EndsBody (u ++ v)
body_ends at n b d u v (next {a = there} x y timed rest) ends = choose there x timed rest where
  choose : (there : Bool) (x : Text) → Optional sign.Timed there x → Whole (decl at (colour_set n b there)) d y → EndsBody ((x ++ y) ++ v)
  choose there x (present t is) rest = inl is
  choose there x absent rest = inr (rw (split_whole rest).1 (ends_form v ends))

pub can_body_next : {B : Type 0} {Rest : PlainBody → B → Text → Type 0} → ((b : PlainBody) → Can (Rest b)) → Can (Then SpellsBody Rest)
can_body_next can = let r = can can_body.0 in (r.0, can_body.1 ++ r.1, next can_body.1 r.1 can_body.2 r.2)

pub can_parameters : {B : Type 0} {Rest : List PlainParameter → B → Text → Type 0} → ((ps : List PlainParameter) → Can (Rest ps)) → Can (Then (Each SpellsParameter sign.Comma) Rest)
can_parameters can =
    let u = a_name [] ∷ a_sign sign.Colon ∷ a_name [] ∷ [] in
    let r = can (record { name = []; colour = [] } ∷ []) in
    (r.0, u ++ r.1, next u r.1 (last_one u (line.parameter_line (a_name []) (a_sign sign.Colon) (a_name []) (is_a_name []) (is_sign sign.Colon) (is_a_name []))) r.2)

-- ---- a declaration with its semicolon

abbrev pub DeclParts : PlainDecl → Text → Type 0
DeclParts = Then SpellsForm (λ d. Then (Sign sign.Semicolon) (λ _. Whole d))

decl_to : (d : PlainDecl) (u : Text) → SpellsDecl d u → DeclParts d u
decl_to d u (line.decl_line t v form is) = next v (t ∷ []) form (next {a = tt} (t ∷ []) [] (one t is) whole)

decl_from : (d : PlainDecl) (u : Text) → DeclParts d u → SpellsDecl d u
decl_from d u (next v x form (next y z (one t is) rest)) = let e = split_whole rest in rw (← e.0, e.1) (line.decl_line t v form is)

pub decl_begins : {Ends : Text → Type 0} {from : Text} → Leaves SpellsDecl DeclParts Ends from from
decl_begins = leaves_same decl_to decl_from

pub semicolon_ends : (d : PlainDecl) (a : PlainDecl) (u v : Text) → Then (Sign sign.Semicolon) (λ _. Whole d) a u → Closes nothing_more v → Closes semicolon (u ++ v)
semicolon_ends d a u v (next x y (one t is) rest) at_end = let e = split_whole rest in rw e.1 (at_semicolon t is)

can_decl : Can SpellsDecl
can_decl = (can_form.0, can_form.1 ++ a_sign sign.Semicolon ∷ [], line.decl_line (a_sign sign.Semicolon) can_form.1 can_form.2 (is_sign sign.Semicolon))

-- what a declaration doesn't begin with
no_form_text : (d : PlainDecl) (u v text : Text) (t : PlainToken) → SpellsForm d u → u ++ v ≡ t ∷ text → ((s : Symbol) → Is s t → (w : Text) → FormBy s t.at d w → ⊥) → ⊥
no_form_text d u v text t form e refused = let x = form_to d u form in let same : x.0 ≡ t = cc in refused x.1 (rw (← same) x.4) x.2 (rw (← same) x.5)

pub no_form : (s : Symbol) → s ≢ sign.Colset → s ≢ sign.Var → s ≢ sign.Val → s ≢ sign.Fun → (at : ℕ) (d : PlainDecl) (w : Text) → FormBy s at d w → ⊥
no_form sign.Colset a b c e at d w rest = a refl
no_form sign.Var a b c e at d w rest = b refl
no_form sign.Val a b c e at d w rest = c refl
no_form sign.Fun a b c e at d w rest = e refl
no_form _ a b c e at d w rest = rest

pub no_form_by : {Ends : Text → Type 0} {from : Text} (t : PlainToken) (s : Symbol) → Is s t → ((d : PlainDecl) (w : Text) → FormBy s t.at d w → ⊥) → Halts SpellsForm Ends (t ∷ from) (Unexpected t.at)
no_form_by {from = from} t s is refused = halts_at_once (t ∷ from) can_form (λ d u v form agrees. let found = form_into t s is d u agrees.0 form v agrees.1 in refused d found.0 found.2)

split_decl : (d : PlainDecl) (u : Text) → SpellsDecl d u → (w : Text) × (t : PlainToken) × (u ≡ w ++ t ∷ []) × SpellsForm d w
split_decl d u (line.decl_line t w form is) = (w, t, refl, form)

pub no_decl_at_end : {Ends : Text → Type 0} → Halts SpellsDecl Ends [] EndOfText
no_decl_at_end = halts_at_once [] can_decl (λ d u v spelled e. let s = split_decl d u spelled in empty_end s.0 s.1 (sym s.2 ∙ empty_front u v e)) where
  empty_end : (w : Text) (t : PlainToken) → w ++ t ∷ [] ≡ [] → ⊥
  empty_end [] t e = cc
  empty_end (x ∷ w) t e = cc

pub no_decl_of : {Ends : Text → Type 0} {from : Text} (t : PlainToken) → ((s : Symbol) → Is s t → ⊥) → Halts SpellsDecl Ends (t ∷ from) (Unexpected t.at)
no_decl_of {from = from} t no_symbol = halts_at_once (t ∷ from) can_decl (λ d u v spelled agrees.
    let s = split_decl d u spelled in
    no_form_text d s.0 (s.1 ∷ v) agrees.0 t s.3 (sym (append_assoc s.0 (s.1 ∷ []) v) ∙ sym (ap (λ z. z ++ v) s.2) ∙ agrees.1) (λ r is w by. no_symbol r is))

-- what is read behind a token is read with it
pub with_token : (r : Result DeclForm SyntaxError) (s : Symbol) (from to : Text) (t : PlainToken) → Is s t
    → IfOk r (λ f. (t : PlainToken) → Is s t → ReadsAs SpellsForm (Closes semicolon) (t ∷ from) to (decl t.at (form_view f)))
    → IfOk r (λ f. ReadsAs SpellsForm (Closes semicolon) (t ∷ from) to (decl t.at (form_view f)))
with_token (Ok f) s from to t is read = read t is
with_token (Err e) s from to t is read = read
