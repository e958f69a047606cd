-- What is accepted has a Meaning: the words of the law. Source: own choice.
use Rattle.std.specs.Prelude.{◌≡◌, ℕ, suc, ◌<◌, false, List, [], ◌∷◌, length, slice_get, Option, Some, None}
use Rattle.std.specs.List.{AllByRecursion}
use Rattle.cpn_definitions.specs.Value.{PlainValue, from_list}
use Rattle.cpn_definitions.specs.Outcome.{Outcome, gives, faults, no_meaning, given}
use Rattle.cpn_definitions.specs.Inscription.{Functions}
use Rattle.cpn_definitions.specs.Meaning.{PlainBinding, bound_value, Calls, Setting, meant, calls_below}
use Rattle.cpn_definitions.specs.Bindable.{variables_of}
use Rattle.cpn_trees.specs.Trees.{PlainAst}
use Rattle.cpn_typing.specs.Types.{PlainTy, PlainTys}
use Rattle.cpn_typing.specs.Names.{Name, Meant, a_variable, a_constant, a_constructor, a_function, NamedMeaning, Declared, meant_among, Scope, types_of_scope, Checked, ok}
use Rattle.cpn_typing.specs.Contexts.{Context, in_function, is_closed}
use Rattle.cpn_typing.specs.Rules.{Typed}
use Rattle.cpn_typing.specs.Expressions.{typed}
use Rattle.cpn_typing.specs.TypedValues.{Sets, HasType, HaveTypes}

-- a value with the property, or a fault; never no meaning
abbrev pub Means : {A : Type 0} → (A → Type 0) → Outcome A → Type 0
Means P (gives v) = P v
Means P (faults f) = Unit {0}
Means P no_meaning = ⊥

-- values of the locals' types, in the order of their numbers
abbrev pub Fits : Sets → Scope → List PlainValue → Type 0
Fits sets [] [] = Unit {0}
Fits sets (l ∷ ls) (v ∷ vs) = HasType sets v l.type_of × Fits sets ls vs
Fits sets [] (v ∷ vs) = ⊥
Fits sets (l ∷ ls) [] = ⊥

-- What a call of a function gives: for arguments of its parameters' types a value of its result's type, or a fault.
abbrev pub CallMeans : Sets → Calls → ℕ → PlainTys → PlainTy → Type 0
CallMeans sets calls k ts t = (vs : List PlainValue) → HaveTypes sets (from_list vs) ts → Means (λ v. HasType sets v t) (calls k vs)

-- What a name means is kept: constants and constructors are those of their sets, and calls of functions mean something.
abbrev pub IsKept : Sets → Calls → Meant → Type 0
IsKept sets calls (a_variable x t) = Unit {0}
IsKept sets calls (a_constant id k) = k < sets.constants id
IsKept sets calls (a_constructor id k t) = sets.constructor id k ≡ Some t
IsKept sets calls (a_function k ts t) = CallMeans sets calls k ts t

abbrev pub AreKept : Sets → Calls → List NamedMeaning → Type 0
AreKept sets calls names = (n : Name) (m : Meant) → meant_among n names ≡ Some m → IsKept sets calls m

-- Where an inscription is accepted and means something: the sets behind the types, what is declared, the setting of the
-- evaluation, and that what is declared is kept in it.
pub record World : Type 0 where
  pub sets : Sets
  pub declared : Declared
  pub setting : Setting
  pub kept : AreKept sets setting.calls declared.names

-- a variable is bound to a value of the type that it is declared with
abbrev pub IsBound : Sets → List NamedMeaning → PlainBinding → ℕ → Type 0
IsBound sets names b x = (n : Name) (t : PlainTy) → meant_among n names ≡ Some (a_variable x t) → Means (λ v. HasType sets v t) (given (bound_value x b))

abbrev pub AreBound : World → List ℕ → Type 0
AreBound g xs = AllByRecursion (IsBound g.sets g.declared.names g.setting.binding) xs

-- a variable of an inscription that is accepted in a context: it is declared, and the context is not closed
abbrev pub IsReadable : Declared → Context → ℕ → Type 0
IsReadable ds context x = (is_closed context ≡ false) × ((n : Name) × ((t : PlainTy) × (meant_among n ds.names ≡ Some (a_variable x t))))

-- The law: what is accepted means a value of its type or a fault, where its variables and the locals have values of their
-- types.
abbrev pub AcceptedHasMeaning : Type 0
AcceptedHasMeaning =
    (g : World) (context : Context) (tree : PlainAst) (sc : Scope) (wanted : Option PlainTy) (r : Typed) (locals : List PlainValue) →
    typed g.declared context tree sc wanted ≡ ok r → Fits g.sets sc locals → AreBound g (variables_of r.expr) →
    Means (λ v. HasType g.sets v r.type_of) (meant r.expr g.setting locals)

-- A tree has one answer: one typed inscription or one refusal.
abbrev pub OneAnswer : Type 0
OneAnswer =
    (ds : Declared) (context : Context) (tree : PlainAst) (sc : Scope) (wanted : Option PlainTy) (a c : Checked Typed) →
    typed ds context tree sc wanted ≡ a → typed ds context tree sc wanted ≡ c → a ≡ c

-- the type that is found is the wanted one
abbrev pub IsWanted : Option PlainTy → PlainTy → Type 0
IsWanted None t = Unit {0}
IsWanted (Some w) t = t ≡ w

-- ---- functions

-- Among the names of functions below a number, each is kept where those functions are there.
pub record FunctionIsKept (sets : Sets) (calls : Calls) (n k : ℕ) (ts : PlainTys) (t : PlainTy) : Type 0 where
  pub is_below : k < n
  pub means : CallMeans sets calls k ts t

abbrev pub IsKeptBelow : Sets → Functions → PlainBinding → ℕ → ℕ → Meant → Type 0
IsKeptBelow sets funs b time n (a_variable x t) = Unit {0}
IsKeptBelow sets funs b time n (a_constant id k) = k < sets.constants id
IsKeptBelow sets funs b time n (a_constructor id k t) = sets.constructor id k ≡ Some t
IsKeptBelow sets funs b time n (a_function k ts t) = FunctionIsKept sets (calls_below funs b time n) n k ts t

abbrev pub AreKeptBelow : Sets → Functions → PlainBinding → ℕ → ℕ → List NamedMeaning → Type 0
AreKeptBelow sets funs b time n names = (name : Name) (m : Meant) → meant_among name names ≡ Some m → IsKeptBelow sets funs b time n m

-- A function more keeps calls: a body that is accepted among its parameters, where the functions before it are kept, gives
-- for arguments of their types a value of its type or a fault, once it is called by the next number.
abbrev pub NextCallMeans : Type 0
NextCallMeans =
    (sets : Sets) (ds : Declared) (funs : Functions) (b : PlainBinding) (time : ℕ) (tree : PlainAst) (parameters : Scope) (wanted : Option PlainTy) (r : Typed) →
    AreKeptBelow sets funs b time (length ds.functions) ds.names →
    typed ds in_function tree parameters wanted ≡ ok r →
    slice_get funs (length ds.functions) ≡ Some (record { parameters = length parameters; body = r.expr }) →
    CallMeans sets (calls_below funs b time (suc (length ds.functions))) (length ds.functions) (types_of_scope parameters) r.type_of
