-- Calls of functions: a body that is accepted keeps calls, and what is declared stays kept as more is.
use Rattle.std.proofs.Common.{◌≡◌, ℕ, suc, ◌<◌, ◌==◌, Bool, true, false, List, [], ◌∷◌, ◌++◌, length, slice_get, Option, Some, None, refl, sym, ap, subst, cond, ◌∙◌, arith}
use Rattle.std.proofs.lemmas.Bool.{eqb-true, eq-eqb}
use Rattle.std.specs.List.{AllByRecursion}
use Rattle.std.specs.Str.{bytes_eq}
use Rattle.cpn_definitions.specs.Value.{PlainValue}
use Rattle.cpn_definitions.specs.Outcome.{no_meaning}
use Rattle.cpn_definitions.specs.Inscription.{PlainFunction, Functions}
use Rattle.cpn_definitions.specs.Meaning.{PlainBinding, meant, called, calls_below, setting_below}
use Rattle.cpn_definitions.specs.Bindable.{variables_of}
use Rattle.cpn_definitions.proofs.RisingLists.{each_implied}
use Rattle.cpn_trees.specs.Trees.{PlainAst}
use Rattle.cpn_typing.specs.Types.{PlainTy}
use Rattle.cpn_typing.specs.Names.{Name, Meant, a_variable, a_constant, a_constructor, a_function, NamedMeaning, Declared, meant_among, Scope, types_of_scope, ok}
use Rattle.cpn_typing.specs.Contexts.{Context, in_function, is_closed}
use Rattle.cpn_typing.specs.Rules.{Typed}
use Rattle.cpn_typing.specs.Expressions.{typed}
use Rattle.cpn_typing.specs.TypedValues.{Sets, of_more}
use Rattle.cpn_typing.specs.Law.{Fits, IsKept, AreKept, World, IsBound, IsReadable, IsKeptBelow, AreKeptBelow, NextCallMeans}
use Rattle.cpn_typing.proofs.Operands.{Gives, AreOperands}
use Rattle.cpn_typing.proofs.RulesKept.{Sound}
use Rattle.cpn_typing.proofs.Acceptance.{accepted}

-- ---- what is kept below a number

kept_of : (sets : Sets) (funs : Functions) (b : PlainBinding) (time n : ℕ) (m : Meant) → IsKeptBelow sets funs b time n m → IsKept sets (calls_below funs b time n) m
kept_of sets funs b time n (a_variable x t) h = tt
kept_of sets funs b time n (a_constant id k) h = h
kept_of sets funs b time n (a_constructor id k t) h = h
kept_of sets funs b time n (a_function k ts t) h = h.means

pub are_kept : (sets : Sets) (funs : Functions) (b : PlainBinding) (time n : ℕ) (names : List NamedMeaning) → AreKeptBelow sets funs b time n names → AreKept sets (calls_below funs b time n) names
are_kept sets funs b time n names h name m e = kept_of sets funs b time n m (h name m e)

-- where an inscription is accepted among what is declared, and the functions below a number are there
abbrev pub world_below : (sets : Sets) (ds : Declared) (funs : Functions) (b : PlainBinding) (time n : ℕ) → AreKeptBelow sets funs b time n ds.names → World
world_below sets ds funs b time n h = record { sets = sets; declared = ds; setting = setting_below funs b time n; kept = are_kept sets funs b time n ds.names h }

-- ---- a body among its parameters

pub arguments_fit : (sets : Sets) (sc : Scope) (vs : List PlainValue) → AreOperands sets (types_of_scope sc) vs → Fits sets sc vs
arguments_fit sets [] [] h = tt
arguments_fit sets [] (v ∷ vs) h = elim h [ ]
arguments_fit sets (l ∷ sc) [] h = elim h [ ]
arguments_fit sets (l ∷ sc) (v ∷ vs) (of_more w ws t ts h k) = (h, arguments_fit sets sc vs k)

pub as_many : (sets : Sets) (sc : Scope) (vs : List PlainValue) → AreOperands sets (types_of_scope sc) vs → length vs ≡ length sc
as_many sets [] [] h = refl
as_many sets [] (v ∷ vs) h = elim h [ ]
as_many sets (l ∷ sc) [] h = elim h [ ]
as_many sets (l ∷ sc) (v ∷ vs) (of_more w ws t ts h k) = ap suc (as_many sets sc vs k)

-- in a closed text no variable is read
pub closed_reads : (ds : Declared) (context : Context) (P : ℕ → Type 0) → is_closed context ≡ true → (xs : List ℕ) → AllByRecursion (IsReadable ds context) xs → AllByRecursion P xs
closed_reads ds context P c xs h = each_implied (IsReadable ds context) P xs (λ x r. absurd (let e : is_closed context ≡ false = r.0 in cc)) h

-- so there is none in it
pub closed_has_no_variables : (ds : Declared) (context : Context) → is_closed context ≡ true → (xs : List ℕ) → AllByRecursion (IsReadable ds context) xs → xs ≡ []
closed_has_no_variables ds context c [] h = refl
closed_has_no_variables ds context c (x ∷ xs) h = absurd (let e : is_closed context ≡ false = h.0.0 in cc)

called_means : (sets : Sets) (f : Option PlainFunction) (g : PlainFunction) (s : World) (vs : List PlainValue) (t : PlainTy) → f ≡ Some g → length vs ≡ g.parameters → Gives sets t (meant g.body s.setting vs) → Gives sets t (called f s.setting vs)
called_means sets (Some f) g s vs t e l h =
    let same : f ≡ g = cc in
    let many : (length vs == f.parameters) ≡ true = eq-eqb (length vs) f.parameters (l ∙ ap (λ y. y.parameters) (sym same)) in
    subst (λ b. Gives sets t (cond b (meant f.body s.setting vs) no_meaning)) (sym many) (subst (λ y. Gives sets t (meant y.body s.setting vs)) (sym same) h)
called_means sets None g s vs t e l h = absurd (cc)

-- a call of the function of a number, where it is the last
last_call : (sets : Sets) (funs : Functions) (b : PlainBinding) (time n : ℕ) (vs : List PlainValue) (t : PlainTy) → Gives sets t (called (slice_get funs n) (setting_below funs b time n) vs) → Gives sets t (calls_below funs b time (suc n) n vs)
last_call sets funs b time n vs t h =
    subst (λ c. Gives sets t (cond c (called (slice_get funs n) (setting_below funs b time n) vs) (calls_below funs b time n n vs))) (sym (eq-eqb n n refl)) h

pub next_call_means : NextCallMeans
next_call_means sets ds funs b time tree parameters wanted r kept e at vs h =
    let g : World = world_below sets ds funs b time (length ds.functions) kept in
    let s : Sound g in_function parameters wanted r = accepted g in_function tree parameters wanted r e in
    last_call sets funs b time (length ds.functions) vs r.type_of
    (called_means sets (slice_get funs (length ds.functions)) (record { parameters = length parameters; body = r.expr }) g vs r.type_of at (as_many sets parameters vs h)
    (s.meaningful.means vs (arguments_fit sets parameters vs h) (closed_reads ds in_function (IsBound sets ds.names b) refl (variables_of r.expr) s.meaningful.reads)))

-- ---- a function more

-- a call of a function below a number is the same where one function more is there
earlier_call : (sets : Sets) (funs : Functions) (b : PlainBinding) (time n k : ℕ) (vs : List PlainValue) (t : PlainTy) → k < n → Gives sets t (calls_below funs b time n k vs) → Gives sets t (calls_below funs b time (suc n) k vs)
earlier_call sets funs b time n k vs t lt h = by_test (k == n) refl
  where
    by_test : (c : Bool) → (k == n) ≡ c → Gives sets t (cond c (called (slice_get funs n) (setting_below funs b time n) vs) (calls_below funs b time n k vs))
    by_test true e = absurd (let same : k ≡ n = eqb-true k n e in (omega arith))
    by_test false e = h

pub kept_later : (sets : Sets) (funs : Functions) (b : PlainBinding) (time n : ℕ) (m : Meant) → IsKeptBelow sets funs b time n m → IsKeptBelow sets funs b time (suc n) m
kept_later sets funs b time n (a_variable x t) h = tt
kept_later sets funs b time n (a_constant id k) h = h
kept_later sets funs b time n (a_constructor id k t) h = h
kept_later sets funs b time n (a_function k ts t) h = record {
  is_below = (let lt : k < n = h.is_below in (omega arith));
  means = λ vs p. earlier_call sets funs b time n k vs t h.is_below (h.means vs p);
}

-- ---- names that are declared later

-- what a name means among two lists of names has what it has in each
of_both : (P : Meant → Type 0) (b : Bool) (here : Meant) (o p : Option Meant) → ((m : Meant) → cond b (Some here) o ≡ Some m → P m) → (((m : Meant) → o ≡ Some m → P m) → (m : Meant) → p ≡ Some m → P m) → (m : Meant) → cond b (Some here) p ≡ Some m → P m
of_both P true here o p f h m e = f m e
of_both P false here o p f h m e = h f m e

pub named_later : (P : Meant → Type 0) (n : Name) (names later : List NamedMeaning) → ((m : Meant) → meant_among n names ≡ Some m → P m) → ((m : Meant) → meant_among n later ≡ Some m → P m) → (m : Meant) → meant_among n (names ++ later) ≡ Some m → P m
named_later P n [] later f h m e = h m e
named_later P n (d ∷ names) later f h m e =
    of_both P (bytes_eq n d.name) d.meant (meant_among n names) (meant_among n (names ++ later)) f (λ k. named_later P n names later k h) m e

pub named_all : (P : Meant → Type 0) (n : Name) (names : List NamedMeaning) → AllByRecursion (λ d. P d.meant) names → (m : Meant) → meant_among n names ≡ Some m → P m
named_all P n [] h m e = absurd (cc)
named_all P n (d ∷ names) h m e =
    of_both P (bytes_eq n d.name) d.meant (Some d.meant) (meant_among n names) (λ k i. subst P (some_is d.meant k (by_test (bytes_eq n d.name) k i)) h.0) (λ f k i. named_all P n names h.1 k i) m e
  where
    some_is : (x y : Meant) → Some x ≡ Some y → x ≡ y
    some_is x y i = cc

    by_test : (b : Bool) (k : Meant) → cond b (Some d.meant) (Some d.meant) ≡ Some k → Some d.meant ≡ Some k
    by_test true k i = i
    by_test false k i = i

-- what is declared stays kept as more names are declared that are kept
pub kept_with : (sets : Sets) (funs : Functions) (b : PlainBinding) (time n : ℕ) (names later : List NamedMeaning) → AreKeptBelow sets funs b time n names → AllByRecursion (λ d. IsKeptBelow sets funs b time n d.meant) later → AreKeptBelow sets funs b time n (names ++ later)
kept_with sets funs b time n names later h k name m e =
    named_later (IsKeptBelow sets funs b time n) name names later (h name) (named_all (IsKeptBelow sets funs b time n) name later k) m e

-- A function more: with its name what is declared is kept where it is there too.
pub kept_with_function : (sets : Sets) (ds : Declared) (funs : Functions) (b : PlainBinding) (time : ℕ) (n : Name) (tree : PlainAst) (parameters : Scope) (wanted : Option PlainTy) (r : Typed)
    → AreKeptBelow sets funs b time (length ds.functions) ds.names
    → typed ds in_function tree parameters wanted ≡ ok r
    → slice_get funs (length ds.functions) ≡ Some (record { parameters = length parameters; body = r.expr })
    → AreKeptBelow sets funs b time (suc (length ds.functions)) (ds.names ++ record { name = n; meant = a_function (length ds.functions) (types_of_scope parameters) r.type_of } ∷ [])
kept_with_function sets ds funs b time n tree parameters wanted r kept e at =
    kept_with sets funs b time (suc (length ds.functions)) ds.names (record { name = n; meant = a_function (length ds.functions) (types_of_scope parameters) r.type_of } ∷ [])
    (λ name m i. kept_later sets funs b time (length ds.functions) m (kept name m i))
    (record { is_below = (omega arith); means = next_call_means sets ds funs b time tree parameters wanted r kept e at }, tt)
