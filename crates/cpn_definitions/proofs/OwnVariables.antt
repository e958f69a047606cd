-- What an inscription means depends on the values of its own variables alone, where the functions are closed.
use Rattle.std.proofs.Common.{◌≡◌, ℕ, zero, suc, ◌==◌, Bool, true, false, cond, List, [], ◌∷◌, ◌++◌, length, slice_get, Option, Some, None, refl, ap, ◌∙◌, subst, inl, pos}
use Rattle.cpn_definitions.specs.Value.{PlainValue, boolean, int}
use Rattle.cpn_definitions.specs.Outcome.{Outcome, gives, faults, no_meaning, ◌>>=◌, given}
use Rattle.cpn_definitions.specs.Inscription.{Head, operation, tupling, listing, constructing, calling, PlainExpr, literal, variable, local, the_time, apply, conjunction, disjunction, choose, select, bind, accumulate, PlainExprs, no_exprs, more_exprs, PlainArms, no_arms, more_arms, PlainFunction, Functions}
use Rattle.cpn_definitions.specs.Matching.{matched}
use Rattle.cpn_definitions.specs.Operations.{truth_in, items_in}
use Rattle.cpn_definitions.specs.Meaning.{PlainBinding, bound_value, Calls, Setting, done_with, with_first, arm_or, accumulated, meant, meant_each, meant_among, called, calls_below, setting_below, meaning}
use Rattle.cpn_definitions.specs.Bindable.{variables_of, variables_of_each, variables_of_arms, AreClosed}
use Rattle.cpn_definitions.proofs.RisingLists.{IsIn, in_append_left, in_append_right}

-- two bindings agree on variables
abbrev pub Agree : PlainBinding → PlainBinding → List ℕ → Type 0
Agree b c xs = (x : ℕ) → IsIn x xs → bound_value x b ≡ bound_value x c

abbrev SameCalls : Calls → Calls → Type 0
SameCalls calls others = (k : ℕ) (vs : List PlainValue) → calls k vs ≡ others k vs

-- settings in which an inscription of these variables means the same
record Alike (s t : Setting) (xs : List ℕ) : Type 0 where
  calls : SameCalls s.calls t.calls
  bindings : Agree s.binding t.binding xs
  times : s.time ≡ t.time

alike_left : (s t : Setting) (xs ys : List ℕ) → Alike s t (xs ++ ys) → Alike s t xs
alike_left s t xs ys a = record { calls = a.calls; bindings = λ x in'. a.bindings x (in_append_left xs ys x in'); times = a.times }

alike_right : (s t : Setting) (xs ys : List ℕ) → Alike s t (xs ++ ys) → Alike s t ys
alike_right s t xs ys a = record { calls = a.calls; bindings = λ x in'. a.bindings x (in_append_right xs ys x in'); times = a.times }

-- ---- what is made of the same is the same

then_same : {A B : Type 0} (o p : Outcome A) (f g : A → Outcome B) → o ≡ p → ((x : A) → f x ≡ g x) → (o >>= f) ≡ (p >>= g)
then_same {A = A} o p f g is each = ap (λ q. q >>= f) is ∙ at p
  where
    at : (q : Outcome A) → (q >>= f) ≡ (q >>= g)
    at (gives x) = each x
    at (faults fault) = refl
    at no_meaning = refl

branch_same : {A : Type 0} (b : Bool) (x y z w : A) → x ≡ z → y ≡ w → cond b x y ≡ cond b z w
branch_same true x y z w first second = first
branch_same false x y z w first second = second

head_same : (head : Head) (calls others : Calls) (vs : List PlainValue) → SameCalls calls others → done_with head calls vs ≡ done_with head others vs
head_same (operation o) calls others vs same = refl
head_same tupling calls others vs same = refl
head_same listing calls others vs same = refl
head_same (constructing k) calls others vs same = refl
head_same (calling k) calls others vs same = same k vs

arm_same : (found : Option (List PlainValue)) (f g : List PlainValue → Outcome PlainValue) (o p : Outcome PlainValue) → ((vs : List PlainValue) → f vs ≡ g vs) → o ≡ p → arm_or found f o ≡ arm_or found g p
arm_same None f g o p each later = later
arm_same (Some vs) f g o p each later = each vs

accumulated_same : (f g : PlainValue → PlainValue → Outcome PlainValue) (vs : List PlainValue) (made : PlainValue) → ((v made : PlainValue) → f v made ≡ g v made) → accumulated f vs made ≡ accumulated g vs made
accumulated_same f g [] made each = refl
accumulated_same f g (v ∷ vs) made each = then_same (f v made) (g v made) (accumulated f vs) (accumulated g vs) (each v made) (λ next. accumulated_same f g vs next each)

-- by a truth value, one of two
tested_same : (v : PlainValue) (x y z w : Outcome PlainValue) → x ≡ z → y ≡ w → (truth_in v >>= (λ b. cond b x y)) ≡ (truth_in v >>= (λ b. cond b z w))
tested_same v x y z w first second = then_same (truth_in v) (truth_in v) _ _ refl (λ b. branch_same b x y z w first second)

-- ---- in settings that are alike

mutual
  meant_same : (e : PlainExpr) (s t : Setting) (locals : List PlainValue) → Alike s t (variables_of e) → meant e s locals ≡ meant e t locals
  meant_same (literal v) s t locals a = refl
  meant_same (variable x) s t locals a = ap given (a.bindings x (inl refl))
  meant_same (local k) s t locals a = refl
  meant_same the_time s t locals a = ap (λ n. gives (int (pos n))) a.times
  meant_same (apply head es) s t locals a =
      then_same (meant_each es s locals) (meant_each es t locals) (done_with head s.calls) (done_with head t.calls) (each_same es s t locals a) (λ vs. head_same head s.calls t.calls vs a.calls)
  meant_same (conjunction e f) s t locals a =
      then_same (meant e s locals) (meant e t locals) _ _ (meant_same e s t locals (alike_left s t (variables_of e) (variables_of f) a))
      (λ v. tested_same v (meant f s locals) (gives (boolean false)) (meant f t locals) (gives (boolean false)) (meant_same f s t locals (alike_right s t (variables_of e) (variables_of f) a)) refl)
  meant_same (disjunction e f) s t locals a =
      then_same (meant e s locals) (meant e t locals) _ _ (meant_same e s t locals (alike_left s t (variables_of e) (variables_of f) a))
      (λ v. tested_same v (gives (boolean true)) (meant f s locals) (gives (boolean true)) (meant f t locals) refl (meant_same f s t locals (alike_right s t (variables_of e) (variables_of f) a)))
  meant_same (choose c e f) s t locals a =
      let first = alike_left s t (variables_of c ++ variables_of e) (variables_of f) a in
      then_same (meant c s locals) (meant c t locals) _ _ (meant_same c s t locals (alike_left s t (variables_of c) (variables_of e) first))
      (λ v. tested_same v (meant e s locals) (meant f s locals) (meant e t locals) (meant f t locals) (meant_same e s t locals (alike_right s t (variables_of c) (variables_of e) first)) (meant_same f s t locals (alike_right s t (variables_of c ++ variables_of e) (variables_of f) a)))
  meant_same (select e arms) s t locals a =
      then_same (meant e s locals) (meant e t locals) _ _ (meant_same e s t locals (alike_left s t (variables_of e) (variables_of_arms arms) a))
      (λ v. among_same arms v s t locals (alike_right s t (variables_of e) (variables_of_arms arms) a))
  meant_same (bind e body) s t locals a =
      then_same (meant e s locals) (meant e t locals) _ _ (meant_same e s t locals (alike_left s t (variables_of e) (variables_of body) a))
      (λ v. meant_same body s t (locals ++ v ∷ []) (alike_right s t (variables_of e) (variables_of body) a))
  meant_same (accumulate xs start body) s t locals a =
      let first = alike_left s t (variables_of xs ++ variables_of start) (variables_of body) a in
      let last = alike_right s t (variables_of xs ++ variables_of start) (variables_of body) a in
      then_same (meant xs s locals) (meant xs t locals) _ _ (meant_same xs s t locals (alike_left s t (variables_of xs) (variables_of start) first))
      (λ v. then_same (items_in v) (items_in v) _ _ refl
      (λ vs. then_same (meant start s locals) (meant start t locals) _ _ (meant_same start s t locals (alike_right s t (variables_of xs) (variables_of start) first))
      (λ made. accumulated_same _ _ vs made (λ x before. meant_same body s t (locals ++ x ∷ before ∷ []) last))))

  each_same : (es : PlainExprs) (s t : Setting) (locals : List PlainValue) → Alike s t (variables_of_each es) → meant_each es s locals ≡ meant_each es t locals
  each_same no_exprs s t locals a = refl
  each_same (more_exprs e es) s t locals a =
      then_same (meant e s locals) (meant e t locals) _ _ (meant_same e s t locals (alike_left s t (variables_of e) (variables_of_each es) a))
      (λ v. then_same (meant_each es s locals) (meant_each es t locals) (with_first v) (with_first v) (each_same es s t locals (alike_right s t (variables_of e) (variables_of_each es) a)) (λ vs. refl))

  among_same : (arms : PlainArms) (v : PlainValue) (s t : Setting) (locals : List PlainValue) → Alike s t (variables_of_arms arms) → meant_among arms v s locals ≡ meant_among arms v t locals
  among_same no_arms v s t locals a = refl
  among_same (more_arms p e arms) v s t locals a =
      arm_same (matched p v) _ _ (meant_among arms v s locals) (meant_among arms v t locals) (λ vs. meant_same e s t (locals ++ vs) (alike_left s t (variables_of e) (variables_of_arms arms) a)) (among_same arms v s t locals (alike_right s t (variables_of e) (variables_of_arms arms) a))

-- ---- functions

closed_at : (funs : Functions) (k : ℕ) (f : PlainFunction) → AreClosed funs → slice_get funs k ≡ Some f → variables_of f.body ≡ []
closed_at [] k f closed is = cc
closed_at (g ∷ funs) zero f closed is = let same : g ≡ f = cc in subst (λ h. variables_of h.body ≡ []) same closed.0
closed_at (g ∷ funs) (suc k) f closed is = closed_at funs k f closed.1 is

calls_same : (funs : Functions) (b c : PlainBinding) (time n : ℕ) → AreClosed funs → SameCalls (calls_below funs b time n) (calls_below funs c time n)
calls_same funs b c time zero closed k vs = refl
calls_same funs b c time (suc n) closed k vs = branch_same (k == n) _ _ _ _ (call_same (slice_get funs n) refl (calls_same funs b c time n closed)) (calls_same funs b c time n closed k vs)
  where
    call_same : (found : Option PlainFunction) → slice_get funs n ≡ found → SameCalls (calls_below funs b time n) (calls_below funs c time n) → called found (setting_below funs b time n) vs ≡ called found (setting_below funs c time n) vs
    call_same None is same = refl
    call_same (Some f) is same =
        branch_same (length vs == f.parameters) _ _ _ _
        (meant_same f.body (setting_below funs b time n) (setting_below funs c time n) vs (record { calls = same; bindings = λ x in'. absurd (subst (λ xs. IsIn x xs) (closed_at funs n f closed is) in'); times = refl })) refl

-- ---- the law

pub own_variables : (funs : Functions) (e : PlainExpr) (b c : PlainBinding) (time : ℕ) → AreClosed funs → Agree b c (variables_of e) → meaning funs e b time ≡ meaning funs e c time
own_variables funs e b c time closed agree = meant_same e (setting_below funs b time (length funs)) (setting_below funs c time (length funs)) [] (record { calls = calls_same funs b c time (length funs) closed; bindings = agree; times = refl })
