-- Each typed form means a value of its type or a fault where its parts do, and reads the variables that its parts read.
use Rattle.std.proofs.Common.{◌≡◌, ℕ, true, false, List, [], ◌∷◌, ◌++◌, Option, Some, None, IfSome, cond}
use Rattle.std.specs.List.{AllByRecursion}
use Rattle.cpn_definitions.specs.Value.{PlainValue, from_list}
use Rattle.cpn_definitions.specs.Value as value
use Rattle.cpn_definitions.specs.Outcome.{Outcome, gives}
use Rattle.cpn_definitions.specs.Outcome as outcome
use Rattle.cpn_definitions.specs.Inscription.{Operation, Head, operation, tupling, listing, constructing, calling, PlainPattern, PlainExpr, apply, conjunction, disjunction, choose, select, bind, accumulate, PlainExprs, no_exprs, more_exprs, PlainArms, no_arms, more_arms}
use Rattle.cpn_definitions.specs.Matching.{matched}
use Rattle.cpn_definitions.specs.Operations.{truth_in, operated}
use Rattle.cpn_definitions.specs.Meaning.{meant, meant_each, meant_among, done_with, with_first, arm_or, accumulated}
use Rattle.cpn_definitions.specs.Bindable.{variables_of, variables_of_each, variables_of_arms}
use Rattle.cpn_definitions.proofs.RisingLists.{each_appended}
use Rattle.cpn_typing.specs.Types.{PlainTy, bool_type, union, tuples, lists, PlainTys, no_types, more_types}
use Rattle.cpn_typing.specs.Names.{Name, Scope, local_of}
use Rattle.cpn_typing.specs.Contexts.{Context}
use Rattle.cpn_typing.specs.Rules.{two}
use Rattle.cpn_typing.specs.TypedValues.{Sets, HasType, of_bool, of_tuple, of_bare, of_applied, of_none, of_more}
use Rattle.cpn_typing.specs.Law.{Means, Fits, CallMeans, World, AreBound, IsBound, IsReadable}
use Rattle.cpn_typing.proofs.Outcomes.{means_then, sized_means, chosen, all_front, all_back}
use Rattle.cpn_typing.proofs.NamesKept.{fits_more}
use Rattle.cpn_typing.proofs.Operands.{Gives, AreOperands, AreItems, alone, pair_of, with_items, list_of_items}

-- what is read is readable
abbrev pub AreReadable : World → Context → List ℕ → Type 0
AreReadable g context xs = AllByRecursion (IsReadable g.declared context) xs

-- an inscription in a scope means a value of the type or a fault, and reads variables of the context
pub record Meaningful (g : World) (context : Context) (sc : Scope) (e : PlainExpr) (t : PlainTy) : Type 0 where
  pub means : (ls : List PlainValue) → Fits g.sets sc ls → AreBound g (variables_of e) → Gives g.sets t (meant e g.setting ls)
  pub reads : AreReadable g context (variables_of e)

-- several inscriptions mean values with a property
pub record AllMeaningful (g : World) (context : Context) (sc : Scope) (es : PlainExprs) (P : List PlainValue → Type 0) : Type 0 where
  pub means : (ls : List PlainValue) → Fits g.sets sc ls → AreBound g (variables_of_each es) → Means P (meant_each es g.setting ls)
  pub reads : AreReadable g context (variables_of_each es)

-- the variables of a first and a second part
bound_first : (g : World) (xs ys : List ℕ) → AreBound g (xs ++ ys) → AreBound g xs
bound_first g xs ys h = all_front (IsBound g.sets g.declared.names g.setting.binding) xs ys h

bound_second : (g : World) (xs ys : List ℕ) → AreBound g (xs ++ ys) → AreBound g ys
bound_second g xs ys h = all_back (IsBound g.sets g.declared.names g.setting.binding) xs ys h

readable_both : (g : World) (context : Context) (xs ys : List ℕ) → AreReadable g context xs → AreReadable g context ys → AreReadable g context (xs ++ ys)
readable_both g context xs ys h k = each_appended (IsReadable g.declared context) xs ys h k

-- ---- parts

pub no_operands : (g : World) (context : Context) (sc : Scope) → AllMeaningful g context sc no_exprs (AreOperands g.sets no_types)
no_operands g context sc = record { means = λ ls f b. of_none; reads = tt }

pub no_items : (g : World) (context : Context) (sc : Scope) (t : PlainTy) → AllMeaningful g context sc no_exprs (AreItems g.sets t)
no_items g context sc t = record { means = λ ls f b. tt; reads = tt }

-- one part more, in front
more_mean : (g : World) (context : Context) (sc : Scope) (e : PlainExpr) (es : PlainExprs) (t : PlainTy) (P Q : List PlainValue → Type 0) → ((v : PlainValue) (vs : List PlainValue) → HasType g.sets v t → P vs → Q (v ∷ vs)) → Meaningful g context sc e t → AllMeaningful g context sc es P → AllMeaningful g context sc (more_exprs e es) Q
more_mean g context sc e es t P Q f p q = record {
  means = λ ls fits b. means_then (λ v. HasType g.sets v t) Q (meant e g.setting ls) _ (p.means ls fits (bound_first g (variables_of e) (variables_of_each es) b))
      (λ v h. means_then P Q (meant_each es g.setting ls) (with_first v) (q.means ls fits (bound_second g (variables_of e) (variables_of_each es) b)) (λ vs k. f v vs h k));
  reads = readable_both g context (variables_of e) (variables_of_each es) p.reads q.reads;
}

pub more_operands : (g : World) (context : Context) (sc : Scope) (e : PlainExpr) (es : PlainExprs) (t : PlainTy) (ts : PlainTys) → Meaningful g context sc e t → AllMeaningful g context sc es (AreOperands g.sets ts) → AllMeaningful g context sc (more_exprs e es) (AreOperands g.sets (more_types t ts))
more_operands g context sc e es t ts =
    more_mean g context sc e es t (AreOperands g.sets ts) (AreOperands g.sets (more_types t ts)) (λ v vs h k. of_more v (from_list vs) t ts h k)

pub more_items : (g : World) (context : Context) (sc : Scope) (e : PlainExpr) (es : PlainExprs) (t : PlainTy) → Meaningful g context sc e t → AllMeaningful g context sc es (AreItems g.sets t) → AllMeaningful g context sc (more_exprs e es) (AreItems g.sets t)
more_items g context sc e es t = more_mean g context sc e es t (AreItems g.sets t) (AreItems g.sets t) (λ v vs h k. (h, k))

pub one_operand : (g : World) (context : Context) (sc : Scope) (e : PlainExpr) (t : PlainTy) → Meaningful g context sc e t → AllMeaningful g context sc (more_exprs e no_exprs) (AreOperands g.sets (alone t))
one_operand g context sc e t p = more_operands g context sc e no_exprs t no_types p (no_operands g context sc)

pub two_operands : (g : World) (context : Context) (sc : Scope) (a b : PlainExpr) (s t : PlainTy) → Meaningful g context sc a s → Meaningful g context sc b t → AllMeaningful g context sc (two a b) (AreOperands g.sets (pair_of s t))
two_operands g context sc a b s t p q = more_operands g context sc a (more_exprs b no_exprs) s (alone t) p (one_operand g context sc b t q)

-- ---- forms that evaluate all their parts

apply_means : (g : World) (context : Context) (sc : Scope) (head : Head) (es : PlainExprs) (P : List PlainValue → Type 0) (t : PlainTy) → AllMeaningful g context sc es P → ((vs : List PlainValue) → P vs → Gives g.sets t (done_with head g.setting.calls vs)) → Meaningful g context sc (apply head es) t
apply_means g context sc head es P t p q = record {
  means = λ ls f b. means_then P (λ v. HasType g.sets v t) (meant_each es g.setting ls) (done_with head g.setting.calls) (p.means ls f b) q;
  reads = p.reads;
}

pub operation_means : (g : World) (context : Context) (sc : Scope) (o : Operation) (es : PlainExprs) (ts : PlainTys) (t : PlainTy) → AllMeaningful g context sc es (AreOperands g.sets ts) → ((vs : List PlainValue) → AreOperands g.sets ts vs → Gives g.sets t (operated o vs)) → Meaningful g context sc (apply (operation o) es) t
operation_means g context sc o es ts t p q = apply_means g context sc (operation o) es (AreOperands g.sets ts) t p q

pub tuple_means : (g : World) (context : Context) (sc : Scope) (es : PlainExprs) (ts : PlainTys) → AllMeaningful g context sc es (AreOperands g.sets ts) → Meaningful g context sc (apply tupling es) (tuples ts)
tuple_means g context sc es ts p =
    apply_means g context sc tupling es (AreOperands g.sets ts) (tuples ts) p
    (λ vs h. sized_means (λ v. HasType g.sets v (tuples ts)) (value.tuple (from_list vs)) (of_tuple (from_list vs) ts h))

pub list_means : (g : World) (context : Context) (sc : Scope) (es : PlainExprs) (t : PlainTy) → AllMeaningful g context sc es (AreItems g.sets t) → Meaningful g context sc (apply listing es) (lists t)
list_means g context sc es t p =
    apply_means g context sc listing es (AreItems g.sets t) (lists t) p
    (λ vs h. sized_means (λ v. HasType g.sets v (lists t)) (value.list (from_list vs)) (list_of_items g.sets t vs h))

pub bare_means : (g : World) (context : Context) (sc : Scope) (id k : ℕ) → g.sets.constructor id k ≡ Some None → Meaningful g context sc (apply (constructing k) no_exprs) (union id)
bare_means g context sc id k e = record { means = λ ls f b. of_bare id k e; reads = tt }

constructed_means : (sets : Sets) (calls : ℕ → List PlainValue → Outcome PlainValue) (id k : ℕ) (t : PlainTy) → sets.constructor id k ≡ Some (Some t) → (vs : List PlainValue) → AreOperands sets (alone t) vs → Gives sets (union id) (done_with (constructing k) calls vs)
constructed_means sets calls id k t e [] x = elim x [ ]
constructed_means sets calls id k t e (v ∷ []) (of_more w ws u us h of_none) = sized_means (λ y. HasType sets y (union id)) (value.applied k v) (of_applied id k t v e h)
constructed_means sets calls id k t e (v ∷ w ∷ vs) (of_more x xs u us h l) = elim l [ ]

pub construct_means : (g : World) (context : Context) (sc : Scope) (id k : ℕ) (e : PlainExpr) (t : PlainTy) → g.sets.constructor id k ≡ Some (Some t) → Meaningful g context sc e t → Meaningful g context sc (apply (constructing k) (more_exprs e no_exprs)) (union id)
construct_means g context sc id k e t d p =
    apply_means g context sc (constructing k) (more_exprs e no_exprs) (AreOperands g.sets (alone t)) (union id) (one_operand g context sc e t p) (constructed_means g.sets g.setting.calls id k t d)

pub call_means : (g : World) (context : Context) (sc : Scope) (k : ℕ) (es : PlainExprs) (ts : PlainTys) (t : PlainTy) → AllMeaningful g context sc es (AreOperands g.sets ts) → CallMeans g.sets g.setting.calls k ts t → Meaningful g context sc (apply (calling k) es) t
call_means g context sc k es ts t p q = apply_means g context sc (calling k) es (AreOperands g.sets ts) t p q

-- ---- forms that evaluate what they need

-- one of two, by a truth value
truth_means : (sets : Sets) (v : PlainValue) (t : PlainTy) (x y : Outcome PlainValue) → HasType sets v bool_type → Gives sets t x → Gives sets t y → Gives sets t (outcome.◌>>=◌ (truth_in v) (λ b. cond b x y))
truth_means sets v t x y (of_bool b) p q = chosen (Gives sets t) b x y p q

pub conjunction_means : (g : World) (context : Context) (sc : Scope) (a b : PlainExpr) → Meaningful g context sc a bool_type → Meaningful g context sc b bool_type → Meaningful g context sc (conjunction a b) bool_type
conjunction_means g context sc a b p q = record {
  means = λ ls f h. means_then (λ v. HasType g.sets v bool_type) (λ v. HasType g.sets v bool_type) (meant a g.setting ls) _ (p.means ls f (bound_first g (variables_of a) (variables_of b) h))
      (λ v k. truth_means g.sets v bool_type (meant b g.setting ls) (gives (value.boolean false)) k (q.means ls f (bound_second g (variables_of a) (variables_of b) h)) (of_bool false));
  reads = readable_both g context (variables_of a) (variables_of b) p.reads q.reads;
}

pub disjunction_means : (g : World) (context : Context) (sc : Scope) (a b : PlainExpr) → Meaningful g context sc a bool_type → Meaningful g context sc b bool_type → Meaningful g context sc (disjunction a b) bool_type
disjunction_means g context sc a b p q = record {
  means = λ ls f h. means_then (λ v. HasType g.sets v bool_type) (λ v. HasType g.sets v bool_type) (meant a g.setting ls) _ (p.means ls f (bound_first g (variables_of a) (variables_of b) h))
      (λ v k. truth_means g.sets v bool_type (gives (value.boolean true)) (meant b g.setting ls) k (of_bool true) (q.means ls f (bound_second g (variables_of a) (variables_of b) h)));
  reads = readable_both g context (variables_of a) (variables_of b) p.reads q.reads;
}

pub choose_means : (g : World) (context : Context) (sc : Scope) (c a b : PlainExpr) (t : PlainTy) → Meaningful g context sc c bool_type → Meaningful g context sc a t → Meaningful g context sc b t → Meaningful g context sc (choose c a b) t
choose_means g context sc c a b t p q r = record {
  means = λ ls f h.
      let early : AreBound g (variables_of c ++ variables_of a) = bound_first g (variables_of c ++ variables_of a) (variables_of b) h in
      means_then (λ v. HasType g.sets v bool_type) (λ v. HasType g.sets v t) (meant c g.setting ls) _ (p.means ls f (bound_first g (variables_of c) (variables_of a) early))
      (λ v k. truth_means g.sets v t (meant a g.setting ls) (meant b g.setting ls) k (q.means ls f (bound_second g (variables_of c) (variables_of a) early)) (r.means ls f (bound_second g (variables_of c ++ variables_of a) (variables_of b) h)));
  reads = readable_both g context (variables_of c ++ variables_of a) (variables_of b) (readable_both g context (variables_of c) (variables_of a) p.reads q.reads) r.reads;
}

pub bind_means : (g : World) (context : Context) (sc : Scope) (n : Name) (a b : PlainExpr) (s t : PlainTy) → Meaningful g context sc a s → Meaningful g context (sc ++ local_of n s ∷ []) b t → Meaningful g context sc (bind a b) t
bind_means g context sc n a b s t p q = record {
  means = λ ls f h. means_then (λ v. HasType g.sets v s) (λ v. HasType g.sets v t) (meant a g.setting ls) _ (p.means ls f (bound_first g (variables_of a) (variables_of b) h))
      (λ v k. q.means (ls ++ v ∷ []) (fits_more g.sets sc (local_of n s ∷ []) ls (v ∷ []) f (k, tt)) (bound_second g (variables_of a) (variables_of b) h));
  reads = readable_both g context (variables_of a) (variables_of b) p.reads q.reads;
}

-- what is made from the items of a list, one after another
accumulated_means : (sets : Sets) (s t : PlainTy) (f : PlainValue → PlainValue → Outcome PlainValue) → ((x made : PlainValue) → HasType sets x s → HasType sets made t → Gives sets t (f x made)) → (vs : List PlainValue) → AreItems sets s vs → (made : PlainValue) → HasType sets made t → Gives sets t (accumulated f vs made)
accumulated_means sets s t f p [] h made k = k
accumulated_means sets s t f p (v ∷ vs) h made k =
    means_then (λ w. HasType sets w t) (λ w. HasType sets w t) (f v made) (accumulated f vs) (p v made h.0 k) (λ w l. accumulated_means sets s t f p vs h.1 w l)

pub fold_means : (g : World) (context : Context) (sc : Scope) (item total : Name) (xs start body : PlainExpr) (s t : PlainTy) → Meaningful g context sc xs (lists s) → Meaningful g context sc start t → Meaningful g context (sc ++ local_of item s ∷ local_of total t ∷ []) body t → Meaningful g context sc (accumulate xs start body) t
fold_means g context sc item total xs start body s t p q r = record {
  means = λ ls f h.
      let early : AreBound g (variables_of xs ++ variables_of start) = bound_first g (variables_of xs ++ variables_of start) (variables_of body) h in
      means_then (λ v. HasType g.sets v (lists s)) (λ v. HasType g.sets v t) (meant xs g.setting ls) _ (p.means ls f (bound_first g (variables_of xs) (variables_of start) early))
      (λ v k. with_items g.sets (λ w. HasType g.sets w t) s _
      (λ vs l. means_then (λ w. HasType g.sets w t) (λ w. HasType g.sets w t) (meant start g.setting ls) _ (q.means ls f (bound_second g (variables_of xs) (variables_of start) early))
      (λ w m. accumulated_means g.sets s t (λ x made. meant body g.setting (ls ++ x ∷ made ∷ []))
      (λ x made i j. r.means (ls ++ x ∷ made ∷ []) (fits_more g.sets sc (local_of item s ∷ local_of total t ∷ []) ls (x ∷ made ∷ []) f (i, (j, tt))) (bound_second g (variables_of xs ++ variables_of start) (variables_of body) h))
      vs l w m)) v k);
  reads = readable_both g context (variables_of xs ++ variables_of start) (variables_of body) (readable_both g context (variables_of xs) (variables_of start) p.reads q.reads) r.reads;
}

-- ---- the arms of a `case`

-- the arms over a subject of a type mean values of a type or faults
pub record ArmsMeaningful (g : World) (context : Context) (sc : Scope) (s : PlainTy) (arms : PlainArms) (t : PlainTy) : Type 0 where
  pub means : (ls : List PlainValue) → Fits g.sets sc ls → AreBound g (variables_of_arms arms) → (v : PlainValue) → HasType g.sets v s → Gives g.sets t (meant_among arms v g.setting ls)
  pub reads : AreReadable g context (variables_of_arms arms)

pub no_arms_mean : (g : World) (context : Context) (sc : Scope) (s t : PlainTy) → ArmsMeaningful g context sc s no_arms t
no_arms_mean g context sc s t = record { means = λ ls f b v h. tt; reads = tt }

arm_means : (sets : Sets) (inner : Scope) (t : PlainTy) (o : Option (List PlainValue)) (f : List PlainValue → Outcome PlainValue) (later : Outcome PlainValue) → IfSome o (Fits sets inner) → ((vs : List PlainValue) → Fits sets inner vs → Gives sets t (f vs)) → Gives sets t later → Gives sets t (arm_or o f later)
arm_means sets inner t (Some vs) f later p q r = q vs p
arm_means sets inner t None f later p q r = r

pub more_arms_mean : (g : World) (context : Context) (sc inner : Scope) (s t : PlainTy) (p : PlainPattern) (e : PlainExpr) (arms : PlainArms) → ((v : PlainValue) → HasType g.sets v s → IfSome (matched p v) (Fits g.sets inner)) → Meaningful g context (sc ++ inner) e t → ArmsMeaningful g context sc s arms t → ArmsMeaningful g context sc s (more_arms p e arms) t
more_arms_mean g context sc inner s t p e arms m q r = record {
  means = λ ls f b v h. arm_means g.sets inner t (matched p v) (λ vs. meant e g.setting (ls ++ vs)) (meant_among arms v g.setting ls) (m v h)
      (λ vs k. q.means (ls ++ vs) (fits_more g.sets sc inner ls vs f k) (bound_first g (variables_of e) (variables_of_arms arms) b))
      (r.means ls f (bound_second g (variables_of e) (variables_of_arms arms) b) v h);
  reads = readable_both g context (variables_of e) (variables_of_arms arms) q.reads r.reads;
}

pub select_means : (g : World) (context : Context) (sc : Scope) (a : PlainExpr) (s : PlainTy) (arms : PlainArms) (t : PlainTy) → Meaningful g context sc a s → ArmsMeaningful g context sc s arms t → Meaningful g context sc (select a arms) t
select_means g context sc a s arms t p q = record {
  means = λ ls f b. means_then (λ v. HasType g.sets v s) (λ v. HasType g.sets v t) (meant a g.setting ls) _ (p.means ls f (bound_first g (variables_of a) (variables_of_arms arms) b))
      (λ v h. q.means ls f (bound_second g (variables_of a) (variables_of_arms arms) b) v h);
  reads = readable_both g context (variables_of a) (variables_of_arms arms) p.reads q.reads;
}
