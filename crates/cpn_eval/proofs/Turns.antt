-- What a turn of the machine leaves as it is.
use Rattle.std.proofs.Common.{◌≡◌, Bool, true, false, cond, if◌then◌else◌, ℕ, suc, ◌+◌, ◌<◌, get_or, drop, drop-cons, add-one, map, subst, Result, List, [], ◌∷◌, ◌++◌, length, take, Option, Some, None, refl, sym, ap, ◌∙◌, append_assoc}
use Rattle.std.proofs.lemmas.List.{map-append, length-map, take-map}
use Rattle.std.proofs.Math.Seq.{take-append_seam}
use Rattle.cpn_definitions.specs.Value.{PlainValue, boolean, applied}
use Rattle.cpn_definitions.specs.Outcome.{Outcome, gives, faults, no_meaning, ◌>>=◌}
use Rattle.cpn_definitions.specs.Inscription.{Head, constructing, PlainExpr, PlainExprs, PlainArms, no_exprs, more_exprs, arms_from, apply, conjunction, disjunction, choose, bind, select, accumulate}
use Rattle.cpn_definitions.specs.Operations.{sized, items_in, truth_in}
use Rattle.cpn_definitions.specs.Meaning.{Setting, done_with, constructed, meant, meant_each, meant_among, arm_or, with_first}
use Rattle.cpn_definitions.specs.Matching.{matched}
use Rattle.cpn_core.specs.declared.values.Value.{Value}
use Rattle.cpn_core.specs.declared.inscriptions.Expr.{Expr}
use Rattle.cpn_core.specs.declared.inscriptions.Arm.{Arm}
use Rattle.cpn_core.specs.Faults.{fault_view}
use Rattle.cpn_core.specs.Views.{value_view}
use Rattle.cpn_eval.specs.declared.held.Held.{Held}
use Rattle.cpn_eval.specs.declared.held.Held.TheVariants as helds
use Rattle.cpn_eval.specs.Held.{held_view}
use Rattle.cpn_core.specs.Inscriptions.{pattern_view, expr_view, exprs_view, arm_view}
use Rattle.cpn_eval.specs.declared.frames.World.{World}
use Rattle.cpn_eval.specs.declared.frames.Frame.{Frame}
use Rattle.cpn_eval.specs.declared.frames.Frame.TheVariants as frames
use Rattle.cpn_eval.specs.declared.frames.Now.{Now}
use Rattle.cpn_eval.specs.declared.frames.Machine.{Machine}
use Rattle.cpn_eval.specs.declared.refusals.NoValue.{NoValue}
use Rattle.cpn_eval.specs.declared.refusals.NoValue.TheVariants as reasons
use Rattle.cpn_eval.specs.Answers.{with_front, Stops}
use Rattle.cpn_eval.specs.Frames.{PlainFrame, parts, argument, also, otherwise, branches, body_of, arms, forget, start, steps, back, State, at, given_at, setting_in, calls_in, meant_at, rest_of, folded, chosen_by, one, through, frame_view, to, locals_of, frames_of, after_value, after_outcome, after_frame, after_waiting, Goes, Ended}
use Rattle.cpn_core.proofs.InscriptionLevels.{view_arm}
use Rattle.cpn_eval.proofs.Binds.{bind_assoc, bind_gives, bind_ext}

-- the last frame is the first to get the value
pub through_last : (w : World) (fs : List PlainFrame) (f : PlainFrame) (s : State) → through w (fs ++ f ∷ []) s ≡ (one w f s >>= through w fs)
through_last w [] f s = sym (bind_gives (one w f s))
through_last w (g ∷ gs) f s = ap (λ o. o >>= one w g) (through_last w gs f s) ∙ bind_assoc (one w f s) (through w gs) (one w g)

-- an expression that is begun below a frame
pub waits : (w : World) (fs : List PlainFrame) (f : PlainFrame) (n : ℕ) (ls : List PlainValue) (o : Outcome PlainValue) → (o >>= (λ v. through w (fs ++ f ∷ []) (at n ls v))) ≡ (o >>= (λ v. one w f (at n ls v) >>= through w fs))
waits w fs f n ls o = bind_ext o _ _ (λ v. through_last w fs f (at n ls v))

-- an outcome put back among its locals
pub put_back : (n : ℕ) (ls : List PlainValue) (k : State → Outcome State) (o : Outcome PlainValue) → ((o >>= given_at n ls) >>= k) ≡ (o >>= (λ v. k (at n ls v)))
put_back n ls k o = bind_assoc o (given_at n ls) k

-- a part of an expression, and then the rest of it
pub then_rest : (n : ℕ) (ls : List PlainValue) (k : State → Outcome State) (o : Outcome PlainValue) (f : PlainValue → Outcome PlainValue) → (o >>= (λ v. (f v >>= given_at n ls) >>= k)) ≡ ((o >>= f) >>= (λ v. k (at n ls v)))
then_rest n ls k o f = bind_ext o _ _ (λ v. put_back n ls k (f v)) ∙ sym (bind_assoc o f (λ v. k (at n ls v)))

-- the first part that is left, and then the others
pub rest_more : (w : World) (n : ℕ) (ls : List PlainValue) (head : Head) (done : List PlainValue) (e : PlainExpr) (es : PlainExprs) → rest_of w n ls head done (more_exprs e es) ≡ (meant_at w n ls e >>= (λ v. rest_of w n ls head (done ++ v ∷ []) es))
rest_more w n ls head done e es =
    bind_assoc (meant_at w n ls e) (λ v. meant_each es (setting_in w n) ls >>= with_first v) (λ vs. done_with head (calls_in w n) (done ++ vs))
    ∙ bind_ext (meant_at w n ls e) _ _ (λ v.
    bind_assoc (meant_each es (setting_in w n) ls) (with_first v) (λ vs. done_with head (calls_in w n) (done ++ vs))
    ∙ bind_ext (meant_each es (setting_in w n) ls) _ _ (λ vs. ap (done_with head (calls_in w n)) (sym (append_assoc done (v ∷ []) vs))))

pub parts_more
    : (w : World) (fs : List PlainFrame) (n : ℕ) (ls : List PlainValue) (head : Head) (done : List PlainValue) (e : PlainExpr) (es : PlainExprs)
    → (meant_at w n ls e >>= (λ v. one w (parts head done es) (at n ls v) >>= through w fs)) ≡ (rest_of w n ls head done (more_exprs e es) >>= (λ v. through w fs (at n ls v)))
parts_more w fs n ls head done e es =
    then_rest n ls (through w fs) (meant_at w n ls e) (λ v. rest_of w n ls head (done ++ v ∷ []) es) ∙ ap (λ o. o >>= (λ v. through w fs (at n ls v))) (sym (rest_more w n ls head done e es))

-- a body with more locals, which are forgotten after it
pub forgets
    : (w : World) (fs : List PlainFrame) (n : ℕ) (ls more : List PlainValue) (o : Outcome PlainValue)
    → (o >>= (λ v. through w (fs ++ forget (length ls) ∷ []) (at n (ls ++ more) v))) ≡ (o >>= (λ v. through w fs (at n ls v)))
forgets w fs n ls more o = bind_ext o _ _ (λ v. through_last w fs (forget (length ls)) (at n (ls ++ more) v) ∙ ap (λ kept. through w fs (at n kept v)) (take-append_seam ls more))

-- a body of a function, after which its caller goes on
pub comes_back : (w : World) (fs : List PlainFrame) (n k : ℕ) (ls args : List PlainValue) (o : Outcome PlainValue) → (o >>= (λ v. through w (fs ++ back n ls ∷ []) (at k args v))) ≡ (o >>= (λ v. through w fs (at n ls v)))
comes_back w fs n k ls args o = bind_ext o _ _ (λ v. through_last w fs (back n ls) (at k args v))

-- the next item of a fold
pub steps_on
    : (w : World) (fs : List PlainFrame) (n : ℕ) (ls : List PlainValue) (body : PlainExpr) (x : PlainValue) (vs : List PlainValue) (a : PlainValue)
    → (meant_at w n (ls ++ x ∷ a ∷ []) body >>= (λ v. through w ((fs ++ steps vs body ∷ []) ++ forget (length ls) ∷ []) (at n (ls ++ x ∷ a ∷ []) v))) ≡ (folded w n ls body (x ∷ vs) a >>= (λ v. through w fs (at n ls v)))
steps_on w fs n ls body x vs a =
    forgets w (fs ++ steps vs body ∷ []) n ls (x ∷ a ∷ []) (meant_at w n (ls ++ x ∷ a ∷ []) body)
    ∙ waits w fs (steps vs body) n ls (meant_at w n (ls ++ x ∷ a ∷ []) body)
    ∙ then_rest n ls (through w fs) (meant_at w n (ls ++ x ∷ a ∷ []) body) (folded w n ls body vs)

-- the start of a fold
pub starts_on
    : (w : World) (fs : List PlainFrame) (n : ℕ) (ls : List PlainValue) (o : Outcome PlainValue) (f : PlainValue → Outcome PlainValue)
    → (o >>= (λ a. (f a >>= given_at n ls) >>= through w fs)) ≡ (((o >>= f) >>= given_at n ls) >>= through w fs)
starts_on w fs n ls o f = then_rest n ls (through w fs) o f ∙ sym (put_back n ls (through w fs) (o >>= f))

-- an arm that matches, or doesn't
pub arm_found : {A : Type 0} (bound : Option (List PlainValue)) (vs : List PlainValue) (found : List PlainValue → Outcome A) (missed : Outcome A) → with_front [] bound ≡ Some vs → arm_or bound found missed ≡ found vs
arm_found None vs found missed h = cc
arm_found (Some ws) vs found missed h = let e : ws ≡ vs = cc in ap found e

pub arm_missed : {A : Type 0} (bound : Option (List PlainValue)) (found : List PlainValue → Outcome A) (missed : Outcome A) → with_front [] bound ≡ None → arm_or bound found missed ≡ missed
arm_missed None found missed h = refl
arm_missed (Some ws) found missed h = cc

-- ---- in a machine

-- what comes of it may be said in another way
pub goes_same : (w : World) (m : Machine) (r : Result Now NoValue) (o p : Outcome State) → o ≡ p → Goes w m r o → Goes w m r p
goes_same w m r o p e h = let P : Outcome State → Type 0 = λ x. Goes w m r x in subst P e h

pub stops_same : (reason : NoValue) (o p : Outcome State) → o ≡ p → Stops reason o → Stops reason p
stops_same reason o p h r = let P : Outcome State → Type 0 = λ x. Stops reason x in subst P h r

-- the same at equal places
pub moved
    : (w : World) (o : ℕ → List PlainValue → Outcome PlainValue) (n n' : ℕ) (ls ls' : List PlainValue) (fs fs' : List PlainFrame)
    → n' ≡ n
    → ls' ≡ ls
    → fs' ≡ fs
    → (o n' ls' >>= to w n' ls' fs') ≡ (o n ls >>= to w n ls fs)
moved w o n n' ls ls' fs fs' hn hl hf = rw (hn, hl, hf) refl

forget_last_of
    : (m : Machine) (below above : List Frame) (count : ℕ)
    → above ≡ below ++ frames.Forget count ∷ []
    → count ≡ length m.locals.items
    → map frame_view above ≡ map frame_view below ++ forget (length (locals_of m)) ∷ []
forget_last_of m below above count hf hc =
    ap (map frame_view) hf ∙ map-append frame_view below (frames.Forget count ∷ []) ∙ ap (λ k. map frame_view below ++ forget k ∷ []) (hc ∙ sym (length-map m.locals.items held_view))

forget_last
    : (m m' : Machine) (count : ℕ)
    → m'.frames.items ≡ m.frames.items ++ frames.Forget count ∷ []
    → count ≡ length m.locals.items
    → frames_of m' ≡ frames_of m ++ forget (length (locals_of m)) ∷ []
forget_last m m' count hf hc = forget_last_of m m.frames.items m'.frames.items count hf hc

pub wait_goes
    : (w : World) (m m' : Machine) (frame : Frame) (o : Outcome PlainValue)
    → m'.visible ≡ m.visible
    → m'.locals.items ≡ m.locals.items
    → m'.frames.items ≡ m.frames.items ++ frame ∷ []
    → after_outcome w m' o ≡ after_waiting w m (frame_view frame) o
wait_goes w m m' frame o hv hl hf =
    moved w (λ n ls. o) m.visible m'.visible (locals_of m) (locals_of m') (frames_of m ++ frame_view frame ∷ []) (frames_of m') hv (ap (map held_view) hl) (ap (map frame_view) hf ∙ map-append frame_view m.frames.items (frame ∷ []))
    ∙ waits w (frames_of m) (frame_view frame) m.visible (locals_of m) o

pub waiting_goes
    : (w : World) (m : Machine) (frame : PlainFrame) (o p : Outcome PlainValue) (f : PlainValue → Outcome PlainValue)
    → ((v : PlainValue) → one w frame (at m.visible (locals_of m) v) ≡ (f v >>= given_at m.visible (locals_of m)))
    → p ≡ (o >>= f)
    → after_waiting w m frame o ≡ after_outcome w m p
waiting_goes w m frame o p f hf hp =
    bind_ext o _ _ (λ v. ap (λ x. x >>= through w (frames_of m)) (hf v))
    ∙ then_rest m.visible (locals_of m) (through w (frames_of m)) o f
    ∙ ap (λ x. x >>= after_value w m) (sym hp)

pub next_goes
    : (w : World) (m : Machine) (head : Head) (done : List PlainValue) (e : PlainExpr) (es : PlainExprs)
    → after_waiting w m (parts head done es) (meant_at w m.visible (locals_of m) e) ≡ after_outcome w m (rest_of w m.visible (locals_of m) head done (more_exprs e es))
next_goes w m head done e es = parts_more w (frames_of m) m.visible (locals_of m) head done e es

pub parts_goes
    : (w : World) (m : Machine) (head : Head) (done : List Held) (es' es : List Expr) (e : PlainExpr)
    → done ≡ []
    → es' ≡ es
    → e ≡ apply head (exprs_view es)
    → after_outcome w m (rest_of w m.visible (locals_of m) head (map held_view done) (exprs_view es')) ≡ after_outcome w m (meant_at w m.visible (locals_of m) e)
parts_goes w m head done es' es e hd he h = rw (hd, he, h) refl

pub all_parts_goes
    : (w : World) (m : Machine) (head : Head) (es' es : List Expr) (e : PlainExpr)
    → es' ≡ es
    → e ≡ apply head (exprs_view es)
    → after_outcome w m (meant_at w m.visible (locals_of m) (apply head (exprs_view es'))) ≡ after_outcome w m (meant_at w m.visible (locals_of m) e)
all_parts_goes w m head es' es e he h = rw (he, h) refl

pub part_goes
    : (w : World) (m : Machine) (head : Head) (done done' : List Held) (v : Held) (es : PlainExprs)
    → done' ≡ done ++ v ∷ []
    → after_outcome w m (rest_of w m.visible (locals_of m) head (map held_view done') es) ≡ after_frame w m (parts head (map held_view done) es) (held_view v)
part_goes w m head done done' v es h =
    rw (h, map-append) (sym (put_back m.visible (locals_of m) (through w (frames_of m)) (rest_of w m.visible (locals_of m) head (map held_view done ++ held_view v ∷ []) es)))

-- a frame whose value comes back to where it was
pub back_goes
    : (w : World) (m : Machine) (frame : PlainFrame) (v : PlainValue) (o : Outcome PlainValue)
    → one w frame (at m.visible (locals_of m) v) ≡ (o >>= given_at m.visible (locals_of m))
    → after_outcome w m o ≡ after_frame w m frame v
back_goes w m frame v o h =
    sym (put_back m.visible (locals_of m) (through w (frames_of m)) o) ∙ ap (λ x. x >>= through w (frames_of m)) (sym h)

pub body_goes
    : (w : World) (m m' : Machine) (body : PlainExpr) (v : Held) (count : ℕ)
    → m'.visible ≡ m.visible
    → m'.locals.items ≡ m.locals.items ++ v ∷ []
    → m'.frames.items ≡ m.frames.items ++ frames.Forget count ∷ []
    → count ≡ length m.locals.items
    → after_outcome w m' (meant_at w m'.visible (locals_of m') body) ≡ after_outcome w m (meant_at w m.visible (locals_of m ++ held_view v ∷ []) body)
body_goes w m m' body v count hv hl hf hc =
    moved w (λ n ls. meant_at w n ls body) m.visible m'.visible (locals_of m ++ held_view v ∷ []) (locals_of m') (frames_of m ++ forget (length (locals_of m)) ∷ []) (frames_of m') hv (ap (map held_view) hl ∙ map-append held_view m.locals.items (v ∷ [])) (forget_last m m' count hf hc)
    ∙ forgets w (frames_of m) m.visible (locals_of m) (held_view v ∷ []) (meant_at w m.visible (locals_of m ++ held_view v ∷ []) body)

pub forget_goes
    : (w : World) (m m' : Machine) (count : ℕ) (v : PlainValue)
    → m'.visible ≡ m.visible
    → m'.locals.items ≡ take count m.locals.items
    → m'.frames.items ≡ m.frames.items
    → after_value w m' v ≡ after_frame w m (forget count) v
forget_goes w m m' count v hv hl hf =
    moved w (λ n ls. gives v) m.visible m'.visible (take count (locals_of m)) (locals_of m') (frames_of m) (frames_of m') hv (ap (map held_view) hl ∙ sym (take-map held_view count m.locals.items)) (ap (map frame_view) hf)

pub start_goes
    : (w : World) (m : Machine) (e body : PlainExpr) (v : PlainValue) (items queue : List Value)
    → items_in v ≡ gives (map value_view items)
    → queue ≡ items
    → after_waiting w m (steps (map value_view queue) body) (meant_at w m.visible (locals_of m) e) ≡ after_frame w m (start e body) v
start_goes w m e body v items queue h hq =
    ap (λ q. after_waiting w m (steps (map value_view q) body) (meant_at w m.visible (locals_of m) e)) hq
    ∙ starts_on w (frames_of m) m.visible (locals_of m) (meant_at w m.visible (locals_of m) e) (folded w m.visible (locals_of m) body (map value_view items))
    ∙ ap (λ o. ((o >>= (λ vs. meant_at w m.visible (locals_of m) e >>= folded w m.visible (locals_of m) body vs)) >>= given_at m.visible (locals_of m)) >>= through w (frames_of m)) (sym h)

pub fold_goes
    : (w : World) (m m' : Machine) (frame : Frame) (items rest : List Value) (x : Value) (a : Held) (body : PlainExpr) (count : ℕ)
    → m'.visible ≡ m.visible
    → m'.locals.items ≡ (m.locals.items ++ helds.Plain x ∷ []) ++ a ∷ []
    → m'.frames.items ≡ (m.frames.items ++ frame ∷ []) ++ frames.Forget count ∷ []
    → frame_view frame ≡ steps (map value_view rest) body
    → count ≡ length m.locals.items
    → items ≡ x ∷ rest
    → after_outcome w m' (meant_at w m'.visible (locals_of m') body) ≡ after_outcome w m (folded w m.visible (locals_of m) body (map value_view items) (held_view a))
fold_goes w m m' frame items rest x a body count hv hl hf hs hc hi =
    moved w (λ n ls. meant_at w n ls body) m.visible m'.visible (locals_of m ++ value_view x ∷ held_view a ∷ []) (locals_of m') ((frames_of m ++ steps (map value_view rest) body ∷ []) ++ forget (length (locals_of m)) ∷ []) (frames_of m')
    hv
    (ap (map held_view) (hl ∙ append_assoc m.locals.items (helds.Plain x ∷ []) (a ∷ [])) ∙ map-append held_view m.locals.items (helds.Plain x ∷ a ∷ []))
    (forget_last_of m (m.frames.items ++ frame ∷ []) m'.frames.items count hf hc ∙ ap (λ fs. fs ++ forget (length (locals_of m)) ∷ []) (map-append frame_view m.frames.items (frame ∷ []) ∙ ap (λ f. frames_of m ++ f ∷ []) hs))
    ∙ steps_on w (frames_of m) m.visible (locals_of m) body (value_view x) (map value_view rest) (held_view a)
    ∙ ap (λ vs. after_outcome w m (folded w m.visible (locals_of m) body (map value_view vs) (held_view a))) (sym hi)

pub enter_goes
    : (w : World) (m m' : Machine) (k : ℕ) (args caller : List Held) (callers : Frame) (body : PlainExpr)
    → m'.visible ≡ k
    → m'.locals.items ≡ args
    → m'.frames.items ≡ m.frames.items ++ callers ∷ []
    → frame_view callers ≡ back m.visible (map held_view m.locals.items)
    → calls_in w m.visible k (map held_view args) ≡ meant_at w k (map held_view args) body
    → after_outcome w m' (meant_at w m'.visible (locals_of m') body) ≡ after_outcome w m (calls_in w m.visible k (map held_view args))
enter_goes w m m' k args caller callers body hv hl hf hb hc =
    moved w (λ n ls. meant_at w n ls body) k m'.visible (map held_view args) (locals_of m') (frames_of m ++ back m.visible (locals_of m) ∷ []) (frames_of m')
    hv
    (ap (map held_view) hl)
    (ap (map frame_view) hf ∙ map-append frame_view m.frames.items (callers ∷ []) ∙ ap (λ f. frames_of m ++ f ∷ []) hb)
    ∙ comes_back w (frames_of m) m.visible k (locals_of m) (map held_view args) (meant_at w k (map held_view args) body)
    ∙ ap (after_outcome w m) (sym hc)

-- the arms from an index on
abbrev pub arms_after : List Arm → ℕ → PlainValue → Setting → List PlainValue → Outcome PlainValue
arms_after cases i v s ls = meant_among (arms_from (map arm_view (drop i cases))) v s ls

arms_split
    : (cases : List Arm) (i : ℕ) (arm : Arm) (v : PlainValue) (s : Setting) (ls : List PlainValue)
    → i < length cases
    → arm ≡ get_or cases i arm
    → arms_after cases i v s ls ≡ arm_or (matched (pattern_view arm.pat) v) (λ vs. meant (expr_view arm.result) s (ls ++ vs)) (arms_after cases (i + 1) v s ls)
arms_split cases i arm v s ls hi ha =
    let split : drop i cases ≡ arm ∷ drop (i + 1) cases = rw add-one (drop-cons cases i arm hi ∙ ap (λ x. x ∷ drop (suc i) cases) (sym ha)) in
    rw (split, view_arm arm) refl

pub arm_taken
    : (cases : List Arm) (i : ℕ) (arm : Arm) (v : PlainValue) (found : List Value) (s : Setting) (ls : List PlainValue)
    → i < length cases
    → arm ≡ get_or cases i arm
    → with_front [] (matched (pattern_view arm.pat) v) ≡ Some (map value_view found)
    → arms_after cases i v s ls ≡ meant (expr_view arm.result) s (ls ++ map value_view found)
arm_taken cases i arm v found s ls hi ha hb =
    arms_split cases i arm v s ls hi ha
    ∙ arm_found (matched (pattern_view arm.pat) v) (map value_view found) (λ vs. meant (expr_view arm.result) s (ls ++ vs)) (arms_after cases (i + 1) v s ls) hb

pub arm_passed
    : (cases : List Arm) (i : ℕ) (arm : Arm) (v : PlainValue) (s : Setting) (ls : List PlainValue)
    → i < length cases
    → arm ≡ get_or cases i arm
    → with_front [] (matched (pattern_view arm.pat) v) ≡ None
    → arms_after cases i v s ls ≡ arms_after cases (i + 1) v s ls
arm_passed cases i arm v s ls hi ha hb =
    arms_split cases i arm v s ls hi ha
    ∙ arm_missed (matched (pattern_view arm.pat) v) (λ vs. meant (expr_view arm.result) s (ls ++ vs)) (arms_after cases (i + 1) v s ls) hb

pub arm_goes
    : (w : World) (m m' : Machine) (body : PlainExpr) (found : List Value) (count : ℕ)
    → m'.visible ≡ m.visible
    → locals_of m' ≡ locals_of m ++ map value_view found
    → m'.frames.items ≡ m.frames.items ++ frames.Forget count ∷ []
    → count ≡ length m.locals.items
    → after_outcome w m' (meant_at w m'.visible (locals_of m') body) ≡ after_outcome w m (meant_at w m.visible (locals_of m ++ map value_view found) body)
arm_goes w m m' body found count hv hl hf hc =
    moved w (λ n ls. meant_at w n ls body) m.visible m'.visible (locals_of m ++ map value_view found) (locals_of m') (frames_of m ++ forget (length (locals_of m)) ∷ []) (frames_of m') hv hl (forget_last m m' count hf hc)
    ∙ forgets w (frames_of m) m.visible (locals_of m) (map value_view found) (meant_at w m.visible (locals_of m ++ map value_view found) body)

pub match_found : (before : List Value) (b : Bool) (o : Option (List PlainValue)) (after : List PlainValue) → before ≡ [] → b ≡ true → with_front (map value_view before) o ≡ (if b then Some after else None) → with_front [] o ≡ Some after
match_found before b o after hb ht h = rw (hb, ht) at h

pub match_missed : (before : List Value) (b : Bool) (o : Option (List PlainValue)) (after : List PlainValue) → before ≡ [] → b ≡ false → with_front (map value_view before) o ≡ (if b then Some after else None) → with_front [] o ≡ None
match_missed before b o after hb hf h = rw (hb, hf) at h

-- a subject that stands somewhere
selected
    : (w : World) (m : Machine) (subject : PlainExpr) (cases : PlainArms) (v : PlainValue)
    → meant_at w m.visible (locals_of m) subject ≡ gives v
    → after_outcome w m (meant_among cases v (setting_in w m.visible) (locals_of m)) ≡ after_waiting w m (arms cases) (meant_at w m.visible (locals_of m) subject)
selected w m subject cases v h =
    back_goes w m (arms cases) v (meant_among cases v (setting_in w m.visible) (locals_of m)) refl ∙ ap (after_waiting w m (arms cases)) (sym h)

pub selected_goes
    : (w : World) (m : Machine) (subject body : PlainExpr) (cases : PlainArms) (v : PlainValue) (found : List PlainValue)
    → meant_at w m.visible (locals_of m) subject ≡ gives v
    → meant_among cases v (setting_in w m.visible) (locals_of m) ≡ meant_at w m.visible (locals_of m ++ found) body
    → after_outcome w m (meant_at w m.visible (locals_of m ++ found) body) ≡ after_waiting w m (arms cases) (meant_at w m.visible (locals_of m) subject)
selected_goes w m subject body cases v found h chosen = ap (after_outcome w m) (sym chosen) ∙ selected w m subject cases v h

-- ---- expressions that are begun

pub if_goes
    : (w : World) (m : Machine) (e : PlainExpr) (c x y c' x' y' : Expr)
    → e ≡ choose (expr_view c') (expr_view x') (expr_view y')
    → c ≡ c'
    → x ≡ x'
    → y ≡ y'
    → after_waiting w m (branches (expr_view x) (expr_view y)) (meant_at w m.visible (locals_of m) (expr_view c)) ≡ after_outcome w m (meant_at w m.visible (locals_of m) e)
if_goes w m e c x y c' x' y' he hc hx hy =
    rw (he, hc, hx, hy) (waiting_goes w m (branches (expr_view x') (expr_view y')) (meant_at w m.visible (locals_of m) (expr_view c')) (meant_at w m.visible (locals_of m) (choose (expr_view c') (expr_view x') (expr_view y')))
    (λ v. truth_in v >>= (λ truth. cond truth (meant_at w m.visible (locals_of m) (expr_view x')) (meant_at w m.visible (locals_of m) (expr_view y')))) (λ v. refl) refl)

pub also_goes
    : (w : World) (m : Machine) (e : PlainExpr) (c x c' x' : Expr)
    → e ≡ conjunction (expr_view c') (expr_view x')
    → c ≡ c'
    → x ≡ x'
    → after_waiting w m (also (expr_view x)) (meant_at w m.visible (locals_of m) (expr_view c)) ≡ after_outcome w m (meant_at w m.visible (locals_of m) e)
also_goes w m e c x c' x' he hc hx =
    rw (he, hc, hx) (waiting_goes w m (also (expr_view x')) (meant_at w m.visible (locals_of m) (expr_view c')) (meant_at w m.visible (locals_of m) (conjunction (expr_view c') (expr_view x')))
    (λ v. chosen_by v (meant_at w m.visible (locals_of m) (expr_view x')) (gives (boolean false))) (λ v. refl) refl)

pub otherwise_goes
    : (w : World) (m : Machine) (e : PlainExpr) (c x c' x' : Expr)
    → e ≡ disjunction (expr_view c') (expr_view x')
    → c ≡ c'
    → x ≡ x'
    → after_waiting w m (otherwise (expr_view x)) (meant_at w m.visible (locals_of m) (expr_view c)) ≡ after_outcome w m (meant_at w m.visible (locals_of m) e)
otherwise_goes w m e c x c' x' he hc hx =
    rw (he, hc, hx) (waiting_goes w m (otherwise (expr_view x')) (meant_at w m.visible (locals_of m) (expr_view c')) (meant_at w m.visible (locals_of m) (disjunction (expr_view c') (expr_view x')))
    (λ v. chosen_by v (gives (boolean true)) (meant_at w m.visible (locals_of m) (expr_view x'))) (λ v. refl) refl)

pub argument_goes
    : (w : World) (m : Machine) (k : ℕ) (e : PlainExpr) (d d' : Expr)
    → e ≡ apply (constructing k) (more_exprs (expr_view d') no_exprs)
    → d ≡ d'
    → after_waiting w m (argument k) (meant_at w m.visible (locals_of m) (expr_view d)) ≡ after_outcome w m (meant_at w m.visible (locals_of m) e)
argument_goes w m k e d d' he hd =
    rw (he, hd) (waiting_goes w m (argument k) (meant_at w m.visible (locals_of m) (expr_view d')) (meant_at w m.visible (locals_of m) (apply (constructing k) (more_exprs (expr_view d') no_exprs)))
    (λ v. sized (applied k v)) (λ v. refl) (bind_assoc (meant_at w m.visible (locals_of m) (expr_view d')) (λ v. gives (v ∷ [])) (constructed k)))

pub let_goes
    : (w : World) (m : Machine) (e : PlainExpr) (d body d' body' : Expr)
    → e ≡ bind (expr_view d') (expr_view body')
    → d ≡ d'
    → body ≡ body'
    → after_waiting w m (body_of (expr_view body)) (meant_at w m.visible (locals_of m) (expr_view d)) ≡ after_outcome w m (meant_at w m.visible (locals_of m) e)
let_goes w m e d body d' body' he hd hb =
    rw (he, hd, hb) (waiting_goes w m (body_of (expr_view body')) (meant_at w m.visible (locals_of m) (expr_view d')) (meant_at w m.visible (locals_of m) (bind (expr_view d') (expr_view body')))
    (λ v. meant_at w m.visible (locals_of m ++ v ∷ []) (expr_view body')) (λ v. refl) refl)

pub case_goes
    : (w : World) (m : Machine) (e : PlainExpr) (d d' : Expr) (cs cs' : List Arm)
    → e ≡ select (expr_view d') (arms_from (map arm_view cs'))
    → d ≡ d'
    → cs ≡ cs'
    → after_waiting w m (arms (arms_from (map arm_view cs))) (meant_at w m.visible (locals_of m) (expr_view d)) ≡ after_outcome w m (meant_at w m.visible (locals_of m) e)
case_goes w m e d d' cs cs' he hd ha =
    rw (he, hd, ha) (waiting_goes w m (arms (arms_from (map arm_view cs'))) (meant_at w m.visible (locals_of m) (expr_view d')) (meant_at w m.visible (locals_of m) (select (expr_view d') (arms_from (map arm_view cs'))))
    (λ v. meant_among (arms_from (map arm_view cs')) v (setting_in w m.visible) (locals_of m)) (λ v. refl) refl)

pub begin_fold_goes
    : (w : World) (m : Machine) (e : PlainExpr) (xs s body xs' s' body' : Expr)
    → e ≡ accumulate (expr_view xs') (expr_view s') (expr_view body')
    → xs ≡ xs'
    → s ≡ s'
    → body ≡ body'
    → after_waiting w m (start (expr_view s) (expr_view body)) (meant_at w m.visible (locals_of m) (expr_view xs)) ≡ after_outcome w m (meant_at w m.visible (locals_of m) e)
begin_fold_goes w m e xs s body xs' s' body' he hx hs hb =
    rw (he, hx, hs, hb) (waiting_goes w m (start (expr_view s') (expr_view body')) (meant_at w m.visible (locals_of m) (expr_view xs')) (meant_at w m.visible (locals_of m) (accumulate (expr_view xs') (expr_view s') (expr_view body')))
    (λ v. items_in v >>= (λ vs. meant_at w m.visible (locals_of m) (expr_view s') >>= folded w m.visible (locals_of m) (expr_view body') vs)) (λ v. refl) refl)

-- ---- the end

pub pop_goes
    : (w : World) (m m' : Machine) (frame : Frame) (v : PlainValue)
    → m'.visible ≡ m.visible
    → m'.locals.items ≡ m.locals.items
    → m.frames.items ≡ m'.frames.items ++ frame ∷ []
    → after_value w m v ≡ after_frame w m' (frame_view frame) v
pop_goes w m m' frame v hv hl hf =
    moved w (λ n ls. gives v) m'.visible m.visible (locals_of m') (locals_of m) (frames_of m' ++ frame_view frame ∷ []) (frames_of m) (sym hv) (sym (ap (map held_view) hl)) (ap (map frame_view) hf ∙ map-append frame_view m'.frames.items (frame ∷ []))
    ∙ through_last w (frames_of m') (frame_view frame) (at m'.visible (locals_of m') v)

-- a value that is all that is left, and the locals as they were
pub ended_before
    : (m : Machine) (v : PlainValue) (n : ℕ) (ls : List PlainValue) (o : Outcome PlainValue) (p : Outcome State)
    → p ≡ (o >>= given_at n ls)
    → Ended m v p
    → (o ≡ gives v) × (m.visible ≡ n) × (locals_of m ≡ ls)
ended_before m v n ls (gives w) p h e =
    let all : gives (at n ls w) ≡ gives (at m.visible (locals_of m) v) = sym h ∙ e.outcome in
    let same : at n ls w ≡ at m.visible (locals_of m) v = cc in
    (ap (λ s. gives s.value) same, sym (ap (λ s. s.visible) same), sym (ap (λ s. s.locals) same))
ended_before m v n ls (faults f) p h e = let no : faults f ≡ gives (at m.visible (locals_of m) v) = sym h ∙ e.outcome in cc
ended_before m v n ls no_meaning p h e = let no : no_meaning ≡ gives (at m.visible (locals_of m) v) = sym h ∙ e.outcome in cc

pub value_before
    : (m : Machine) (v : PlainValue) (n : ℕ) (ls : List PlainValue) (o : Outcome PlainValue) (p : Outcome State)
    → p ≡ (o >>= given_at n ls)
    → Ended m v p
    → o ≡ gives v
value_before m v n ls o p h e = (ended_before m v n ls o p h e).0

pub visible_before
    : (m : Machine) (v : PlainValue) (n : ℕ) (ls : List PlainValue) (o : Outcome PlainValue) (p : Outcome State)
    → p ≡ (o >>= given_at n ls)
    → Ended m v p
    → m.visible ≡ n
visible_before m v n ls o p h e = (ended_before m v n ls o p h e).1

pub locals_before
    : (m : Machine) (v : PlainValue) (n : ℕ) (ls : List PlainValue) (o : Outcome PlainValue) (p : Outcome State)
    → p ≡ (o >>= given_at n ls)
    → Ended m v p
    → locals_of m ≡ ls
locals_before m v n ls o p h e = (ended_before m v n ls o p h e).2

-- what stops the evaluation stops the inscription
pub stopped_before : (reason : NoValue) (n : ℕ) (ls : List PlainValue) (o : Outcome PlainValue) (p : Outcome State) → p ≡ (o >>= given_at n ls) → Stops reason p → Stops reason o
stopped_before reasons.Memory n ls o p h r = tt
stopped_before reasons.Untyped n ls (gives v) p h r = let no : no_meaning ≡ gives (at n ls v) = sym r ∙ h in cc
stopped_before reasons.Untyped n ls (faults f) p h r = let no : no_meaning ≡ faults f = sym r ∙ h in cc
stopped_before reasons.Untyped n ls no_meaning p h r = refl
stopped_before (reasons.Fault g) n ls (gives v) p h r = let no : faults (fault_view g) ≡ gives (at n ls v) = sym r ∙ h in cc
stopped_before (reasons.Fault g) n ls (faults f) p h r = let same : faults f ≡ faults (fault_view g) = sym h ∙ r in cc
stopped_before (reasons.Fault g) n ls no_meaning p h r = let no : faults (fault_view g) ≡ no_meaning = sym r ∙ h in cc
