-- What is left to do in the middle of an evaluation, as frames, and what comes of it.
use Rattle.std.specs.Prelude.{slice_get, ℕ, ◌≡◌, true, false, cond, List, [], ◌∷◌, ◌++◌, map, take, Result, Ok, Err}
use Rattle.cpn_definitions.specs.Value.{PlainValue, boolean, applied}
use Rattle.cpn_definitions.specs.Outcome.{Outcome, gives, given, ◌>>=◌}
use Rattle.cpn_definitions.specs.Inscription.{Operation, Head, operation, tupling, listing, calling, PlainExpr, PlainExprs, no_exprs, PlainArms, arms_from}
use Rattle.cpn_definitions.specs.Operations.{operated, sized, truth_in, items_in}
use Rattle.cpn_definitions.specs.Meaning.{Setting, Calls, calls_below, setting_below, meant, meant_each, meant_among, done_with, accumulated}
use Rattle.cpn_core.specs.Views.{value_view}
use Rattle.cpn_core.specs.Inscriptions.{op_view, expr_view, exprs_view, arm_view, funs_view}
use Rattle.cpn_eval.specs.Answers.{Stops}
use Rattle.cpn_eval.specs.Held.{held_view, all_held}
use Rattle.cpn_eval.specs.declared.refusals.NoValue.{NoValue}
use Rattle.cpn_eval.specs.declared.frames.World.{World}
use Rattle.cpn_eval.specs.declared.frames.Head.{Head as ProgramHead}
use Rattle.cpn_eval.specs.declared.frames.Head.TheVariants as heads
use Rattle.cpn_eval.specs.declared.frames.Frame.{Frame}
use Rattle.cpn_eval.specs.declared.frames.Frame.TheVariants as frames
use Rattle.cpn_eval.specs.declared.frames.Now.{Now}
use Rattle.cpn_eval.specs.declared.frames.Now.TheVariants as nows
use Rattle.cpn_eval.specs.declared.frames.Turn.{Turn}
use Rattle.cpn_eval.specs.declared.frames.Turn.TheVariants as turns
use Rattle.cpn_eval.specs.declared.frames.Machine.{Machine}

-- What waits for a value: the parts of a head, some of them done; an operation whose first operand is a local; a
-- constructor; the second part of `andalso` and of `orelse`; the branches of `if`; a body that binds it; locals to be
-- forgotten; arms; a start and a body of a fold; items of a fold that are left; the caller of a function.
pub data PlainFrame : Type 0 where
  parts : Head → List PlainValue → PlainExprs → PlainFrame
  beside : Operation → ℕ → PlainFrame
  argument : ℕ → PlainFrame
  also : PlainExpr → PlainFrame
  otherwise : PlainExpr → PlainFrame
  branches : PlainExpr → PlainExpr → PlainFrame
  body_of : PlainExpr → PlainFrame
  forget : ℕ → PlainFrame
  arms : PlainArms → PlainFrame
  start : PlainExpr → PlainExpr → PlainFrame
  steps : List PlainValue → PlainExpr → PlainFrame
  back : ℕ → List PlainValue → PlainFrame

-- How many functions may be called, the locals, and the value at hand.
pub record State : Type 0 where
  pub visible : ℕ
  pub locals : List PlainValue
  pub value : PlainValue

abbrev pub at : ℕ → List PlainValue → PlainValue → State
at n ls v = record { visible = n; locals = ls; value = v }

abbrev pub given_at : ℕ → List PlainValue → PlainValue → Outcome State
given_at n ls v = gives (at n ls v)

-- where an inscription is evaluated that may call the functions below a number
abbrev pub setting_in : World → ℕ → Setting
setting_in world n = setting_below (funs_view world.funs.now) world.binding.now world.time n

abbrev pub calls_in : World → ℕ → Calls
calls_in world n = calls_below (funs_view world.funs.now) world.binding.now world.time n

abbrev pub meant_at : World → ℕ → List PlainValue → PlainExpr → Outcome PlainValue
meant_at world n ls e = meant e (setting_in world n) ls

-- what the parts that are left give, behind those that are done
abbrev pub rest_of : World → ℕ → List PlainValue → Head → List PlainValue → PlainExprs → Outcome PlainValue
rest_of world n ls head done es = meant_each es (setting_in world n) ls >>= (λ vs. done_with head (calls_in world n) (done ++ vs))

-- what the items that are left give
abbrev pub folded : World → ℕ → List PlainValue → PlainExpr → List PlainValue → PlainValue → Outcome PlainValue
folded world n ls body vs made = accumulated (λ x s. meant_at world n (ls ++ x ∷ s ∷ []) body) vs made

-- what is evaluated by a truth value
abbrev pub chosen_by : PlainValue → Outcome PlainValue → Outcome PlainValue → Outcome PlainValue
chosen_by v e f = truth_in v >>= (λ b. cond b e f)

-- what an operation gives for a local and the value of its second operand
abbrev pub local_beside : Operation → ℕ → List PlainValue → PlainValue → Outcome PlainValue
local_beside o k ls w = given (slice_get ls k) >>= (λ v. operated o (v ∷ w ∷ []))

-- what one frame makes of the value that it waits for
abbrev pub one : World → PlainFrame → State → Outcome State
one world (parts head done es) s = rest_of world s.visible s.locals head (done ++ s.value ∷ []) es >>= given_at s.visible s.locals
one world (beside o k) s = local_beside o k s.locals s.value >>= given_at s.visible s.locals
one world (argument k) s = sized (applied k s.value) >>= given_at s.visible s.locals
one world (also f) s = chosen_by s.value (meant_at world s.visible s.locals f) (gives (boolean false)) >>= given_at s.visible s.locals
one world (otherwise f) s = chosen_by s.value (gives (boolean true)) (meant_at world s.visible s.locals f) >>= given_at s.visible s.locals
one world (branches e f) s = chosen_by s.value (meant_at world s.visible s.locals e) (meant_at world s.visible s.locals f) >>= given_at s.visible s.locals
one world (body_of body) s = meant_at world s.visible (s.locals ++ s.value ∷ []) body >>= given_at s.visible s.locals
one world (forget count) s = given_at s.visible (take count s.locals) s.value
one world (arms cases) s = meant_among cases s.value (setting_in world s.visible) s.locals >>= given_at s.visible s.locals
one world (start e body) s = (items_in s.value >>= (λ vs. meant_at world s.visible s.locals e >>= folded world s.visible s.locals body vs)) >>= given_at s.visible s.locals
one world (steps vs body) s = folded world s.visible s.locals body vs s.value >>= given_at s.visible s.locals
one world (back n ls) s = given_at n ls s.value

-- what the frames make of it, the last one first
abbrev pub through : World → List PlainFrame → State → Outcome State
through world [] s = gives s
through world (frame ∷ above) s = through world above s >>= one world frame

-- what the frames make of a value among its locals
abbrev pub to : World → ℕ → List PlainValue → List PlainFrame → PlainValue → Outcome State
to world n ls fs v = through world fs (at n ls v)

-- ---- the frames of the program

abbrev pub head_view : ProgramHead → Head
head_view (heads.Op o) = operation (op_view o)
head_view heads.Tuple = tupling
head_view heads.List = listing
head_view (heads.Call k) = calling k

abbrev pub frame_view : Frame → PlainFrame
frame_view (frames.Parts head done rest) = parts (head_view head) (all_held done) (exprs_view rest.now)
frame_view (frames.Beside o v) = parts (operation (op_view o)) (value_view v.now ∷ []) no_exprs
frame_view (frames.BesideLocal o k) = beside (op_view o) k
frame_view (frames.Argument k) = argument k
frame_view (frames.Also f) = also (expr_view f.now)
frame_view (frames.Otherwise f) = otherwise (expr_view f.now)
frame_view (frames.Branches e f) = branches (expr_view e.now) (expr_view f.now)
frame_view (frames.Body body) = body_of (expr_view body.now)
frame_view (frames.Forget count) = forget count
frame_view (frames.Arms cases) = arms (arms_from (map arm_view cases.now))
frame_view (frames.Start e body) = start (expr_view e.now) (expr_view body.now)
frame_view (frames.Items vs body) = steps (map value_view vs.items) (expr_view body.now)
frame_view (frames.Caller n ls) = back n (all_held ls)

abbrev pub locals_of : Machine → List PlainValue
locals_of m = all_held m.locals

abbrev pub frames_of : Machine → List PlainFrame
frames_of m = map frame_view m.frames.items

-- what comes of a value at hand, or of an outcome for it
abbrev pub after_value : World → Machine → PlainValue → Outcome State
after_value world m = to world m.visible (locals_of m) (frames_of m)

abbrev pub after_outcome : World → Machine → Outcome PlainValue → Outcome State
after_outcome world m o = o >>= after_value world m

-- what comes of a value that a frame waits for, or of an outcome for it
abbrev pub after_frame : World → Machine → PlainFrame → PlainValue → Outcome State
after_frame world m frame = λ v. one world frame (at m.visible (locals_of m) v) >>= through world (frames_of m)

abbrev pub after_waiting : World → Machine → PlainFrame → Outcome PlainValue → Outcome State
after_waiting world m frame o = o >>= after_frame world m frame

-- what comes of what is at hand: an inscription that is not begun, or a value
abbrev pub ahead : World → Machine → Now → Outcome State
ahead world m (nows.Open e) = after_outcome world m (meant_at world m.visible (locals_of m) (expr_view e.now))
ahead world m (nows.Given v) = after_value world m (held_view v)

-- a turn changes nothing of what comes of it in the end
abbrev pub Goes : World → Machine → Result Now NoValue → Outcome State → Type 0
Goes world m (Ok now) before = ahead world m now ≡ before
Goes world m (Err reason) before = Stops reason before

-- the last turn leaves no frame
pub record Ended (m : Machine) (v : PlainValue) (before : Outcome State) : Type 0 where
  pub outcome : before ≡ gives (at m.visible (locals_of m) v)
  pub no_frame : m.frames.items ≡ []

abbrev pub Turned : World → Machine → Result Turn NoValue → Outcome State → Type 0
Turned world m (Ok (turns.On now)) before = ahead world m now ≡ before
Turned world m (Ok (turns.End v)) before = Ended m (held_view v) before
Turned world m (Err reason) before = Stops reason before

-- an evaluation that is over left all as it was
pub record Kept (m n : Machine) : Type 0 where
  pub no_frame : n.frames.items ≡ []
  pub visible : n.visible ≡ m.visible
  pub locals : locals_of n ≡ locals_of m
