-- Which function a call begins.
use Rattle.std.proofs.Common.{◌≡◌, ◌≢◌, map, length, get_or, ℕ, ◌<◌, ◌≤◌, List, Some, subst, refl, ap, ◌∙◌, sym, arith}
use Rattle.std.specs.List.{slice_get}
use Rattle.std.proofs.lemmas.Bool.Decides.{nat_tests}
use Rattle.std.proofs.lemmas.Option.{slice_get-map, slice_get_past, slice_get-get_or}
use Rattle.cpn_definitions.specs.Value.{PlainValue}
use Rattle.cpn_definitions.specs.Outcome.{no_meaning}
use Rattle.cpn_definitions.specs.Inscription.{PlainFunction}
use Rattle.cpn_definitions.specs.Meaning.{Setting, meant, called}
use Rattle.cpn_definitions.proofs.EarlierCalls.{called_there, not_there}
use Rattle.cpn_core.specs.declared.inscriptions.Function.{Function}
use Rattle.cpn_core.specs.Inscriptions.{expr_view, function_view}
use Rattle.cpn_eval.specs.declared.frames.World.{World}
use Rattle.cpn_eval.specs.Frames.{calls_in, setting_in, meant_at}

-- ---- in a world

abbrev functions_in : World → List Function
functions_in w = w.funs.now.functions.items

pub no_call_in : (w : World) (n k : ℕ) (args : List PlainValue) → n ≤ k → calls_in w n k args ≡ no_meaning
no_call_in w n k args h = not_there (map function_view (functions_in w)) w.binding.now w.time n k args h

pub no_function_in : (w : World) (n k : ℕ) (args : List PlainValue) (fs : List Function) → fs ≡ w.funs.now.functions.items → k < n → length fs ≤ k → calls_in w n k args ≡ no_meaning
no_function_in w n k args fs same h past =
    let P : List Function → Type 0 = λ xs. length xs ≤ k in
    let beyond : length (functions_in w) ≤ k = subst P same past in
    called_there (map function_view (functions_in w)) w.binding.now w.time n k args h ∙ rw (slice_get-map function_view (functions_in w) k, slice_get_past (functions_in w) k beyond) refl

function_in
    : (w : World) (n k : ℕ) (args : List PlainValue) (fs : List Function) (f : Function)
    → fs ≡ w.funs.now.functions.items
    → k < n
    → k < length fs
    → f ≡ get_or fs k f
    → calls_in w n k args ≡ called (Some (function_view f)) (setting_in w k) args
function_in w n k args fs f same h there is =
    let P : List Function → Type 0 = λ xs. slice_get xs k ≡ Some f in
    let found : slice_get (functions_in w) k ≡ Some f = subst P same (slice_get-get_or fs k f there ∙ ap Some (sym is)) in
    called_there (map function_view (functions_in w)) w.binding.now w.time n k args h ∙ rw (slice_get-map function_view (functions_in w) k, found) refl

right_count : (f : PlainFunction) (s : Setting) (args : List PlainValue) → length args ≡ f.parameters → called (Some f) s args ≡ meant f.body s args
right_count f s args h = grind (arith, nat_tests)

wrong_count : (f : PlainFunction) (s : Setting) (args : List PlainValue) → length args ≢ f.parameters → called (Some f) s args ≡ no_meaning
wrong_count f s args h = grind (arith, nat_tests)

pub call_in
    : (w : World) (n k : ℕ) (args : List PlainValue) (fs : List Function) (f : Function)
    → fs ≡ w.funs.now.functions.items
    → k < n
    → k < length fs
    → f ≡ get_or fs k f
    → length args ≡ f.parameters
    → calls_in w n k args ≡ meant_at w k args (expr_view f.body.value)
call_in w n k args fs f same h there is count = function_in w n k args fs f same h there is ∙ right_count (function_view f) (setting_in w k) args count

pub wrong_count_in
    : (w : World) (n k : ℕ) (args : List PlainValue) (fs : List Function) (f : Function)
    → fs ≡ w.funs.now.functions.items
    → k < n
    → k < length fs
    → f ≡ get_or fs k f
    → length args ≢ f.parameters
    → calls_in w n k args ≡ no_meaning
wrong_count_in w n k args fs f same h there is count = function_in w n k args fs f same h there is ∙ wrong_count (function_view f) (setting_in w k) args count
