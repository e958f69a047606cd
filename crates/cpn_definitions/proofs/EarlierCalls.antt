-- A call of a function means its body with the arguments put in for the parameters, among the functions before it; a call of a
-- function that is not there means nothing.
use Rattle.std.proofs.Common.{◌≡◌, ℕ, zero, suc, ◌<◌, ◌≤◌, ◌==◌, Bool, true, false, cond, List, length, Some, slice_get, refl, sym, ap, ◌∙◌, subst, arith}
use Rattle.std.proofs.lemmas.Bool.Decides.{nat_tests}
use Rattle.cpn_definitions.specs.Value.{PlainValue}
use Rattle.cpn_definitions.specs.Outcome.{no_meaning}
use Rattle.cpn_definitions.specs.Inscription.{PlainFunction, Functions}
use Rattle.cpn_definitions.specs.Meaning.{PlainBinding, meant, called, calls_below, setting_below}

-- below a number, the number of a function is that of a call of it
pub called_there : (funs : Functions) (b : PlainBinding) (time n k : ℕ) (arguments : List PlainValue) → k < n → calls_below funs b time n k arguments ≡ called (slice_get funs k) (setting_below funs b time k) arguments
called_there funs b time zero k arguments lt = absurd (omega arith)
called_there funs b time (suc n) k arguments lt = split (λ below. called_there funs b time n k arguments below) (k == n) refl
  where
    split : (k < n → calls_below funs b time n k arguments ≡ called (slice_get funs k) (setting_below funs b time k) arguments) → (t : Bool) → (k == n) ≡ t → cond t (called (slice_get funs n) (setting_below funs b time n) arguments) (calls_below funs b time n k arguments) ≡ called (slice_get funs k) (setting_below funs b time k) arguments
    split rest true is = let same : k ≡ n = grind (arith, nat_tests) in subst (λ j. called (slice_get funs n) (setting_below funs b time n) arguments ≡ called (slice_get funs j) (setting_below funs b time j) arguments) (sym same) refl
    split rest false is = rest (grind (arith, nat_tests))

-- from that number on there is none
pub not_there : (funs : Functions) (b : PlainBinding) (time n k : ℕ) (arguments : List PlainValue) → n ≤ k → calls_below funs b time n k arguments ≡ no_meaning
not_there funs b time zero k arguments le = refl
not_there funs b time (suc n) k arguments le = let other : (k == n) ≡ false = grind (arith, nat_tests) in rw other (not_there funs b time n k arguments (omega arith))

-- with as many arguments as the function has parameters, a call means the body, where only the functions before it are
pub call_is_body : (funs : Functions) (b : PlainBinding) (time k : ℕ) (f : PlainFunction) (arguments : List PlainValue) → slice_get funs k ≡ Some f → k < length funs → length arguments ≡ f.parameters →
    calls_below funs b time (length funs) k arguments ≡ meant f.body (setting_below funs b time k) arguments
call_is_body funs b time k f arguments is lt many =
    let fits : (length arguments == f.parameters) ≡ true = grind (arith, nat_tests) in
    called_there funs b time (length funs) k arguments lt ∙ ap (λ g. called g (setting_below funs b time k) arguments) is ∙ ap (λ t. cond t (meant f.body (setting_below funs b time k) arguments) no_meaning) fits
