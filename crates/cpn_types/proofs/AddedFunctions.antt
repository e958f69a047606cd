-- A function that is added under a new name is refused only where memory is wanted.
use Rattle.std.proofs.Common.{◌≡◌, ◌∙◌, Bool, true, false, Option, Some, None, Result, Ok, Err, IfErr, refl, ap}
use Rattle.std.specs.Result.{IsErrAnd}
use Rattle.cpn_typing.specs.Names.{Refusal, accepted_if}
use Rattle.cpn_typing.specs.Answers.{Refuses}
use Rattle.cpn_declared.specs.Answers.{refusal_of}
use Rattle.cpn_declared.specs.declared.refusals.TypeError.{TypeError}

only_memory : {X : Type 0} (o : Option Refusal) (b : Bool) (r : Refusal) (x : X) → b ≡ true → Refuses o (accepted_if b r x) → o ≡ None
only_memory None b r x new h = refl
only_memory (Some s) true r x new h = cc
only_memory (Some s) false r x new h = cc

pub memory_told : {X Y : Type 0} (result : Result Y TypeError) (e : TypeError) → IsErrAnd result (λ y. y ≡ e) → (b : Bool) (r : Refusal) (x : X) → b ≡ true → Refuses (refusal_of e) (accepted_if b r x) → IfErr result (λ y. refusal_of y ≡ None)
memory_told (Ok y) e h b r x new refuses = absurd h
memory_told (Err y) e h b r x new refuses = ap refusal_of h ∙ only_memory (refusal_of e) b r x new refuses
