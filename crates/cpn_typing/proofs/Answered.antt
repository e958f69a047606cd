-- Answers that are passed on.
use Rattle.std.proofs.Common.{◌≡◌, Option, Some, None, Result, Ok, Err, sym, subst}
use Rattle.std.specs.Result.{IsErrAnd}
use Rattle.cpn_typing.specs.Names.{Refusal, Checked, refused}
use Rattle.cpn_typing.specs.Answers.{Refuses, AnswersWith}

-- an error that is passed on refuses what it refused
pub answers_on : {X Y E : Type 0} (refusal_of : E → Option Refusal) (view : X → Y) (r : Result X E) (e : E) (c : Checked Y) → IsErrAnd r (λ y. y ≡ e) → Refuses (refusal_of e) c → AnswersWith refusal_of view r c
answers_on refusal_of view (Ok x) e c h refuses = absurd h
answers_on refusal_of view (Err y) e c h refuses = subst (λ z. Refuses (refusal_of z) c) (sym h) refuses

-- where a part is refused, so is the whole
pub refuses_through : {A B : Type 0} (o : Option Refusal) (part : Checked A) (whole : Checked B) → ((r : Refusal) → part ≡ refused r → whole ≡ refused r) → Refuses o part → Refuses o whole
refuses_through None part whole through h = tt
refuses_through (Some r) part whole through h = through r h
