-- Reports that are listed one after another.
use Rattle.std.proofs.Common.{◌≡◌, ◌∙◌, ℕ, ◌+◌, ◌<◌, List, [], ◌∷◌, ◌++◌, length, take, get_or, sym, ap, subst}
use Rattle.std.proofs.lemmas.List.{take_more}
use Rattle.cpn_probe.specs.Reported.{AreReports}

-- one report more, of one state more
pub reports_append : {State : Type 0} (reports : State → List ℕ → Type 0) (states : List State) (texts : List (List ℕ)) (state : State) (text : List ℕ)
    → AreReports reports states texts → reports state text → AreReports reports (states ++ state ∷ []) (texts ++ text ∷ [])
reports_append reports [] [] state text are is = (is, tt)
reports_append reports [] (t ∷ ts) state text are is = absurd are
reports_append reports (s ∷ ss) [] state text are is = absurd are
reports_append reports (s ∷ ss) (t ∷ ts) state text are is = (are.0, reports_append reports ss ts state text are.1 is)

-- the report of the next of some states
pub reports_more : {State : Type 0} (reports : State → List ℕ → Type 0) (states : List State) (number : ℕ) (state : State) (texts : List (List ℕ)) (text : List ℕ)
    → number < length states → state ≡ get_or states number state
    → AreReports reports (take number states) texts → reports state text → AreReports reports (take (number + 1) states) (texts ++ text ∷ [])
reports_more reports states number state texts text lt at are is =
    let more : take (number + 1) states ≡ take number states ++ state ∷ [] =
    take_more states number state lt ∙ ap (λ s. take number states ++ s ∷ []) (sym at) in
    subst (λ ss. AreReports reports ss (texts ++ text ∷ [])) (sym more) (reports_append reports (take number states) texts state text are is)
