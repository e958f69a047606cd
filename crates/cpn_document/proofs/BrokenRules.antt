-- The exits of a call for what has to keep rules.
use Rattle.std.proofs.Common.{◌≡◌, Bool, true, false, if◌then◌else◌, List, [], ◌∷◌, ◌++◌, refl, sym, ap, ◌∙◌}
use Rattle.std.specs.Prelude.{Option, Some, None, option_map, Result, Ok, Err, IsErrAnd}
use Rattle.std.specs.Option.{option_or}
use Rattle.std.proofs.lemmas.Result.{err_from_is_err_and}
use Rattle.cpn_document.specs.Refusals.{FormRefusal, limit}
use Rattle.cpn_document.specs.Rules.{Rule, first_broken}
use Rattle.cpn_document.specs.Parts.{limit_rules}
use Rattle.cpn_document.specs.Answers.{refused_view, refusal_of, Breaks, Gives}
use Rattle.cpn_document.specs.declared.refusals.DocError.{DocError}
use Rattle.cpn_document.specs.declared.refusals.Limit.{Limit}
use Rattle.cpn_document.specs.declared.refusals.Refused.{Refused}
pub use Rattle.cpn_readings.proofs.BrokenRules.{none_broken, rule_broken, broken_append, broken_later, behind, breaks_here, breaks_in_front, in_order}

module _ {X Y : Type 0} (view : X → Y) (result : Result X DocError) (value : Y) (rules : List Rule) where
  -- a part that takes no memory is refused
  pub gives_refused : (refusal : FormRefusal) → IsErrAnd result (λ e. refusal_of e ≡ Some refusal) → first_broken rules ≡ Some refusal → Gives view result value rules
  gives_refused refusal h broken = let p = err_from_is_err_and result h in rw (p.1, p.2, broken) refl

  -- a part is refused, or memory is wanted
  pub gives_error : (error : DocError) → IsErrAnd result (λ e. e ≡ error) → Breaks (refusal_of error) rules → Gives view result value rules
  gives_error error h broken = let p = err_from_is_err_and result h in rw (p.1, p.2) broken

-- ---- refusals of rules one group behind the other

-- the refusal of what is refused first, as it is seen
pub seen_or : (first second : Option Refused) → option_map refused_view (option_or first second) ≡ option_or (option_map refused_view first) (option_map refused_view second)
seen_or None second = refl
seen_or (Some refused) second = refl

pub ruleset in_groups = (broken_append, seen_or)

-- the refusal of rules in front and of those behind them
pub refused_or : (first second result : Option Refused) (xs ys : List Rule) → result ≡ option_or first second → option_map refused_view first ≡ first_broken xs → option_map refused_view second ≡ first_broken ys → option_map refused_view result ≡ first_broken (xs ++ ys)
refused_or first second result xs ys is in_front later = rw (is, broken_append xs ys, seen_or first second, in_front, later) refl

-- the refusal of one rule
pub refused_one : (second : Option Refused) (kept : Bool) (refused : Refused) → second ≡ (if kept then None else Some refused) → option_map refused_view second ≡ first_broken (record { kept = kept; refusal = refused_view refused } ∷ [])
refused_one second true refused h = ap (option_map refused_view) h ∙ sym (rule_broken _ [] ∙ none_broken)
refused_one second false refused h = ap (option_map refused_view) h ∙ sym (rule_broken _ [])

-- rules are kept in front of those that a refusal is of
pub refused_later : (result : Option Refused) (xs ys : List Rule) → first_broken xs ≡ None → option_map refused_view result ≡ first_broken ys → option_map refused_view result ≡ first_broken (xs ++ ys)
refused_later result xs ys kept h = h ∙ sym (broken_later xs ys kept)

-- what a refusal says of the rules, and what none says
pub is_refused : (result : Option Refused) (refused : Refused) (rules : List Rule) → option_map refused_view result ≡ first_broken rules → result ≡ Some refused → first_broken rules ≡ Some (refused_view refused)
is_refused result refused rules h is = sym h ∙ ap (option_map refused_view) is

pub is_kept : (result : Option Refused) (rules : List Rule) → option_map refused_view result ≡ first_broken rules → result ≡ None → first_broken rules ≡ None
is_kept result rules h is = sym h ∙ ap (option_map refused_view) is

-- a broken rule in front, whatever stands behind
pub broken_here : (refusal : FormRefusal) (xs ys : List Rule) → first_broken xs ≡ Some refusal → first_broken (xs ++ ys) ≡ Some refusal
broken_here refusal xs ys h = broken_append xs ys ∙ rw h refl

-- an error that is the refusal of the first broken rule
pub error_breaks : (error : DocError) (refusal : FormRefusal) (rules : List Rule) → refusal_of error ≡ Some refusal → first_broken rules ≡ Some refusal → Breaks (refusal_of error) rules
error_breaks error refusal rules h broken = rw (h, broken) refl

-- there are not too many of something, or there are
pub is_few : (few : Bool) (kind : Limit) → true ≡ few → first_broken (limit_rules few kind) ≡ None
unfolding limit_rules first_broken
is_few few kind h = rw (← h) refl

pub is_many : (few : Bool) (kind : Limit) → false ≡ few → first_broken (limit_rules few kind) ≡ Some (limit kind)
unfolding limit_rules first_broken
is_many few kind h = rw (← h) refl

-- the answer of a call for the rules behind those that are kept
pub gives_later : {X Y : Type 0} (view : X → Y) (result : Result X DocError) (value : Y) (xs ys : List Rule) → first_broken xs ≡ None → Gives view result value ys → Gives view result value (xs ++ ys)
gives_later view (Ok x) value xs ys kept h = (h.0, broken_later xs ys kept ∙ h.1)
gives_later view (Err error) value xs ys kept h = rw (broken_later xs ys kept) h

-- rules that are broken alike are answered alike
pub gives_alike : {X Y : Type 0} (view : X → Y) (result : Result X DocError) (value : Y) (xs ys : List Rule) → first_broken xs ≡ first_broken ys → Gives view result value xs → Gives view result value ys
gives_alike view (Ok x) value xs ys same h = (h.0, sym same ∙ h.1)
gives_alike view (Err error) value xs ys same h = rw (← same) h

-- a refusal of rules behind those that are kept
pub breaks_later : (refusal : Option FormRefusal) (xs ys : List Rule) → first_broken xs ≡ None → Breaks refusal ys → Breaks refusal (xs ++ ys)
breaks_later refusal xs ys kept h = rw (broken_later xs ys kept) h

-- rules in front and behind are kept
pub both_kept : (xs ys : List Rule) → first_broken xs ≡ None → first_broken ys ≡ None → first_broken (xs ++ ys) ≡ None
both_kept xs ys kept h = broken_later xs ys kept ∙ h

-- three groups of rules, behind those that are kept
pub three_later : (xs a b c : List Rule) → first_broken xs ≡ None → first_broken (a ++ b ++ c) ≡ first_broken (xs ++ a ++ b ++ c)
three_later xs a b c kept = rw (broken_append (xs ++ a ++ b) c, broken_append (xs ++ a) b, broken_later xs a kept, broken_append (a ++ b) c, broken_append a b) refl
