-- A delay and the inscription in it.
use Rattle.std.proofs.Common.{◌≡◌, ℕ, Bool, true, false, [], ◌∷◌, ◌++◌, append_assoc}
use Rattle.cpn_lex.specs.declared.symbols.Symbol.TheVariants as sign
use Rattle.cpn_syntax.specs.Texts.{Text, Is}
use Rattle.cpn_syntax.specs.Unread.{Reads}
use Rattle.cpn_syntax.specs.Endings.{No}
use Rattle.cpn_trees.specs.Trees.{PlainAst}
use Rattle.cpn_syntax.specs.Inscriptions.{Spells, sum_line, stamp_line, infix_line, if_line, case_line, fold_line, not_line, negate_line, component_line, number_line, text_line, true_line, false_line, empty_line, time_line, name_line, call_line, unit_line, group_line, tuple_line, no_items_line, items_line, let_line}
use Rattle.cpn_syntax.specs.Completions.{Closes, nothing_more}
use Rattle.cpn_syntax.specs.Delays.{SpellsDelay, delay_line, later_line}
use Rattle.cpn_syntax.specs.Phrases.{Optional, present, absent}
use Rattle.cpn_syntax.specs.Fragments.{Leaves}
use Rattle.cpn_syntax.proofs.Fragments.{Then, next, leaves_same, leaves_on, optional_read}

-- no inscription begins with `@+`
no_later : {l : ℕ} {a : PlainAst} {u : Text} → Spells l a u → (v : Text) → No sign.AtPlus (u ++ v)
no_later (sum_line u w l first more) v begins = no_later first (w ++ v) (rw append_assoc at begins)
no_later (stamp_line t n u l first is num) v begins = no_later first (t ∷ n ∷ v) (rw append_assoc at begins)
no_later (infix_line t u w o l first is second) v begins = no_later first (t ∷ w ++ v) (rw append_assoc at begins)
no_later (if_line t1 t2 t3 u v w l is c is2 a is3 b) after begins = cc
no_later (case_line t1 t2 u v is a is2 arms) after begins = cc
no_later (fold_line t1 n1 t2 n2 t3 t4 t5 u v w l is item is2 total is3 a is4 s is5 b) after begins = cc
no_later (not_line t u l is a) after begins = cc
no_later (negate_line t u l is a) after begins = cc
no_later (component_line t n u l is num a) after begins = cc
no_later (number_line t l is) after begins = cc
no_later (text_line t l is) after begins = cc
no_later (true_line t l is) after begins = cc
no_later (false_line t l is) after begins = cc
no_later (empty_line t l is) after begins = cc
no_later (time_line t l is) after begins = cc
no_later (name_line t l is) after begins = cc
no_later (call_line t t1 t2 u l is opens parts closes) after begins = cc
no_later (unit_line t1 t2 l is closes) after begins = cc
no_later (group_line t1 t2 u l is a closes) after begins = cc
no_later (tuple_line t1 t2 t3 u v l is first comma parts closes) after begins = cc
no_later (no_items_line t1 t2 l is closes) after begins = cc
no_later (items_line t1 t2 u l is parts closes) after begins = cc
no_later (let_line t1 t2 t3 u v l is locals is2 a is3) after begins = cc

delay_to : (a : PlainAst) (u : Text) → SpellsDelay a u → Then (Optional sign.AtPlus) (λ _. Spells 0) a u
delay_to a u (delay_line v spelled) = next {a = false} [] v absent spelled
delay_to a u (later_line t v is spelled) = next {a = true} (t ∷ []) v (present t is) spelled

delay_from : (a : PlainAst) (u : Text) → Then (Optional sign.AtPlus) (λ _. Spells 0) a u → SpellsDelay a u
delay_from a u (next x v (present t is) spelled) = later_line t v is spelled
delay_from a u (next x v absent spelled) = delay_line v spelled

-- `@+` is read, or it isn't there
pub delay_begins : {from to : Text} (there : Bool) → (there ≡ true → Reads (Is sign.AtPlus) from to) → (there ≡ false → (to ≡ from) × No sign.AtPlus from) → Leaves SpellsDelay (Spells 0) (Closes nothing_more) from to
delay_begins there read missing = leaves_on (leaves_same delay_to delay_from) (optional_read there (λ a u v spelled ends. no_later spelled v) read missing)
