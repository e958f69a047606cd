-- What an edit leaves as it is: all of a net but the guards and the variables of its transitions.
use Rattle.std.proofs.Common.{List, length, refl, sym, ap, subst}
use Rattle.std.proofs.Math.Seq.{map-set_same}
use Rattle.cpn_definitions.specs.Net.{PlainTransition, PlainNet, no_transition}
use Rattle.cpn_document.specs.Phases.{RawEdit, guard, initial}
use Rattle.cpn_document.specs.declared.pointers.Pointer.{Pointer}
use Rattle.cpn_monitor.specs.Monitors.{PlainMonitor}
use Rattle.cpn_typing.specs.Names.{Declared}
use Rattle.cpn_edit_texts.specs.Checked.{edit_so}
use Rattle.cpn_edit_texts.specs.Edits.{PlainEdit, net_after, but_guard, AreAlikeButGuards}
use Rattle.cpn_edit_texts.specs.Reading.{read}
use Rattle.cpn_edit_texts.specs.Ready.{IsThere}
use Rattle.cpn_edit_texts.proofs.ReadEdits.{GuardRead, guard_read, initial_read}

guard_keeps : (ds : Declared) (n : PlainNet) (monitors : List PlainMonitor) (edit : PlainEdit) → GuardRead ds n monitors edit → AreAlikeButGuards (net_after n edit) n
guard_keeps ds n monitors edit r =
    subst (λ e. AreAlikeButGuards (net_after n e) n) (sym r.edit_is)
    (ap (λ (ts : List PlainTransition). record n { transitions = ts }) (map-set_same but_guard n.transitions r.number r.edited no_transition (ap but_guard r.is.completed.same)))

-- An edit that is read changes nothing but a guard and its variables, or the initial marking.
pub edit_keeps : (ds : Declared) (n : PlainNet) (monitors : List PlainMonitor) (whole at : Pointer) (raw : RawEdit) (edit : PlainEdit) → edit_so ds n monitors whole at raw (read edit) → AreAlikeButGuards (net_after n edit) n
edit_keeps ds n monitors whole at (guard name text) edit h = guard_keeps ds n monitors edit (guard_read ds n monitors whole at name text edit h)
edit_keeps ds n monitors whole at (initial name text) edit h = subst (λ e. AreAlikeButGuards (net_after n e) n) (sym (initial_read ds n monitors whole at name text edit h).edit_is) refl

-- what it changes is there
pub edit_there : (ds : Declared) (n : PlainNet) (monitors : List PlainMonitor) (whole at : Pointer) (raw : RawEdit) (edit : PlainEdit) → edit_so ds n monitors whole at raw (read edit) → IsThere (length n.transitions) (length n.places) edit
edit_there ds n monitors whole at (guard name text) edit h = let r = guard_read ds n monitors whole at name text edit h in subst (IsThere (length n.transitions) (length n.places)) (sym r.edit_is) r.there
edit_there ds n monitors whole at (initial name text) edit h = let r = initial_read ds n monitors whole at name text edit h in subst (IsThere (length n.transitions) (length n.places)) (sym r.edit_is) r.there
