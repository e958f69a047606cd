-- A whole inscription: what the reading from nothing open comes to.
use Rattle.std.proofs.Common.{[], ◌++◌, refl, sym, ap, ◌∙◌, subst, arith}
use Rattle.cpn_syntax.specs.declared.refusals.SyntaxError.{SyntaxError}
use Rattle.cpn_syntax.specs.declared.open_forms.Part.{Part}
use Rattle.cpn_syntax.specs.Texts.{Text}
use Rattle.cpn_trees.specs.AstViews.{ast_view}
use Rattle.cpn_syntax.specs.OpenViews.{part_state}
use Rattle.cpn_syntax.specs.Inscriptions.{Spells}
use Rattle.cpn_syntax.specs.Completions.{Wants}
use Rattle.cpn_syntax.specs.ReadForms.{want}
use Rattle.cpn_syntax.specs.Steps.{Comes, BreaksOff, IsAll}
use Rattle.cpn_syntax.specs.Readings.{IsReadAs, BreaksOffAt}
use Rattle.cpn_syntax.proofs.Completions.{complete_whole}
use Rattle.cpn_syntax.proofs.Repetitions.{spells_down}

-- what breaks off from nothing open is no inscription
pub breaks_off_at : {from : Text} {e : SyntaxError} → BreaksOff (want []) from e → BreaksOffAt from e
breaks_off_at stops = record {
  used = stops.used;
  rest = stops.rest;
  split = stops.split;
  fault_is = stops.fault_is;
  viable = stops.viable [] refl;
  none = λ close b u v w agrees same spells closes. stops.none (close, b) w agrees (subst (Wants close [] b) (sym same) (complete_whole spells closes));
}

-- a part that is all that was read is the whole inscription
pub is_read_as : {from to : Text} {part : Part} → Comes (want []) from (part_state part []) to → IsAll part [] to → IsReadAs from to (ast_view part.tree)
is_read_as {from} {to} {part} comes all =
    let read = comes.reads [] refl in
    record {
      used = comes.used;
      split = comes.split;
      spells = subst (Spells 0 (ast_view part.tree)) (sym (read.2 ∙ ap (λ p. p ++ read.1) read.6)) (spells_down (omega arith) read.3);
      only = λ close b u v w agrees same spells closes.
          let whole = all.only (close, b) w agrees (comes.only (close, b) w agrees (subst (Wants close [] b) (sym same) (complete_whole spells closes))) in
          (sym whole.0, whole.1);
    }
