-- What the steps of the parser of patterns come to: a pattern that was read, or where the text breaks off.
use Rattle.std.proofs.Common.{[], ◌∷◌, refl, append-nil}
use Rattle.cpn_lex.specs.Token.{PlainToken}
use Rattle.cpn_lex.specs.declared.symbols.Symbol.TheVariants as sign
use Rattle.cpn_syntax.specs.declared.refusals.SyntaxError.{SyntaxError}
use Rattle.cpn_syntax.specs.Texts.{Text, Is}
use Rattle.cpn_syntax.specs.Faults.{fault_at}
use Rattle.cpn_syntax.specs.Unread.{Begins}
use Rattle.cpn_syntax.specs.Progress.{Leads}
use Rattle.cpn_trees.specs.Trees.{PlainPat}
use Rattle.cpn_syntax.specs.PatternCompletions.{end_pattern}
use Rattle.cpn_syntax.specs.ReadPatterns.{wanting, whole, none_open, ReadPat, TakesPat}
use Rattle.cpn_syntax.specs.PatternReadings.{IsReadAsPattern, BreaksOffInPattern}
use Rattle.cpn_syntax.specs.PatternSteps.{PatBreaksOff}
use Rattle.cpn_syntax.proofs.PatternCompletions.{complete_pat}
use Rattle.cpn_syntax.proofs.PatternSteps.{begins_too}

pub reads_pattern : {p : PlainPat} {from to : Text} (t : PlainToken) → Leads ReadPat TakesPat (wanting []) from (whole p) (t ∷ to) → Is sign.Arrow t → IsReadAsPattern from to p
reads_pattern t leads arrow = record {
  used = leads.used;
  arrow = t;
  split = leads.split;
  spells = leads.reads [] none_open;
  is_arrow = arrow;
  only = λ q u t2 v w is spells arrow2.
      let takes = leads.only (q, v) (t ∷ w) (w, refl) (rw is (complete_pat spells (end_pattern t2 arrow2))) in
      (takes.3, cc);
}

-- with what is no arrow a whole pattern does not go on
pub whole_stops : (p : PlainPat) (text : Text) → (Begins (Is sign.Arrow) text → ⊥) → PatBreaksOff (whole p) text (fault_at text)
whole_stops p text none = record {
  used = [];
  rest = text;
  split = refl;
  fault_is = refl;
  viable = λ before spells. ([], (p, rw (append-nil before, append-nil before) spells));
  none = λ r w agrees takes. none (begins_too _ text w agrees (rw takes.2 takes.1));
}

pub breaks_pattern : {from : Text} {fault : SyntaxError} → PatBreaksOff (wanting []) from fault → BreaksOffInPattern from fault
breaks_pattern stops = record {
  used = stops.used;
  rest = stops.rest;
  split = stops.split;
  fault_is = stops.fault_is;
  viable = stops.viable [] none_open;
  none = λ q u t v w agrees is spells arrow. stops.none (q, v) w agrees (rw is (complete_pat spells (end_pattern t arrow)));
}
