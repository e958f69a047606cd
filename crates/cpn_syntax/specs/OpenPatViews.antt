-- The plain open forms that those of the program stand for.
use Rattle.std.specs.Prelude.{List, map, reverse, string_bytes}
use Rattle.std.specs.declared.alloc.Global.{Global}
use Rattle.std.specs.declared.vec.Vec.{Vec}
use Rattle.cpn_trees.specs.Trees.{PlainPat}
use Rattle.cpn_trees.specs.PatViews.{pat_view}
use Rattle.cpn_syntax.specs.OpenPatterns.{PlainBracket, round, square, call, PlainOpenPat, behind, inside, OpenPats}
use Rattle.cpn_trees.specs.declared.patterns.Pat.{Pat}
use Rattle.cpn_syntax.specs.declared.open_patterns.Bracket.{Bracket}
use Rattle.cpn_syntax.specs.declared.open_patterns.OpenPattern.{OpenPattern}
use Rattle.cpn_syntax.specs.declared.open_patterns.OpenPatterns.{OpenPatterns}

abbrev pub parts_view : Vec Pat Global → List PlainPat
parts_view parts = map pat_view parts.items

abbrev pub bracket_view : Bracket → PlainBracket
bracket_view Bracket.Round = round
bracket_view Bracket.Square = square
bracket_view (Bracket.Call name) = call (string_bytes name)

abbrev pub open_view : OpenPattern → PlainOpenPat
open_view (OpenPattern.Behind at head) = behind at (pat_view head)
open_view (OpenPattern.Inside bracket at parts) = inside (bracket_view bracket) at (parts_view parts)

-- the innermost form is the last one
abbrev pub opens_view : OpenPatterns → OpenPats
opens_view open_forms = map open_view (reverse open_forms.forms.items)
