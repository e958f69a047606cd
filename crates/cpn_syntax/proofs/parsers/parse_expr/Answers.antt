-- An answer is what the whole text spells; what it spells has the shape of its forms.
use Rattle.std.proofs.lemmas.Result.{err_from_is_err_and}
use Rattle.cpn_syntax.proofs.Parses.{halted}
use Rattle.cpn_syntax.proofs.Shapes.{shaped}
use Rattle.cpn_syntax.proofs.parsers.parse_expr.Goals as goal

pub returns-in_err-found : goal.returns-in_err-found
returns-in_err-found c =
    let p = err_from_is_err_and c.from_residual.result c.from_residual.ensures.1 in
    rw (p.1, p.2, ← c.as_slice.ensures.value) (halted _ c.in_err-found.ensures.stops)

pub invariant_of-result : goal.invariant_of-result
invariant_of-result c = record { shallow = c.is_deeper.ensures.within c.if-is_deeper.false; shaped = shaped c.in_ok-found.ensures.read.0 }
