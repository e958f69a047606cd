-- The body of a colour set that begins with a symbol.
use Rattle.std.proofs.Common.{[], refl, ap}
use Rattle.std.proofs.lemmas.Result.{err_from_is_err_and}
use Rattle.cpn_lex.specs.Token as token
use Rattle.cpn_lex.specs.declared.symbols.Symbol.TheVariants as sign
use Rattle.cpn_trees.specs.DeclTrees.{enumeration, union}
use Rattle.cpn_syntax.specs.Endings.{EndsBody}
use Rattle.cpn_syntax.specs.Fragments.{whole}
use Rattle.cpn_syntax.proofs.Fragments.{leaves_on, leaves_to_halt, leaves_next, halts_next, whole_ends}
use Rattle.cpn_syntax.proofs.Phrases.{name_next, no_name_next}
use Rattle.cpn_syntax.proofs.DeclarationParts.{body_begins, ends_body, no_body, no_body_by}
use Rattle.cpn_syntax.proofs.declarations.body_behind.Goals as goal

pub returns-in-Unit-clause-read : goal.returns-in-Unit-clause-read
returns-in-Unit-clause-read c = body_begins _ sign.Unit (ap token.symbol c.in-Unit.is)

pub returns-in-Bool-clause-read : goal.returns-in-Bool-clause-read
returns-in-Bool-clause-read c = body_begins _ sign.Bool (ap token.symbol c.in-Bool.is)

pub returns-in-String-clause-read : goal.returns-in-String-clause-read
returns-in-String-clause-read c = body_begins _ sign.String (ap token.symbol c.in-String.is)

pub returns-in_err-names-in-With-clause-stops : goal.returns-in_err-names-in-With-clause-stops
returns-in_err-names-in-With-clause-stops c =
    let p = err_from_is_err_and c.from_residual.result c.from_residual.ensures.1 in
    rw (p.1, p.2) (λ no. leaves_to_halt (body_begins _ sign.With (ap token.symbol c.in-With.is))
    (halts_next (whole_ends enumeration (ends_body sign.Bar (λ no. cc) (λ no. cc))) (λ ns. (_, [], whole)) (c.in_err-names-in-With.ensures.stops no)))

pub returns-in_ok-names-in-With-clause-read : goal.returns-in_ok-names-in-With-clause-read
returns-in_ok-names-in-With-clause-read c =
    leaves_on (body_begins _ sign.With (ap token.symbol c.in-With.is)) (leaves_next (whole_ends enumeration (ends_body sign.Bar (λ no. cc) (λ no. cc))) c.in_ok-names-in-With.ensures.read)

pub returns-in_err-take_name-in-List-clause-stops : goal.returns-in_err-take_name-in-List-clause-stops
returns-in_err-take_name-in-List-clause-stops c =
    let p = err_from_is_err_and c.from_residual-in_err-take_name-in-List.result c.from_residual-in_err-take_name-in-List.ensures.1 in
    rw (p.1, p.2) (λ no. leaves_to_halt (body_begins _ sign.List (ap token.symbol c.in-List.is)) (no_name_next (λ n. (_, [], whole)) (c.in_err-take_name-in-List.ensures.refused no)))

pub returns-in_ok-take_name-in-List-clause-read : goal.returns-in_ok-take_name-in-List-clause-read
returns-in_ok-take_name-in-List-clause-read c =
    leaves_on (body_begins _ sign.List (ap token.symbol c.in-List.is)) (name_next c.in_ok-take_name-in-List.ensures.taken)

pub returns-in_err-alternatives-in-Union-clause-stops : goal.returns-in_err-alternatives-in-Union-clause-stops
returns-in_err-alternatives-in-Union-clause-stops c =
    let p = err_from_is_err_and c.from_residual-in_err-alternatives-in-Union.result c.from_residual-in_err-alternatives-in-Union.ensures.1 in
    rw (p.1, p.2) (λ no. leaves_to_halt (body_begins _ sign.Union (ap token.symbol c.in-Union.is))
    (halts_next {Within = EndsBody} (whole_ends union (λ v e. e)) (λ found. (_, [], whole)) (c.in_err-alternatives-in-Union.ensures.stops no)))

pub returns-in_ok-alternatives-in-Union-clause-read : goal.returns-in_ok-alternatives-in-Union-clause-read
returns-in_ok-alternatives-in-Union-clause-read c =
    leaves_on (body_begins _ sign.Union (ap token.symbol c.in-Union.is)) (leaves_next {Within = EndsBody} (whole_ends union (λ v e. e)) c.in_ok-alternatives-in-Union.ensures.read)

pub returns-in_default : goal.returns-in_default
returns-in_default c = let n = c.in_default in record {
  read = tt;
  stops = λ no. no_body_by _ c.args.symbol refl (no_body c.args.symbol n.not-Unit n.not-Bool n.not-Int n.not-String n.not-With n.not-Product n.not-List n.not-Union);
}
