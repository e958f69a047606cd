-- Where no name, number, string or sign stands, no token does.
use Rattle.cpn_lex.proofs.Goes.{none_at}
use Rattle.cpn_lex.proofs.fronts.front_of.Goals as goal

pub returns-in-None-clause-err : goal.returns-in-None-clause-err
returns-in-None-clause-err c = none_at c.args.at c.args.text.now c.requires.some c.requires.no_blank c.if-first-eq34.false c.in-None.ensures.none
