-- The sign of two bytes is the longest, and else the sign of one.
use Rattle.std.proofs.Common.{sym}
use Rattle.cpn_lex.proofs.LongestSigns.{two_begin, one_begins, none_begins}
use Rattle.cpn_lex.proofs.signs.sign_front.Goals as goal

pub returns-in-Some-clause-some : goal.returns-in-Some-clause-some
returns-in-Some-clause-some c = two_begin c.args.text.now c.in-Some.sign (sym c.in-Some.ensures) c.requires

pub returns-in-Some-sign_of_one-clause-some : goal.returns-in-Some-sign_of_one-clause-some
returns-in-Some-sign_of_one-clause-some c = one_begins c.args.text.now c.in-Some-sign_of_one.sign (sym c.in-Some-sign_of_one.ensures) (sym c.in_default.ensures) c.requires

pub returns-in-None-clause-none : goal.returns-in-None-clause-none
returns-in-None-clause-none c = none_begins c.args.text.now (sym c.in-None.ensures) (sym c.in_default.ensures) c.requires
