-- Each part of a `foldl` is completed, or goes on, as its own function says.
use Rattle.cpn_syntax.proofs.following_tokens.close_fold.Goals as goal

pub returns-in-List : goal.returns-in-List
returns-in-List c = rw c.in-List.is c.take_from.ensures

pub returns-in-Start : goal.returns-in-Start
returns-in-Start c = rw c.in-Start.is c.take_do.ensures

pub returns-in-Body : goal.returns-in-Body
returns-in-Body c = rw c.in-Body.is (record { closed = c.end_fold.ensures.closed _; stops = c.end_fold.ensures.stops _ })
