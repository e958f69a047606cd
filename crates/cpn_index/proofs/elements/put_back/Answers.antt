-- Just those that wait are watched, with the element back at its time, or gone.
use Rattle.std.proofs.Common.{not, ◌&&◌, sym, ap, ◌∙◌}
use Rattle.cpn_due.specs.Due.{plain_enabled}
use Rattle.cpn_index.specs.Retimed.{at_time}
use Rattle.cpn_index.specs.WatchedElements.{waits}
use Rattle.cpn_index.proofs.WaitingLists.{waits_as, waits_with, waits_apart}
use Rattle.cpn_index.proofs.elements.put_back.Goals as goal

pub returns-in-Some-clause-watched : goal.returns-in-Some-clause-watched
returns-in-Some-clause-watched c = λ p v e.
    c.requires.watched p v e ∙ sym (waits_with p v e (at_time c.in-Some.earliest (plain_enabled c.args.enabled)) c.args.due.now.elements) ∙ ap (λ es. waits es p v e) (sym c.insert.ensures.elements)

pub returns-in-None-clause-watched : goal.returns-in-None-clause-watched
returns-in-None-clause-watched c = λ p v e.
    c.unwatch.ensures.unwatched p v e ∙ ap (λ b. not (waits_as (plain_enabled c.args.enabled) p v e) && b) (c.requires.watched p v e) ∙ waits_apart p v e (plain_enabled c.args.enabled) c.args.due.now.elements c.requires.absent
