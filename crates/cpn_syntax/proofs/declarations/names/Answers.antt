-- Names, each but the first behind the separator.
use Rattle.std.proofs.Common.{map, string_bytes}
use Rattle.std.proofs.lemmas.List.{map-append}
use Rattle.std.proofs.lemmas.Result.{err_from_is_err_and}
use Rattle.cpn_syntax.specs.Endings.{Anything}
use Rattle.cpn_syntax.proofs.Fragments.{each_begins, part_and_sign, last_part, no_part}
use Rattle.cpn_syntax.proofs.Phrases.{name_read, name_halts}
use Rattle.cpn_syntax.proofs.declarations.names.Goals as goal

pub loop-names-init : goal.loop-names-init
loop-names-init c = rw c.new-names.ensures.items each_begins

pub returns-in_err-name-clause-stops : goal.returns-in_err-name-clause-stops
returns-in_err-name-clause-stops c =
    let p = err_from_is_err_and c.from_residual.result c.from_residual.ensures.1 in
    rw (p.1, p.2) (λ no. no_part {Within = Anything} (map string_bytes c.loop-names.names.items) (λ v e. (tt, e)) (λ t v is. tt) c.loop-names.invariant (name_halts (c.in_err-name.ensures.refused no)))

pub returns-then-not-accept-clause-read : goal.returns-then-not-accept-clause-read
returns-then-not-accept-clause-read c =
    rw (c.in_ok-push.ensures.items, map-append) (last_part {Within = Anything} (map string_bytes c.loop-names.names.items) (λ v e. (tt, e)) (λ t v is. tt)
    c.loop-names.invariant (name_read c.in_ok-name.ensures.taken) (c.accept.ensures.no c.if-not-accept.true))

pub loop-names-preserved : goal.loop-names-preserved
loop-names-preserved c =
    rw (c.in_ok-push.ensures.items, map-append) (part_and_sign {Within = Anything} (map string_bytes c.loop-names.names.items) (λ v e. (tt, e)) (λ t v is. tt)
    c.loop-names.invariant (name_read c.in_ok-name.ensures.taken) (c.accept.ensures.yes c.if-not-accept.false))
