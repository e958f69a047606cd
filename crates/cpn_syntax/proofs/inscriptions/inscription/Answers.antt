-- Reads an inscription as far as it reaches.
use Rattle.std.proofs.Common.{refl, sym, ap, ◌∙◌, [], subst}
use Rattle.std.proofs.lemmas.Result.{err_from_is_err_and}
use Rattle.cpn_syntax.specs.OpenViews.{opens_view, part_state}
use Rattle.cpn_syntax.specs.ReadForms.{want}
use Rattle.cpn_syntax.specs.Steps.{Comes, IsAll, StepIs, next_state}
use Rattle.cpn_syntax.specs.Unread.{unread}
use Rattle.cpn_syntax.proofs.Progress.{leads_on, leads_to_stop}
use Rattle.cpn_syntax.proofs.WholeReadings as whole
use Rattle.cpn_syntax.proofs.inscriptions.inscription.Goals as goal

pub returns-in_err-next-clause-stops : goal.returns-in_err-next-clause-stops
returns-in_err-next-clause-stops c =
    let p = err_from_is_err_and c.from_residual.result c.from_residual.ensures.1 in
    rw (p.1, p.2) (λ other. whole.breaks_off_at (c.in_err-next.ensures.stops other [] refl))

-- a form was opened
pub returns-in_err-next-in-Form-clause-stops : goal.returns-in_err-next-in-Form-clause-stops
returns-in_err-next-in-Form-clause-stops c =
    let p = err_from_is_err_and c.from_residual-in_err-next-in-Form.result c.from_residual-in_err-next-in-Form.ensures.1 in
    let same = ap (λ n. next_state n (opens_view c.reading.open)) c.in-Form.is ∙ ap want (sym c.in_ok-push-in-Form.ensures) in
    let here = subst (λ s. Comes (want []) (unread c.args.reader.now) s (unread c.reading.reader)) same c.reading.invariant in
    rw (p.1, p.2) (λ other. whole.breaks_off_at (leads_to_stop here (c.in_err-next-in-Form.ensures.stops other (opens_view c.push.new.self) (sym c.wanted.ensures))))

pub reading-preserved-in_ok-next-in-Form : goal.reading-preserved-in_ok-next-in-Form
reading-preserved-in_ok-next-in-Form c =
    let same = ap (λ n. next_state n (opens_view c.reading.open)) c.in-Form.is ∙ ap want (sym c.in_ok-push-in-Form.ensures) in
    let here = subst (λ s. Comes (want []) (unread c.args.reader.now) s (unread c.reading.reader)) same c.reading.invariant in
    leads_on here (c.in_ok-next-in-Form.ensures.begun (opens_view c.push.new.self) (sym c.wanted.ensures))

-- a part was read
pub returns-in_err-next-in-Part-clause-stops : goal.returns-in_err-next-in-Part-clause-stops
returns-in_err-next-in-Part-clause-stops c =
    let p = err_from_is_err_and c.from_residual-in_err-next-in-Part.result c.from_residual-in_err-next-in-Part.ensures.1 in
    let same = ap (λ n. next_state n (opens_view c.reading.open)) c.in-Part.is in
    let here = subst (λ s. Comes (want []) (unread c.args.reader.now) s (unread c.reading.reader)) same c.reading.invariant in
    rw (p.1, p.2) (λ other. whole.breaks_off_at (leads_to_stop here (c.in_err-next-in-Part.ensures.stops other)))

pub reading-preserved : goal.reading-preserved
reading-preserved c =
    let same = ap (λ n. next_state n (opens_view c.reading.open)) c.in-Part.is in
    let here = subst (λ s. Comes (want []) (unread c.args.reader.now) s (unread c.reading.reader)) same c.reading.invariant in
    let step = subst (λ s. StepIs c.in-Part.part (opens_view c.reading.open) (unread c.reading.reader) s (opens_view c.go_on.new.open) (unread c.go_on.new.reader)) c.in-Next.is c.in_ok-next-in-Part.ensures.next in
    leads_on here step.comes

pub returns-in-Whole-clause-read : goal.returns-in-Whole-clause-read
returns-in-Whole-clause-read c =
    let same = ap (λ n. next_state n (opens_view c.reading.open)) c.in-Part.is in
    let step = subst (λ s. StepIs c.in-Part.part (opens_view c.reading.open) (unread c.reading.reader) s (opens_view c.go_on.new.open) (unread c.go_on.new.reader)) c.in-Whole.is c.in_ok-next-in-Part.ensures.next in
    let here = subst (λ s. Comes (want []) (unread c.args.reader.now) s (unread c.reading.reader)) (same ∙ ap (part_state c.in-Part.part) step.0.none_open) c.reading.invariant in
    let all = subst (λ st. IsAll c.in-Part.part st (unread c.reading.reader)) step.0.none_open step.0 in
    rw (step.1, step.2) (whole.is_read_as here all)
