-- The line of the refusal is written, or a part of it.
use Rattle.std.proofs.Common.{◌≡◌, ℕ, List, IfSome, sym, subst}
use Rattle.cpn_simulation.specs.Causes.{error_line}
use Rattle.cpn_simulation.specs.RefusalViews.{refusal_view}
use Rattle.cpn_simulation.proofs.RefusalCauses.{line_written, part_written}
use Rattle.cpn_simulation.proofs.simulation.refuse.Goals as goal

pub returns-in-Ok : goal.returns-in-Ok
returns-in-Ok g c =
    let o = refusal_view c.args.refusal.now in
    let same : IfSome o (λ plain. c.as_bytes.result.now ≡ error_line plain) = subst (λ (text : List ℕ). IfSome o (λ plain. text ≡ error_line plain)) (sym c.as_bytes.ensures.value) c.requires.line in
    record { refused = line_written o c.status_of.result c.as_bytes.result.now _ _ _ _ same c.status_of.ensures.status c.in-Ok.ensures.ok }

pub returns-in-Err : goal.returns-in-Err
returns-in-Err g c =
    let o = refusal_view c.args.refusal.now in
    let same : IfSome o (λ plain. c.as_bytes.result.now ≡ error_line plain) = subst (λ (text : List ℕ). IfSome o (λ plain. text ≡ error_line plain)) (sym c.as_bytes.ensures.value) c.requires.line in
    record { refused = part_written o c.as_bytes.result.now _ _ _ _ same c.in-Err.ensures.err c.in-Err.ensures.failed }
