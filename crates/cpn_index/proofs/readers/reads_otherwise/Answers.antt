-- There are as many binding terms as parts where each part is one.
use Rattle.std.proofs.Common.{◌≡◌, ◌∙◌, ◌==◌, ap, ap₂, arith, length, not}
use Rattle.cpn_core.specs.Inscriptions.{multiset_view}
use Rattle.cpn_core.specs.declared.inscriptions.ArcExpr.{ArcExpr}
use Rattle.cpn_index.specs.Readers.{part_count}
use Rattle.cpn_index.proofs.TermParts.{carried_of_terms}
use Rattle.cpn_index.proofs.readers.reads_otherwise.Goals as goal

pub returns : goal.returns
returns c =
    let inscription = c.args.arc.now.inscription.value in
    let terms : c.len.result ≡ length inscription.terms.items = let same = ap (λ (e : ArcExpr). length e.terms.items) c.deref.ensures in omega (arith, same) in
    let parts = c.part_count.ensures.exact ∙ ap (λ (e : ArcExpr). part_count (multiset_view e.expr)) c.deref-2.ensures in
    record { exact = ap not (ap₂ (λ j k. j == k) terms parts ∙ carried_of_terms inscription.terms.items (multiset_view inscription.expr) c.requires.readable) }
