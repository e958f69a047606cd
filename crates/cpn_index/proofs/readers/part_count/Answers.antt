-- The parts of a sum are as many as its list is long.
use Rattle.std.proofs.Common.{◌≡◌, ◌∙◌, sym, ap, arith, length}
use Rattle.cpn_core.specs.Inscriptions.{multiset_view}
use Rattle.cpn_core.proofs.InscriptionLevels.{tokens_sum}
use Rattle.cpn_index.specs.Readers.{part_count}
use Rattle.cpn_index.proofs.TermParts.{parts_counted}
use Rattle.cpn_index.proofs.readers.part_count.Goals as goal

pub returns-in-Sum : goal.returns-in-Sum
returns-in-Sum c =
    let long : c.len.result ≡ length c.in-Sum.parts.items = omega arith in
    record { exact = long ∙ sym (parts_counted c.in-Sum.parts.items) ∙ sym (ap part_count (ap multiset_view c.in-Sum.is ∙ tokens_sum c.in-Sum.parts)) }
