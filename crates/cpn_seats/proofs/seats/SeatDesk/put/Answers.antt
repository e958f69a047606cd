-- The slot had nothing.
use Rattle.std.proofs.Common.{◌∷◌, None, ap, sym, ◌∙◌}
use Rattle.atomic_table.specs.Table.{rest}
use Rattle.cpn_seats.proofs.seats.SeatDesk.put.Goals as goal

pub exchange-requires : goal.exchange-requires
exchange-requires c = (c.requires.own, (None, c.requires.empty ∙ sym (ap (λ l. (0, None) ∷ rest l) c.requires.empty)))
