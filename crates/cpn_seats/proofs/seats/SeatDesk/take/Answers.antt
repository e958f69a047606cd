use Rattle.std.proofs.Common.{◌∷◌, Some, ap, sym, ◌∙◌}
use Rattle.atomic_table.specs.Table.{rest}
use Rattle.cpn_seats.proofs.seats.SeatDesk.take.Goals as goal

pub exchange-requires : goal.exchange-requires
exchange-requires c =
    let h = c.requires.held in
    (c.requires.own, (Some h.0, h.1 ∙ sym (ap (λ l. (0, Some h.0) ∷ rest l) h.1)))
