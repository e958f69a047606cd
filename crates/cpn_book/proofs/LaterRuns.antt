-- What is seen of a run stays seen: after no call, and after one call after another.
use Rattle.std.proofs.Common.{[], ◌++◌, Option, Some, None, refl, sym, ap, ◌∙◌, subst, append_assoc, append-nil}
use Rattle.cpn_book.specs.Seen.{Seen, IsLater, Later}

is_later_same : (seen : Seen) → IsLater seen seen
is_later_same seen = record { setup = refl; more = []; journal = sym (append-nil seen.journal); spent = λ e. e }

is_later_trans : (a b c : Seen) → IsLater a b → IsLater b c → IsLater a c
is_later_trans a b c l m = record {
  setup = m.setup ∙ l.setup;
  more = l.more ++ m.more;
  journal = m.journal ∙ ap (λ events. events ++ m.more) l.journal ∙ append_assoc a.journal l.more m.more;
  spent = λ e. m.spent (l.spent e);
}

pub later_same : (a : Option Seen) → Later a a
later_same None = tt
later_same (Some seen) = (seen, refl, is_later_same seen)

pub later_trans : (a b c : Option Seen) → Later a b → Later b c → Later a c
later_trans None b c l m = tt
later_trans (Some seen) b c l m =
    let n = subst (λ o. Later o c) l.1 m in
    (n.0, n.1, is_later_trans seen l.0 n.0 l.2 n.2)
