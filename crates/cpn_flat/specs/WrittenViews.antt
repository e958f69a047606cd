-- Initial markings that are referred to, as plain data.
use Rattle.std.specs.Prelude.{List, map, Option, option_map, Vec}
use Rattle.std.specs.Borrow.{Bor}
use Rattle.std.specs.declared.alloc.Global.{Global}
use Rattle.cpn_core.specs.declared.inscriptions.ArcExpr.{ArcExpr}
use Rattle.cpn_accepted.specs.Nets.{Initial}
use Rattle.cpn_accepted.specs.Views.{initial_view}

abbrev pub referred_view : Bor ArcExpr → Initial
referred_view initial = initial_view initial.now

-- those that are written
abbrev pub written_view : List (Bor ArcExpr) → List Initial
written_view initials = map referred_view initials

-- each, where it is written
abbrev pub optional_view : List (Option (Bor ArcExpr)) → List (Option Initial)
optional_view initials = map (λ initial. option_map referred_view initial) initials

-- lists of those that are written
abbrev pub lists_view : List (Vec (Bor ArcExpr) Global) → List (List Initial)
lists_view lists = map (λ list. written_view list.items) lists
