-- What is told, one change after another.
use Rattle.std.proofs.Common.{◌≡◌, ℕ, ◌+◌, ◌<◌, List, [], ◌∷◌, ◌++◌, length, take, get_or, sym, ap, ◌∙◌}
use Rattle.std.proofs.lemmas.List.{take_more, map-append}
use Rattle.cpn_tmset.specs.declared.changed.Change.{Change}
use Rattle.cpn_tmset.specs.ChangedViews.{change_view, change_views}

pub views_next : (changes : List Change) (i : ℕ) (change : Change) → i < length changes → change ≡ get_or changes i change → change_views (take (i + 1) changes) ≡ change_views (take i changes) ++ change_view change ∷ []
views_next changes i change lt is = ap change_views (take_more changes i change lt ∙ ap (λ x. take i changes ++ x ∷ []) (sym is)) ∙ map-append change_view (take i changes) (change ∷ [])
