-- The names that were seen are there.
use Rattle.std.proofs.Common.{◌≡◌, take, map}
use Rattle.cpn_document.specs.Views.{sub_view}
use Rattle.cpn_module.specs.Names.{texts_of}
use Rattle.cpn_module.proofs.name_lists.Names.of_subs.Given as goal

abbrev pub invariant-loop-sub : goal.invariant-loop-sub
invariant-loop-sub l = texts_of l.names.items ≡ map (λ s. s.name) (map sub_view (take l.sub-index l.subs))
