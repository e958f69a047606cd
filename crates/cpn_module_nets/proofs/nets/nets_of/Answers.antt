-- The next net is that of the next module.
use Rattle.std.proofs.Common.{◌≡◌, ◌<◌, ◌+◌, suc, List, [], ◌∷◌, ◌++◌, length, length-append, length-drop, take, drop, map, refl, sym, ap, subst, ◌∙◌, arith}
use Rattle.std.proofs.lemmas.List.{map-append}
use Rattle.std.proofs.lemmas.Result.{err_from_is_err_and}
use Rattle.cpn_declared.specs.DeclsViews.{decls_view}
use Rattle.cpn_module.specs.Hierarchy.{structure_at}
use Rattle.cpn_module.specs.Views.{structure_view, hierarchy_view}
use Rattle.cpn_module_trees.specs.TreesViews.{module_trees_view}
use Rattle.cpn_accepted.specs.Views.{module_net_view}
use Rattle.cpn_module_nets.specs.AcceptedViews.{places_view}
use Rattle.cpn_accepted.specs.declared.nets.ModuleNet.{ModuleNet}
use Rattle.cpn_module_nets.specs.Answers.{RefusesBy, net_refusal_of}
use Rattle.cpn_module_nets.specs.Documents.{net_so, nets_so}
use Rattle.cpn_module_nets.specs.Fitting.{GoTogether}
use Rattle.cpn_accepted.specs.Nets.{places_at}
use Rattle.cpn_module_nets.specs.Reading.{read}
use Rattle.cpn_module_nets.proofs.ListFacts.{next_left}
use Rattle.cpn_module_nets.proofs.NumberedModules.{structure_there, trees_there, places_there, of_same}
use Rattle.cpn_readings.proofs.RelatedLists.{AreRead, related_more, related_refused, related_done}
use Rattle.cpn_module_nets.proofs.nets.nets_of.Goals as goal

pub loop-own-init : goal.loop-own-init
loop-own-init c = record {
  left = c.into_iter-own-iterator.ensures.into_iter_gives.0 ∙ sym (ap (λ (nets : List ModuleNet). drop (length nets) c.args.places.items) c.in_ok-nets.ensures.items);
  reads = subst (λ (nets : List ModuleNet). AreRead (λ m. net_so (decls_view c.args.decls.now) (places_at (map places_view c.args.places.items) m) m (structure_at (hierarchy_view c.args.hierarchy.now) m)) 0 (map module_trees_view (take (length nets) c.args.modules.now)) (map module_net_view nets)) (sym c.in_ok-nets.ensures.items) tt;
}

pub index-structure-requires : goal.index-structure-requires
index-structure-requires c =
    let next = next_left c.args.places.items (length c.loop-own.nets.items) c.in-Some.own c.next.new.self.rest.items (sym c.in-Some.ensures.steps.0 ∙ c.loop-own.invariant.left) in
    let there = next.there in
    let same : c.len-number.result ≡ length c.loop-own.nets.items = omega (arith, c.loop-own.nets.ok.0, c.len-number.ensures) in
    omega (arith, there, same, c.args.hierarchy.now.modules.ok.0, c.requires.as_many_places, c.requires.as_many_structures)

pub bounds-modules-number : goal.bounds-modules-number
bounds-modules-number c =
    let next = next_left c.args.places.items (length c.loop-own.nets.items) c.in-Some.own c.next.new.self.rest.items (sym c.in-Some.ensures.steps.0 ∙ c.loop-own.invariant.left) in
    let there = next.there in
    let same : c.len-number.result ≡ length c.loop-own.nets.items = omega (arith, c.loop-own.nets.ok.0, c.len-number.ensures) in
    omega (arith, there, same, c.requires.as_many_places)

pub net_of-requires : goal.net_of-requires
net_of-requires c =
    let next = next_left c.args.places.items (length c.loop-own.nets.items) c.in-Some.own c.next.new.self.rest.items (sym c.in-Some.ensures.steps.0 ∙ c.loop-own.invariant.left) in
    let there = next.there in
    let same : c.len-number.result ≡ length c.loop-own.nets.items = omega (arith, c.loop-own.nets.ok.0, c.len-number.ensures) in
    let ds = decls_view c.args.decls.now in
    let h = hierarchy_view c.args.hierarchy.now in
    let places = map places_view c.args.places.items in
    let i = c.len-number.result in
    let own_is : places_view c.in-Some.own ≡ places_at places i = subst (λ k. places_view c.in-Some.own ≡ places_at places k) (sym same) (places_there c.args.places.items (length c.loop-own.nets.items) c.in-Some.own there next.item) in
    let structure_is : structure_view c.index-structure.result.now ≡ structure_at h i = structure_there c.args.hierarchy.now i c.index-structure.result.now (omega (arith, there, same, c.requires.as_many_places, c.requires.as_many_structures)) c.index-structure.ensures in
    let lt : i < length c.args.modules.now = omega (arith, there, same, c.requires.as_many_places) in
    let trees_are = trees_there c.args.modules.now i c.index-modules-number.result lt c.index-modules-number.is in
    record { together = of_same GoTogether (sym own_is) (sym structure_is) (sym trees_are) (c.requires.together i lt) }

pub returns-in_err-net : goal.returns-in_err-net
unfolding nets_so
returns-in_err-net c =
    let next = next_left c.args.places.items (length c.loop-own.nets.items) c.in-Some.own c.next.new.self.rest.items (sym c.in-Some.ensures.steps.0 ∙ c.loop-own.invariant.left) in
    let there = next.there in
    let same : c.len-number.result ≡ length c.loop-own.nets.items = omega (arith, c.loop-own.nets.ok.0, c.len-number.ensures) in
    let ds = decls_view c.args.decls.now in
    let h = hierarchy_view c.args.hierarchy.now in
    let places = map places_view c.args.places.items in
    let i = c.len-number.result in
    let own_is : places_view c.in-Some.own ≡ places_at places i = subst (λ k. places_view c.in-Some.own ≡ places_at places k) (sym same) (places_there c.args.places.items (length c.loop-own.nets.items) c.in-Some.own there next.item) in
    let structure_is : structure_view c.index-structure.result.now ≡ structure_at h i = structure_there c.args.hierarchy.now i c.index-structure.result.now (omega (arith, there, same, c.requires.as_many_places, c.requires.as_many_structures)) c.index-structure.ensures in
    let inv : AreRead (λ m. net_so ds (places_at places m) m (structure_at h m)) 0 (map module_trees_view (take i c.args.modules.now)) (map module_net_view c.loop-own.nets.items) = subst (λ k. AreRead (λ m. net_so ds (places_at places m) m (structure_at h m)) 0 (map module_trees_view (take k c.args.modules.now)) (map module_net_view c.loop-own.nets.items)) (sym same) c.loop-own.invariant.reads in
    let lt : i < length c.args.modules.now = omega (arith, there, same, c.requires.as_many_places) in
    let p = err_from_is_err_and c.from_residual-in_err-net.result c.from_residual-in_err-net.ensures.1 in
    let o = net_refusal_of c.in_err-net.field-0.0 in
    record {
      reads = rw (p.1, p.2) (related_refused (λ m. net_so ds (places_at places m) m (structure_at h m)) module_trees_view c.args.modules.now i c.index-modules-number.result lt c.index-modules-number.is (map module_net_view c.loop-own.nets.items) inv o
          (of_same (λ ps s trees. RefusesBy (net_so ds ps i s trees) o) own_is structure_is refl c.in_err-net.ensures.reads));
    }

pub loop-own-preserved : goal.loop-own-preserved
loop-own-preserved c =
    let next = next_left c.args.places.items (length c.loop-own.nets.items) c.in-Some.own c.next.new.self.rest.items (sym c.in-Some.ensures.steps.0 ∙ c.loop-own.invariant.left) in
    let there = next.there in
    let same : c.len-number.result ≡ length c.loop-own.nets.items = omega (arith, c.loop-own.nets.ok.0, c.len-number.ensures) in
    let ds = decls_view c.args.decls.now in
    let h = hierarchy_view c.args.hierarchy.now in
    let places = map places_view c.args.places.items in
    let i = c.len-number.result in
    let own_is : places_view c.in-Some.own ≡ places_at places i = subst (λ k. places_view c.in-Some.own ≡ places_at places k) (sym same) (places_there c.args.places.items (length c.loop-own.nets.items) c.in-Some.own there next.item) in
    let structure_is : structure_view c.index-structure.result.now ≡ structure_at h i = structure_there c.args.hierarchy.now i c.index-structure.result.now (omega (arith, there, same, c.requires.as_many_places, c.requires.as_many_structures)) c.index-structure.ensures in
    let inv : AreRead (λ m. net_so ds (places_at places m) m (structure_at h m)) 0 (map module_trees_view (take i c.args.modules.now)) (map module_net_view c.loop-own.nets.items) = subst (λ k. AreRead (λ m. net_so ds (places_at places m) m (structure_at h m)) 0 (map module_trees_view (take k c.args.modules.now)) (map module_net_view c.loop-own.nets.items)) (sym same) c.loop-own.invariant.reads in
    let lt : i < length c.args.modules.now = omega (arith, there, same, c.requires.as_many_places) in
    let y = module_net_view c.in_ok-net.net in
    let more : AreRead (λ m. net_so ds (places_at places m) m (structure_at h m)) 0 (map module_trees_view (take (i + 1) c.args.modules.now)) (map module_net_view c.loop-own.nets.items ++ y ∷ []) =
    related_more (λ m. net_so ds (places_at places m) m (structure_at h m)) module_trees_view c.args.modules.now i c.index-modules-number.result lt c.index-modules-number.is (map module_net_view c.loop-own.nets.items) inv y
    (of_same (λ ps s trees. net_so ds ps i s trees (read y)) own_is structure_is refl c.in_ok-net.ensures.reads) in
    let long : length c.push.new.self.items ≡ i + 1 = ap length c.in_ok-push.ensures.items ∙ length-append c.loop-own.nets.items (c.in_ok-net.net ∷ []) ∙ ap (λ k. k + 1) (sym same) in
    let later : suc (length c.loop-own.nets.items) ≡ length c.push.new.self.items = omega (arith, long, same) in
    record {
      left = next.left ∙ ap (λ k. drop k c.args.places.items) later;
      reads = subst (λ k. AreRead (λ m. net_so ds (places_at places m) m (structure_at h m)) 0 (map module_trees_view (take k c.args.modules.now)) (map module_net_view c.push.new.self.items)) (sym long)
          (subst (λ nets. AreRead (λ m. net_so ds (places_at places m) m (structure_at h m)) 0 (map module_trees_view (take (i + 1) c.args.modules.now)) nets) (sym (ap (λ nets. map module_net_view nets) c.in_ok-push.ensures.items ∙ map-append module_net_view c.loop-own.nets.items (c.in_ok-net.net ∷ []))) more);
    }

pub returns : goal.returns
unfolding nets_so
returns c =
    let none_left : length (drop (length c.loop-own.nets.items) c.args.places.items) ≡ 0 = ap length (sym c.loop-own.invariant.left) ∙ sym c.loop-own.own-iterator.rest.ok.0 ∙ c.in-None.ensures.steps.0 in
    let all = length-drop (length c.loop-own.nets.items) c.args.places.items in
    record {
      reads = related_done (λ m. net_so (decls_view c.args.decls.now) (places_at (map places_view c.args.places.items) m) m (structure_at (hierarchy_view c.args.hierarchy.now) m)) module_trees_view c.args.modules.now (length c.loop-own.nets.items) (map module_net_view c.loop-own.nets.items)
          (omega (arith, none_left, all, c.requires.as_many_places)) c.loop-own.invariant.reads;
    }
