-- The instance stands for a substitution transition of another, and its assignments are joined.
use Rattle.std.proofs.Common.{◌≡◌, ℕ, ◌+◌, ◌<◌, length, get_or, map, ap, subst, ◌∙◌, arith}
use Rattle.std.proofs.lemmas.List.{length-map}
use Rattle.cpn_module.specs.Hierarchy.{structure_at, substitution_at}
use Rattle.cpn_module.specs.Views.{substitution_view, hierarchy_view}
use Rattle.cpn_module.specs.declared.hierarchy.Substitution.{Substitution}
use Rattle.cpn_module.specs.declared.hierarchy.Structure.{Structure}
use Rattle.cpn_module.specs.declared.hierarchy.Hierarchy.{Hierarchy}
use Rattle.cpn_fuse.specs.Instances.{PlainInstance, instance_at}
use Rattle.cpn_fuse.specs.Compound.{port_pairs_where}
use Rattle.cpn_fuse.specs.Views.{instance_view, instances_view}
use Rattle.cpn_fuse.proofs.SeenHierarchies.{modules_in, seen_in, substitution_seen}
use Rattle.cpn_fuse.proofs.SeenPlaces.{instance_read, first_in, first_read, place_fits, module_in, part_read, its_part, outer_in, assigned_places, ports_read}
use Rattle.cpn_fuse.proofs.sockets.join_ports.Goals as goal

-- the substitution transition is one of the module that is read
transition_in : (hierarchy : Hierarchy) (m n i : ℕ) (s : Structure) → m ≡ n → n < length hierarchy.modules.items → s ≡ get_or hierarchy.modules.items n s → i < length (structure_at (hierarchy_view hierarchy) m).substitutions → i < length s.substitutions.items
transition_in hierarchy m n i s same lt e i_in = seen_in hierarchy n i s lt e (subst (λ (k : ℕ). i < length (structure_at (hierarchy_view hierarchy) k).substitutions) same i_in)

-- and it is what is read
transition_read : (hierarchy : Hierarchy) (m n i : ℕ) (s : Structure) (sub : Substitution) → m ≡ n → n < length hierarchy.modules.items → s ≡ get_or hierarchy.modules.items n s → i < length (structure_at (hierarchy_view hierarchy) m).substitutions → sub ≡ get_or s.substitutions.items i sub → substitution_at (hierarchy_view hierarchy) m i ≡ substitution_view sub
transition_read hierarchy m n i s sub same lt e i_in is_sub = ap (λ (k : ℕ). substitution_at (hierarchy_view hierarchy) k i) same ∙ substitution_seen hierarchy n i s sub lt e (transition_in hierarchy m n i s same lt e i_in) is_sub

pub index-requires-2 : goal.index-requires-2
index-requires-2 c =
    let hierarchy = c.args.hierarchy.now in
    let u = c.args.unfolded.now in
    let placed = its_part hierarchy u c.requires.unfolded c.requires.numbers c.args.instance c.index.result.now c.in-Some.part c.requires.instance c.index.ensures c.in-Some.is in
    let behind = outer_in hierarchy u c.requires.unfolded c.requires.numbers c.args.instance c.in-Some.part c.requires.instance placed in
    omega (arith, u.instances.ok, rw (length-map u.instances.items instance_view) at behind)

pub index-requires-3 : goal.index-requires-3
index-requires-3 c =
    let hierarchy = c.args.hierarchy.now in
    let u = c.args.unfolded.now in
    let placed = its_part hierarchy u c.requires.unfolded c.requires.numbers c.args.instance c.index.result.now c.in-Some.part c.requires.instance c.index.ensures c.in-Some.is in
    let behind = outer_in hierarchy u c.requires.unfolded c.requires.numbers c.args.instance c.in-Some.part c.requires.instance placed in
    omega (arith, hierarchy.modules.ok, modules_in hierarchy c.index-2.result.now.of_module (module_in hierarchy u c.requires.unfolded c.requires.numbers c.in-Some.part.instance c.index-2.result.now behind c.index-2.ensures))

pub index-substitution-requires : goal.index-substitution-requires
index-substitution-requires c =
    let hierarchy = c.args.hierarchy.now in
    let u = c.args.unfolded.now in
    let placed = its_part hierarchy u c.requires.unfolded c.requires.numbers c.args.instance c.index.result.now c.in-Some.part c.requires.instance c.index.ensures c.in-Some.is in
    let behind = outer_in hierarchy u c.requires.unfolded c.requires.numbers c.args.instance c.in-Some.part c.requires.instance placed in
    let outer = instance_read hierarchy u c.requires.unfolded c.in-Some.part.instance c.index-2.result.now behind c.index-2.ensures in
    let m_in = modules_in hierarchy c.index-2.result.now.of_module (module_in hierarchy u c.requires.unfolded c.requires.numbers c.in-Some.part.instance c.index-2.result.now behind c.index-2.ensures) in
    omega (arith, c.index-3.result.now.substitutions.ok, transition_in hierarchy _ c.index-2.result.now.of_module c.in-Some.part.substitution c.index-3.result.now (ap (λ (x : PlainInstance). x.of_module) outer) m_in c.index-3.ensures placed.substitution)

pub index-sockets-requires : goal.index-sockets-requires
index-sockets-requires c =
    let hierarchy = c.args.hierarchy.now in
    let u = c.args.unfolded.now in
    let placed = its_part hierarchy u c.requires.unfolded c.requires.numbers c.args.instance c.index.result.now c.in-Some.part c.requires.instance c.index.ensures c.in-Some.is in
    let behind = outer_in hierarchy u c.requires.unfolded c.requires.numbers c.args.instance c.in-Some.part c.requires.instance placed in
    omega (arith, u.first_places.ok, first_in hierarchy u c.requires.unfolded c.in-Some.part.instance behind)

pub join_assigned-requires : goal.join_assigned-requires
join_assigned-requires c =
    let hierarchy = c.args.hierarchy.now in
    let u = c.args.unfolded.now in
    let placed = its_part hierarchy u c.requires.unfolded c.requires.numbers c.args.instance c.index.result.now c.in-Some.part c.requires.instance c.index.ensures c.in-Some.is in
    let behind = outer_in hierarchy u c.requires.unfolded c.requires.numbers c.args.instance c.in-Some.part c.requires.instance placed in
    let outer = instance_read hierarchy u c.requires.unfolded c.in-Some.part.instance c.index-2.result.now behind c.index-2.ensures in
    let m_in = modules_in hierarchy c.index-2.result.now.of_module (module_in hierarchy u c.requires.unfolded c.requires.numbers c.in-Some.part.instance c.index-2.result.now behind c.index-2.ensures) in
    let read = transition_read hierarchy _ c.index-2.result.now.of_module c.in-Some.part.substitution c.index-3.result.now c.index-substitution.result.now (ap (λ (x : PlainInstance). x.of_module) outer) m_in c.index-3.ensures placed.substitution c.index-substitution.ensures in
    let sockets = first_read hierarchy u c.requires.unfolded c.in-Some.part.instance c.index-sockets.result.now behind c.index-sockets.ensures in
    let ports = first_read hierarchy u c.requires.unfolded c.args.instance c.index-ports.result.now c.requires.instance c.index-ports.ensures in
    rw (c.deref.ensures.value, sockets, ports) (λ k d k_in.
    let places = assigned_places hierarchy u c.requires.unfolded c.requires.numbers c.args.instance c.requires.instance c.in-Some.part placed c.index-substitution.result.now read k d k_in in
    (place_fits hierarchy u c.requires.unfolded c.in-Some.part.instance _ places.0, place_fits hierarchy u c.requires.unfolded c.args.instance _ places.1))

pub returns : goal.returns
returns c =
    let hierarchy = c.args.hierarchy.now in
    let u = c.args.unfolded.now in
    let placed = its_part hierarchy u c.requires.unfolded c.requires.numbers c.args.instance c.index.result.now c.in-Some.part c.requires.instance c.index.ensures c.in-Some.is in
    let behind = outer_in hierarchy u c.requires.unfolded c.requires.numbers c.args.instance c.in-Some.part c.requires.instance placed in
    let outer = instance_read hierarchy u c.requires.unfolded c.in-Some.part.instance c.index-2.result.now behind c.index-2.ensures in
    let m_in = modules_in hierarchy c.index-2.result.now.of_module (module_in hierarchy u c.requires.unfolded c.requires.numbers c.in-Some.part.instance c.index-2.result.now behind c.index-2.ensures) in
    let read = transition_read hierarchy _ c.index-2.result.now.of_module c.in-Some.part.substitution c.index-3.result.now c.index-substitution.result.now (ap (λ (x : PlainInstance). x.of_module) outer) m_in c.index-3.ensures placed.substitution c.index-substitution.ensures in
    let sockets = first_read hierarchy u c.requires.unfolded c.in-Some.part.instance c.index-sockets.result.now behind c.index-sockets.ensures in
    let ports = first_read hierarchy u c.requires.unfolded c.args.instance c.index-ports.result.now c.requires.instance c.index-ports.ensures in
    let old = c.args.pairs.now.items in
    let is_part = part_read hierarchy u c.requires.unfolded c.requires.numbers c.args.instance c.index.result.now c.in-Some.part c.requires.instance c.index.ensures c.in-Some.is in
    let joined = ports_read hierarchy u c.requires.unfolded c.requires.numbers c.args.instance c.requires.instance c.in-Some.part placed c.index-substitution.result.now read is_part c.index-sockets.result.now c.index-ports.result.now sockets ports in
    let all : map (λ a. (c.index-sockets.result.now + a.socket, c.index-ports.result.now + a.port)) c.deref.result.now ≡ port_pairs_where (hierarchy_view hierarchy) (instances_view u.instances.items) c.args.instance (instance_at (instances_view u.instances.items) c.args.instance).part_of = rw c.deref.ensures.value joined in
    rw (← all) c.join_assigned.ensures
