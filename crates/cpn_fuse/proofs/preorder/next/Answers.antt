-- The first part that waits, and those that wait behind it.
use Rattle.std.proofs.Common.{◌≡◌, ℕ, ◌<◌, List, [], ◌∷◌, ◌++◌, length, Some, sym, ap, subst, ◌∙◌, arith}
use Rattle.std.specs.Prelude.{slice_index_or}
use Rattle.std.proofs.lemmas.List.Elements.{All-contains, All-pop, Contains-push}
use Rattle.cpn_module.specs.Hierarchy.{PlainSubstitution, PlainHierarchy, substitution_at}
use Rattle.cpn_module.specs.Views.{substitution_view, hierarchy_view}
use Rattle.cpn_module.specs.declared.hierarchy.Substitution.{Substitution}
use Rattle.cpn_module.specs.declared.hierarchy.Structure.{Structure}
use Rattle.cpn_module.specs.declared.hierarchy.Hierarchy.{Hierarchy}
use Rattle.cpn_fuse.specs.Instances.{PlainInstance}
use Rattle.cpn_fuse.specs.Views.{part_view}
use Rattle.cpn_fuse.specs.Waiting.{waiting_instances, parts_from_on, IsWaiting, AreWaiting}
use Rattle.cpn_fuse.specs.declared.preorder.Waiting.{Waiting}
use Rattle.cpn_fuse.proofs.InstanceLaws.{substitution_in}
use Rattle.cpn_fuse.proofs.SeenHierarchies.{substitution_seen, modules_in, seen_in}
use Rattle.cpn_fuse.proofs.WaitingParts.{waiting_more, after_first, first_and_rest}
use Rattle.cpn_fuse.proofs.preorder.next.Goals as goal

-- the first part that waits is one
first_waits : (h : PlainHierarchy) (waiting rest : List Waiting) (first : Waiting) → AreWaiting h waiting → waiting ≡ rest ++ first ∷ [] → IsWaiting h first
first_waits h waiting rest first all e = All-contains (IsWaiting h) waiting first all (rw e (Contains-push rest first))

-- those behind it wait
rest_waits : (h : PlainHierarchy) (waiting rest : List Waiting) (first : Waiting) → AreWaiting h waiting → waiting ≡ rest ++ first ∷ [] → AreWaiting h rest
rest_waits h waiting rest first all e = (All-pop (IsWaiting h) waiting rest (Some first) e all).0

pub index-requires : goal.index-requires
index-requires c =
    let h = hierarchy_view c.args.hierarchy.now in
    let is = first_waits h c.args.waiting.now.items c.pop.new.self.items c.in-Some.parts c.requires.waiting c.in-Some.ensures.items in
    omega (arith, c.args.hierarchy.now.modules.ok, modules_in c.args.hierarchy.now c.in-Some.parts.of_module is.of_module)

pub index-requires-2 : goal.index-requires-2
index-requires-2 c =
    let h = hierarchy_view c.args.hierarchy.now in
    let is = first_waits h c.args.waiting.now.items c.pop.new.self.items c.in-Some.parts c.requires.waiting c.in-Some.ensures.items in
    omega (arith, c.index.result.now.substitutions.ok, seen_in c.args.hierarchy.now c.in-Some.parts.of_module c.in-Some.parts.part.substitution c.index.result.now (modules_in c.args.hierarchy.now c.in-Some.parts.of_module is.of_module) c.index.ensures is.substitution)

pub overflow_add-next : goal.overflow_add-next
overflow_add-next c =
    let h = hierarchy_view c.args.hierarchy.now in
    let is = first_waits h c.args.waiting.now.items c.pop.new.self.items c.in-Some.parts c.requires.waiting c.in-Some.ensures.items in
    omega (arith, c.index.result.now.substitutions.ok, c.index.result.now.substitutions.small, seen_in c.args.hierarchy.now c.in-Some.parts.of_module c.in-Some.parts.part.substitution c.index.result.now (modules_in c.args.hierarchy.now c.in-Some.parts.of_module is.of_module) c.index.ensures is.substitution)

pub wait-requires : goal.wait-requires
wait-requires c =
    let h = hierarchy_view c.args.hierarchy.now in
    record {
      of_module = (first_waits h c.args.waiting.now.items c.pop.new.self.items c.in-Some.parts c.requires.waiting c.in-Some.ensures.items).of_module;
      waiting = rest_waits h c.args.waiting.now.items c.pop.new.self.items c.in-Some.parts c.requires.waiting c.in-Some.ensures.items;
    }

-- the substitution transition that is read
read_as : (h : Hierarchy) (w : Waiting) (s : Structure) (sub : Substitution) → IsWaiting (hierarchy_view h) w → s ≡ slice_index_or h.modules.items w.of_module s → sub ≡ slice_index_or s.substitutions.items w.part.substitution sub → substitution_at (hierarchy_view h) w.of_module w.part.substitution ≡ substitution_view sub
read_as h w s sub is e e' =
    let in_modules = modules_in h w.of_module is.of_module in
    substitution_seen h w.of_module w.part.substitution s sub in_modules e (seen_in h w.of_module w.part.substitution s in_modules e is.substitution) e'

pub returns-clause-first : goal.returns-clause-first
returns-clause-first c =
    let h = hierarchy_view c.args.hierarchy.now in
    let first = c.in-Some.parts in
    let rest = waiting_instances h c.pop.new.self.items in
    let is = first_waits h c.args.waiting.now.items c.pop.new.self.items first c.requires.waiting c.in-Some.ensures.items in
    let read = read_as c.args.hierarchy.now first c.index.result.now c.index-2.result.now is c.index.ensures c.index-2.ensures in
    let part = λ (m : ℕ). let x : PlainInstance = record { of_module = m; part_of = Some (part_view first.part) } in x in
    ap (waiting_instances h) c.in-Some.ensures.items ∙ waiting_more h c.pop.new.self.items first
    ∙ ap (λ (parts : List PlainInstance). parts ++ rest) (first_and_rest h first is)
    ∙ ap (λ (sub : PlainSubstitution). part sub.submodule ∷ (parts_from_on h (after_first h first) ++ rest)) read
    ∙ ap (λ (parts : List PlainInstance). part c.index-2.result.now.submodule ∷ parts) (sym c.in_ok-wait.ensures.before)

pub returns-clause-in_range : goal.returns-clause-in_range
returns-clause-in_range c =
    let h = hierarchy_view c.args.hierarchy.now in
    let first = c.in-Some.parts in
    let is = first_waits h c.args.waiting.now.items c.pop.new.self.items first c.requires.waiting c.in-Some.ensures.items in
    let read = read_as c.args.hierarchy.now first c.index.result.now c.index-2.result.now is c.index.ensures c.index-2.ensures in
    subst (λ (sub : PlainSubstitution). sub.submodule < length h.modules) read (substitution_in h c.requires.numbers first.of_module first.part.substitution is.of_module is.substitution).submodule
