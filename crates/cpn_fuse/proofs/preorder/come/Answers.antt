-- The instance has come, and its parts come before what waits.
use Rattle.std.proofs.Common.{◌≡◌, ℕ, ◌+◌, List, [], ◌∷◌, ◌++◌, length, refl, subst, sym, ap, ◌∙◌, arith}
use Rattle.std.proofs.lemmas.List.{map_push, length-map}
use Rattle.std.proofs.lemmas.Result.{IfOk-weaker}
use Rattle.cpn_module.specs.Views.{hierarchy_view}
use Rattle.cpn_fuse.specs.Instances.{PlainInstance, parts_of, ComeFirst, top_of}
use Rattle.cpn_fuse.specs.Views.{instance_view, instances_view}
use Rattle.cpn_fuse.specs.Waiting.{waiting_instances}
use Rattle.cpn_fuse.proofs.ComingFirst.{come_more}
use Rattle.cpn_fuse.proofs.preorder.come.Goals as goal

pub returns-clause-came : goal.returns-clause-came
returns-clause-came c =
    let h = hierarchy_view c.args.hierarchy.now in
    let is = instances_view c.args.instances.now.items in
    let x = instance_view c.args.instance in
    let rest = waiting_instances h c.args.waiting.now.items in
    let number : 0 + length is ≡ c.len.result = omega (arith, length-map c.args.instances.now.items instance_view, c.len.ensures, c.args.instances.now.ok) in
    let now : instances_view c.push.new.self.items ≡ is ++ x ∷ [] = ap instances_view c.in_ok-push.ensures.items ∙ map_push instance_view c.args.instances.now.items c.args.instance in
    let came : ComeFirst h 0 (top_of h ∷ []) (is ++ x ∷ []) (parts_of h (0 + length is) x ++ rest) = come_more h 0 (top_of h ∷ []) is (x ∷ rest) x rest c.requires.first refl in
    let numbered : ComeFirst h 0 (top_of h ∷ []) (is ++ x ∷ []) (parts_of h c.len.result x ++ rest) = subst (λ (n : ℕ). ComeFirst h 0 (top_of h ∷ []) (is ++ x ∷ []) (parts_of h n x ++ rest)) number came in
    let Come = λ (later : List PlainInstance). ComeFirst h 0 (top_of h ∷ []) (instances_view c.push.new.self.items) later in
    let waiting = waiting_instances h c.wait.new.waiting.items in
    IfOk-weaker c.wait.result (λ _. waiting ≡ parts_of h c.len.result x ++ rest) (λ _. Come waiting) (λ _ waits. subst Come (sym waits) (rw now numbered)) c.wait.ensures.before
