-- The instances come one by one, until none waits.
use Rattle.std.proofs.Common.{◌≡◌, ◌+◌, List, [], ◌∷◌, ◌++◌, length, Option, Some, None, refl, ap, subst, arith}
use Rattle.std.specs.Prelude.{MatchOption}
use Rattle.std.proofs.lemmas.List.{length-map, length_push}
use Rattle.cpn_module.specs.Hierarchy.{PlainHierarchy}
use Rattle.cpn_module.specs.Views.{hierarchy_view}
use Rattle.cpn_fuse.specs.Instances.{PlainInstance, parts_of, none_yet, top_of}
use Rattle.cpn_fuse.specs.Unfolded.{instances, IsRefusedFor, many_instances}
use Rattle.cpn_fuse.specs.Views.{instance_view, instances_view}
use Rattle.cpn_fuse.specs.Waiting.{waiting_instances, HaveCome}
use Rattle.cpn_fuse.specs.declared.instances.Instance.{Instance}
use Rattle.cpn_fuse.proofs.InstanceTrees.{come_instances}
use Rattle.cpn_fuse.proofs.ComingFirst.{come_more}
use Rattle.cpn_fuse.proofs.preorder.instances_of.Goals as goal

-- at first the instance of the top module waits
start : (h : PlainHierarchy) (is waiting : List PlainInstance) → is ≡ [] → waiting ≡ [] → HaveCome h is (top_of h ∷ waiting)
start h is waiting none nothing = rw (none, nothing) (none_yet 0 (top_of h ∷ []))

-- as many have come as there may be, and one more waits
one_too_many : (h : PlainHierarchy) (is later rest : List PlainInstance) (x : PlainInstance) → HaveCome h is later → later ≡ x ∷ rest → length is ≡ 4096 → IsRefusedFor h instances
one_too_many h is later rest x come e all =
    many_instances (record {
      first = is ++ x ∷ [];
      later = parts_of h (0 + length is) x ++ rest;
      come = come_more h 0 (top_of h ∷ []) is later x rest come e;
      many = omega (arith, length_push is x);
    })

pub come-requires-clause-first : goal.come-requires-clause-first
come-requires-clause-first c =
    let h = hierarchy_view c.args.hierarchy.now in
    start h (instances_view c.new-instances.result.items) (waiting_instances h c.new-waiting.result.items) (ap instances_view c.new-instances.ensures.items) (ap (waiting_instances h) c.new-waiting.ensures.items)

pub loop-waiting-init : goal.loop-waiting-init
loop-waiting-init c = record {
  come = c.in_ok-come.ensures.came;
  waiting = c.in_ok-come.ensures.waiting;
  few = omega (arith, c.in_ok-come.ensures.one, ap length c.new-instances.ensures.items);
}

pub next-requires-clause-waiting : goal.next-requires-clause-waiting
next-requires-clause-waiting c = c.loop-waiting.invariant.waiting

pub returns-then-len-eq-MOST_INSTANCES-clause-refused :
    goal.returns-then-len-eq-MOST_INSTANCES-clause-refused
returns-then-len-eq-MOST_INSTANCES-clause-refused c =
    let h = hierarchy_view c.args.hierarchy.now in
    let is = instances_view c.loop-waiting.instances.items in
    let rest = waiting_instances h c.next.new.waiting.items in
    let first = rw c.in-Some.is at c.in_ok-instance.ensures.first in
    let all : length is ≡ 4096 = omega (arith, length-map c.loop-waiting.instances.items instance_view, c.loop-waiting.instances.ok, c.len.ensures, c.if-len-eq-MOST_INSTANCES.true) in
    one_too_many h is (waiting_instances h c.loop-waiting.waiting.items) rest (instance_view c.in-Some.instance) c.loop-waiting.invariant.come first all

pub come-requires-in-Some-clause-first : goal.come-requires-in-Some-clause-first
come-requires-in-Some-clause-first c =
    let h = hierarchy_view c.args.hierarchy.now in
    let first = rw c.in-Some.is at c.in_ok-instance.ensures.first in
    subst (λ (later : List PlainInstance). HaveCome h (instances_view c.loop-waiting.instances.items) later) first c.loop-waiting.invariant.come

pub loop-waiting-smaller : goal.loop-waiting-smaller
loop-waiting-smaller c = omega (arith, c.in_ok-come-2.ensures.one, c.loop-waiting.instances.ok, c.len.ensures, c.if-len-eq-MOST_INSTANCES.false, c.loop-waiting.invariant.few)

pub loop-waiting-preserved : goal.loop-waiting-preserved
loop-waiting-preserved c = record {
  come = c.in_ok-come-2.ensures.came;
  waiting = c.in_ok-come-2.ensures.waiting;
  few = omega (arith, c.in_ok-come-2.ensures.one, c.loop-waiting.instances.ok, c.len.ensures, c.if-len-eq-MOST_INSTANCES.false, c.loop-waiting.invariant.few);
}

-- nothing waits any more
none_left : (P : Type 0) (Q : Instance → Type 0) (o : Option Instance) → MatchOption o P Q → ((x : Instance) → o ≡ Some x → ⊥) → P
none_left P Q None none not_some = none
none_left P Q (Some x) some not_some = absurd (not_some x refl)

pub returns-clause-instances : goal.returns-clause-instances
returns-clause-instances c =
    let h = hierarchy_view c.args.hierarchy.now in
    let nothing = none_left _ _ c.in_ok-instance.field-0 c.in_ok-instance.ensures.first c.in_default.not-Some in
    come_instances h (instances_view c.loop-waiting.instances.items) (subst (λ (later : List PlainInstance). HaveCome h (instances_view c.loop-waiting.instances.items) later) nothing c.loop-waiting.invariant.come)

pub returns-clause-few : goal.returns-clause-few
returns-clause-few c = c.loop-waiting.invariant.few
