-- The next instance stands behind the one that it stands in, and what it is called by is in the document.
use Rattle.std.proofs.Common.{◌≡◌, ◌∙◌, ℕ, ◌<◌, List, length, get_or, map, string_bytes, ap, sym, subst, arith}
use Rattle.std.proofs.lemmas.List.{length-map}
use Rattle.cpn_document.specs.Views.{document_view}
use Rattle.cpn_fuse.specs.Instances.{PlainInstance}
use Rattle.cpn_fuse.specs.Views.{instance_view, instances_view}
use Rattle.cpn_flat.specs.Names.{IsNamedIn}
use Rattle.cpn_flat.specs.Placed.{IsBehind, StandBehind}
use Rattle.cpn_flat.proofs.AllItems.{all_at}
use Rattle.cpn_flat.proofs.InstanceItems.{seen_at, in_views}
use Rattle.cpn_flat.proofs.names.instance_names.Goals as goal

-- the instance at a position stands behind as many as there are before it
behind_at : {V : Type 0} (view : V → PlainInstance) (vs : List V) (i k : ℕ) (d : V) → i < length vs → k ≡ i → StandBehind (map view vs) → IsBehind k (view (get_or vs i d)).part_of
behind_at view vs i k d lt same behind =
    subst (λ (n : ℕ). IsBehind n (view (get_or vs i d)).part_of) (sym same)
    (subst (λ (x : PlainInstance). IsBehind i x.part_of) (seen_at view vs i d lt) (behind i (in_views view vs i d lt)))

pub instance_name-requires-clause-behind : goal.instance_name-requires-clause-behind
instance_name-requires-clause-behind c =
    behind_at instance_view c.args.instances.now c.loop-instance.instance-index _ _ c.loop-instance-test.true (ap length c.as_slice.ensures.value ∙ c.loop-instance.invariant.number) c.requires.behind

pub instance_name-requires-clause-there : goal.instance_name-requires-clause-there
instance_name-requires-clause-there c = all_at (IsNamedIn (document_view c.args.document.now) (instances_view c.args.instances.now)) instance_view c.args.instances.now c.loop-instance.instance-index _ c.loop-instance-test.true c.requires.there

pub loop-instance-init : goal.loop-instance-init
loop-instance-init c =
    let none = ap (λ names. length (map string_bytes names)) c.in_ok-names.ensures.items in
    record { number = ap length c.in_ok-names.ensures.items; so_far = λ j lt. absurd (omega (arith, none, lt)) }

pub returns : goal.returns
returns c =
    let names = length-map c.loop-instance.names.items string_bytes in
    let instances = length-map c.args.instances.now instance_view in
    let number = c.loop-instance.invariant.number in
    record {
      names = record {
        each = omega (arith, names, instances, number);
        named = λ i lt. c.loop-instance.invariant.so_far i (omega (arith, names, instances, number, lt));
      };
    }
