-- The other plans and elements are those of the net with the other guard too; and what is enabled of the transition is added.
use Rattle.std.proofs.Common.{◌≡◌, List, map, length, sym, ap, ◌∙◌, subst}
use Rattle.cpn_definitions.specs.Enabled.{Enabled}
use Rattle.cpn_definitions.specs.Net.{PlainNet}
use Rattle.cpn_core.specs.Nets.{net_view}
use Rattle.cpn_search.specs.PlannedNets.{IsPlannedBut}
use Rattle.cpn_due.specs.Due.{PlainEnabled, plain_enabled, entries_in}
use Rattle.cpn_index.specs.Added.{AreAdded, HaveMore, HaveAll, IsOfTransition}
use Rattle.cpn_index.specs.Index.{kept_in, with_guard_at}
use Rattle.cpn_index.specs.Readers.{AreReaders}
use Rattle.cpn_index.specs.Retimed.{AreOfNet}
use Rattle.cpn_index.specs.WatchedElements.{of_others}
use Rattle.cpn_index.proofs.AddedElements.{found_of}
use Rattle.cpn_index.proofs.NetPlaces.{found_within}
use Rattle.cpn_index.proofs.OtherGuards.{planned_but, same_readers}
use Rattle.cpn_index.proofs.GuardedElements.{guarded_enabled, guarded_own}
use Rattle.cpn_index.proofs.index.Index.renew.Goals as goal

pub renew-requires-clause-planned : goal.renew-requires-clause-planned
renew-requires-clause-planned c =
    let is = c.requires.sets in
    subst (λ (n : PlainNet). IsPlannedBut c.args.t n c.args.self.now.plans) (sym is.is_set) (planned_but is.old c.args.t is.guard is.vars c.args.self.now.plans is.was.knows.planned)

pub add_all-requires : goal.add_all-requires
add_all-requires c =
    let places : c.remove_of.new.self.places ≡ length (net_view c.args.net.now).places = c.remove_of.ensures.places ∙ c.requires.sets.was.knows.places ∙ sym (ap (λ (k : PlainNet). length k.places) c.requires.sets.is_set) in
    record { in_range = found_within c.args.net.now c.args.t c.remove_of.new.self.places c.in_ok-found.found.items c.requires.sound c.requires.in_range c.in_ok-found.ensures.elements places }

pub returns-clause-set : goal.returns-clause-set
returns-clause-set c =
    let n = net_view c.args.net.now in
    let m = c.args.marking.now in
    let t = c.args.t in
    let is = c.requires.sets in
    let new = with_guard_at is.old t is.guard is.vars in
    let before = kept_in c.args.self.now in
    let found = c.in_ok-found.found.items in
    let after = c.add_all.new.self.elements in
    let added : AreAdded (of_others t before) (map plain_enabled found) after = subst (λ (xs : List PlainEnabled). AreAdded xs (map plain_enabled found) after) c.in_ok-remove_of.ensures.others c.in_ok-add_all.ensures.added in
    let both = found_of n m t found (of_others t before) after c.in_ok-found.ensures.enabled c.in_ok-found.ensures.elements added in
    let more : HaveMore new m (of_others t before) after = subst (λ (k : PlainNet). HaveMore k m (of_others t before) after) is.is_set both.0 in
    let all : HaveAll new m (IsOfTransition t) after = subst (λ (k : PlainNet). HaveAll k m (IsOfTransition t) after) is.is_set both.1 in
    record {
      knows = record {
        planned = c.in_ok-renew.ensures.planned;
        readers = subst (λ (k : PlainNet). AreReaders k c.args.self.now.readers) (sym is.is_set) (same_readers is.old t is.guard is.vars c.args.self.now.readers is.was.knows.readers);
        places = c.add_all.ensures.places ∙ c.remove_of.ensures.places ∙ is.was.knows.places ∙ sym (ap (λ (k : PlainNet). length k.places) is.is_set);
      };
      enabled = subst (λ (k : PlainNet). Enabled k m 0 (entries_in after)) (sym is.is_set) (guarded_enabled is.old t is.guard is.vars m before after is.was.enabled is.was.own more all c.in_ok-add_all.ensures.in_order);
      own = subst (λ (k : PlainNet). AreOfNet k after) (sym is.is_set) (guarded_own is.old t is.guard is.vars m before after is.was.enabled is.was.own more);
    }
