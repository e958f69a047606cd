-- What is enabled, put into an empty list.
use Rattle.std.proofs.Common.{◌≡◌, ℕ, [], List, map, length, sym, ap, ◌∙◌, subst}
use Rattle.cpn_core.specs.Nets.{net_view}
use Rattle.cpn_due.specs.Due.{PlainEnabled, plain_enabled}
use Rattle.cpn_index.specs.Added.{AreAdded}
use Rattle.cpn_index.specs.WatchedElements.{PlainElements}
use Rattle.cpn_index.proofs.BuiltElements.{enabled_in_range, built_enabled, built_own}
use Rattle.cpn_index.proofs.NetPlaces.{AreWithin, as_many_places}
use Rattle.cpn_index.proofs.index.Index.build.Goals as goal

pub add_all-requires : goal.add_all-requires
add_all-requires c =
    let n = net_view c.args.net.now in
    let found = c.in_ok-enabled.enabled.items in
    let places : c.in_ok-elements.elements.places ≡ length n.places = ap (λ (w : PlainElements). w.places) c.in_ok-elements.ensures.empty ∙ c.len.ensures ∙ as_many_places c.args.net.now in
    record { in_range = subst (λ (k : ℕ). AreWithin k found) (sym places) (enabled_in_range n c.args.marking.now found c.in_ok-enabled.ensures.enabled c.in_ok-enabled.ensures.needs c.requires.sound) }

pub returns-clause-built : goal.returns-clause-built
returns-clause-built c =
    let n = net_view c.args.net.now in
    let m = c.args.marking.now in
    let found = c.in_ok-enabled.enabled.items in
    let kept = c.add_all.new.self.elements in
    let none : c.in_ok-elements.elements.elements ≡ [] = ap (λ (w : PlainElements). w.elements) c.in_ok-elements.ensures.empty in
    let places : c.in_ok-elements.elements.places ≡ length n.places = ap (λ (w : PlainElements). w.places) c.in_ok-elements.ensures.empty ∙ c.len.ensures ∙ as_many_places c.args.net.now in
    let added : AreAdded [] (map plain_enabled found) kept = subst (λ (old : List PlainEnabled). AreAdded old (map plain_enabled found) kept) none c.in_ok-add_all.ensures.added in
    record {
      knows = record { planned = c.in_ok-plans.ensures.planned; readers = c.in_ok-readers.ensures.readers; places = c.add_all.ensures.places ∙ places };
      enabled = built_enabled n m found c.in_ok-enabled.ensures.enabled c.in_ok-enabled.ensures.needs kept added c.in_ok-add_all.ensures.in_order;
      own = built_own n m found c.in_ok-enabled.ensures.enabled c.in_ok-enabled.ensures.needs kept added;
    }
