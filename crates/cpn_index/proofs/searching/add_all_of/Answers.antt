-- What is found is added.
use Rattle.cpn_core.specs.Nets.{net_view}
use Rattle.cpn_index.proofs.AddedElements.{found_of}
use Rattle.cpn_index.proofs.NetPlaces.{found_within}
use Rattle.cpn_index.proofs.searching.add_all_of.Goals as goal

pub add_all-requires : goal.add_all-requires
add_all-requires g c = record { in_range = found_within c.args.net.now c.args.t c.args.elements.now.places c.in_ok-searched.searched.found.items c.requires.sound c.requires.in_range c.in_ok-searched.ensures.elements c.requires.places }

pub returns-clause-more : goal.returns-clause-more
returns-clause-more g c =
    (found_of (net_view c.args.net.now) c.args.marking.now c.args.t c.in_ok-searched.searched.found.items c.args.elements.now.elements c.add_all.new.self.elements c.in_ok-searched.ensures.enabled c.in_ok-searched.ensures.elements
    c.in_ok-add_all.ensures.added).0

pub returns-clause-all : goal.returns-clause-all
returns-clause-all g c =
    (found_of (net_view c.args.net.now) c.args.marking.now c.args.t c.in_ok-searched.searched.found.items c.args.elements.now.elements c.add_all.new.self.elements c.in_ok-searched.ensures.enabled c.in_ok-searched.ensures.elements
    c.in_ok-add_all.ensures.added).1
