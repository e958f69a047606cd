-- Worked rows: the texts of the smallest nets, by hand.
use Rattle.std.proofs.Common.{◌≡◌, codes, refl}
use Rattle.std.specs.Fmt.{digits}
use Rattle.serde_json.proofs.OnLiterals.{serde_json_on_literals}
use Rattle.cpn_gen.specs.GeneratedNets.{generated}

one_place : generated 0 ≡ codes "{\"declarations\":[\"colset T = int timed;\",\"var x : T;\"],\"modules\":[{\"arcs\":[{\"expr\":\"x\",\"place\":\"P0\",\"to\":\"transition\",\"transition\":\"t0\"},{\"expr\":\"x\",\"place\":\"P0\",\"to\":\"place\",\"transition\":\"t0\"}],\"name\":\"Top\",\"places\":[{\"colour\":\"T\",\"initial\":\"1`0@0\",\"name\":\"P0\"}],\"transitions\":[{\"delay\":\"1\",\"name\":\"t0\"}]}],\"top\":\"Top\",\"version\":1}"
unfolding generated digits serde_json_on_literals
one_place = refl

three_places : generated 2 ≡ codes "{\"declarations\":[\"colset T = int timed;\",\"var x : T;\"],\"modules\":[{\"arcs\":[{\"expr\":\"x\",\"place\":\"P0\",\"to\":\"transition\",\"transition\":\"t0\"},{\"expr\":\"x\",\"place\":\"P1\",\"to\":\"place\",\"transition\":\"t0\"},{\"expr\":\"x\",\"place\":\"P1\",\"to\":\"transition\",\"transition\":\"t1\"},{\"expr\":\"x\",\"place\":\"P2\",\"to\":\"place\",\"transition\":\"t1\"},{\"expr\":\"x\",\"place\":\"P2\",\"to\":\"transition\",\"transition\":\"t2\"},{\"expr\":\"x\",\"place\":\"P0\",\"to\":\"place\",\"transition\":\"t2\"}],\"name\":\"Top\",\"places\":[{\"colour\":\"T\",\"initial\":\"1`0@0\",\"name\":\"P0\"},{\"colour\":\"T\",\"initial\":\"1`1@1\",\"name\":\"P1\"},{\"colour\":\"T\",\"initial\":\"1`2@2\",\"name\":\"P2\"}],\"transitions\":[{\"delay\":\"1\",\"name\":\"t0\"},{\"delay\":\"2\",\"name\":\"t1\"},{\"delay\":\"3\",\"name\":\"t2\"}]}],\"top\":\"Top\",\"version\":1}"
unfolding generated digits serde_json_on_literals
three_places = refl
