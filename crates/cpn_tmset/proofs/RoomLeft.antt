-- After a token was added somewhere, each place has room for one fewer.
use Rattle.std.proofs.Common.{ℕ, ◌+◌, ◌<◌, ◌^◌, length, arith}
use Rattle.cpn_definitions.specs.Marking.{PlainToken, Tokens, Marking, tokens_at, on_place, add_token}
use Rattle.cpn_definitions.proofs.ChangedPlaces.{tokens_on_place}
use Rattle.cpn_tmset.specs.Limits.{HaveRoomFor}
use Rattle.cpn_definitions.proofs.PlaceCounts.{length-add_token}

pub room_after : (n p : ℕ) (t : PlainToken) (m : Marking) → HaveRoomFor (n + 1) m → HaveRoomFor n (on_place p (add_token t) m)
room_after n p t m room =
    tokens_on_place (λ q (ks : Tokens). length ks + n < 2 ^ 48) p (add_token t) m (λ q. let all = room q in omega (arith, all))
    (λ at. let all = room p in let more = length-add_token t (tokens_at m p) in omega (arith, all, more))
