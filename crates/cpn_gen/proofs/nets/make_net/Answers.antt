-- What is written of the ring is the text, and it is read back and short.
use Rattle.std.proofs.Common.{ℕ, List, ◌<◌, ◌^◌, length, sym, subst}
use Rattle.serde_json.specs.View.{view}
use Rattle.cpn_gen.proofs.ShortRings.{short}
use Rattle.cpn_gen.proofs.WrittenRings.{written, written_text, read_back}
use Rattle.cpn_gen.proofs.nets.make_net.Goals as goal

pub returns : goal.returns
returns c =
    let number = c.args.number in
    let net = view c.in_ok-net.net in
    let bytes : List ℕ = c.in_ok-bytes.bytes.items in
    let text = written number net bytes _ c.push.new.self c.deref.result.now c.in_ok-net.ensures c.new-text.ensures c.deref.ensures.value c.in_ok-push.ensures.ok c.in_ok-bytes.ensures.text in
    record {
      text = text;
      utf8 = written_text number net bytes _ c.push.new.self c.deref.result.now c.in_ok-net.ensures c.new-text.ensures c.deref.ensures.value c.in_ok-push.ensures.ok c.in_ok-bytes.ensures.utf8;
      json = read_back number net bytes _ c.push.new.self c.deref.result.now c.in_ok-net.ensures c.new-text.ensures c.deref.ensures.value c.in_ok-push.ensures.ok c.in_ok-bytes.ensures.reads_back;
      short = let P : List ℕ → Type 0 = λ bs. length bs < 2 ^ 21 in subst P (sym text) (short number);
    }
