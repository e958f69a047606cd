-- The bytes copied into the buffer, and those that are left behind them, were left before the call.
use Rattle.std.proofs.Common.{◌≡◌, ◌-◌, ◌≤◌, ◌++◌, length, take, drop, arith, ap, sym, ◌∙◌, length-append}
use Rattle.std.proofs.lemmas.List.{take_rest, length-take-le}
use Rattle.cpn_io.proofs.Pieces.{front_and_rest}
use Rattle.cpn_io.proofs.byte_sources.BytesSourceSource.read.Goals as goal

pub returns-clause-bytes : goal.returns-clause-bytes
returns-clause-bytes c =
    let at = c.self.inside.at in
    let items = c.self.inside.bytes.items in
    let n = c.min-count.result in
    let bytes = c.deref-2.result.now in
    let left = take (length bytes - at) (drop at bytes) in
    let piece = c.copy_from_slice.new.self in
    let copied = c.copy_from_slice.ensures.after in
    let fits : n ≤ length left = omega (arith, c.min-count.ensures) in
    let left_is : left ≡ drop at items = take_rest bytes at ∙ ap (drop at) c.deref-2.ensures.value in
    let told : c.args.self.now.left ≡ drop at items = sym (ap (λ s. s.left) c.self.view_is) in
    let long : n ≤ length (piece ++ drop n c.args.buf.now) =
    omega (arith, ap length copied, length-take-le n left fits, length-append piece (drop n c.args.buf.now)) in
    (omega arith, long, told ∙ sym left_is ∙ front_and_rest n at items left piece (drop n c.args.buf.now) left_is fits copied)
