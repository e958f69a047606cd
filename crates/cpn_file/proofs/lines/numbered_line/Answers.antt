-- The line is put together of its parts.
use Rattle.std.proofs.Common.{◌≡◌, ◌∙◌, ap, ℕ, List, ◌++◌, codes, append_assoc}
use Rattle.std.specs.Fmt.{decimal}
use Rattle.cpn_file.specs.Spaces.{with_space}
use Rattle.cpn_file.specs.Refusals.{numbered_line}
use Rattle.cpn_file.proofs.lines.numbered_line.Goals as goal

joined : (what : List ℕ) (number : ℕ) (name text : List ℕ) → codes "error " ++ (what ++ (codes " " ++ (decimal number ++ (codes " " ++ (name ++ (text ++ codes "\n")))))) ≡ codes "error " ++ what ++ codes " " ++ decimal number ++ codes " " ++ name ++ text ++ codes "\n"
joined what number name text = simp append_assoc

line_is : (what : List ℕ) (number : ℕ) (name text detail : List ℕ) → text ≡ with_space detail → codes "error " ++ (what ++ (codes " " ++ (decimal number ++ (codes " " ++ (name ++ (text ++ codes "\n")))))) ≡ numbered_line what number name detail
unfolding numbered_line
line_is what number name text detail e = joined what number name text ∙ ap (λ tail. codes "error " ++ what ++ codes " " ++ decimal number ++ codes " " ++ name ++ tail ++ codes "\n") e

pub returns : goal.returns
returns c =
    let spaced : c.as_str-detail.result.now ≡ with_space c.args.detail.now = c.as_str-detail.ensures.value ∙ c.in_ok-detail.ensures.spaced in
    record { line = c.in_ok-line.ensures.ok ∙ line_is c.args.what.now c.args.number c.args.name.now c.as_str-detail.result.now c.args.detail.now spaced }
