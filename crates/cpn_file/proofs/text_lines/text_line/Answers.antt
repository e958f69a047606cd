use Rattle.std.proofs.Common.{◌≡◌, ◌∙◌, ap, ℕ, List, ◌++◌, codes, append_assoc}
use Rattle.std.specs.Fmt.{decimal}
use Rattle.cpn_file.specs.Spaces.{with_space}
use Rattle.cpn_file.specs.TextLines.{line_with}
use Rattle.cpn_file.proofs.text_lines.text_line.Goals as goal

joined : (pointer part : List ℕ) (number : ℕ) (name text : List ℕ)
    → codes "error inscription " ++ (pointer ++ (codes " " ++ (part ++ (codes " " ++ (decimal number ++ (codes " " ++ (name ++ (text ++ codes "\n"))))))))
    ≡ codes "error inscription " ++ pointer ++ codes " " ++ part ++ codes " " ++ decimal number ++ codes " " ++ name ++ text ++ codes "\n"
joined pointer part number name text = simp append_assoc

line_is : (pointer part : List ℕ) (number : ℕ) (name text detail : List ℕ) → text ≡ with_space detail
    → codes "error inscription " ++ (pointer ++ (codes " " ++ (part ++ (codes " " ++ (decimal number ++ (codes " " ++ (name ++ (text ++ codes "\n"))))))))
    ≡ line_with pointer part number name detail
unfolding line_with
line_is pointer part number name text detail e =
    joined pointer part number name text ∙ ap (λ tail. codes "error inscription " ++ pointer ++ codes " " ++ part ++ codes " " ++ decimal number ++ codes " " ++ name ++ tail ++ codes "\n") e

pub returns : goal.returns
returns c =
    let spaced : c.as_str-detail.result.now ≡ with_space c.args.detail.now = c.as_str-detail.ensures.value ∙ c.in_ok-detail.ensures.spaced in
    record { line = c.in_ok-line.ensures.ok ∙ line_is c.args.pointer.now c.args.part.now c.args.number c.args.name.now c.as_str-detail.result.now c.args.detail.now spaced }
