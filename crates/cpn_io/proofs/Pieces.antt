-- Lists that are given or taken a piece at a time: a piece and the rest make the list, and pieces that
-- follow each other make one.
use Rattle.std.proofs.Common.{◌≡◌, ℕ, ◌+◌, ◌≤◌, List, ◌++◌, [], None, Some, IfSome, sym, ap, ◌∙◌, subst, length, take, drop, take-append-drop}
use Rattle.std.proofs.Math.Seq.{take-add, take-append_seam}
use Rattle.std.proofs.lemmas.List.{drop-drop, length-take-le}
use Rattle.std.proofs.KnownBytes.{Appends-trans}
use Rattle.std.specs.declared.option.Option.{Option}
use Rattle.std.specs.Io.KnownBytes.{Appends, Consumes, IsAtEnd, Keeps}

-- the first n bytes from an index on, copied to the front of a buffer, and those from n on, make the rest
pub front_and_rest : (n at : ℕ) (bytes left piece tail : List ℕ)
    → left ≡ drop at bytes → n ≤ length left → piece ≡ take n left
    → left ≡ take n (piece ++ tail) ++ drop (at + n) bytes
front_and_rest n at bytes left piece tail is fits copied =
    let long : length piece ≡ n = ap length copied ∙ length-take-le n left fits in
    let front : take n (piece ++ tail) ≡ take n left =
    sym (ap (λ k. take k (piece ++ tail)) long) ∙ take-append_seam piece tail ∙ copied in
    let rest : drop (at + n) bytes ≡ drop n left =
    sym (drop-drop n at bytes) ∙ sym (ap (drop n) is) in
    sym (take-append-drop n left) ∙ ap (λ l. l ++ drop n left) (sym front) ∙ ap (λ l. take n (piece ++ tail) ++ l) (sym rest)

-- where the bytes that were left are told, and what is left of them is at its end and stays, none is left
pub nothing_left : (a b c : Option (List ℕ)) (taken : List ℕ)
    → Consumes a b taken → IsAtEnd b → Keeps b c → IfSome a (λ _. c ≡ Some [])
nothing_left None b c taken took end kept = tt
nothing_left (Some x) None c taken took end kept = absurd took
nothing_left (Some x) (Some y) None taken took end kept = absurd kept
nothing_left (Some x) (Some y) (Some z) taken took end kept = ap Some (kept ∙ end)

-- the first n bytes, and then the first m of the rest, are the first n + m
pub Appends-pieces : (a b c : Option (List ℕ)) (n m : ℕ) (bytes rest : List ℕ)
    → rest ≡ drop n bytes → Appends a b (take n bytes) → Appends b c (take m rest)
    → Appends a c (take (n + m) bytes)
Appends-pieces a b c n m bytes rest is first second =
    let joined : take n bytes ++ take m rest ≡ take (n + m) bytes =
    ap (λ l. take n bytes ++ take m l) is ∙ sym (take-add n m bytes) in
    subst (Appends a c) joined (Appends-trans a b c _ _ first second)
