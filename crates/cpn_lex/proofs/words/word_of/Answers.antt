-- A name that is none of the words is not found among them.
use Rattle.std.proofs.Common.{◌≡◌, ℕ, true, false, cond, List, Option, Some, None, refl}
use Rattle.std.specs.Str.{bytes_eq}
use Rattle.std.proofs.lemmas.Slice.Eq.{bytes_eq-Decides}
use Rattle.cpn_lex.specs.declared.symbols.Symbol.{Symbol}
use Rattle.cpn_lex.specs.Lookup.{symbol_in}
use Rattle.cpn_lex.proofs.words.word_of.Goals as goal

passed : (word name : List ℕ) (s : Symbol) (others : Option Symbol) → (name ≡ word → ⊥) → None ≡ others → None ≡ cond (bytes_eq word name) (Some s) others
passed word name s others differs e = elim (bytes_eq word name) as (λ b. (bytes_eq word name ≡ b) → None ≡ cond b (Some s) others)
    [ true ↦ λ h. absurd (differs (let p = (bytes_eq-Decides word name).0 h in cc)) | false ↦ λ h. e ] refl

pub returns-in_default : goal.returns-in_default
unfolding symbol_in
returns-in_default c =
    let is = c.in_default in
    search (passed, is.not-colset, is.not-var, is.not-val, is.not-fun, is.not-with, is.not-product, is.not-list, is.not-union, is.not-timed, is.not-unit, is.not-bool, is.not-int, is.not-string, is.not-if, is.not-then, is.not-else, is.not-case, is.not-of, is.not-let, is.not-in, is.not-end, is.not-foldl, is.not-over, is.not-from, is.not-do, is.not-andalso, is.not-orelse, is.not-not, is.not-div, is.not-mod, is.not-true, is.not-false, is.not-empty, is.not-time) depth 50
