-- Which bytes are the document, by the mode that words give.
use Rattle.std.proofs.Common.{◌≡◌, ℕ, ◌<◌, List, length, Option, Some, None, IfSome, refl, sym, ap, ◌∙◌, subst}
use Rattle.cpn_gen.specs.GeneratedNets.{generated}
use Rattle.cpn_simulation.specs.Limits.{most_bytes}
use Rattle.cpn_simulation.specs.Documents.{ReadsSource, GeneratesNet, bytes_in, bytes_under, document_of}
use Rattle.cpn_simulation.specs.Options.{PlainOptions, options_from}
use Rattle.cpn_simulation.specs.declared.options.Mode.{Mode}
use Rattle.cpn_simulation.specs.declared.options.Mode.TheVariants as modes

-- where the words give options, these say it
pub document_is : (words : List (List ℕ)) (options : PlainOptions) (left : Option (List ℕ)) → options_from words ≡ Some options → document_of words left ≡ bytes_in options.mode options.seed left
unfolding document_of
document_is words options left some = ap (λ (o : Option PlainOptions). bytes_under o left) some

-- in mode run it is what the source gives
pub read_document : (words : List (List ℕ)) (left : Option (List ℕ)) → ReadsSource words → document_of words left ≡ left
read_document words left run = document_is words run.0 left run.1 ∙ ap (λ (mode : Mode). bytes_in mode run.0.seed left) run.2

-- so a document that is too long was left in the source
pub read_length : (words : List (List ℕ)) (left : Option (List ℕ)) → ReadsSource words × IfSome (document_of words left) (λ bytes. most_bytes < length bytes) → ReadsSource words × IfSome left (λ bytes. most_bytes < length bytes)
read_length words left long = (long.0, subst (λ (o : Option (List ℕ)). IfSome o (λ bytes. most_bytes < length bytes)) (read_document words left long.0) long.1)

-- and one that was left in the source is a document that is too long
pub long_document : (words : List (List ℕ)) (options : PlainOptions) (left : Option (List ℕ)) → options_from words ≡ Some options → (options.mode ≡ modes.Run) × IfSome left (λ bytes. most_bytes < length bytes)
    → ReadsSource words × IfSome (document_of words left) (λ bytes. most_bytes < length bytes)
long_document words options left some long =
    let reads : ReadsSource words = (options, some, long.0) in
    (reads, subst (λ (o : Option (List ℕ)). IfSome o (λ bytes. most_bytes < length bytes)) (sym (read_document words left reads)) long.1)

-- what was made by the options is the document
pub made_document : (words : List (List ℕ)) (options : PlainOptions) (left : Option (List ℕ)) (bytes : List ℕ) → options_from words ≡ Some options → IfSome (bytes_in options.mode options.seed left) (λ xs. bytes ≡ xs) → IfSome (document_of words left) (λ xs. bytes ≡ xs)
made_document words options left bytes some made = subst (λ (o : Option (List ℕ)). IfSome o (λ xs. bytes ≡ xs)) (sym (document_is words options left some)) made

-- in mode large it is a generated net, whatever the source gives
generated_document : (words : List (List ℕ)) (left : Option (List ℕ)) (large : GeneratesNet words) → document_of words left ≡ Some (generated large.0.seed)
generated_document words left large = document_is words large.0 left large.1 ∙ ap (λ (mode : Mode). bytes_in mode large.0.seed left) large.2

-- and otherwise it is what the source gives, also where the words give no options
other_document : (words : List (List ℕ)) (left : Option (List ℕ)) → (GeneratesNet words → ⊥) → document_of words left ≡ left
unfolding document_of
other_document words left other = by (options_from words) refl
  where
    by_mode : (mode : Mode) (options : PlainOptions) → options_from words ≡ Some options → options.mode ≡ mode → bytes_in mode options.seed left ≡ left
    by_mode modes.Run options some is = refl
    by_mode modes.Large options some is = absurd (other (options, some, is))

    by : (o : Option PlainOptions) → options_from words ≡ o → bytes_under o left ≡ left
    by None none = refl
    by (Some options) some = by_mode options.mode options some refl
