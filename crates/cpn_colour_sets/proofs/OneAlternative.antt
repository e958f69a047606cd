-- The constructor of an alternative, by whether its name is new.
use Rattle.std.proofs.Common.{◌≡◌, ◌∙◌, ℕ, Bool, true, false, [], ◌∷◌, Option, Some, None, sym, ap, ap₂}
use Rattle.cpn_trees.specs.DeclTrees.{PlainAlternative}
use Rattle.cpn_typing.specs.Answers.{Refuses}
use Rattle.cpn_typing.specs.ColourSets.{is_new, other_names, constructors_from}
use Rattle.cpn_typing.specs.Names.{Name, a_constructor, Declared, Refusal, Checked, refused, duplicate, ◌>>=◌, accepted_if}
use Rattle.cpn_typing.specs.Types.{PlainTy}
use Rattle.cpn_declared.specs.Additions.{with_names}
use Rattle.cpn_colour_sets.specs.Alternatives.{argument_in, alternative_in}

-- a new name is refused only where memory is wanted, which says nothing
pub none_refused : {X Y : Type 0} (o : Option Refusal) (b : Bool) (r : Refusal) (x : X) → b ≡ true → Refuses o (accepted_if b r x) → (whole : Checked Y) → Refuses o whole
none_refused None b r x new h whole = tt
none_refused (Some s) true r x new h whole = cc
none_refused (Some s) false r x new h whole = cc

module _ (ds : Declared) (a : PlainAlternative) (n : Name) (is : n ≡ a.constructor) where
  by_name : (b : Bool) → is_new n (other_names ds) ≡ b → alternative_in ds a ≡ (accepted_if b (duplicate a.constructor) (a.constructor ∷ other_names ds) >>= λ now. argument_in ds a.argument)
  by_name b h = ap (λ c. accepted_if c (duplicate a.constructor) (a.constructor ∷ other_names ds) >>= λ now. argument_in ds a.argument) (ap (λ m. is_new m (other_names ds)) (sym is) ∙ h)

  pub name_new : is_new n (other_names ds) ≡ true → alternative_in ds a ≡ argument_in ds a.argument
  name_new h = by_name true h

  pub name_old : is_new n (other_names ds) ≡ false → alternative_in ds a ≡ refused (duplicate n)
  name_old h = by_name false h ∙ ap (λ m. refused (duplicate m)) (sym is)

pub constructor_is : (ds new : Declared) (union k p : ℕ) (n m : Name) (o q : Option PlainTy) → new ≡ with_names ds (record { name = n; meant = a_constructor union k o } ∷ []) → k ≡ p → n ≡ m → o ≡ q
    → new ≡ with_names ds (constructors_from union p (record { name = m; argument = q } ∷ []))
constructor_is ds new union k p n m o q h position name argument =
    h ∙ ap (λ j. with_names ds (record { name = n; meant = a_constructor union j o } ∷ [])) position
    ∙ ap₂ (λ x t. with_names ds (record { name = x; meant = a_constructor union p t } ∷ [])) name argument
