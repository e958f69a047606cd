-- The parts that wait.
use Rattle.std.proofs.Common.{◌≡◌, ℕ, suc, ◌+◌, List, [], ◌∷◌, ◌++◌, drop, Some, sym, ap, ◌∙◌, append_assoc, arith}
use Rattle.std.proofs.lemmas.List.{append-nil, drop_more}
use Rattle.cpn_module.specs.Hierarchy.{PlainHierarchy, structure_at, substitution_at, no_substitution}
use Rattle.cpn_fuse.specs.Instances.{PlainInstance, parts_from}
use Rattle.cpn_fuse.specs.Views.{part_view}
use Rattle.cpn_fuse.specs.Waiting.{waiting_instances, parts_from_on, IsWaiting}
use Rattle.cpn_fuse.specs.declared.preorder.Waiting.{Waiting}

module _ (h : PlainHierarchy) where
  -- the parts that were put down last come first
  pub waiting_more : (ws : List Waiting) (w : Waiting) → waiting_instances h (ws ++ w ∷ []) ≡ parts_from_on h w ++ waiting_instances h ws
  waiting_more [] w = sym (append-nil (parts_from_on h w))
  waiting_more (v ∷ ws) w = ap (λ (xs : List PlainInstance). xs ++ parts_from_on h v) (waiting_more ws w) ∙ append_assoc (parts_from_on h w) (waiting_instances h ws) (parts_from_on h v)

  -- the parts that wait after the first
  abbrev pub after_first : Waiting → Waiting
  after_first w = record { part = record { instance = w.part.instance; substitution = w.part.substitution + 1 }; of_module = w.of_module }

  abbrev pub first_waiting : Waiting → PlainInstance
  first_waiting w = record { of_module = (substitution_at h w.of_module w.part.substitution).submodule; part_of = Some (part_view w.part) }

  pub first_and_rest : (w : Waiting) → IsWaiting h w → parts_from_on h w ≡ first_waiting w ∷ parts_from_on h (after_first w)
  first_and_rest w is =
      let subs = (structure_at h w.of_module).substitutions in
      let i = w.part.substitution in
      let n = w.part.instance in
      let next : suc i ≡ i + 1 = omega arith in
      ap (parts_from n i) (drop_more subs i no_substitution is.substitution)
      ∙ ap (λ (k : ℕ). first_waiting w ∷ parts_from n k (drop (i + 1) subs)) next
