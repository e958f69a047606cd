-- Locals that nothing that waits needs any more.
use Rattle.std.specs.Prelude.{ℕ, ◌≡◌, if◌then◌else◌, nat_le, List, take}
use Rattle.cpn_definitions.specs.Value.{PlainValue}
use Rattle.cpn_definitions.specs.Inscription.{no_exprs, more_exprs}
use Rattle.cpn_eval.specs.declared.frames.World.{World}
use Rattle.cpn_eval.specs.declared.reach.Reach.{Reach}
use Rattle.cpn_eval.specs.declared.reach.Reach.TheVariants as reaches
use Rattle.cpn_eval.specs.Frames.{PlainFrame, parts, beside, argument, also, otherwise, branches, body_of, arms, forget, start, steps, back, at, through}

-- what a frame has to do with the locals from a number on
abbrev pub reach_of : PlainFrame → ℕ → Reach
reach_of (parts head done no_exprs) k = reaches.Passes
reach_of (parts head done (more_exprs e es)) k = reaches.Reads
reach_of (beside o j) k = if nat_le k j then reaches.Reads else reaches.Passes
reach_of (argument j) k = reaches.Passes
reach_of (forget count) k = if nat_le count k then reaches.Forgets else reaches.Passes
reach_of (back n ls) k = reaches.Forgets
reach_of (also e) k = reaches.Reads
reach_of (otherwise e) k = reaches.Reads
reach_of (branches e f) k = reaches.Reads
reach_of (body_of e) k = reaches.Reads
reach_of (arms cases) k = reaches.Reads
reach_of (start e f) k = reaches.Reads
reach_of (steps vs e) k = reaches.Reads

-- the frames make the same of a value whatever the locals from a number on are
abbrev pub Spare : List PlainFrame → ℕ → Type 0
Spare frames k = (world : World) (n : ℕ) (ls ms : List PlainValue) (v : PlainValue) → take k ls ≡ take k ms → through world frames (at n ls v) ≡ through world frames (at n ms v)
