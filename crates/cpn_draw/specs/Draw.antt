-- The words that claims draw: those of the generator Pcg64 seeded by seed_from_u64. Source: own choice.
use Rattle.std.specs.Prelude.{ℕ, zero, suc}
use Rattle.rand_core.specs.Pcg32Seed.{pcg32_seed}
use Rattle.rand_pcg.specs.Lcg.{Lcg}
use Rattle.rand_pcg.specs.Pcg.{pcg64, pcg64_of_seed}

-- the generator of a seed, after so many words
unfoldable pub generator : ℕ → ℕ → Lcg
generator seed zero = pcg64_of_seed (pcg32_seed 32 seed)
generator seed (suc k) = (pcg64 (generator seed k)).1

-- the word of a number, from 0
unfoldable pub word : ℕ → ℕ → ℕ
word seed k = (pcg64 (generator seed k)).0
