-- The first words of some seeds, worked out from the published generator; and that of the seeds from 0 on the first whose word 0 is
-- even is 4.
use Rattle.std.proofs.Common.{◌≡◌, refl}
use Rattle.std.specs.Prelude.{◌%◌}
use Rattle.rand_core.specs.Steps.{u32_at, word_bytes}
use Rattle.rand_core.specs.Pcg32Seed.{pcg32_seed}
use Rattle.cpn_draw.specs.Draw.{generator, word}

first_word : word 0 0 ≡ 2354861276966075475
unfolding word generator pcg32_seed word_bytes u32_at
first_word = refl

second_word : word 0 1 ≡ 6411218084291373563
unfolding word generator pcg32_seed word_bytes u32_at
second_word = refl

first_word_of_one : word 1 0 ≡ 15492934433077865799
unfolding word generator pcg32_seed word_bytes u32_at
first_word_of_one = refl

second_word_of_one : word 1 1 ≡ 319104231195455319
unfolding word generator pcg32_seed word_bytes u32_at
second_word_of_one = refl

third_word_of_five : word 5 2 ≡ 4920590661832460237
unfolding word generator pcg32_seed word_bytes u32_at
third_word_of_five = refl

first_word_of_two : word 2 0 ≡ 1084574603684186893
unfolding word generator pcg32_seed word_bytes u32_at
first_word_of_two = refl

second_word_of_two : word 2 1 ≡ 8211647272575494725
unfolding word generator pcg32_seed word_bytes u32_at
second_word_of_two = refl

first_word_of_nine : word 9 0 ≡ 17879838811382575595
unfolding word generator pcg32_seed word_bytes u32_at
first_word_of_nine = refl

first_word_of_999 : word 999 0 ≡ 2590280744513774405
unfolding word generator pcg32_seed word_bytes u32_at
first_word_of_999 = refl

-- ---- whether word 0 is even

odd_of_zero : word 0 0 % 2 ≡ 1
unfolding word generator pcg32_seed word_bytes u32_at
odd_of_zero = refl

odd_of_one : word 1 0 % 2 ≡ 1
unfolding word generator pcg32_seed word_bytes u32_at
odd_of_one = refl

odd_of_two : word 2 0 % 2 ≡ 1
unfolding word generator pcg32_seed word_bytes u32_at
odd_of_two = refl

odd_of_three : word 3 0 % 2 ≡ 1
unfolding word generator pcg32_seed word_bytes u32_at
odd_of_three = refl

even_of_four : word 4 0 % 2 ≡ 0
unfolding word generator pcg32_seed word_bytes u32_at
even_of_four = refl
