-- The numbers of a generator, and what six of them say.
use Rattle.std.specs.Prelude.{ℕ, suc, zero, ◌*◌, ◌%◌, ◌<◌}
use Rattle.sp_script.specs.declared.draw.Draw.{Draw}

-- the number that comes so many draws behind this one
unfoldable pub drawn : ℕ → ℕ → ℕ
drawn number zero = number
drawn number (suc n) = 16807 * drawn number n % 2147483647

-- what the six numbers behind this one say
unfoldable pub draw_of : ℕ → Draw
draw_of number = record {
  kind = drawn number 1 % 8;
  id = drawn number 2 % 1000;
  x = drawn number 3 % 10000;
  y = drawn number 4 % 10000;
  width = drawn number 5 % 100;
  height = drawn number 6 % 100;
  last = drawn number 6;
}

-- the place and the sizes are below their bounds
abbrev pub IsSmall : Draw → Type 0
IsSmall d = (d.x < 10000) × (d.y < 10000) × (d.width < 100) × (d.height < 100)
