-- January 1852 of document 01 is a well-formed book, and its text is document 01's, byte by byte.
-- Assumes nothing.
use mathlib.Core.Path.{◌≡◌, refl, sym, ◌∙◌}
use mathlib.Core.List.{flat_map}
use Prim.Native.Nat.{ℕ, zero, suc, ◌/◌, ◌^◌, ◌≤◌, ◌<◌}
use native.Mathlib.Nat.{pow-suc}
use native.Mathlib.Omega.{arith}
use native.Mathlib.Decide.{dec_lt}
use borrow.Author.Tests.{lt-ltb, le-ltb}
use lib.IntN.{pos}
use Rattle.step_pools.specs.Pools.{total}
use Rattle.month_refusals.specs.Asked.{first_of}
use Rattle.month_refusals.specs.Refusals.{clay_outside, depth_outside, kind_other, carbon_above, temperature_outside, water_outside, source_outside}
use Rattle.month_refusals.specs.Refusals.{soil_asked, weather_asked}
use Rattle.book_digits.specs.Digits.{digits_of, decimal, signed_decimal}
use Rattle.book_digits.proofs.Digits.{decimal_small, decimal_large}
use Rattle.book_rows.specs.Rows.{weather_of, land_of}
use Rattle.book_lines.specs.LineText.{head_text, soil_text, weather_text, land_text}
use Rattle.book_rows.specs.RowText.{none, more}
use Rattle.book_laws.specs.BookText.{book_text, WellFormed, Written}
use Rattle.book_laws.specs.January.{january, january_text}

pub january-good : WellFormed january
unfolding january first_of soil_asked clay_outside depth_outside kind_other carbon_above total
    weather_asked temperature_outside water_outside source_outside
january-good =
    record {
      soil = refl;
      weather_count = record { least = omega arith; most = omega arith };
      weather =
          more {x = weather_of (pos 34) 740 80} (record { of_line = refl; passes = refl }) none;
      land_count = record { least = omega arith; most = omega arith };
      land =
          more {x = land_of 0 0 0}
          (record { of_line = refl; cover = omega arith; plant = omega arith; manure = omega arith })
          none;
    }

-- A number below a power of ten has no more digits than the power has zeros, and so its form is found in as many steps.
within : (k n : ℕ) → n < 10 ^ suc k → decimal n ≡ digits_of (suc k) n
unfolding digits_of
within zero n h = decimal_small n (omega arith) ∙ rw (lt-ltb n 10 (omega arith))
within (suc k) n h = elim (dec_lt n 10) [
  | yes small ↦ decimal_small n small ∙ rw (lt-ltb n 10 small)
  | no large ↦
      let ten : 10 ≤ n = omega arith in
      let tenth : n / 10 < 10 ^ suc k = omega (arith, pow-suc 10 (suc k)) in
      decimal_large n ten ∙ rw (le-ltb n 10 ten, within k (n / 10) tenth)
]

pub january-text : book_text january ≡ january_text
unfolding january book_text flat_map head_text soil_text weather_text land_text signed_decimal digits_of
january-text =
    rw (
      within 7 1 (omega arith),
      within 7 234 (omega arith),
      within 7 23 (omega arith),
      within 7 153300 (omega arith),
      within 7 4485200 (omega arith),
      within 7 667100 (omega arith),
      within 7 25857600 (omega arith),
      within 7 2700000 (omega arith),
      within 7 34 (omega arith),
      within 7 740 (omega arith),
      within 7 80 (omega arith),
      within 7 0 (omega arith),
    )

-- So there is a text of a well-formed book: document 01's.
pub january_written : Written january_text
january_written = record { numbers = january; good = january-good; text = sym january-text }
