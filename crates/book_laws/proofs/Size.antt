-- The text of a well-formed book is never too long: at most 60,121 bytes, where 1 allows 65,536.
-- Assumes nothing.
use mathlib.Core.List.{List, flat_map}
use Prim.Native.Nat.{ℕ, suc, ◌+◌, ◌*◌, ◌≤◌}
use native.Mathlib.Omega.{arith}
use lib.IntN.{ℤ, pos, negsuc, nat_abs}
use lib.ListN.{length, length-append}
use Rattle.step_pools.specs.Pools.{total}
use Rattle.month_state.specs.declared.Weather.{Weather}
use Rattle.month_state.specs.declared.Land.{Land}
use Rattle.month_refusals.proofs.Accepted.{sound-soil}
use Rattle.book_digits.specs.Digits.{signed_decimal}
use Rattle.book_digits.proofs.Digits.{length-within, decimal_ten}
use Rattle.book_lines.specs.declared.SoilNumbers.{SoilNumbers}
use Rattle.book_lines.specs.LineText.{head_text, soil_text, weather_text, land_text, SoilBelow}
use Rattle.book_run.specs.Book.{soil_name, weather_name, land_name, soil_of}
use Rattle.book_rows.specs.RowText.{Each, none, more}
use Rattle.book_rows.proofs.RowKinds.{weather-values}
use Rattle.book_laws.specs.BookText.{BookNumbers, weather_line_of, land_line_of, book_text, LandValues, WeatherSound, WellFormed}

-- ---- a line

signed_size : (z : ℤ) → nat_abs z ≤ 500 → length (signed_decimal z) ≤ 4
unfolding signed_decimal
signed_size (pos n) h = omega (arith, length-within 2 n (omega arith))
signed_size (negsuc n) h = omega (arith, length-within 2 (suc n) (omega arith))

head_size : (name : List ℕ) (n : ℕ) → n ≤ 1200 → length (head_text name n) ≤ length name + 5
unfolding head_text
head_size name n h = simp length-append (omega (arith, length-within 3 n (omega arith)))

soil-size : (x : SoilNumbers) → SoilBelow x → length (soil_text x) ≤ 88
unfolding soil_text
soil-size x h =
    simp length-append
    (omega (
      arith,
      decimal_ten x.clay h.clay,
      decimal_ten x.depth h.depth,
      decimal_ten x.kind h.kind,
      decimal_ten x.dpm h.dpm,
      decimal_ten x.rpm h.rpm,
      decimal_ten x.bio h.bio,
      decimal_ten x.hum h.hum,
      decimal_ten x.iom h.iom,
    ))

weather-size : (w : Weather) → WeatherSound w → length (weather_line_of w) ≤ 17
unfolding weather_text
weather-size w pass =
    let v = weather-values w pass.passes in
    simp length-append
    (omega (
      arith,
      signed_size w.temperature v.temperature,
      length-within 4 (nat_abs w.rain) (omega (arith, v.rain)),
      length-within 4 (nat_abs w.evaporation) (omega (arith, v.evaporation)),
    ))

land-size : (l : Land) → LandValues l → length (land_line_of l) ≤ 33
unfolding land_text
land-size l v =
    simp length-append
    (omega (
      arith,
      decimal_ten (nat_abs l.cover) v.cover,
      decimal_ten (nat_abs l.plant) v.plant,
      decimal_ten (nat_abs l.manure) v.manure,
    ))

-- ---- the book

lines_size :
    {Row : Type 0} {Good : Row → Type 0} {xs : List Row} (line : Row → List ℕ) (most : ℕ)
    → ((x : Row) → Good x → length (line x) ≤ most) → Each Good xs → length (flat_map line xs) ≤ most * length xs
unfolding flat_map
lines_size line most size none = omega arith
lines_size line most size (more {x} good later) = simp length-append (omega (arith, size x good, lines_size line most size later))

-- A soil that 4 to 7 let pass has values.
pub soil-below : (b : BookNumbers) → WellFormed b → SoilBelow b.soil
unfolding total
soil-below b good =
    let sound = sound-soil (soil_of b.soil) good.soil in
    record {
      clay = omega (arith, sound.clay);
      depth = omega (arith, sound.deepest);
      kind = omega (arith, sound.last_kind);
      dpm = omega (arith, sound.pools);
      rpm = omega (arith, sound.pools);
      bio = omega (arith, sound.pools);
      hum = omega (arith, sound.pools);
      iom = omega (arith, sound.iom);
    }

pub text-size : (b : BookNumbers) → WellFormed b → length (book_text b) ≤ 60121
unfolding book_text
text-size b good =
    simp length-append
    (omega (
      arith,
      head_size soil_name 1 (omega arith),
      soil-size b.soil (soil-below b good),
      head_size weather_name (length b.weather) good.weather_count.most,
      lines_size weather_line_of 17 weather-size good.weather,
      head_size land_name (length b.land) good.land_count.most,
      lines_size land_line_of 33 land-size good.land,
    ))
