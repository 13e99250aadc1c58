-- Steps 1 and 2 of document 01: the temperature factor A, in ten-thousandths, and the clay number
-- R, in millionths.
use Rattle.std.specs.Prelude.{◌≡◌, ℕ, ◌+◌, ◌*◌, ℤ, pos, negsuc, ◌+ℤ◌, get_or}
use Rattle.number_exact.specs.Exponential.{Nearest}
use Rattle.step_factors.specs.TemperatureTable.{temperature_table}
use Rattle.step_factors.specs.ClayTable.{clay_table}

-- A at a place of the table, which counts tenths of a degree from -50. Below -50, A is 0.
unfoldable pub factor_at : ℤ → ℕ
factor_at (pos i) = get_or temperature_table i 0
factor_at (negsuc i) = 0

-- Step 1: A for the temperature T in tenths of a degree.
unfoldable pub temperature_factor : ℤ → ℕ
temperature_factor t = factor_at (t +ℤ pos 50)

-- 10,000 × 47.91 / (1 + e^u), where e^(-u) = x / y and so e^u = y / x: 479,100 × x / (x + y).
unfoldable pub temperature_num : ℕ → ℕ → ℕ
temperature_num x y = 479100 * x

unfoldable pub temperature_den : ℕ → ℕ → ℕ
temperature_den x y = x + y

-- u = 106.06 / (T/10 + 18.27) = 10,606 / (10 × T + 1827). At place i of the table, T is i - 50.
unfoldable pub temperature_exponent_num : ℕ
temperature_exponent_num = 10606

unfoldable pub temperature_exponent_den : ℕ → ℕ
temperature_exponent_den i = 10 * i + 1327

-- The rule of step 1: A is the nearest number; below -50, 0.
unfoldable pub IsFactorAt : ℤ → ℕ → Type 0
IsFactorAt (pos i) a =
    Nearest a temperature_num temperature_den temperature_exponent_num (temperature_exponent_den i)
IsFactorAt (negsuc i) a = a ≡ 0

unfoldable pub IsTemperatureFactor : ℤ → ℕ → Type 0
IsTemperatureFactor t a = IsFactorAt (t +ℤ pos 50) a

-- Step 2: R for the clay C in tenths of a percent: the part of the decayed carbon that forms BIO
-- and HUM, in millionths.
unfoldable pub clay_number : ℕ → ℕ
clay_number c = get_or clay_table c 0

-- 1,000,000 / (1 + z), z = 1.67 × (1.85 + 1.60 × e^(-0.00786 × C)), where that power is x / y:
-- 1 + z is 4.0895 + 2.672 × x / y, so the value is 10,000,000,000 × y / (40,895 × y + 26,720 × x).
unfoldable pub clay_num : ℕ → ℕ → ℕ
clay_num x y = 10000000000 * y

unfoldable pub clay_den : ℕ → ℕ → ℕ
clay_den x y = 40895 * y + 26720 * x

-- The exponent: 0.00786 × C = 393 × C / 50,000.
unfoldable pub clay_exponent_num : ℕ → ℕ
clay_exponent_num c = 393 * c

unfoldable pub clay_exponent_den : ℕ
clay_exponent_den = 50000

-- The rule of step 2: R is the nearest number.
unfoldable pub IsClayNumber : ℕ → ℕ → Type 0
IsClayNumber c r = Nearest r clay_num clay_den (clay_exponent_num c) clay_exponent_den
