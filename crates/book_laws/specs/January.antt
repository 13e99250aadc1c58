-- January 1852 of document 01's known figures: its numbers, and its book byte by byte.
use Rattle.std.specs.Prelude.{List, [], ◌∷◌, ℕ, pos}
use Rattle.book_rows.specs.Rows.{weather_of, land_of}
use Rattle.book_laws.specs.BookText.{BookNumbers}

-- Its numbers.
unfoldable pub january : BookNumbers
january =
    record {
      soil =
          record {
            clay = 234;
            depth = 23;
            kind = 1;
            dpm = 153300;
            rpm = 4485200;
            bio = 667100;
            hum = 25857600;
            iom = 2700000;
          };
      weather = weather_of (pos 34) 740 80 ∷ [];
      land = land_of 0 0 0 ∷ [];
    }

-- Its book: `SOIL 1`, `234 23 1 153300 4485200 667100 25857600 2700000`, `WEATHER 1`, `34 740 80`,
-- `LAND 1`, `0 0 0`.
abbrev pub january_text : List ℕ
january_text =
    83 ∷ 79 ∷ 73 ∷ 76 ∷ 32 ∷ 49 ∷ 10 ∷
    50 ∷ 51 ∷ 52 ∷ 32 ∷
    50 ∷ 51 ∷ 32 ∷
    49 ∷ 32 ∷
    49 ∷ 53 ∷ 51 ∷ 51 ∷ 48 ∷ 48 ∷ 32 ∷
    52 ∷ 52 ∷ 56 ∷ 53 ∷ 50 ∷ 48 ∷ 48 ∷ 32 ∷
    54 ∷ 54 ∷ 55 ∷ 49 ∷ 48 ∷ 48 ∷ 32 ∷
    50 ∷ 53 ∷ 56 ∷ 53 ∷ 55 ∷ 54 ∷ 48 ∷ 48 ∷ 32 ∷
    50 ∷ 55 ∷ 48 ∷ 48 ∷ 48 ∷ 48 ∷ 48 ∷ 10 ∷
    87 ∷ 69 ∷ 65 ∷ 84 ∷ 72 ∷ 69 ∷ 82 ∷ 32 ∷ 49 ∷ 10 ∷
    51 ∷ 52 ∷ 32 ∷
    55 ∷ 52 ∷ 48 ∷ 32 ∷
    56 ∷ 48 ∷ 10 ∷
    76 ∷ 65 ∷ 78 ∷ 68 ∷ 32 ∷ 49 ∷ 10 ∷
    48 ∷ 32 ∷
    48 ∷ 32 ∷
    48 ∷ 10 ∷ []
