-- Rows of a kind, once for every kind (a book's weather and land, a table's): as they are written they are read back, and what was
-- read is what would be written.
-- Assumes nothing.
use Rattle.std.specs.Prelude.{Option, Some, None, Ok, Err}
use Rattle.book_lines.specs.declared.WeatherNumbers.{WeatherNumbers}
use Rattle.month_refusals.specs.Asked.{◌on◌, Check}
use mathlib.Core.Path.{◌≡◌, refl, sym, ◌∙◌, ap}
use mathlib.Core.Bool.{Bool, true}
use mathlib.Core.List.{List, [], ◌∷◌, ◌++◌, flat_map, append_assoc}
use Prim.Native.Nat.{ℕ, zero, suc, ◌+◌, ◌*◌, ◌^◌, ◌≤◌, ◌<◌}
use native.Mathlib.Nat.{add-zero}
use native.Mathlib.Omega.{arith}
use lib.IntN.{ℤ, pos, negsuc, nat_abs}
use lib.Dec.{leb→le}
use lib.ListN.{length, drop, length-append}
use Rattle.month_state.specs.declared.Weather.{Weather}
use Rattle.list_rows.specs.Rows.{weather_width, weather_numbers}
use Rattle.list_rows.proofs.Layouts.{weather_of_length, weather-same}
use Rattle.month_refusals.specs.declared.Refusal.{Refusal}
use Rattle.month_refusals.specs.Refusals.{weather_asked, weather_check}
use Rattle.month_refusals.proofs.First.{all_own, finds_own}
use Rattle.month_refusals.proofs.Accepted.{Between, natural_most, weather_ready}
use Rattle.book_values.proofs.Texts.{after}
use Rattle.book_rows.specs.Rows.{weather_for, weather_passed, as_weather, RowGives, numbers, refused, weather_gives, RowsRead, row_then, read_rows}
use Rattle.book_rows.specs.RowText.{lines_from, Each, none, more, SoundFrom}
use Rattle.book_rows.proofs.Laws.{before}

-- Lines that have no number in them are just one after another.
pub plain_lines : {Row : Type 0} (line : Row → List ℕ) (number : ℕ) (xs : List Row) → lines_from (λ n. line) number xs ≡ flat_map line xs
unfolding lines_from flat_map
plain_lines line number [] = refl
plain_lines line number (x ∷ xs) = ap (λ (l : List ℕ). line x ++ l) (plain_lines line (suc number) xs)

-- What stands at a place, on a line: a good row's line, whose numbers are given, or something that is refused by one of its own
-- refusals.
pub data LineIs
    {Row : Type 0}
    (line : ℕ → Row → List ℕ)
    (values : Row → List ℤ)
    (Good : Row → Type 0)
    (own : Refusal → Bool)
    (s : List ℕ)
    (at number : ℕ)
    : RowGives → Type 0 where
  written :
      {x : Row} {next : ℕ} → Good x → drop at s ≡ line number x ++ drop next s
      → LineIs line values Good own s at number (numbers (values x) next)
  other : {r : Refusal} → own r ≡ true → LineIs line values Good own s at number (refused r)

-- A row's line is read back, only such a line gives numbers, and the numbers are so many and say the row.
pub record Kind
    {Row : Type 0}
    (width : ℕ)
    (row : List ℕ → ℕ → ℕ → RowGives)
    (line : ℕ → Row → List ℕ)
    (values : Row → List ℤ)
    (Good : Row → Type 0)
    (own : Refusal → Bool)
    : Type 0 where
  pub back :
      (x : Row) (s : List ℕ) (at number : ℕ) (rest : List ℕ) → number < 10 ^ 10 → Good x → drop at s ≡ line number x ++ rest
      → row s at number ≡ numbers (values x) (at + length (line number x))
  pub only : (s : List ℕ) (at number : ℕ) → LineIs line values Good own s at number (row s at number)
  pub wide : (x : Row) → length (values x) ≡ width
  pub same : (x y : Row) (rest rest' : List ℤ) → values x ++ rest ≡ values y ++ rest' → (x ≡ y) × (rest ≡ rest')

-- What reading so many rows gives: the numbers of so many good rows, to the end of their lines, or something that is refused.
pub data LinesAre
    {Row : Type 0}
    (line : ℕ → Row → List ℕ)
    (values : Row → List ℤ)
    (Good : Row → Type 0)
    (own : Refusal → Bool)
    (count : ℕ)
    (s : List ℕ)
    (at number : ℕ)
    : RowsRead → Type 0 where
  written :
      {end : ℕ} (xs : List Row) → length xs ≡ count → Each Good xs → drop at s ≡ lines_from line number xs ++ drop end s
      → LinesAre line values Good own count s at number (record { numbers = flat_map values xs; ends = Ok end })
  other :
      {found : List ℤ} {r : Refusal} {place : ℕ} → own r ≡ true
      → LinesAre line values Good own count s at number (record { numbers = found; ends = Err (r on place) })

module _
    {Row : Type 0}
    {width : ℕ}
    {row : List ℕ → ℕ → ℕ → RowGives}
    {line : ℕ → Row → List ℕ}
    {values : Row → List ℤ}
    {Good : Row → Type 0}
    {own : Refusal → Bool}
    (kind : Kind width row line values Good own)
  where
    -- Rows as they are written are read back, ..
    pub rows_back :
        {xs : List Row} (s : List ℕ) (at number : ℕ) (rest : List ℕ) → number + length xs ≤ 10 ^ 10 → Each Good xs
        → drop at s ≡ lines_from line number xs ++ rest
        → ((read_rows row (length xs) s at number).numbers ≡ flat_map values xs)
        × ((read_rows row (length xs) s at number).ends ≡ Ok (at + length (lines_from line number xs)))
    unfolding read_rows flat_map lines_from
    rows_back s at number rest few none e = (refl, ap Ok (sym (add-zero at)))
    rows_back s at number rest few (more {x} {xs} good later) e =
        let here : drop at s ≡ line number x ++ (lines_from line (suc number) xs ++ rest) =
        e ∙ append_assoc (line number x) (lines_from line (suc number) xs) rest in
        let next = at + length (line number x) in
        let read =
        rows_back s next (suc number) rest (omega arith) later
        (after s at (line number x) (lines_from line (suc number) xs ++ rest) here) in
        rw (kind.back x s at number (lines_from line (suc number) xs ++ rest) (omega arith) good here)
        (ap (λ (l : List ℤ). values x ++ l) read.0, read.1 ∙ ap Ok (simp length-append (omega arith)))

    -- .. and rows that are read are so written.
    one_more :
        {count : ℕ} {s : List ℕ} {at next number : ℕ} {x : Row} {read : RowsRead} → Good x → drop at s ≡ line number x ++ drop next s
        → LinesAre line values Good own count s next (suc number) read
        → LinesAre line values Good own (suc count) s at number (before (values x) read)
    unfolding flat_map lines_from
    one_more {number} {x} good text (written xs size goods rest) =
        written (x ∷ xs) (ap suc size) (more good goods)
        (text ∙ ap (λ (l : List ℕ). line number x ++ l) rest ∙ sym (append_assoc (line number x) (lines_from line (suc number) xs) _))
    one_more good text (other refuses) = other refuses

    first-row :
        {count : ℕ} {s : List ℕ} {at number : ℕ} {gives : RowGives} (later : ℕ → RowsRead) → LineIs line values Good own s at number gives
        → ((next : ℕ) → LinesAre line values Good own count s next (suc number) (later next))
        → LinesAre line values Good own (suc count) s at number (row_then gives number later)
    first-row later (written {next} good text) rest = one_more good text (rest next)
    first-row later (other refuses) rest = other refuses

    pub rows_only : (count : ℕ) (s : List ℕ) (at number : ℕ) → LinesAre line values Good own count s at number (read_rows row count s at number)
    unfolding read_rows flat_map lines_from
    rows_only zero s at number = written [] refl none refl
    rows_only (suc count) s at number =
        first-row (λ next. read_rows row count s next (suc number)) (kind.only s at number)
        (λ next. rows_only count s next (suc number))

    -- Each row has its width of numbers, and reading gives no more.
    pub rows-length : (xs : List Row) → length (flat_map values xs) ≡ width * length xs
    unfolding flat_map
    rows-length [] = omega arith
    rows-length (x ∷ xs) = simp length-append (omega (arith, kind.wide x, rows-length xs))

    first-most :
        (count : ℕ) {s : List ℕ} {at number : ℕ} {gives : RowGives} (later : ℕ → RowsRead) → LineIs line values Good own s at number gives
        → ((next : ℕ) → length (later next).numbers ≤ width * count) → length (row_then gives number later).numbers ≤ width * suc count
    first-most count later (written {x} {next} good text) rest = simp length-append (omega (arith, kind.wide x, rest next))
    first-most count later (other refuses) rest = omega arith

    pub rows-most : (count : ℕ) (s : List ℕ) (at number : ℕ) → length (read_rows row count s at number).numbers ≤ width * count
    unfolding read_rows
    rows-most zero s at number = omega arith
    rows-most (suc count) s at number =
        first-most count (λ next. read_rows row count s next (suc number)) (kind.only s at number)
        (λ next. rows-most count s next (suc number))

    -- The numbers say the rows.
    pub rows_same : (xs ys : List Row) → length xs ≡ length ys → flat_map values xs ≡ flat_map values ys → xs ≡ ys
    unfolding flat_map
    rows_same [] [] size e = refl
    rows_same [] (y ∷ ys) size e = absurd (omega arith)
    rows_same (x ∷ xs) [] size e = absurd (omega arith)
    rows_same (x ∷ xs) (y ∷ ys) size e =
        let first = kind.same x y (flat_map values xs) (flat_map values ys) e in
        let later = rows_same xs ys (omega arith) first.1 in
        λ k. first.0 k ∷ later k

-- ---- weather, in any text and from any source

-- What 13 and 14 let pass, in plain numbers.
pub record WeatherValues (w : Weather) : Type 0 where
  pub temperature : nat_abs w.temperature ≤ 500
  pub rain : nat_abs w.rain ≤ 20000
  pub evaporation : nat_abs w.evaporation ≤ 20000

degrees : (z : ℤ) → Between (negsuc 399) (pos 500) z → nat_abs z ≤ 500
degrees (pos n) h = leb→le n 500 h.to.le
degrees (negsuc n) h = let most : n ≤ 399 = leb→le n 399 h.from.le in omega arith

pub weather-values : (w : Weather) → weather_check w ≡ Ok tt → WeatherValues w
weather-values w passes =
    let ready = weather_ready w passes in
    record {
      temperature = degrees w.temperature ready.temperature;
      rain = natural_most 20000 w.rain ready.rain;
      evaporation = natural_most 20000 w.evaporation ready.evaporation;
    }

-- How a line of weather is read, and its text: the one is the other's, both ways, and what is asked are its own refusals.
pub record WeatherText
    (malformed : Refusal)
    (source : ℤ)
    (read : List ℕ → ℕ → ℕ → Option (WeatherNumbers × ℕ))
    (text : ℕ → ℤ → ℕ → ℕ → List ℕ)
    (own : Refusal → Bool)
    : Type 0 where
  pub reads :
      (s : List ℕ) (at number : ℕ) (temperature : ℤ) (rain evaporation next : ℕ)
      → read s at number ≡ Some (record { temperature = temperature; rain = rain; evaporation = evaporation }, next)
      → drop at s ≡ text number temperature rain evaporation ++ drop next s
  pub rounds :
      (s : List ℕ) (at number : ℕ) (temperature : ℤ) (rain evaporation : ℕ) (rest : List ℕ) → number < 10 ^ 10 → nat_abs temperature ≤ 500
      → rain ≤ 20000 → evaporation ≤ 20000 → drop at s ≡ text number temperature rain evaporation ++ rest
      → read s at number
      ≡ Some (record { temperature = temperature; rain = rain; evaporation = evaporation }, at + length (text number temperature rain evaporation))
  pub form : own malformed ≡ true
  pub asked : (temperature : ℤ) (rain evaporation : ℕ) → all_own own (weather_asked (weather_for source temperature rain evaporation)) ≡ true

module _
    {malformed : Refusal}
    {source : ℤ}
    {read : List ℕ → ℕ → ℕ → Option (WeatherNumbers × ℕ)}
    {text : ℕ → ℤ → ℕ → ℕ → List ℕ}
    {own : Refusal → Bool}
    (weather : WeatherText malformed source read text own)
  where
    -- A row's line.
    abbrev line_of : ℕ → Weather → List ℕ
    line_of number w = text number w.temperature (nat_abs w.rain) (nat_abs w.evaporation)

    weather_written_lem :
        (w : Weather) (s : List ℕ) (at number : ℕ) (rest : List ℕ) → number < 10 ^ 10 → SoundFrom source w
        → drop at s ≡ line_of number w ++ rest
        → weather_gives (as_weather malformed source (read s at number)) ≡ numbers (weather_numbers w) (at + length (line_of number w))
    weather_written_lem w s at number rest few sound e =
        let v = weather-values w sound.passes in
        rw (
          weather.rounds s at number w.temperature (nat_abs w.rain) (nat_abs w.evaporation) rest few v.temperature v.rain
              v.evaporation e,
          sound.of_line,
          sound.passes,
        )

    weather_by :
        (s : List ℕ) (at number : ℕ) (line : Option (WeatherNumbers × ℕ)) → read s at number ≡ line
        → LineIs line_of weather_numbers (SoundFrom source) own s at number (weather_gives (as_weather malformed source line))
    weather_by s at number (Some (n, next)) e =
        by_check (weather_check (weather_for source n.temperature n.rain n.evaporation)) refl
      where
        by_check : (check : Check) → weather_check (weather_for source n.temperature n.rain n.evaporation) ≡ check
            → LineIs line_of weather_numbers (SoundFrom source) own s at number
            (weather_gives (weather_passed check (weather_for source n.temperature n.rain n.evaporation) next))
        by_check (Ok _) pass =
            written (record { of_line = refl; passes = pass }) (weather.reads s at number n.temperature n.rain n.evaporation next e)
        by_check (Err r) h = other (finds_own own _ (weather.asked n.temperature n.rain n.evaporation) h)
    weather_by s at number None e = other weather.form

    pub weather-rows :
        Kind weather_width (λ s at number. weather_gives (as_weather malformed source (read s at number))) line_of weather_numbers
        (SoundFrom source) own
    weather-rows =
        record {
          back = weather_written_lem;
          only = λ s at number. weather_by s at number (read s at number) refl;
          wide = weather_of_length;
          same = weather-same;
        }
