-- ROUND TRIP: a well-formed book is read as exactly its numbers, and is run as step 7's list of them. So two well-formed books with
-- the same text are the same numbers.
-- Assumes nothing.
use Rattle.std.specs.Prelude.{Option, Some, Ok}
use Rattle.std.specs.Option.{unwrap_or}
use mathlib.Core.Path.{◌≡◌, refl, sym, ◌∙◌, ap}
use mathlib.Core.List.{List, flat_map, append-nil}
use Prim.Native.Nat.{ℕ, ◌+◌, ◌^◌, ◌≤◌, ◌<◌}
use native.Mathlib.Omega.{arith}
use borrow.Author.Tests.{le-ltb, eq-eqb}
use lib.ListN.{length, length-append}
use Rattle.book_lines.specs.Lines.{head_line, soil_line}
use Rattle.book_lines.specs.LineText.{head_text, soil_text}
use Rattle.book_values.proofs.Texts.{after}
use Rattle.book_lines.proofs.Laws.{head_round, soil_round}
use Rattle.book_rows.specs.Rows.{read_weather, read_land}
use Rattle.book_run.specs.Book.{soil_name, weather_name, land_name, ending, land_section, land_head}
use Rattle.book_run.specs.Book.{weather_section, weather_head, soil_section, book_of}
use Rattle.book_run.proofs.Laws.{count-passes}
use Rattle.book_laws.specs.BookText.{BookNumbers, weather_line_of, land_line_of, book_text, WellFormed, weather_list, land_list, of_list, list_of}
use Rattle.book_rows.proofs.RowKinds.{rows_same}
use Rattle.book_laws.proofs.Rows.{plain_back, weather-kind, land-kind}
use Rattle.book_laws.proofs.Size.{soil-below, text-size}

-- What is read of a text, line after line: these numbers, and nothing follows them.
record Reads (s : List ℕ) (b : BookNumbers) : Type 0 where
  from_soil : ℕ
  from_weather_head : ℕ
  from_weather : ℕ
  from_land_head : ℕ
  from_land : ℕ
  soil_head : head_line s 0 soil_name ≡ Some (1, from_soil)
  soil : soil_line s from_soil ≡ Some (b.soil, from_weather_head)
  weather_head_lem : head_line s from_weather_head weather_name ≡ Some ((length b.weather), from_weather)
  weather :
      ((read_weather (length b.weather) s from_weather 4).numbers ≡ weather_list b)
      × ((read_weather (length b.weather) s from_weather 4).ends ≡ Ok from_land_head)
  land_head_lem : head_line s from_land_head land_name ≡ Some ((length b.land), from_land)
  land :
      ((read_land (length b.land) s from_land (length b.weather + 4 + 1)).numbers ≡ land_list b)
      × ((read_land (length b.land) s from_land (length b.weather + 4 + 1)).ends ≡ Ok (length s))

reads : (b : BookNumbers) → WellFormed b → Reads (book_text b) b
unfolding book_text read_weather read_land
reads b good =
    let s = book_text b in
    let soil_head = head_text soil_name 1 in
    let soil = soil_text b.soil in
    let weather_head_lem = head_text weather_name (length b.weather) in
    let weather = flat_map weather_line_of b.weather in
    let land_head_lem = head_text land_name (length b.land) in
    let land = flat_map land_line_of b.land in
    let end : 0 + length soil_head + length soil + length weather_head_lem + length weather + length land_head_lem + length land ≡ length s =
    simp length-append (omega arith) in
    let one : 1 < 10 ^ 10 = omega arith in
    let weather_few : length b.weather < 10 ^ 10 = omega (arith, good.weather_count) in
    let land_few : length b.land < 10 ^ 10 = omega (arith, good.land_count) in
    let land-lines : length b.weather + 4 + 1 + length b.land ≤ 10 ^ 10 = omega (arith, good.weather_count, good.land_count) in
    let weather-lines : 4 + length b.weather ≤ 10 ^ 10 = omega (arith, good.weather_count) in
    let at-soil = after s 0 soil_head _ refl in
    let at-weather-head = after s _ soil _ at-soil in
    let at-weather = after s _ weather_head_lem _ at-weather-head in
    let at-land-head = after s _ weather _ at-weather in
    let at-land = after s _ land_head_lem land at-land-head in
    let land_read = plain_back land-kind s _ (length b.weather + 4 + 1) _ land-lines good.land (at-land ∙ sym (append-nil land)) in
    record {
      from_soil = _;
      from_weather_head = _;
      from_weather = _;
      from_land_head = _;
      from_land = _;
      soil_head = head_round soil_name 1 s 0 _ one refl;
      soil = soil_round b.soil s _ _ (soil-below b good) at-soil;
      weather_head_lem = head_round weather_name (length b.weather) s _ _ weather_few at-weather-head;
      weather = plain_back weather-kind s _ 4 _ weather-lines good.weather at-weather;
      land_head_lem = head_round land_name (length b.land) s _ land land_few at-land-head;
      land = (land_read.0, land_read.1 ∙ ap Ok end);
    }

-- ---- the same numbers

-- A line is read as one value with one place after it.
one_reading :
    {A : Type 0} {line : Option (A × ℕ)} {x y : A} {n m : ℕ} → line ≡ Some (x, n) → line ≡ Some (y, m) → (x ≡ y) × (n ≡ m)
one_reading {A} {x} {n} h k =
    let is = ap (λ (l : Option (A × ℕ)). unwrap_or l (x, n)) (sym h ∙ k) in
    (ap (λ (p : A × ℕ). p.0) is, ap (λ (p : A × ℕ). p.1) is)

same : (s : List ℕ) (b b' : BookNumbers) → Reads s b → Reads s b' → b ≡ b'
same s b b' r r' =
    let first = one_reading r.soil_head r'.soil_head in
    let second = one_reading r.soil (ap (soil_line s) first.1 ∙ r'.soil) in
    let third = one_reading r.weather_head_lem (ap (λ (n : ℕ). head_line s n weather_name) second.1 ∙ r'.weather_head_lem) in
    let soil : b.soil ≡ b'.soil = second.0 in
    let weather_count : length b.weather ≡ length b'.weather = third.0 in
    let from_weather : r.from_weather ≡ r'.from_weather = third.1 in
    let weather : weather_list b ≡ weather_list b' = cc in
    let from_land_head : r.from_land_head ≡ r'.from_land_head = cc in
    let last = one_reading r.land_head_lem (ap (λ (n : ℕ). head_line s n land_name) from_land_head ∙ r'.land_head_lem) in
    let land_count : length b.land ≡ length b'.land = last.0 in
    let from_land : r.from_land ≡ r'.from_land = last.1 in
    let land : land_list b ≡ land_list b' = cc in
    let weather-rows = rows_same weather-kind b.weather b'.weather weather_count weather in
    let land-rows = rows_same land-kind b.land b'.land land_count land in
    λ k. record { soil = soil k; weather = weather-rows k; land = land-rows k }

pub text_injective : (b b' : BookNumbers) → WellFormed b → WellFormed b' → book_text b ≡ book_text b' → b ≡ b'
text_injective b b' good good' e = same (book_text b') b b' (rw e at (reads b good)) (reads b' good')

-- ---- the list of months

-- A well-formed book leaves what step 7's list of its numbers leaves: the answer, and every row.
runs : (s : List ℕ) (b : BookNumbers) (rows : List ℕ) → WellFormed b → length s ≤ 65536 → Reads s b → book_of s rows ≡ list_of b rows
unfolding book_of soil_section weather_head weather_section land_head land_section ending list_of of_list
runs s b rows good short r =
    rw (
      le-ltb 65536 (length s) short,
      r.soil_head,
      r.soil,
      good.soil,
      r.weather_head_lem,
      count-passes (length b.weather) good.weather_count,
      r.weather.0,
      r.weather.1,
      r.land_head_lem,
      count-passes (length b.land) good.land_count,
      r.land.0,
      r.land.1,
      eq-eqb (length s) (length s) refl,
    )

pub round_trip : (b : BookNumbers) (rows : List ℕ) → WellFormed b → book_of (book_text b) rows ≡ list_of b rows
round_trip b rows good = runs (book_text b) b rows good (omega (arith, text-size b good)) (reads b good)
