-- Laws of the layouts. Numbers put from a place on are there, and everything else stays; what was put is read back; a field's state and
-- its numbers are one another's, so that a refusal that gives back the state leaves its numbers as they were.
-- Assumes nothing.
use mathlib.Core.Path.{◌≡◌, refl, sym, ◌∙◌, ap, ap₂, subst}
use mathlib.Core.List.{List, [], ◌∷◌, ◌++◌, append_assoc, append-nil}
use Prim.Native.Nat.{ℕ, zero, suc, ◌+◌, ◌-◌, ◌*◌, ◌≤◌, ◌<◌}
use native.Mathlib.Nat.{add_assoc, add-zero, zero-add}
use native.Mathlib.Omega.{arith}
use lib.Dec.{lit<}
use lib.ListN.{length, get_or, set, take, drop, take-append-drop, length-append, length-drop, drop_of_length-le, get_or-append}
use lib.Seq.{take_all, drop-cons, drop-drop, get_or-append-add, get_or-drop, get_or-set_other, length-take-le, take_at, drop_at, sets, sets-eq}
use borrow.Rule.Slice.PartMut.{put_mid}
use Rattle.number_units.specs.declared.Grams.{Grams}
use Rattle.step_pools.specs.Pools.{grams}
use Rattle.month_state.specs.declared.State.{State}
use Rattle.month_state.specs.State.{with_kept}
use Rattle.month_layouts.specs.Layouts.{kept_width, state_width, pools_from, soil_from, state_from, state_of, kept_numbers, state_numbers}
use Rattle.month_layouts.specs.Layouts.{field_width, memory_of, field_numbers}

-- ---- numbers of any kind, put from a place on

module _ {A : Type 0} where
  -- One that was put is there, ..
  pub put_there :
      (l : List A) (place : ℕ) (values : List A) (c : ℕ) (d : A) → c < length values → place + length values ≤ length l
      → get_or (sets l place values) (place + c) d ≡ get_or values c d
  put_there l place values c d h room =
      let before = take place l in
      let rest = drop (place + length values) l in
      ap (λ (all : List A). get_or all (place + c) d) (sets-eq values l place room ∙ append_assoc before values rest)
      ∙ subst
      (λ (n : ℕ). get_or (before ++ (values ++ rest)) (n + c) d ≡ get_or values c d)
      (length-take-le place l (omega arith))
      (get_or-append-add before (values ++ rest) c d ∙ get_or-append values rest d c h)

  -- .. and one elsewhere stays, also where there is no room: a store past the end changes nothing.
  pub put_elsewhere :
      (l : List A) (place : ℕ) (values : List A) (k : ℕ) (d : A)
      → ((c : ℕ) → c < length values → k ≡ place + c → ⊥)
      → get_or (sets l place values) k d ≡ get_or l k d
  put_elsewhere l place [] k d off = refl
  put_elsewhere l place (v ∷ values) k d off =
      put_elsewhere (set l place v) (suc place) values k d (λ c h e. off (suc c) (omega arith) (omega arith))
      ∙ get_or-set_other l place k v d (λ e. off 0 (omega arith) (omega arith))

  -- Put at the start of the part of a list from a place on, they are put from there on.
  pub part_put :
      (l : List A) (place : ℕ) (values : List A) → place + length values ≤ length l
      → put_mid place (length l - place) l (sets (take (length l - place) (drop place l)) 0 values) ≡ sets l place values
  part_put l place values room =
      let rest = drop place l in
      let size : length rest ≡ length l - place = length-drop place l in
      let whole_part : take (length l - place) rest ≡ rest = take_all (length l - place) rest (omega arith) in
      let put : sets rest 0 values ≡ values ++ drop (length values) rest =
      sets-eq values rest 0 (omega arith) ∙ ap (λ (n : ℕ). values ++ drop n rest) (zero-add (length values)) in
      ap (λ (part : List A). put_mid place (length l - place) l (sets part 0 values)) whole_part
      ∙ ap (λ (part : List A). put_mid place (length l - place) l part) put
      ∙ ap (λ (after : List A). take place l ++ ((values ++ drop (length values) rest) ++ after))
      (drop_of_length-le rest {i = length l - place} (omega arith))
      ∙ ap (λ (part : List A). take place l ++ part) (append-nil (values ++ drop (length values) rest))
      ∙ ap (λ (after : List A). take place l ++ (values ++ after)) (drop-drop (length values) place l)
      ∙ sym (append_assoc (take place l) values (drop (place + length values) l))
      ∙ sym (sets-eq values l place room)

  -- Put in place of a part of their length, they are put from where it begins.
  pub part_written :
      (l : List A) (place n : ℕ) (values : List A) → n ≡ length values → place + length values ≤ length l
      → put_mid place n l values ≡ sets l place values
  part_written l place n values long room =
      ap (λ (k : ℕ). take place l ++ (values ++ drop k (drop place l))) long
      ∙ ap (λ (after : List A). take place l ++ (values ++ after)) (drop-drop (length values) place l)
      ∙ sym (append_assoc (take place l) values (drop (place + length values) l))
      ∙ sym (sets-eq values l place room)

  -- As many as there is memory are all that it has.
  pub stored : (l values : List A) → length l ≡ length values → sets l 0 values ≡ values
  stored l values h =
      sets-eq values l 0 (omega arith)
      ∙ ap (λ (rest : List A). values ++ rest) (drop_of_length-le l {i = 0 + length values} (omega arith))
      ∙ append-nil values

  -- Row i of a width: the rows up to it are those before it and its own, ..
  module _ (width : ℕ) (numbers : List A) (i : ℕ) (values : List A) (long : length values ≡ width) (room : width * i + width ≤ length numbers) where
    abbrev to_row : List A
    to_row = take (width * i) numbers ++ values

    parts : sets numbers (width * i) values ≡ to_row ++ drop (width * i + width) numbers
    parts =
        sets-eq values numbers (width * i) (omega arith) ∙ ap (λ (n : ℕ). to_row ++ drop (width * i + n) numbers) long

    to_length : length to_row ≡ width * suc i
    to_length = simp (length-append, length-take-le (width * i) numbers (omega arith)) (omega arith)

    pub put_taken : take (width * suc i) (sets numbers (width * i) values) ≡ to_row
    put_taken = rw parts (take_at to_row (drop (width * i + width) numbers) (width * suc i) to_length)

    -- .. and those after it stay.
    pub put_dropped : drop (width * suc i) (sets numbers (width * i) values) ≡ drop (width * i + width) numbers
    put_dropped = rw parts (drop_at to_row (drop (width * i + width) numbers) (width * suc i) to_length)

  -- ---- numbers of any kind, read one by one

  -- A list, spelled out by its elements from index i on.
  abbrev spelled : A → List A → ℕ → ℕ → List A
  spelled d l i zero = []
  spelled d l i (suc n) = get_or l i d ∷ spelled d l (suc i) n

  -- So many of its first elements, ..
  spelled_take : (d : A) (l : List A) (i n : ℕ) → i + n ≤ length l → spelled d l i n ≡ take n (drop i l)
  spelled_take d l i zero h = refl
  spelled_take d l i (suc n) h =
      ap (◌∷◌ (get_or l i d)) (spelled_take d l (suc i) n (omega arith)) ∙ sym (ap (take (suc n)) (drop-cons l i d (omega arith)))

  pub first_elements : (d : A) (l : List A) (n : ℕ) → n ≤ length l → spelled d l 0 n ≡ take n l
  first_elements d l n h = spelled_take d l 0 n (omega arith)

  -- .. and as many as it has are the whole list.
  pub whole : (d : A) (l : List A) (n : ℕ) → length l ≡ n → spelled d l 0 n ≡ l
  whole d l n h = first_elements d l n (omega arith) ∙ take_all n l (omega arith)

  -- What `numbers_at` reads from a place on, spelled out; and four of them, a row of weather or land.
  pub read_there : (d : A) (l : List A) (place n : ℕ) {r : List A} → place + n ≤ length l → r ≡ take n (drop place l) → r ≡ spelled d l place n
  read_there d l place n room h = h ∙ sym (spelled_take d l place n room)

  pub four_there :
      (d : A) (l : List A) (place : ℕ) {r : List A} → place + 4 ≤ length l → r ≡ take 4 (drop place l)
      → r ≡ get_or l place d ∷ get_or l (place + 1) d ∷ get_or l (place + 2) d ∷ get_or l (place + 3) d ∷ []
  four_there d l place room h =
      let one : suc place ≡ place + 1 = omega arith in
      let two : suc (suc place) ≡ place + 2 = omega arith in
      let three : suc (suc (suc place)) ≡ place + 3 = omega arith in
      read_there d l place 4 room h ∙ rw (three, two, one)

-- ---- states

-- How many numbers a kept state and the current one have.
pub kept_of_length : (s : State) → length (kept_numbers s) ≡ kept_width
unfolding kept_numbers
kept_of_length s = refl

pub state_of_length : (s : State) → length (state_numbers s) ≡ state_width
unfolding state_numbers kept_numbers
state_of_length s = refl

-- A state by its fifteen numbers.
abbrev by_numbers : (ℕ → ℕ) → ℕ → State
by_numbers number kept =
    record {
      soil =
          record {
            clay = number 0;
            depth = number 1;
            kind = number 2;
            pools = grams (number 3) ∷ grams (number 4) ∷ grams (number 5) ∷ grams (number 6) ∷ [];
            iom = grams (number 7);
          };
      deficit = record { 0 = number 8 };
      months = number 9;
      co2 = grams (number 10);
      modern = grams (number 11) ∷ grams (number 12) ∷ grams (number 13) ∷ grams (number 14) ∷ [];
      kept = kept;
    }

-- Fifteen equal numbers are one state.
module _ (f g : ℕ → ℕ) (same : (c : ℕ) → c < kept_width → f c ≡ g c) (kept : ℕ) where
  same_numbers : by_numbers f kept ≡ by_numbers g kept
  same_numbers = λ i. record {
    soil =
        record {
          clay = same 0 (lit< tt) i;
          depth = same 1 (lit< tt) i;
          kind = same 2 (lit< tt) i;
          pools =
              grams (same 3 (lit< tt) i) ∷ grams (same 4 (lit< tt) i) ∷ grams (same 5 (lit< tt) i)
              ∷ grams (same 6 (lit< tt) i) ∷ [];
          iom = grams (same 7 (lit< tt) i);
        };
    deficit = record { 0 = same 8 (lit< tt) i };
    months = same 9 (lit< tt) i;
    co2 = grams (same 10 (lit< tt) i);
    modern =
        grams (same 11 (lit< tt) i) ∷ grams (same 12 (lit< tt) i) ∷ grams (same 13 (lit< tt) i)
        ∷ grams (same 14 (lit< tt) i) ∷ [];
    kept = kept;
  }

-- Four pools from k past a place on, by their numbers.
pools_by :
    (numbers : List ℕ) (place k : ℕ)
    → pools_from numbers (place + k)
    ≡ grams (get_or numbers (place + k) 0) ∷ grams (get_or numbers (place + (k + 1)) 0)
    ∷ grams (get_or numbers (place + (k + 2)) 0) ∷ grams (get_or numbers (place + (k + 3)) 0) ∷ []
unfolding pools_from
pools_by numbers place k = rw (add_assoc place k 1, add_assoc place k 2, add_assoc place k 3)

-- What is read from a place on, by its numbers.
read_by : (numbers : List ℕ) (place kept : ℕ) → state_from numbers place kept ≡ by_numbers (λ c. get_or numbers (place + c) 0) kept
unfolding state_from soil_from
read_by numbers place kept = rw (add-zero place, pools_by numbers place 3, pools_by numbers place 11)

-- A state has four pools and the modern grams of four, as its type in the code says.
pub record Four (s : State) : Type 0 where
  pub pools : length s.soil.pools ≡ 4
  pub modern : length s.modern ≡ 4

-- Such a state, by the numbers that are kept of it.
kept_by : (s : State) (kept : ℕ) → Four s → by_numbers (λ c. get_or (kept_numbers s) c 0) kept ≡ with_kept kept s
unfolding kept_numbers
kept_by s kept h =
    ap₂
    (λ (pools modern : List Grams).
    record {
      soil =
          record { clay = s.soil.clay; depth = s.soil.depth; kind = s.soil.kind; pools = pools; iom = s.soil.iom };
      deficit = s.deficit;
      months = s.months;
      co2 = s.co2;
      modern = modern;
      kept = kept;
    })
    (whole (grams 0) s.soil.pools 4 h.pools) (whole (grams 0) s.modern 4 h.modern)

-- It is read so from the part that begins there.
pub part_read : (numbers : List ℕ) (place kept : ℕ)
    → state_from (take (length numbers - place) (drop place numbers)) 0 kept ≡ state_from numbers place kept
part_read numbers place kept =
    ap (λ (part : List ℕ). state_from part 0 kept) (take_all (length numbers - place) (drop place numbers) (omega (arith, length-drop place numbers)))
    ∙ read_by (drop place numbers) 0 kept
    ∙ same_numbers _ (λ c. get_or numbers (place + c) 0)
    (λ c h. ap (λ (i : ℕ). get_or (drop place numbers) i 0) (zero-add c) ∙ get_or-drop place numbers c 0)
    kept
    ∙ sym (read_by numbers place kept)

module _ (memory : List ℕ) (place : ℕ) (s : State) where
  -- A state that was put is read back, whatever is kept beside it, ..
  pub put_back :
      (kept : ℕ) → Four s → place + kept_width ≤ length memory
      → state_from (sets memory place (kept_numbers s)) place kept ≡ with_kept kept s
  put_back kept four room =
      read_by (sets memory place (kept_numbers s)) place kept
      ∙ same_numbers _ (λ c. get_or (kept_numbers s) c 0)
      (λ c h. put_there memory place (kept_numbers s) c 0 (omega (arith, kept_of_length s)) (omega (arith, kept_of_length s)))
      kept
      ∙ kept_by s kept four

  -- .. and one that lies elsewhere is read as before.
  pub put_apart :
      (other kept : ℕ) → ((c d : ℕ) → c < kept_width → d < kept_width → other + c ≡ place + d → ⊥)
      → state_from (sets memory place (kept_numbers s)) other kept ≡ state_from memory other kept
  put_apart other kept apart =
      read_by (sets memory place (kept_numbers s)) other kept
      ∙ same_numbers _ (λ c. get_or memory (other + c) 0)
      (λ c h. put_elsewhere memory place (kept_numbers s) (other + c) 0 (λ d below e. apart c d h (omega (arith, kept_of_length s)) e))
      kept
      ∙ sym (read_by memory other kept)

-- ---- a field: the current state's numbers, and the memory of the kept ones

-- Numbers read as the current state are that state's numbers.
numbers_read : (numbers : List ℕ) → state_width ≤ length numbers → state_numbers (state_of numbers) ≡ take state_width numbers
unfolding state_numbers kept_numbers state_of state_from soil_from pools_from
numbers_read numbers h = first_elements 0 numbers state_width h

-- A field's state and its memory are read back.
pub field-state : (s : State) (memory : List ℕ) → Four s → state_of (field_numbers s memory) ≡ s
unfolding state_numbers kept_numbers state_of state_from soil_from pools_from
field-state s memory h = kept_by s s.kept h

pub field-memory : (s : State) (memory : List ℕ) → memory_of (field_numbers s memory) ≡ memory
unfolding state_numbers kept_numbers
field-memory s memory = refl

module _ (field : List ℕ) (all : length field ≡ field_width) where
  -- A state put in a field leaves the kept ones, ..
  pub field_put : (s : State) → sets field 0 (state_numbers s) ≡ field_numbers s (memory_of field)
  field_put s =
      sets-eq (state_numbers s) field 0 (omega (arith, state_of_length s))
      ∙ ap (λ (n : ℕ). state_numbers s ++ drop n field) (zero-add _ ∙ state_of_length s)

  -- .. and put back as it was it leaves all as it was.
  pub field-same : field_numbers (state_of field) (memory_of field) ≡ field
  field-same =
      ap (λ (l : List ℕ). l ++ memory_of field) (numbers_read field (omega arith)) ∙ take-append-drop state_width field
