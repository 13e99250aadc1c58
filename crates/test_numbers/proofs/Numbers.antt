-- Numbers that are read one after another into a memory.
use Rattle.std.proofs.Common.{◌≡◌, ◌∙◌, sym, ap, ℕ, suc, ◌+◌, ◌-◌, ◌<◌, ◌≤◌, Bool, true, false, cond, eqb, leb, ◌⊎◌, List, [], ◌∷◌, ◌++◌, length}
use Rattle.std.proofs.Common.{take, drop, get_or, Some, None, refl, arith, append_assoc, append-nil, drop-drop, take-append-drop}
use Rattle.std.proofs.lemmas.Bool.Decides.{nat_tests}
use Rattle.std.proofs.lemmas.List.{take_more_set, drop-set-lt, set-get_or, take_all, drop_all, length-take-le}
use Rattle.std.proofs.Math.ListN.{set, length-set}
use Rattle.test_numbers.specs.Numbers.{Read, number_read, numbers_read, array_read, list_read, digits_read, is_read, begun_with}

-- Numbers that were read before others.
abbrev pub after : {X : Type 0} → List X → List X × List ℕ → List X × List ℕ
after front read = (front ++ read.0, read.1)

-- So many numbers are read into a memory: all that are read of the text are these, and those that
-- are read of what is left.
pub record IsReadSoFar {X : Type 0} (number : List ℕ → Read X) (old : List X) (text : List ℕ) (memory : List X) (i : ℕ) (left : List ℕ) : Type 0 where
  pub read : numbers_read number (length old) text ≡ after (take i memory) (numbers_read number (length old - i) left)
  pub rest : drop i memory ≡ drop i old
  pub same_length : length memory ≡ length old

-- One more, which is put after those.
one_read : {X : Type 0} (number : List ℕ → Read X) (k n : ℕ) (x : X) (left later : List ℕ)
    → n ≡ suc k → (Some x, later) ≡ number_read number left
    → numbers_read number n left ≡ after (x ∷ []) (numbers_read number k later)
unfolding numbers_read
one_read number k n x left later e read = rw (e, ← read) refl

pub more_read : {X : Type 0} (number : List ℕ → Read X) (old : List X) (text : List ℕ) (memory : List X) (i : ℕ) (left later : List ℕ) (x : X)
    → IsReadSoFar number old text memory i left → i < length old
    → (Some x, later) ≡ number_read number left
    → IsReadSoFar number old text (set memory i x) (i + 1) later
more_read number old text memory i left later x so_far below read =
    record {
      read = so_far.read
          ∙ rw (
            one_read number (length old - (i + 1)) (length old - i) x left later (omega arith) read,
            take_more_set memory i x (omega (arith, so_far.same_length)),
            append_assoc,
          );
      rest = drop-set-lt (i + 1) memory i x (omega arith)
          ∙ sym (drop-drop 1 i memory) ∙ ap (drop 1) so_far.rest ∙ drop-drop 1 i old;
      same_length = length-set memory i x ∙ so_far.same_length;
    }

-- One that departs from the form ends it.
none_more : {X : Type 0} (number : List ℕ → Read X) (k n : ℕ) (left later : List ℕ)
    → n ≡ suc k → (None, later) ≡ number_read number left
    → numbers_read number n left ≡ ([], later)
unfolding numbers_read
none_more number k n left later e read = rw (e, ← read) refl

ended : {X : Type 0} (number : List ℕ → Read X) (old : List X) (text : List ℕ) (memory : List X) (i : ℕ) (left later : List ℕ)
    → IsReadSoFar number old text memory i left → i < length old
    → (None, later) ≡ number_read number left
    → numbers_read number (length old) text ≡ (take i memory, later)
ended number old text memory i left later so_far below read =
    so_far.read
    ∙ rw (
      none_more number (length old - (i + 1)) (length old - i) left later (omega arith) read,
      append-nil,
    )

too_few : {X : Type 0} (n i : ℕ) (xs : List X) → i < n → length xs ≡ i
    → None ≡ cond (eqb (length xs) n) (Some xs) None
too_few n i xs below e = grind (arith, nat_tests)

pub ended_read : {X : Type 0} (number : List ℕ → Read X) (old : List X) (text : List ℕ) (memory : List X) (i : ℕ) (left later : List ℕ)
    → IsReadSoFar number old text memory i left → i < length old
    → (None, later) ≡ number_read number left
    → (None, later) ≡ is_read (array_read number (length old) text)
unfolding array_read
ended_read number old text memory i left later so_far below read =
    rw (
      ended number old text memory i left later so_far below read,
      ← too_few (length old) i (take i memory) below
          (length-take-le i memory (omega (arith, so_far.same_length))),
    )

pub ended_memory : {X : Type 0} (number : List ℕ → Read X) (old : List X) (text : List ℕ) (memory : List X) (i : ℕ) (left later : List ℕ) (x : X)
    → IsReadSoFar number old text memory i left → i < length old
    → (None, later) ≡ number_read number left
    → set memory i (get_or memory i x) ≡ begun_with old (numbers_read number (length old) text).0
ended_memory number old text memory i left later x so_far below read =
    rw (
      set-get_or memory i x,
      ended number old text memory i left later so_far below read,
      length-take-le i memory (omega (arith, so_far.same_length)),
      ← so_far.rest,
      take-append-drop i memory,
    )

-- All are read.
all_read : {X : Type 0} (number : List ℕ → Read X) (old : List X) (text : List ℕ) (memory : List X) (i : ℕ) (left : List ℕ)
    → IsReadSoFar number old text memory i left → length old ≤ i
    → numbers_read number (length old) text ≡ (memory, left)
unfolding numbers_read
all_read number old text memory i left so_far done =
    let none : length old - i ≡ 0 = omega (arith, so_far.same_length) in
    so_far.read ∙ rw (none, take_all i memory (omega (arith, so_far.same_length)), append-nil)

enough : {X : Type 0} (n : ℕ) (xs : List X) → length xs ≡ n
    → Some xs ≡ cond (eqb (length xs) n) (Some xs) None
enough n xs e = grind (arith, nat_tests)

pub all_read_is : {X : Type 0} (number : List ℕ → Read X) (old : List X) (text : List ℕ) (memory : List X) (i : ℕ) (left : List ℕ)
    → IsReadSoFar number old text memory i left → length old ≤ i
    → (Some tt, left) ≡ is_read (array_read number (length old) text)
unfolding array_read
all_read_is number old text memory i left so_far done =
    rw (
      all_read number old text memory i left so_far done,
      ← enough (length old) memory so_far.same_length,
    )

pub all_read_memory : {X : Type 0} (number : List ℕ → Read X) (old : List X) (text : List ℕ) (memory : List X) (i : ℕ) (left : List ℕ)
    → IsReadSoFar number old text memory i left → length old ≤ i
    → memory ≡ begun_with old (numbers_read number (length old) text).0
all_read_memory number old text memory i left so_far done =
    rw (
      all_read number old text memory i left so_far done,
      drop_all (length memory) old (omega (arith, so_far.same_length)),
      append-nil,
    )

-- ---- an array and a list

array_of : {X : Type 0} (b : Bool) (n : ℕ) (old memory numbers : List X) (left rest : List ℕ)
    → eqb (length numbers) n ≡ b → length old ≡ n
    → (Some tt, left) ≡ is_read (cond b (Some numbers) None, rest)
    → memory ≡ begun_with old numbers
    → ◌≡◌ {A = Read (List X)} (Some memory, left) (cond b (Some numbers) None, rest)
array_of true n old memory numbers left rest all same read put =
    let e : length numbers ≡ n = grind (arith, nat_tests) in
    rw (put, drop_all (length numbers) old (omega arith), append-nil, ap (λ p. p.1) read)
array_of false n old memory numbers left rest all same read put =
    let e = ap (λ p. p.0) read in absurd cc

pub array_is : {X : Type 0} (number : List ℕ → Read X) (n : ℕ) (old : List X) (text : List ℕ) (memory : List X) (left : List ℕ)
    → length old ≡ n → (Some tt, left) ≡ is_read (array_read number (length old) text)
    → memory ≡ begun_with old (numbers_read number (length old) text).0
    → (Some memory, left) ≡ array_read number n text
unfolding array_read
array_is number n old text memory left same read put =
    array_of _ n old memory _ left _ refl same (rw same at read) (rw same at put)

none_of : {X : Type 0} (read : Read X) (left : List ℕ) → (None, left) ≡ is_read read → (None, left) ≡ read
none_of (Some x, rest) left e = let k = ap (λ p. p.0) e in absurd cc
none_of (None, rest) left e = let k = ap (λ p. p.1) e in rw k

no_array : {X : Type 0} (number : List ℕ → Read X) (n : ℕ) (old : List X) (text : List ℕ) (left : List ℕ)
    → length old ≡ n → (None, left) ≡ is_read (array_read number (length old) text)
    → (None, left) ≡ array_read number n text
no_array number n old text left same read = none_of _ left (rw same at read)

-- A count that departs from the form.
pub no_count : {X : Type 0} (number : List ℕ → Read X) (room : ℕ) (text left : List ℕ)
    → (None, left) ≡ number_read digits_read text
    → ◌≡◌ {A = Read (List X)} (None, left) (list_read number room text)
unfolding list_read
no_count number room text left e = rw (← e)

-- One that there is no room for, ..
pub no_room : {X : Type 0} (number : List ℕ → Read X) (room count : ℕ) (text left : List ℕ)
    → (Some count, left) ≡ number_read digits_read text → (count < 0) ⊎ (room < count)
    → ◌≡◌ {A = Read (List X)} (None, left) (list_read number room text)
unfolding list_read
no_room number room count text left e over =
    let more : leb count room ≡ false = grind (arith, nat_tests) in
    rw (← e, more)

-- .. and one that there is room for.
listed : {X : Type 0} (number : List ℕ → Read X) (room count : ℕ) (text left : List ℕ)
    → (Some count, left) ≡ number_read digits_read text → count ≤ room
    → list_read number room text ≡ array_read number count left
unfolding list_read
listed number room count text left e fits =
    let few : leb count room ≡ true = grind (arith, nat_tests) in
    rw (← e, few)

pub no_list : {X : Type 0} (number : List ℕ → Read X) (room count : ℕ) (text left later : List ℕ) (old : List X)
    → (Some count, left) ≡ number_read digits_read text → count ≤ room → length old + 0 ≡ count
    → (None, later) ≡ is_read (array_read number (length old) left)
    → ◌≡◌ {A = Read (List X)} (None, later) (list_read number room text)
no_list number room count text left later old e fits same read =
    no_array number count old left later (omega arith) read
    ∙ sym (listed number room count text left e fits)

pub list_is : {X : Type 0} (number : List ℕ → Read X) (room count : ℕ) (text left later : List ℕ) (old memory : List X)
    → (Some count, left) ≡ number_read digits_read text → count ≤ room → length old + 0 ≡ count
    → (Some tt, later) ≡ is_read (array_read number (length old) left)
    → memory ≡ begun_with old (numbers_read number (length old) left).0
    → (Some memory, later) ≡ list_read number room text
list_is number room count text left later old memory e fits same read put =
    array_is number count old left memory later (omega arith) read put
    ∙ sym (listed number room count text left e fits)
