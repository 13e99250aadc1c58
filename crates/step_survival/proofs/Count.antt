-- How many terms are summed: those before the first that is 0, so at most j where term j is 0, and the next one is 0 where
-- the limit was not reached. Since a term after 0 is 0, two terms tell the count: one that is not 0, and the next, which is.
-- Assumes nothing.
use mathlib.Core.Path.{◌≡◌, refl, sym, ◌∙◌, ap}
use mathlib.Core.Bool.{Bool, not, cond}
use mathlib.Core.List.{List, [], ◌∷◌}
use Prim.Native.Nat.{ℕ, zero, suc, ◌+◌, ◌-◌, ◌*◌, ◌/◌, ◌^◌, ◌≤◌, ◌<◌}
use native.Mathlib.Nat.{add-zero, zero-add, add-suc, suc-add, zero-mul, zero-div}
use native.Mathlib.Omega.{arith}
use borrow.Author.Tests.{eq-eqb, ne_eqb}
use lib.Dec.{eqb}
use lib.ListN.{length}
use Rattle.std.specs.List.{prefix_len}
use Rattle.step_survival.specs.Series.{term, terms_from, summed_terms, term_count}

-- none is summed from a term on that is 0, and one more where it is not 0
pub none_more : (most r k : ℕ) → term r k ≡ 0 → terms_from most r k ≡ []
unfolding terms_from
none_more zero r k e = refl
none_more (suc most) r k e = rw (eq-eqb (term r k) 0 e)

pub one_more : (most r k : ℕ) → (term r k ≡ 0 → ⊥) → length (terms_from (suc most) r k) ≡ suc (length (terms_from most r (suc k)))
unfolding terms_from
one_more most r k some = rw (ne_eqb (term r k) 0 some)

-- a number is 0 or not
zero_or : (n : ℕ) {A : Type 0} → (n ≡ 0 → A) → ((n ≡ 0 → ⊥) → A) → A
zero_or zero is not = is refl
zero_or (suc n) is not = not (λ e. omega arith)

-- at most j terms are summed from term k on, where j later is one that is 0
pub at_most : (most r k j : ℕ) → term r (k + j) ≡ 0 → length (terms_from most r k) ≤ j
unfolding terms_from
at_most zero r k j e = omega arith
at_most (suc most) r k zero e = rw (none_more (suc most) r k (rw (add-zero k) at e)) (omega arith)
at_most (suc most) r k (suc j) e =
    zero_or (term r k) (λ z. rw (none_more (suc most) r k z) (omega arith))
    (λ some.
    let later : length (terms_from most r (suc k)) ≤ j =
    at_most most r (suc k) j (ap (term r) (suc-add k j ∙ sym (add-suc k j)) ∙ e) in
    omega (arith, one_more most r k some, later))

-- where fewer are summed than the limit allows, the next one is 0
pub next_zero : (most r k : ℕ) → length (terms_from most r k) < most → term r (k + length (terms_from most r k)) ≡ 0
next_zero zero r k few = absurd (omega (arith, few))
next_zero (suc most) r k few =
    zero_or (term r k) (λ z. rw (none_more (suc most) r k z, add-zero k) z)
    (λ some.
    let n : ℕ = length (terms_from most r (suc k)) in
    let one : length (terms_from (suc most) r k) ≡ suc n = one_more most r k some in
    ap (λ l. term r (k + l)) one
    ∙ (ap (term r) (add-suc k n ∙ sym (suc-add k n)) ∙ next_zero most r (suc k) (omega (arith, one, few))))

-- a term after 0 is 0
zero_stays : (r k j : ℕ) → term r k ≡ 0 → term r (k + j) ≡ 0
unfolding term
zero_stays r k zero e = ap (term r) (add-zero k) ∙ e
zero_stays r k (suc j) e =
    ap (term r) (add-suc k j)
    ∙ (ap (λ t. t * r / (2 ^ 37 * suc (k + j))) (zero_stays r k j e) ∙ ap (λ t. t / (2 ^ 37 * suc (k + j))) (zero-mul r) ∙ zero-div _)

-- the count, by its last term and the next
pub ends_at : (r k : ℕ) → k < 40 → (term r k ≡ 0 → ⊥) → term r (suc k) ≡ 0 → term_count r ≡ suc k
unfolding term_count summed_terms
ends_at r k few some next =
    let n : ℕ = length (terms_from 40 r 0) in
    let most : n ≤ suc k = at_most 40 r 0 (suc k) (ap (term r) (zero-add (suc k)) ∙ next) in
    let least : n ≤ k → ⊥ =
    λ le.
    let there : term r n ≡ 0 = ap (term r) (sym (zero-add n)) ∙ next_zero 40 r 0 (omega (arith, le, few)) in
    let later : k ≡ n + (k - n) = omega (arith, le) in
    some (ap (term r) later ∙ zero_stays r n (k - n) there) in
    omega (arith, most, least)

-- ---- the code counts the terms after the first that stand before a 0

abbrev pub not_zero : ℕ → Bool
not_zero x = not (eqb x 0)

-- from a term on: it is counted where it is not 0, and then those that follow
front : (x : ℕ) (rest terms : List ℕ) → length terms ≡ prefix_len not_zero rest
    → length (cond (eqb x 0) [] (x ∷ terms)) ≡ prefix_len not_zero (x ∷ rest)
front x rest terms e = zero_or x (λ z. rw (eq-eqb x 0 z)) (λ some. rw (ne_eqb x 0 some) (omega (arith, e)))

pub counted_from :
    (most r k : ℕ) (rest : List ℕ) → length (terms_from most r (suc k)) ≡ prefix_len not_zero rest
    → length (terms_from (suc most) r k) ≡ prefix_len not_zero (term r k ∷ rest)
unfolding terms_from
counted_from most r k rest e = front (term r k) rest (terms_from most r (suc k)) e
