-- What `first_clear_row` finds: the lowest row that is not set; and there is one where fewer rows are set than there are.
use Prim.Native.Nat.{ℕ, zero, suc, ◌+◌, ◌<◌, ◌≤◌}
use mathlib.Core.Path.{◌≡◌, refl, ◌∙◌}
use mathlib.Core.Bool.{Bool, true, false, cond}
use mathlib.Core.List.{List}
use native.Mathlib.Decide.{dec_lt, ℕ_discrete}
use native.Mathlib.Omega.{arith}
use Rattle.row_field.specs.Meaning.{bit, count, first_clear_row}
use Rattle.row_field.proofs.Counts.{tally, rows-tally, count-full}

-- r is the first of the k rows from a on that is not set in f, and the row behind them where all are set
pub record Lowest (f : List ℕ) (a k r : ℕ) : Type 0 where
  pub least : a ≤ r
  pub most : r ≤ a + k
  pub lower : (q : ℕ) → a ≤ q → q < r → bit f q ≡ true
  pub clear : r < a + k → bit f r ≡ false

lower_go : (f : List ℕ) (a r : ℕ) → bit f a ≡ true → ((q : ℕ) → a + 1 ≤ q → q < r → bit f q ≡ true) → (q : ℕ) → a ≤ q → q < r → Dec (q ≡ a) → bit f q ≡ true
lower_go f a r e i q h l (yes s) = rw s e
lower_go f a r e i q h l (no s) = i q (omega arith) l

pub first_clear_lowest : (f : List ℕ) (a k : ℕ) → Lowest f a k (first_clear_row f a k)
unfolding first_clear_row
first_clear_lowest f a zero = record { least = omega arith; most = omega arith; lower = λ q h l. absurd (omega arith); clear = λ l. absurd (omega arith) }
first_clear_lowest f a (suc k) = go (bit f a) refl (first_clear_lowest f (a + 1) k)
  where
    go : (b : Bool) → bit f a ≡ b → Lowest f (a + 1) k (first_clear_row f (a + 1) k) → Lowest f a (suc k) (cond b (first_clear_row f (a + 1) k) a)
    go true e i =
        record {
          least = omega (arith, i.least);
          most = omega (arith, i.most);
          lower = λ q h l. lower_go f a (first_clear_row f (a + 1) k) e i.lower q h l (ℕ_discrete q a);
          clear = λ l. i.clear (omega arith);
        }
    go false e i = record { least = omega arith; most = omega arith; lower = λ q h l. absurd (omega arith); clear = λ l. e }

-- there is one such row
not_higher : (f : List ℕ) (a k r q : ℕ) → Lowest f a k r → Lowest f a k q → r < q → ⊥
not_higher f a k r q x y h =
    let l : r < a + k = omega (arith, y.most) in
    let z : ◌≡◌ {A = ℕ} 0 1 = cc (x.clear l, y.lower r x.least h) in
    omega arith

pub one_lowest : (f : List ℕ) (a k r q : ℕ) → Lowest f a k r → Lowest f a k q → r ≡ q
one_lowest f a k r q x y = go (dec_lt r q) (dec_lt q r)
  where
    go : Dec (r < q) → Dec (q < r) → r ≡ q
    go (yes h) d = absurd (not_higher f a k r q x y h)
    go (no h) (yes l) = absurd (not_higher f a k q r y x l)
    go (no h) (no l) = omega arith

-- ---- below n, where not all rows are set

tally-all : (p : ℕ → Bool) (a k : ℕ) → ((r : ℕ) → a ≤ r → r < a + k → p r ≡ true) → tally p a k ≡ k
unfolding tally
tally-all p a zero h = refl
tally-all p a (suc k) h =
    let e : p a ≡ true = h a (omega arith) (omega arith) in
    rw e (omega (arith, tally-all p (a + 1) k (λ r l m. h r (omega arith) (omega arith))))

module _ (f : List ℕ) (n : ℕ) where
  pub lowest_below : (count f n ≡ n → ⊥) → first_clear_row f 0 n < n
  lowest_below h = go (dec_lt (first_clear_row f 0 n) n)
    where
      go : Dec (first_clear_row f 0 n < n) → first_clear_row f 0 n < n
      go (yes l) = l
      go (no l) =
          absurd (h (rows-tally f 0 n ∙ tally-all (bit f) 0 n (λ r a m. (first_clear_lowest f 0 n).lower r a (omega arith))))

  pub clear-not-full : (r : ℕ) → r < n → bit f r ≡ false → count f n ≡ n → ⊥
  clear-not-full r l e c =
      let z : ◌≡◌ {A = ℕ} 0 1 = cc (count-full f n r c l) in
      omega arith
