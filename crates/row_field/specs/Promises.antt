-- What contracts between functions cite. Rows are marked one after the other, so a loop answers whether one was set when its turn came (`any_seen`), and whole
-- bytes at a time, so the rows of one byte's bits have a name (`byte_rows`); a public promise says by `any_set` what was so at the call.
use Rattle.std.specs.Prelude.{ℕ, zero, suc, ◌+◌, ◌/◌, ◌%◌, ◌≡◌, Bool, false, ◌||◌, cond, List, [], ◌∷◌, eqb}
use Rattle.row_field.specs.Meaning.{bit, mark, mark_all, any_set}

-- whether a row of rs is set when its turn comes, each being set in turn
unfoldable pub any_seen : List ℕ → List ℕ → Bool
any_seen f [] = false
any_seen f (r ∷ rs) = bit f r || any_seen (mark f r) rs

-- the rows of the k lowest bits of x, the lowest standing for row a
unfoldable pub byte_rows : ℕ → ℕ → ℕ → List ℕ
byte_rows x a zero = []
byte_rows x a (suc k) = cond (eqb (x % 2) 1) (a ∷ byte_rows (x / 2) (a + 1) k) (byte_rows (x / 2) (a + 1) k)

-- the rows are marked, and r says whether one of them was set already
pub record MarkedRows (before after rows : List ℕ) (r : Bool) : Type 0 where
  pub seen : r ≡ any_set before rows
  pub marked : after ≡ mark_all before rows

-- the rows are marked, and r says whether one of them was set when its turn came
pub record MarkedInTurn (before after rows : List ℕ) (r : Bool) : Type 0 where
  pub seen : r ≡ any_seen before rows
  pub marked : after ≡ mark_all before rows
