-- The hash by the code's steps: what is left, hashed from here, gives the whole.
use Rattle.std.proofs.Common.{◌≡◌, ℕ, zero, suc, ◌+◌, ◌*◌, ◌<◌, ◌≤◌, List, [], ◌∷◌, length, get_or, take, drop, refl, ap, ◌∙◌, add-one, w32, arith, length-drop}
use Rattle.std.specs.Int.{from_le_bytes}
use Rattle.std.specs.Simd.{first_chunks}
use lib.ListN.{drop_of_length-le}
use lib.Seq.{drop-cons, drop-drop}
use Rattle.numbers.specs.Meaning.{le_at}
use Rattle.hash_table.specs.Promises.{mixed, hash_of_bytes, hash_words}

-- by the chunks themselves
unfoldable pub hash_chunks : ℕ → List (List ℕ) → ℕ
hash_chunks h [] = h
hash_chunks h (c ∷ cs) = hash_chunks (mixed h (from_le_bytes w32 c)) cs

pub chunks_next : (h i : ℕ) (cs : List (List ℕ)) → i < length cs
    → hash_chunks (mixed h (from_le_bytes w32 (get_or cs i []))) (drop (i + 1) cs) ≡ hash_chunks h (drop i cs)
unfolding hash_chunks
chunks_next h i cs l = rw (drop-cons cs i [] l, add-one)

pub chunks_done : (h i : ℕ) (cs : List (List ℕ)) → length cs ≤ i → hash_chunks h (drop i cs) ≡ h
unfolding hash_chunks
chunks_done h i cs l = rw (drop_of_length-le cs l)

pub bytes_next : (h i : ℕ) (v : List ℕ) → i < length v → hash_of_bytes (mixed h (get_or v i 0)) (drop (i + 1) v) ≡ hash_of_bytes h (drop i v)
unfolding hash_of_bytes
bytes_next h i v l = rw (drop-cons v i 0 l, add-one)

pub bytes_done : (h i : ℕ) (v : List ℕ) → length v ≤ i → hash_of_bytes h (drop i v) ≡ h
unfolding hash_of_bytes
bytes_done h i v l = rw (drop_of_length-le v l)

-- four bytes by the definition of numbers
four : (v : List ℕ) → 4 ≤ length v → from_le_bytes w32 (take 4 v) ≡ le_at 4 v 0
four (a ∷ b ∷ c ∷ d ∷ v) h = omega arith
four [] h = absurd (omega arith)
four (a ∷ []) h = absurd (omega arith)
four (a ∷ b ∷ []) h = absurd (omega arith)
four (a ∷ b ∷ c ∷ []) h = absurd (omega arith)

pub by_chunks : (n h : ℕ) (v : List ℕ) → n * 4 ≤ length v → hash_words n h v ≡ hash_of_bytes (hash_chunks h (first_chunks 4 n v)) (drop (n * 4) v)
unfolding hash_words hash_chunks
by_chunks zero h v l = refl
by_chunks (suc n) h v l =
    let e : 4 + n * 4 ≡ suc n * 4 = omega arith in
    let w : from_le_bytes w32 (take 4 v) ≡ le_at 4 v 0 = four v (omega arith) in
    by_chunks n (mixed h (le_at 4 v 0)) (drop 4 v) (simp length-drop (omega arith)) ∙ rw (drop-drop, ← w) (ap (λ (k : ℕ). hash_of_bytes (hash_chunks (mixed h (from_le_bytes w32 (take 4 v))) (first_chunks 4 n (drop 4 v))) (drop k v)) e)
