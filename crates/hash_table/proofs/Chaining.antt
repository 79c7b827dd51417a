-- A table's chains: none at first, one more value in front of its chain, and a walk through a chain from its last value on.
use Prim.Native.Nat.{ℕ, zero, suc, ◌+◌, ◌-◌, ◌<◌, ◌≤◌}
use mathlib.Core.Path.{◌≡◌, refl, sym, ap, ◌∙◌, subst}
use mathlib.Core.Bool.{Bool, true, false, ◌||◌, or-false}
use mathlib.Core.List.{List, [], ◌∷◌, ◌++◌}
use native.Mathlib.Decide.{ℕ_discrete, dec_lt}
use native.Mathlib.Omega.{arith}
use lib.ListN.{length, get_or, set, take, drop, replicate, length-append, length-set, length-replicate, get_or-replicate, get_or-append}
use lib.Seq.{get_or-set_same, get_or-set_other, get_or_at}
use Rattle.numbers.specs.Meaning.{same}
use Rattle.numbers.proofs.SameBytes.{same_refl, same→eq}
use Rattle.hash_table.specs.Promises.{chains, slot, value_at, hash_of, among, Last, Holds, put, InsertsInto, Inserts}

-- ---- `among`, by index

among_at : (v : List ℕ) (vs : List (List ℕ)) (j : ℕ) → j < length vs → get_or vs j [] ≡ v → among v vs ≡ true
unfolding among
among_at v [] j l e = absurd (omega arith)
among_at v (w ∷ vs) zero l e = rw (e, same_refl v)
among_at v (w ∷ vs) (suc j) l e = or-true (same v w) (among_at v vs j (omega arith) e)
  where
    or-true : (b : Bool) → among v vs ≡ true → b || among v vs ≡ true
    or-true true e = refl
    or-true false e = e

among_none : (v : List ℕ) (vs : List (List ℕ)) → ((j : ℕ) → j < length vs → get_or vs j [] ≡ v → ⊥) → among v vs ≡ false
unfolding among
among_none v [] n = refl
among_none v (w ∷ vs) n = by (same v w) refl (among_none v vs (λ j l. n (suc j) (omega arith)))
  where
    by : (b : Bool) → same v w ≡ b → among v vs ≡ false → b || among v vs ≡ false
    by true p e = absurd (n 0 (omega arith) (sym (same→eq v w p)))
    by false p e = e

pub among-more : (v w : List ℕ) (vs : List (List ℕ)) → among v (vs ++ (w ∷ [])) ≡ among v vs || same v w
unfolding among
among-more v w [] = or-false (same v w)
among-more v w (u ∷ vs) = by (same v u) (among-more v w vs)
  where
    by : (b : Bool) → among v (vs ++ (w ∷ [])) ≡ among v vs || same v w → b || among v (vs ++ (w ∷ [])) ≡ (b || among v vs) || same v w
    by true e = refl
    by false e = e

-- ---- a walk

-- the code's part from a to e
pub value_is : (s table : List ℕ) (j : ℕ) {a e : ℕ} → a ≡ get_or table (slot j + 1) 0 → e ≡ get_or table (slot j + 2) 0
    → take (e - a) (drop a s) ≡ value_at s table j
unfolding value_at
value_is s table j p q = rw (p, q)

-- on the way through the chain of w: at - 1 has w's hash, and no value from `at` on is w
pub record Walk (vs : List (List ℕ)) (w : List ℕ) (at : ℕ) : Type 0 where
  pub low : at ≤ length vs
  pub hit : 0 < at → hash_of (get_or vs (at - 1) []) ≡ hash_of w
  pub past : (k : ℕ) → at ≤ k → k < length vs → get_or vs k [] ≡ w → ⊥

module _ {s table : List ℕ} {vs : List (List ℕ)} (held : Holds s table vs) (w : List ℕ) where
  module _ (at : ℕ) (here : Walk vs w at) where
    pub walk_done : at ≡ 0 → among w vs ≡ false
    walk_done e = among_none w vs (λ j l x. here.past j (omega arith) l x)

    module _ (some : 0 < at) where
      pub walk_found : same w (value_at s table (at - 1)) ≡ true → among w vs ≡ true
      walk_found e =
          let l : at - 1 < length vs = omega (arith, here.low) in
          among_at w vs (at - 1) l (sym (held.stand (at - 1) l) ∙ sym (same→eq w (value_at s table (at - 1)) e))

      pub walk_next : same w (value_at s table (at - 1)) ≡ false → Walk vs w (get_or table (slot (at - 1)) 0)
      walk_next ne =
          let l : at - 1 < length vs = omega (arith, here.low) in
          let a = held.link (at - 1) l in
          let e = here.hit some in
          record {
            low = omega (arith, a.low);
            hit = λ q. a.hit q ∙ e;
            past = λ k q r x. by k q r x (dec_lt k at) (ℕ_discrete k (at - 1));
          }
        where
          other : get_or vs (at - 1) [] ≡ w → ⊥
          other x =
              let z = held.stand (at - 1) (omega (arith, here.low)) ∙ x in
              let y : same w w ≡ false = rw z at ne in
              let t = same_refl w in
              let o : ◌≡◌ {A = ℕ} 0 1 = cc in
              omega arith

          by : (k : ℕ) → get_or table (slot (at - 1)) 0 ≤ k → k < length vs → get_or vs k [] ≡ w → Dec (k < at) → Dec (k ≡ at - 1) → ⊥
          by k q r x (no n) d = here.past k (omega arith) r x
          by k q r x (yes l) (yes z) = other (rw z at x)
          by k q r x (yes l) (no n) =
              (held.link (at - 1) (omega (arith, here.low))).past k q (omega arith) (ap hash_of x ∙ sym (here.hit some))

-- ---- a table of zeros holds nothing

pub holds_none : (s : List ℕ) (m : ℕ) → chains ≤ m → Holds s (replicate m 0) []
holds_none s m l =
    record {
      room = rw (length-replicate {A = ℕ} m 0) (omega arith);
      stand = λ j p. absurd (omega arith);
      within = λ j p. absurd (omega arith);
      head = λ h p.
          let z : ◌≡◌ {A = ℕ} (get_or (replicate m 0) h 0) 0 = get_or-replicate m h 0 0 (omega arith) in
          record { low = omega arith; hit = λ q. absurd (omega arith); past = λ k p q e. omega arith };
      link = λ j p. absurd (omega arith);
    }

-- ---- one value more, in front of its chain

module _ (table : List ℕ) (n h a e : ℕ) where
  -- the table behind each store
  abbrev t₁ : List ℕ
  t₁ = set table (slot n) (get_or table h 0)

  abbrev t₂ : List ℕ
  t₂ = set t₁ (slot n + 1) a

  abbrev t₃ : List ℕ
  t₃ = set t₂ (slot n + 2) e

  put-length : length (put table n h a e) ≡ length table
  unfolding put
  put-length = simp length-set

  put-below : (p : ℕ) → p < slot n → (p ≡ h → ⊥) → get_or (put table n h a e) p 0 ≡ get_or table p 0
  unfolding put
  put-below p l o =
      get_or-set_other t₃ h p (n + 1) 0 o ∙ get_or-set_other t₂ (slot n + 2) p e 0 (λ z. omega arith)
      ∙ get_or-set_other t₁ (slot n + 1) p a 0 (λ z. omega arith) ∙ get_or-set_other table (slot n) p (get_or table h 0) 0 (λ z. omega arith)

  module _ (room : slot (n + 1) ≤ length table) (b : h < chains) where
    put-head : get_or (put table n h a e) h 0 ≡ n + 1
    unfolding put
    put-head =
        get_or-set_same t₃ h (n + 1) 0 (simp length-set (omega arith))

    put_next : get_or (put table n h a e) (slot n) 0 ≡ get_or table h 0
    unfolding put
    put_next =
        get_or-set_other t₃ h (slot n) (n + 1) 0 (λ z. omega arith) ∙ get_or-set_other t₂ (slot n + 2) (slot n) e 0 (λ z. omega arith)
        ∙ get_or-set_other t₁ (slot n + 1) (slot n) a 0 (λ z. omega arith) ∙ get_or-set_same table (slot n) (get_or table h 0) 0 (omega arith)

    put-start : get_or (put table n h a e) (slot n + 1) 0 ≡ a
    unfolding put
    put-start =
        get_or-set_other t₃ h (slot n + 1) (n + 1) 0 (λ z. omega arith) ∙ get_or-set_other t₂ (slot n + 2) (slot n + 1) e 0 (λ z. omega arith)
        ∙ get_or-set_same t₁ (slot n + 1) a 0 (simp length-set (omega arith))

    put_end : get_or (put table n h a e) (slot n + 2) 0 ≡ e
    unfolding put
    put_end =
        get_or-set_other t₃ h (slot n + 2) (n + 1) 0 (λ z. omega arith) ∙ get_or-set_same t₂ (slot n + 2) e 0 (simp length-set (omega arith))

-- of more values than those it speaks of
last_of-more : (vs : List (List ℕ)) (w : List ℕ) {h m a : ℕ} → m ≤ length vs → Last vs h m a → Last (vs ++ (w ∷ [])) h m a
last_of-more vs w {h} {m} {a} le l =
    record {
      low = l.low;
      hit = λ p. rw (get_or-append vs (w ∷ []) [] (a - 1) (omega (arith, l.low))) (l.hit p);
      past = λ k p q x. l.past k p q (rw (get_or-append vs (w ∷ []) [] k (omega arith)) at x);
    }

module _ {s table : List ℕ} {vs : List (List ℕ)} {n h a e : ℕ} (held : Holds s table vs) (many : length vs ≡ n) (room : slot (n + 1) ≤ length table)
    (rising : a ≤ e) (inside : e ≤ length s) (b : h < chains) (hashed : h ≡ hash_of (take (e - a) (drop a s))) where
  abbrev w : List ℕ
  w = take (e - a) (drop a s)

  abbrev all : List (List ℕ)
  all = vs ++ (w ∷ [])

  abbrev t : List ℕ
  t = put table n h a e

  at_old : (j : ℕ) → j < n → get_or all j [] ≡ get_or vs j []
  at_old j l = get_or-append vs (w ∷ []) [] j (omega (arith, many))

  at_new : get_or all n [] ≡ w
  at_new = get_or_at vs w [] [] n many

  -- a number of an earlier value stays
  keeps : (j c : ℕ) → j < n → c < 3 → get_or t (slot j + c) 0 ≡ get_or table (slot j + c) 0
  keeps j c l m = put-below table n h a e (slot j + c) (omega arith) (λ z. omega arith)

  stands : (j : ℕ) → j < n + 1 → Dec (j ≡ n) → value_at s t j ≡ get_or all j []
  unfolding value_at
  stands j l (yes z) = rw (z, put-start table n h a e room b, put_end table n h a e room b) (sym at_new)
  stands j l (no z) =
      rw (keeps j 1 (omega arith) (omega arith), keeps j 2 (omega arith) (omega arith), at_old j (omega arith)) (held.stand j (omega (arith, many)))

  lies : (j : ℕ) → j < n + 1 → Dec (j ≡ n) → (get_or t (slot j + 1) 0 ≤ get_or t (slot j + 2) 0) × (get_or t (slot j + 2) 0 ≤ length s)
  lies j l (yes z) = rw (z, put-start table n h a e room b, put_end table n h a e room b) (rising, inside)
  lies j l (no z) = rw (keeps j 1 (omega arith) (omega arith), keeps j 2 (omega arith) (omega arith)) (held.within j (omega (arith, many)))

  heads : (k : ℕ) → k < chains → Dec (k ≡ h) → Last all k (n + 1) (get_or t k 0)
  heads k l (yes z) = rw (z, put-head table n h a e room b) here
    where
      here : Last all h (n + 1) (n + 1)
      here =
          let z : n + 1 - 1 ≡ n = omega arith in
          record { low = omega arith; hit = λ _. rw (z, at_new) (sym hashed); past = λ k p q _. omega arith }
  heads k l (no o) = rw (put-below table n h a e k (omega arith) o) more
    where
      old : Last all k n (get_or table k 0)
      old = last_of-more vs w (omega (arith, many)) (rw many at (held.head k l))

      past : (j : ℕ) → get_or table k 0 ≤ j → j < n + 1 → hash_of (get_or all j []) ≡ k → Dec (j ≡ n) → ⊥
      past j p q x (yes z) = o (sym (rw (z, at_new) at x) ∙ sym hashed)
      past j p q x (no z) = old.past j p (omega arith) x

      more : Last all k (n + 1) (get_or table k 0)
      more = record { low = omega (arith, old.low); hit = old.hit; past = λ j p q x. past j p q x (ℕ_discrete j n) }

  links : (j : ℕ) → j < n + 1 → Dec (j ≡ n) → Last all (hash_of (get_or all j [])) j (get_or t (slot j) 0)
  links j l (yes z) =
      rw (z, put_next table n h a e room b, at_new, ← hashed) (last_of-more vs w (omega (arith, many)) (rw many at (held.head h b)))
  links j l (no z) =
      rw (put-below table n h a e (slot j) (omega arith) (λ z. omega arith), at_old j (omega arith))
      (last_of-more vs w (omega (arith, many)) (held.link j (omega (arith, many))))

  longer : length all ≡ n + 1
  longer = length-append vs (w ∷ []) ∙ omega (arith, many)

  pub holds_more : Holds s (put table n h a e) (vs ++ (take (e - a) (drop a s) ∷ []))
  holds_more =
      record {
        room = rw (put-length table n h a e, longer) room;
        stand = λ j l. stands j (rw longer at l) (ℕ_discrete j n);
        within = λ j l. lies j (rw longer at l) (ℕ_discrete j n);
        head = λ k l. rw longer (heads k l (ℕ_discrete k h));
        link = λ j l. links j (rw longer at l) (ℕ_discrete j n);
      }

-- ---- what `insert` tells, by its answer

module _ (a e : ℕ) {s before after : List ℕ} {n : ℕ} {r : Bool} (i : Inserts s before after n a e r) {vs : List (List ℕ)} (held : Holds s before vs)
    (many : length vs ≡ n) where
  pub insert_old : r ≡ true → (among (take (e - a) (drop a s)) vs ≡ true) × (after ≡ before)
  insert_old x = subst (InsertsInto s before after vs (take (e - a) (drop a s))) x (i vs held many)

  pub insert_new : r ≡ false → (among (take (e - a) (drop a s)) vs ≡ false) × Holds s after (vs ++ (take (e - a) (drop a s) ∷ []))
  insert_new x = subst (InsertsInto s before after vs (take (e - a) (drop a s))) x (i vs held many)
