-- Where accepted literals stand: the first, and those behind it; and their bytes.
use Prim.Native.Nat.{ℕ, zero, suc, ◌+◌, ◌-◌, ◌<◌, ◌≤◌}
use mathlib.Core.Path.{◌≡◌, refl, sym, ap, ◌∙◌}
use mathlib.Core.Bool.{Bool, true, false}
use mathlib.Core.List.{List, [], ◌∷◌, ◌++◌, append_assoc, append-nil}
use native.Mathlib.Omega.{arith}
use lib.ListN.{length, take, drop, length-append, length-drop, drop_of_length-le}
use lib.Seq.{take_at, drop_at, drop-drop, length-take-le}
use Rattle.refusal.specs.declared.Refusal.{Refusal}
use Rattle.refusal.specs.declared.Refusal.TheVariants.{Literal}
use Rattle.std.specs.Prelude.{Result, Err, Ok}
use Rattle.numbers.specs.Meaning.{joined, position, same}
use Rattle.refusal.proofs.Laws.{not-ok, ok_same}
use Rattle.stored_value.specs.declared.Place.{Place}
use Rattle.stored_value.specs.Meaning.{most_literals, listed}
use Rattle.stored_value.specs.Reading.{value_size, literals}
use Rattle.stored_value.specs.Promises.{Stands, Takes, read_of, literals_in}
use Rattle.stored_value.specs.Places.{places}
use Rattle.stored_value.proofs.Laws.{value_read, literals_end, literals-full, literals-next, literals_refused, literals-joined}

-- ---- what is read behind some literals is read behind any others, where no fewer may come

none : (t n m : ℕ) (acc bcc ls : List (List ℕ)) → literals t n acc [] ≡ Ok ls → (ms : List (List ℕ)) × (ls ≡ acc ++ ms) × (literals t m bcc [] ≡ Ok (bcc ++ ms))
none t n m acc bcc ls e =
    let q : acc ≡ ls = ok_same acc ls (sym (literals_end t n acc) ∙ e) in
    ([], sym q ∙ sym (append-nil acc), literals_end t m bcc ∙ ap Ok (sym (append-nil bcc)))

shifted : (t n m : ℕ) (acc bcc : List (List ℕ)) (s : List ℕ) (ls : List (List ℕ)) → literals t n acc s ≡ Ok ls → n ≤ m
    → (ms : List (List ℕ)) × (ls ≡ acc ++ ms) × (literals t m bcc s ≡ Ok (bcc ++ ms))
shifted t zero m acc bcc [] ls e h = none t zero m acc bcc ls e
shifted t zero m acc bcc (b ∷ s) ls e h = absurd (not-ok (sym (literals-full t acc (b ∷ s) (omega arith)) ∙ e))
shifted t (suc n) m acc bcc [] ls e h = none t (suc n) m acc bcc ls e
shifted t (suc n) zero acc bcc (b ∷ s) ls e h = absurd (omega arith)
shifted t (suc n) (suc m) acc bcc (b ∷ s) ls e h = by (value_size Literal Literal t (b ∷ s)) refl (λ k. shifted t n m _ (bcc ++ (take k (b ∷ s) ∷ [])) (drop k (b ∷ s)) ls)
  where
    by : (o : Result ℕ Refusal) → value_size Literal Literal t (b ∷ s) ≡ o
        → ((k : ℕ) → literals t n (acc ++ (take k (b ∷ s) ∷ [])) (drop k (b ∷ s)) ≡ Ok ls → n ≤ m
        → (ms : List (List ℕ)) × (ls ≡ (acc ++ (take k (b ∷ s) ∷ [])) ++ ms)
        × (literals t m (bcc ++ (take k (b ∷ s) ∷ [])) (drop k (b ∷ s)) ≡ Ok ((bcc ++ (take k (b ∷ s) ∷ [])) ++ ms)))
        → (ms : List (List ℕ)) × (ls ≡ acc ++ ms) × (literals t (suc m) bcc (b ∷ s) ≡ Ok (bcc ++ ms))
    by (Err r) v next = absurd (not-ok (sym (literals_refused t acc (b ∷ s) (omega arith) n r v) ∙ e))
    by (Ok k) v next =
        let l : List ℕ = take k (b ∷ s) in
        let x = next k (sym (literals-next t acc (b ∷ s) (omega arith) n k v) ∙ e) (omega arith) in (
          l ∷ x.0,
          x.1 ∙ append_assoc acc (l ∷ []) x.0,
          literals-next t bcc (b ∷ s) (omega arith) m k v ∙ x.2 ∙ ap Ok (append_assoc bcc (l ∷ []) x.0),
        )

-- ---- the first literal, and those behind it

pub record First (t : ℕ) (s : List ℕ) : Type 0 where
  pub k : ℕ
  pub stands : value_size Literal Literal t s ≡ Ok k
  pub some : 1 ≤ k
  pub within : k ≤ length s
  pub behind : literals t most_literals [] (drop k s) ≡ Ok (literals_in t (drop k s))
  pub all : literals_in t s ≡ take k s ∷ literals_in t (drop k s)

pub first : (t : ℕ) (s : List ℕ) {ls : List (List ℕ)} → literals t most_literals [] s ≡ Ok ls → 0 < length s → First t s
unfolding read_of
first t s {ls} a p = by (value_size Literal Literal t s) refl
  where
    by : (o : Result ℕ Refusal) → value_size Literal Literal t s ≡ o → First t s
    by (Err r) v = absurd (not-ok (sym (literals_refused t [] s p 1023 r v) ∙ a))
    by (Ok k) v =
        let w = value_read Literal Literal t s k v in
        let x = shifted t 1023 most_literals (take k s ∷ []) [] (drop k s) ls (sym (literals-next t [] s p 1023 k v) ∙ a) (omega arith) in
        record { k = k; stands = v; some = w.some; within = w.fits; behind = rw x.2; all = rw (a, x.2) x.1 }

pub none_in : (t : ℕ) → literals_in t [] ≡ []
unfolding read_of
none_in t = rw (literals_end t most_literals [])

-- the same where they stand behind p in s, the first with k bytes
pub record Turn (t : ℕ) (s : List ℕ) (p k : ℕ) : Type 0 where
  pub some : 1 ≤ k
  pub within : p + k ≤ length s
  pub behind : literals t most_literals [] (drop (p + k) s) ≡ Ok (literals_in t (drop (p + k) s))
  pub all : places p (literals_in t (drop p s)) ≡ record { start = position p; end = position (p + k) } ∷ places (p + k) (literals_in t (drop (p + k) s))

module _ (t : ℕ) (s : List ℕ) (p : ℕ) (a : literals t most_literals [] (drop p s) ≡ Ok (literals_in t (drop p s))) where
  pub stands : p < length s → Stands t (drop p s)
  stands h = let f = first t (drop p s) a (rw length-drop (omega arith)) in (Literal, Literal, f.k, f.stands)

  pub turn : p < length s → (k : ℕ) → Takes t (drop p s) k → Turn t s p k
  turn h k takes =
      let f = first t (drop p s) a (rw length-drop (omega arith)) in
      let q : k ≡ f.k = takes Literal Literal f.k f.stands in
      let w = rw length-drop at f.within in
      let d : drop f.k (drop p s) ≡ drop (p + k) s = rw q (drop-drop f.k p s) in
      let l : length (take f.k (drop p s)) ≡ k = rw q (length-take-le f.k (drop p s) f.within) in
      record { some = omega (arith, f.some); within = omega arith; behind = rw d at f.behind; all = rw (f.all, l, d) }

  pub no_turn : length s ≤ p → literals_in t (drop p s) ≡ []
  no_turn h = rw (drop_of_length-le s h) (none_in t)

pub all_in : (t : ℕ) (s : List ℕ) (ls : List (List ℕ)) → literals t most_literals [] s ≡ Ok ls → literals_in t s ≡ ls
unfolding read_of
all_in t s ls a = rw a

-- ---- their bytes in s

abbrev pub bytes_of : List ℕ → List Place → List (List ℕ)
bytes_of s [] = []
bytes_of s (p ∷ ps) = take (p.end.0 - p.start.0) (drop p.start.0 s) ∷ bytes_of s ps

abbrev pub Inside : List ℕ → List Place → Type 0
Inside s [] = Unit {0}
Inside s (p ∷ ps) = (p.start.0 ≤ p.end.0) × (p.end.0 ≤ length s) × Inside s ps

joined_in : (pre : List ℕ) (ls : List (List ℕ)) → Inside (pre ++ joined ls) (places (length pre) ls) × (bytes_of (pre ++ joined ls) (places (length pre) ls) ≡ ls)
joined_in pre [] = (tt, refl)
joined_in pre (l ∷ ls) =
    let x = joined_in (pre ++ l) ls in
    let y = rw (append_assoc, length-append) at x in
    let z : length pre + length l - length pre ≡ length l = omega arith in (
      (omega arith, simp length-append (omega arith), y.0),
      rw (z, drop_at pre (l ++ joined ls) (length pre) refl, take_at l (joined ls) (length l) refl, y.1),
    )

pub few : (p : ℕ) (ls : List (List ℕ)) → length (places p ls) ≡ length ls
few p [] = refl
few p (l ∷ ls) = ap suc (few (p + length l) ls)

pub inside : (t : ℕ) (s : List ℕ) (ls : List (List ℕ)) → literals t most_literals [] s ≡ Ok ls → Inside s (places 0 ls) × (bytes_of s (places 0 ls) ≡ ls)
inside t s ls a = rw (literals-joined t s ls a) (joined_in [] ls)

-- ---- whether v is listed among those that are left at ps, of which all are ls

module _ (v s : List ℕ) (ps : List Place) (ls : List (List ℕ)) (left : listed v (bytes_of s ps) ≡ listed v ls) where
  pub unlisted : ps ≡ [] → false ≡ listed v ls
  unfolding listed
  unlisted e = rw e at left

  module _ (p : Place) (more : List Place) (e : ps ≡ p ∷ more) {b : Bool} (g : b ≡ same v (take (p.end.0 - p.start.0) (drop p.start.0 s))) where
    turned : listed v (bytes_of s (p ∷ more)) ≡ listed v ls
    turned = rw e at left

    pub listed_here : b ≡ true → true ≡ listed v ls
    unfolding listed
    listed_here h = rw (← g, h) at turned

    pub listed_behind : b ≡ false → listed v (bytes_of s more) ≡ listed v ls
    unfolding listed
    listed_behind h = rw (← g, h) at turned
