-- The walk over the sizes and the bins that it passes: framed bins are passed, and what is passed was framed.
use Prim.Native.Nat.{ℕ, zero, suc, ◌+◌, ◌<◌, ◌≤◌}
use mathlib.Core.Path.{◌≡◌, refl, sym, ap, ◌∙◌}
use mathlib.Core.Bool.{Bool, true, false, cond}
use mathlib.Core.List.{List, [], ◌∷◌, ◌++◌}
use native.Mathlib.Omega.{arith}
use lib.Dec.{eqb, leb}
use lib.ListN.{length, take, drop, length-append, length-drop, take-append-drop}
use lib.Seq.{take-append_seam, drop-append_seam, drop-append-add, drop-drop, length-take-le}
use borrow.Author.Tests.{le-leb, leb-true, eqb-true, ne_eqb}
use Rattle.numbers.specs.Meaning.{be, be_at, big, All, Bytes}
use Rattle.numbers.proofs.ByteLists.{bytes_drop}
use Rattle.numbers.proofs.Laws.{be_at-lt, number_at-drop, number_at_laid, number_at_back, number_laid, on_number}
use Rattle.refusal.specs.declared.Refusal.{Refusal}
use Rattle.refusal.specs.declared.Refusal.TheVariants.{Short}
use Rattle.deletion_file.specs.Layout.{Bin, frames, bin_of, Framed, HasBin, has-bin}
use Rattle.refusal.proofs.Laws.{not-ok, ok_same, check-ok, then_ok}
use Rattle.std.specs.Prelude.{Result, Err, Ok}
use Rattle.refusal.specs.Reading.{check, and_then}
use Rattle.deletion_file.specs.Reading.{front, Next, over, bin, step_to_next_bin, bins_by, bins}
use Rattle.roaring.specs.Layout.{Bitmap}

-- ---- a bin among the bins: bin b is x, with those before and behind it

pub record Between (xs : List Bin) (b : ℕ) (x : Bin) : Type 0 where
  pub earlier : List Bin
  pub later : List Bin
  pub number : length earlier ≡ b
  pub cut : xs ≡ earlier ++ (x ∷ later)

pub between_first : (x : Bin) (xs : List Bin) → Between (x ∷ xs) 0 x
between_first x xs = record { earlier = []; later = xs; number = refl; cut = refl }

pub between_next : (y : Bin) {xs : List Bin} {b : ℕ} {x : Bin} → Between xs b x → Between (y ∷ xs) (suc b) x
between_next y i =
    record { earlier = y ∷ i.earlier; later = i.later; number = ap suc i.number; cut = ap (λ (zs : List Bin). y ∷ zs) i.cut }

pub file-has-bin : {xs : List Bin} {b : ℕ} {rows bitmap file : List ℕ} → Between xs b (bin_of bitmap) → Bitmap rows bitmap → All Framed xs
    → file ≡ 1 ∷ frames xs → HasBin b rows file
file-has-bin i m f e = rw (← i.number, e, i.cut) (has-bin i.earlier i.later m (rw i.cut at f))

-- ---- framed bins are passed

-- a bin behind its size and before its checksum, and what lies behind it
abbrev frame : Bin → List ℕ → List ℕ
frame x t = be 4 (length x.bytes) ++ (x.bytes ++ (be 4 x.sum ++ t))

module _ (x : Bin) (t : List ℕ) (f : Framed x) where
  front_laid_lem : front (length x.bytes) (x.bytes ++ (be 4 x.sum ++ t)) ≡ x
  front_laid_lem =
      let e : be_at 4 (x.bytes ++ (be 4 x.sum ++ t)) (length x.bytes) ≡ x.sum =
      sym (number_at-drop big 4 (x.bytes ++ (be 4 x.sum ++ t)) (length x.bytes))
      ∙ rw (drop-append_seam x.bytes (be 4 x.sum ++ t)) (number_at_laid big 4 x.sum t f.2) in
      simp (e, take-append_seam)

  next_laid : step_to_next_bin (frame x t) ≡ Ok (bin x t)
  unfolding step_to_next_bin check
  next_laid =
      let behind : List ℕ = x.bytes ++ (be 4 x.sum ++ t) in
      let room : length x.bytes + 4 ≤ length behind = simp length-append (omega arith) in
      let next : drop (length x.bytes + 4) behind ≡ t = drop-append-add x.bytes (be 4 x.sum ++ t) 4 in
      let some : eqb (length (frame x t)) 0 ≡ false = ne_eqb (length (frame x t)) 0 (omega arith) in
      rw some
      (number_laid big 4 (Err Short) (length x.bytes) behind _ f.1
      ∙ rw (le-leb 4 (length x.bytes) f.0, le-leb (length x.bytes + 4) (length behind) room, next, front_laid_lem))

pub walk_passes : (xs : List Bin) (steps : ℕ) → All Framed xs → length (frames xs) < steps → bins steps (frames xs) ≡ Ok xs
unfolding bins step_to_next_bin bins_by and_then
walk_passes xs zero f h = absurd (omega arith)
walk_passes [] (suc steps) f h = refl
walk_passes (x ∷ xs) (suc steps) f h =
    rw (next_laid x (frames xs) f.0, walk_passes xs steps f.1 (omega (arith, simp length-append at h)))

-- ---- what is passed was framed

-- what a step was at the front of
abbrev Behind : List ℕ → Next → Type 0
Behind s over = s ≡ []
Behind s (bin x t) = Framed x × Bytes t × (s ≡ frame x t)

module _ (v : ℕ) (t : List ℕ) (b : Bytes t) (h : v + 4 ≤ length t) where
  size_back : length (take v t) ≡ v
  size_back = length-take-le v t (omega arith)

  frame_back : be 4 v ++ t ≡ frame (front v t) (drop (v + 4) t)
  frame_back =
      let d : drop v t ≡ be 4 (be_at 4 t v) ++ drop (v + 4) t =
      number_at_back big 4 (drop v t) (bytes_drop v t b) (simp length-drop (omega arith)) ∙ rw (number_at-drop big 4 t v, drop-drop 4 v t) in
      rw size_back (ap (λ (s : List ℕ). be 4 v ++ s) (sym (take-append-drop v t) ∙ rw d))

pub nothing : {A : Type 0} (s : List A) → length s ≡ 0 → s ≡ []
nothing [] h = refl
nothing (x ∷ s) h = absurd (omega arith)

-- at the end, or at a bin
end_or : (s : List ℕ) (n : Next) (o : Result Next Refusal) → cond (eqb (length s) 0) (Ok over) o ≡ Ok n → (o ≡ Ok n → Behind s n) → Behind s n
end_or s n o e f = go (eqb (length s) 0) refl e
  where
    go : (t : Bool) → eqb (length s) 0 ≡ t → cond t (Ok over) o ≡ Ok n → Behind s n
    go true h g = rw (← ok_same _ _ g) (nothing s (eqb-true (length s) 0 h))
    go false h g = f g

next_back : (s : List ℕ) (n : Next) → Bytes s → step_to_next_bin s ≡ Ok n → Behind s n
unfolding step_to_next_bin
next_back s n b e =
    end_or s n _ e
    (λ g. on_number big 4 (Err Short) (λ o. o ≡ Ok n) (λ s. Behind s n) s _ not-ok b g
    (λ v t l b' g.
    let c = check-ok (leb 4 v) Short _ _ g in
    let d = check-ok (leb (v + 4) (length t)) Short _ _ c.1 in
    let h : v + 4 ≤ length t = leb-true (v + 4) (length t) d.0 in
    let z : length (take v t) ≡ v = size_back v t b' h in
    let k : 4 ≤ v = leb-true 4 v c.0 in
    rw (← ok_same _ _ d.1) ((omega arith, omega arith, be_at-lt 4 t v b'), bytes_drop (v + 4) t b', frame_back v t b' h)))

module _ (walk : List ℕ → Result (List Bin) Refusal) (passed : (t : List ℕ) (xs : List Bin) → Bytes t → walk t ≡ Ok xs → All Framed xs × (t ≡ frames xs)) where
  step_passed : (s : List ℕ) (xs : List Bin) (n : Next) → Behind s n → bins_by walk n ≡ Ok xs → All Framed xs × (s ≡ frames xs)
  unfolding bins_by
  step_passed s xs over p e = rw (← ok_same _ _ e) (tt, p)
  step_passed s xs (bin x t) p e =
      let m = then_ok (walk t) _ xs e in
      let i = passed t m.0 p.1 m.1 in
      rw (← ok_same _ _ m.2) ((p.0, i.0), p.2 ∙ ap (frame x) i.1)

pub walk_passed : (steps : ℕ) (s : List ℕ) (xs : List Bin) → Bytes s → bins steps s ≡ Ok xs → All Framed xs × (s ≡ frames xs)
unfolding bins
walk_passed zero s xs b e = absurd (not-ok e)
walk_passed (suc steps) s xs b e =
    let n = then_ok (step_to_next_bin s) (bins_by (bins steps)) xs e in
    step_passed (bins steps) (walk_passed steps) s xs n.0 (next_back s n.0 b n.1) n.2
