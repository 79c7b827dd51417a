-- What is found was laid out, and what is answered ABSENT has a head that keeps the rules. Each step takes a reading that is no refusal apart: what holds of
-- the bytes that were laid out holds of those that were read.
use Prim.Native.Nat.{ℕ, zero, suc, ◌+◌, ◌^◌, ◌<◌, ◌≤◌}
use mathlib.Core.Path.{◌≡◌, refl, sym, ap, ap₂, ◌∙◌, subst}
use mathlib.Core.Bool.{Bool, true, false, ◌||◌}
use mathlib.Core.List.{List, [], ◌∷◌, ◌++◌, append_assoc}
use native.Mathlib.Omega.{arith}
use lib.Dec.{T, leb→le, ltb→lt, eqb→eq}
use lib.ListN.{length, take, drop, take-append-drop}
use lib.Seq.{length-take-le, take-take}
use Rattle.numbers.specs.Meaning.{be, big, All, Bytes, sign_bit, position}
use Rattle.numbers.proofs.ByteLists.{bytes_drop, bytes_take}
use Rattle.numbers.proofs.Laws.{on_number}
use Rattle.numbers.specs.declared.Position.{Position}
use Rattle.refusal.specs.declared.Refusal.{Refusal}
use Rattle.std.specs.Prelude.{Result, Err, Ok, Option, Some, None}
use Rattle.refusal.specs.Reading.{check}
use Rattle.refusal.proofs.Laws.{not-ok}
use Rattle.names.specs.Reading.{matches}
use Rattle.index_file.specs.declared.Part.{Part}
use Rattle.index_file.specs.declared.Seen.{Seen}
use Rattle.index_file.specs.declared.Seen.TheVariants.{Nowhere, Once, Twice}
use Rattle.index_file.specs.Layout.{magic, file_version, front_size, least_head, ListedIndex, ListedColumn, name_bytes, entry_bytes, entries_bytes, column_bytes, columns_bytes, head_bytes, GoodIndex, GoodColumn, Headed, File, Unlisted}
use Rattle.index_file.specs.Reading.{count, name, place_after_entry, entries, part_at, place_after_column, columns, placed, head, file, within_limits, find, bytes_of}
use Rattle.index_file.specs.Promises.{Rest}
use Rattle.index_file.proofs.ListedOnce.{place_in, place_of, found_back, absent_back}
use Rattle.index_file.proofs.Laid.{entry_split, column_split, headed_file}

-- what stands in the bytes in front and what was read of the head behind them are the head
join : (n : ℕ) (bytes t fields : List ℕ) → front_size ≤ n → be 8 magic ++ (be 4 file_version ++ (be 4 n ++ t)) ≡ bytes → fields ≡ drop front_size (take n bytes)
    → be 8 magic ++ (be 4 file_version ++ (be 4 n ++ fields)) ≡ take n bytes
join n bytes t fields h y x =
    let p : be 8 magic ++ (be 4 file_version ++ be 4 n) ≡ take front_size (take n bytes) = ap (take front_size) y ∙ sym (take-take front_size n bytes h) in
    ap (λ (l : List ℕ). be 8 magic ++ (be 4 file_version ++ (be 4 n ++ l))) x
    ∙ ap (λ (l : List ℕ). l ++ drop front_size (take n bytes)) p
    ∙ take-append-drop front_size (take n bytes)

-- a reading that is no refusal
module _ (good : Option Part) where
  abbrev Good : Result (Option Part) Refusal → Type 0
  Good o = o ≡ Ok good

  on_check : {X : Type 0} (b : Bool) (r : Refusal) (o : Result (Option Part) Refusal) → Good (check b r o) → (T b → Good o → X) → X
  unfolding check
  on_check true r o g f = f tt g
  on_check false r o g f = absurd (not-ok g)

  on_count : (P : List ℕ → Type 0) (s : List ℕ) (k : Rest ℕ) → Bytes s → Good (count s k)
      → ((v : ℕ) (t : List ℕ) → v < sign_bit → Bytes t → Good (k v t) → P (be 4 v ++ t)) → P s
  unfolding count
  on_count P s k h g f =
      on_number big 4 (Err Refusal.Head) Good P s _ not-ok h g (λ v t hv ht g. on_check _ Refusal.Head _ g (λ b g. f v t (ltb→lt v sign_bit b) ht g))

  on_name : (P : List ℕ → Type 0) (s : List ℕ) (k : Rest (List ℕ)) → Bytes s → Good (name s k)
      → ((n t : List ℕ) → length n < 256 ^ 2 → Bytes t → Good (k n t) → P (name_bytes n ++ t)) → P s
  unfolding name
  on_name P s k h g f =
      on_number big 2 (Err Refusal.Head) Good P s _ not-ok h g (λ v t hv ht g. on_check _ Refusal.Head _ g (λ b g.
      let l : length (take v t) ≡ v = length-take-le v t (leb→le v (length t) b) in
      let e : name_bytes (take v t) ++ drop v t ≡ be 2 v ++ t = ap₂ (λ (j : ℕ) (l : List ℕ). be 2 j ++ l) l (take-append-drop v t) in
      subst P e (f (take v t) (drop v t) (omega arith) (bytes_drop v t ht) g)))

  on_entries : (P : List ℕ → Type 0) (kind : List ℕ) (m : ℕ) (place : Seen) (s : List ℕ) (k : Rest Seen) → Bytes s → Good (entries (matches kind) m place s k)
      → ((es : List ListedIndex) (t : List ℕ) → length es ≡ m → All GoodIndex es → Bytes t → Good (k (place_in kind place es) t) → P (entries_bytes es ++ t)) → P s
  unfolding entries place_in
  on_entries P kind zero place s k h g f = f [] s refl tt h g
  on_entries P kind (suc m) place s k h g f =
      on_name P s _ h g (λ n t hn ht g.
      on_number big 4 (Err Refusal.Head) Good (λ (l : List ℕ). P (name_bytes n ++ l)) t _ not-ok ht g (λ a t ha ht g.
      on_number big 4 (Err Refusal.Head) Good (λ (l : List ℕ). P (name_bytes n ++ (be 4 a ++ l))) t _ not-ok ht g (λ b t hb ht g.
      on_entries (λ (l : List ℕ). P (name_bytes n ++ (be 4 a ++ (be 4 b ++ l)))) kind m (place_after_entry (matches kind n) (part_at (position a) b) place) t k ht g (λ es t c fit ht g.
      let e : ListedIndex = record { name = n; start = a; length = b } in
      subst P (append_assoc (entry_bytes e) (entries_bytes es) t ∙ entry_split e (entries_bytes es ++ t)) (f (e ∷ es) t (ap suc c) ((hn, ha, hb), fit) ht g)))))

  on_columns : (P : List ℕ → Type 0) (column kind : List ℕ) (m : ℕ) (seen : Bool) (place : Seen) (s : List ℕ) (k : Rest Seen) → Bytes s
      → Good (columns (matches column) (matches kind) m seen place s k)
      → ((cs : List ListedColumn) (t : List ℕ) → length cs ≡ m → All GoodColumn cs → Bytes t → Good (k (place_of kind column seen place cs) t) → P (columns_bytes cs ++ t)) → P s
  unfolding columns place_of
  on_columns P column kind zero seen place s k h g f = f [] s refl tt h g
  on_columns P column kind (suc m) seen place s k h g f =
      on_name P s _ h g (λ n t hn ht g.
      on_count (λ (l : List ℕ). P (name_bytes n ++ l)) t _ ht g (λ v t hv ht g.
      on_entries (λ (l : List ℕ). P (name_bytes n ++ (be 4 v ++ l))) kind v Nowhere t _ ht g (λ es t d fe ht g.
      on_columns (λ (l : List ℕ). P (name_bytes n ++ (be 4 v ++ (entries_bytes es ++ l)))) column kind m (seen || matches column n) (place_after_column (matches column n) seen (place_in kind Nowhere es) place) t k ht g
      (λ cs t c fit ht g.
      let x : ListedColumn = record { name = n; entries = es } in
      let q : length es < sign_bit = omega arith in
      subst (λ (j : ℕ). P (name_bytes n ++ (be 4 j ++ (entries_bytes es ++ (columns_bytes cs ++ t))))) d
      (subst P (append_assoc (column_bytes x) (columns_bytes cs) t ∙ column_split x (columns_bytes cs ++ t)) (f (x ∷ cs) t (ap suc c) ((hn, q, fe), fit) ht g))))))

  on_head : (P : List ℕ → Type 0) (column kind : List ℕ) (n total : ℕ) (s : List ℕ) → Bytes s → Good (head (matches column) (matches kind) n total s)
      → ((cs : List ListedColumn) (r : List ℕ) → length cs < sign_bit → length r < sign_bit → All GoodColumn cs → P (be 4 (length cs) ++ (columns_bytes cs ++ (be 4 (length r) ++ r)))) → P s
  unfolding head
  on_head P column kind n total s h g f =
      on_count P s _ h g (λ v t hv ht g.
      on_columns (λ (l : List ℕ). P (be 4 v ++ l)) column kind v false Nowhere t _ ht g (λ cs t c fit ht g.
      on_count (λ (l : List ℕ). P (be 4 v ++ (columns_bytes cs ++ l))) t _ ht g (λ q r hq hr g. on_check _ Refusal.Head _ g (λ b g.
      let e : length r ≡ q = sym (eqb→eq q (length r) b) in
      subst (λ (j : ℕ). P (be 4 j ++ (columns_bytes cs ++ (be 4 q ++ r)))) c
      (subst (λ (j : ℕ). P (be 4 (length cs) ++ (columns_bytes cs ++ (be 4 j ++ r)))) e (f cs r (omega arith) (omega arith) fit))))))

  headed : (column kind bytes : List ℕ) → Bytes bytes → Good (file (matches column) (matches kind) bytes) → Headed bytes
  unfolding file
  headed column kind bytes h g =
      on_check _ Refusal.Short _ g (λ _ g.
      on_number big 8 (Err Refusal.Short) (Good) (λ (l : List ℕ). l ≡ bytes → Headed bytes) bytes _ not-ok h g (λ m t hm ht g.
      on_check _ Refusal.Magic _ g (λ is-magic g.
      on_number big 4 (Err Refusal.Short) (Good) (λ (l : List ℕ). be 8 m ++ l ≡ bytes → Headed bytes) t _ not-ok ht g (λ v t hv ht g.
      on_check _ Refusal.Version _ g (λ is_one g.
      on_count (λ (l : List ℕ). be 8 m ++ (be 4 v ++ l) ≡ bytes → Headed bytes) t _ ht g (λ n t hn ht g.
      on_check _ Refusal.Head _ g (λ low g. on_check _ Refusal.Head _ g (λ in-file g.
      on_head (λ (l : List ℕ). l ≡ drop front_size (take n bytes) → be 8 m ++ (be 4 v ++ (be 4 n ++ t)) ≡ bytes → Headed bytes) column kind n (length bytes) (drop front_size (take n bytes))
      (bytes_drop front_size (take n bytes) (bytes_take n bytes h)) g (λ cs r few short fit x y.
      let l : least_head ≤ n = leb→le least_head n low in
      let e : head_bytes n cs r ≡ take n bytes = join n bytes t _ (omega arith) (rw (eqb→eq m magic is-magic, eqb→eq v file_version is_one) at y) x in
      record {
        head_length = n;
        columns = cs;
        redundant = r;
        rest = drop n bytes;
        laid = sym (ap (λ (l : List ℕ). l ++ drop n bytes) e ∙ take-append-drop n bytes);
        whole = sym (ap length e ∙ length-take-le n bytes (leb→le n (length bytes) in-file));
        counts = (hn, few, short);
        fit = fit;
      }) refl))))))) refl)

  -- so there is a head that keeps the rules, and the answer is what is answered of the place in it
  answered : (bytes column kind : List ℕ) → Bytes bytes → Good (find bytes column kind)
      → (h : Headed bytes) × Good (placed h.head_length (length bytes) (place_of kind column false Nowhere h.columns))
  unfolding find within_limits
  answered bytes column kind b g =
      on_check _ Refusal.Limit _ g (λ _ g. on_check _ Refusal.Limit _ g (λ _ g. on_check _ Refusal.Limit _ g (λ _ g.
      on_check _ Refusal.Literal _ g (λ _ g.
      let h = headed column kind bytes b g in
      (h, sym (headed_file column kind h) ∙ g)))))

-- ---- found

placed-found : (p : Part) (n total : ℕ) (place : Seen) → placed n total place ≡ Ok (Some p)
    → (place ≡ Once p) × (p.start.0 < sign_bit) × (p.length < sign_bit) × (n ≤ p.start.0) × (p.start.0 + p.length ≤ total)
unfolding placed
placed-found p n total Nowhere g = absurd (let z : ◌≡◌ {A = ℕ} 0 1 = cc in omega arith)
placed-found p n total Twice g = absurd (not-ok g)
placed-found p n total (Once q) g =
    let test = on_check (Some p) in
    test _ Refusal.Head _ g (λ is-start g. test _ Refusal.Head _ g (λ low g. test _ Refusal.Head _ g (λ is-size g. test _ Refusal.Head _ g (λ end g.
    let e : q ≡ p = cc in
    rw (← e) (refl, ltb→lt q.start.0 sign_bit is-start, ltb→lt q.length sign_bit is-size, leb→le n q.start.0 low, leb→le (q.start.0 + q.length) total end)))))

module _ (bytes column kind : List ℕ) (p : Part) (b : Bytes bytes) (g : find bytes column kind ≡ Ok (Some p)) where
  head_of : (h : Headed bytes) × (placed h.head_length (length bytes) (place_of kind column false Nowhere h.columns) ≡ Ok (Some p))
  head_of = answered (Some p) bytes column kind b g

  place_of_lem : (place_of kind column false Nowhere head_of.0.columns ≡ Once p)
      × (p.start.0 < sign_bit) × (p.length < sign_bit) × (head_of.0.head_length ≤ p.start.0) × (p.start.0 + p.length ≤ length bytes)
  place_of_lem = placed-found p head_of.0.head_length (length bytes) (place_of kind column false Nowhere head_of.0.columns) head_of.1

  pub accepted : File column kind (bytes_of p bytes) bytes
  accepted =
      let w = place_of_lem in
      let x = found_back kind column head_of.0.columns p.start p.length w.0 in
      let s : x.1.start ≡ p.start.0 = ap (λ (q : Position). q.0) x.4 in
      record {
        head = head_of.0;
        asked = x.0;
        entry = x.1;
        column_once = x.2;
        kind_once = x.3;
        not_negative = rw (s, x.5) (w.1, w.2);
        behind = rw s w.3;
        within = rw (s, x.5) w.4;
        part = rw (s, x.5);
      }

  pub within : p.start.0 + p.length ≤ length bytes
  within = place_of_lem.4

-- ---- absent

placed-absent : (n total : ℕ) (place : Seen) → placed n total place ≡ Ok None → place ≡ Nowhere
unfolding placed
placed-absent n total Nowhere g = refl
placed-absent n total Twice g = absurd (not-ok g)
placed-absent n total (Once q) g =
    let test = on_check None in
    test _ Refusal.Head _ g (λ _ g. test _ Refusal.Head _ g (λ _ g. test _ Refusal.Head _ g (λ _ g. test _ Refusal.Head _ g (λ _ g.
    absurd (let z : ◌≡◌ {A = ℕ} 0 1 = cc in omega arith)))))

pub unlisted : (bytes column kind : List ℕ) → Bytes bytes → find bytes column kind ≡ Ok None → (h : Headed bytes) × Unlisted column kind h.columns
unlisted bytes column kind b g =
    let h = answered None bytes column kind b g in
    (h.0, absent_back kind column h.0.columns (placed-absent h.0.head_length (length bytes) (place_of kind column false Nowhere h.0.columns) h.1))
