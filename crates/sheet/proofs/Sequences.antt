-- Laws of question 8.
use mathlib.Core.Bool.{Bool, true, false, ◌&&◌}
use mathlib.Core.List.{List}
use mathlib.Core.Path.{◌≡◌, refl, sym, ◌∙◌, ap}
use Prim.Native.Nat.{ℕ, ◌+◌, ◌-◌, ◌*◌, ◌≤◌, ◌<◌}
use native.Mathlib.Numerals.{add-one}
use native.Mathlib.Omega.{arith}
use borrow.Author.Tests.{eqb-true, eq-eqb, leb-true, le-leb, le-ltb, lt-ltb}
use lib.Dec.{eqb, leb, ltb}
use lib.ListN.{length, length-drop, get_or, take, drop, drop_of_length-le}
use lib.Seq.{drop-cons, take_all}
use Rattle.lists.specs.Lists.{all, below}
use Rattle.lists.proofs.Bools.{is_false, and_intro, and_left, and_right, bool_ext}
use Rattle.bits.specs.inner.Sets.{ByteAt}
use Rattle.sheet.specs.Format.{byte}
use Rattle.sheet.specs.Sequence.{entries_field, entries, sequence_fits}
use Rattle.sheet.specs.declared.Limits.{Limits}

-- The entries before i are below n.
pub record Fitting (n : ℕ) (l : List ℕ) (i : ℕ) : Type 0 where
  pub same : below n (drop i l) ≡ below n l

module _ (n : ℕ) (l : List ℕ) where
  pub fitting_start : Fitting n l 0
  fitting_start = record { same = refl }

  next : (i : ℕ) → i < length l → below n (drop i l) ≡ (ltb (get_or l i 0) n && below n (drop (i + 1) l))
  unfolding below all
  next i h = ap (below n) (drop-cons l i 0 h) ∙ ap (λ j. ltb (get_or l i 0) n && below n (drop j l)) (sym (add-one i))

  module _ (i : ℕ) (F : Fitting n l i) (h : i < length l) where
    pub fitting_fails : n ≤ get_or l i 0 → false ≡ below n l
    fitting_fails k = sym (ap (λ (b : Bool). b && below n (drop (i + 1) l)) (le-ltb (get_or l i 0) n k)) ∙ (sym (next i h) ∙ F.same)

    pub fitting_turn : get_or l i 0 < n → Fitting n l (i + 1)
    fitting_turn k = record { same = sym (ap (λ (b : Bool). b && below n (drop (i + 1) l)) (lt-ltb (get_or l i 0) n k)) ∙ (sym (next i h) ∙ F.same) }

  pub fitting_end : (i : ℕ) → Fitting n l i → length l ≤ i → true ≡ below n l
  unfolding below all
  fitting_end i F k = sym (ap (below n) (drop_of_length-le l k)) ∙ F.same

-- The slice behind the header is the entries.
pub slice_entries : (q : List ℕ) → take (length q - 3) (drop 3 q) ≡ entries q
slice_entries q = let k = length-drop 3 q in take_all (length q - 3) (drop 3 q) (omega arith)

-- What a sequence that passes question 8 is known by.
pub record Fits (L : Limits) (n : ℕ) (q : List ℕ) : Type 0 where
  pub three : 3 ≤ length q
  pub version : byte q 0 ≡ 1
  pub few : entries_field q ≤ L.entries
  pub size : length q ≡ 3 + entries_field q
  pub low : below n (entries q) ≡ true

module _ (L : Limits) (n : ℕ) (q : List ℕ) where
  pub fits_out : sequence_fits L n q ≡ true → Fits L n q
  unfolding sequence_fits
  fits_out e =
      let a = and_left (leb 3 (length q) && eqb (byte q 0) 1 && leb (entries_field q) L.entries && eqb (length q) (3 + entries_field q)) (below n (entries q)) e in
      let b = and_left (leb 3 (length q) && eqb (byte q 0) 1 && leb (entries_field q) L.entries) (eqb (length q) (3 + entries_field q)) a in
      let c = and_left (leb 3 (length q) && eqb (byte q 0) 1) (leb (entries_field q) L.entries) b in
      record {
        three = leb-true 3 (length q) (and_left (leb 3 (length q)) (eqb (byte q 0) 1) c);
        version = eqb-true (byte q 0) 1 (and_right (leb 3 (length q)) (eqb (byte q 0) 1) c);
        few = leb-true (entries_field q) L.entries (and_right (leb 3 (length q) && eqb (byte q 0) 1) (leb (entries_field q) L.entries) b);
        size = eqb-true (length q) (3 + entries_field q) (and_right (leb 3 (length q) && eqb (byte q 0) 1 && leb (entries_field q) L.entries) (eqb (length q) (3 + entries_field q)) a);
        low = and_right (leb 3 (length q) && eqb (byte q 0) 1 && leb (entries_field q) L.entries && eqb (length q) (3 + entries_field q)) (below n (entries q)) e;
      }

  fits_in : Fits L n q → sequence_fits L n q ≡ true
  unfolding sequence_fits
  fits_in F =
      and_intro (and_intro (and_intro (and_intro (le-leb 3 (length q) F.three) (eq-eqb (byte q 0) 1 F.version)) (le-leb (entries_field q) L.entries F.few))
      (eq-eqb (length q) (3 + entries_field q) F.size)) F.low

  misfit : (Fits L n q → ⊥) → false ≡ sequence_fits L n q
  misfit h = sym (is_false (λ t. h (fits_out t)))

  pub fits_short : length q < 3 → false ≡ sequence_fits L n q
  fits_short l = misfit (λ F. let h = F.three in omega arith)

  pub fits_version : (v : ℕ) → ByteAt q 0 v → (v ≡ 1 → ⊥) → false ≡ sequence_fits L n q
  fits_version v B ne = misfit (λ F. ne (B.is ∙ F.version))

  module _ (x y : ℕ) (X : ByteAt q 1 x) (Y : ByteAt q 2 y) where
    field_is : x * 256 + y ≡ entries_field q
    field_is = let e = X.is in let f = Y.is in omega arith

    pub fits_many : L.entries < x * 256 + y → false ≡ sequence_fits L n q
    fits_many l = misfit (λ F. let h = F.few in let e = field_is in omega arith)

    pub fits_size : (length q ≡ x * 256 + y + 3 → ⊥) → false ≡ sequence_fits L n q
    fits_size ne = misfit (λ F. ne (let h = F.size in let e = field_is in omega arith))

    pub fits_low : (v : ℕ) (b : Bool) → 3 ≤ length q → ByteAt q 0 v → v ≡ 1 → x * 256 + y ≤ L.entries → length q ≡ x * 256 + y + 3 → b ≡ below n (entries q) → b ≡ sequence_fits L n q
    fits_low v b h B o l s e =
        e ∙ bool_ext (λ t. fits_in (record { three = h; version = sym B.is ∙ o; few = let f = field_is in omega arith; size = let f = field_is in omega arith; low = t })) (λ t. (fits_out t).low)
