-- A chain that grows atom by atom: how it goes on, and what is written of it.
use Rattle.std.specs.Prelude.{true, false, ◌≡◌, ℕ, suc, ◌^◌, ◌≤◌, ◌<◌, length, get_or, drop}
use mathlib.Core.List.{List, ◌∷◌, Memᴰ, Sublistᴰ}
use Rattle.asp.specs.Program.{Program}
use Rattle.unfolding.specs.Chain.{Chain}
use Rattle.unfolding.specs.Missing.{precedes}
use Rattle.bits.specs.inner.Sets.{has}
use Rattle.bits.specs.inner.Visited.{listed}
use Rattle.chain_rows.specs.inner.Subsets.{Setting, AtPlaces}
use Rattle.writer.specs.inner.Wrote.{Wrote}
use Rattle.positions.specs.inner.Positions.{Position}
use Rattle.missing.specs.declared.Extension.{Extension}

-- A chain of m atoms that starts at a, its atoms all of X.
pub record Within (P : Program) (X : ℕ → Type 0) (a m : ℕ) (w : List ℕ) : Type 0 where
  pub chain : Chain P (a ∷ w)
  pub inside : (b : ℕ) → Memᴰ b (a ∷ w) → X b
  pub long : length (a ∷ w) ≡ m

-- The shortest of these that is not found in s has m atoms.
pub record LacksFrom (P : Program) (s : List ℕ) (X : ℕ → Type 0) (a m : ℕ) : Type 0 where
  pub shorter : (j : ℕ) → j < m → (w : List ℕ) → Within P X a j w → Sublistᴰ (a ∷ w) s
  pub lacks : ((w : List ℕ) → Within P X a m w → Sublistᴰ (a ∷ w) s) → ⊥

-- The first of these that is not found in s.
pub record FirstMissing (P : Program) (s : List ℕ) (X : ℕ → Type 0) (a m : ℕ) (w : List ℕ) : Type 0 where
  pub within : Within P X a m w
  pub lacking : Sublistᴰ (a ∷ w) s → ⊥
  pub first : (v : List ℕ) → Within P X a m v → (Sublistᴰ (a ∷ v) s → ⊥) → precedes (a ∷ v) (a ∷ w) ≡ false

-- An extension's numbers are in their bounds, and its place is one of the unused ones.
pub record Fits (k : ℕ) (q : List ℕ) (L : Extension) : Type 0 where
  pub position : Position q L.from
  pub small : L.unused < 2 ^ k
  pub low : L.place < k
  pub own : has L.unused L.place ≡ true
  pub some : 1 ≤ L.left

-- From its place on, with the unused atoms, the shortest chain that the rest of q lacks has as many atoms as are left.
abbrev pub LacksAt : Program → List ℕ → ℕ → List ℕ → Extension → Type 0
LacksAt P atoms k q L = LacksFrom P (drop L.from q) (AtPlaces atoms k L.unused) (get_or atoms L.place 0) L.left

-- w, behind the atom at its place, is the first of the chains that are missing there.
abbrev pub FirstAt : Program → List ℕ → ℕ → List ℕ → Extension → List ℕ → Type 0
FirstAt P atoms k q L w = FirstMissing P (drop L.from q) (AtPlaces atoms k L.unused) (get_or atoms L.place 0) L.left w

-- Some program with this component lacks a chain there.
pub record SomeLacks (rows atoms : List ℕ) (k : ℕ) (q : List ℕ) (L : Extension) : Type 0 where
  pub program : Program
  pub setting : Setting program rows atoms k
  pub lacks : LacksAt program atoms k q L

-- R is the extension behind L: one atom fewer is unused.
pub record Next (rows atoms : List ℕ) (k : ℕ) (q : List ℕ) (L R : Extension) : Type 0 where
  pub fits : Fits k q R
  pub fewer : length (listed R.unused) < length (listed L.unused)
  pub left : L.left ≡ suc R.left
  pub lacks : (P : Program) → Setting P rows atoms k → LacksAt P atoms k q L → LacksAt P atoms k q R
  pub first : (P : Program) → Setting P rows atoms k → LacksAt P atoms k q L → (w : List ℕ) → FirstAt P atoms k q R w → FirstAt P atoms k q L (get_or atoms R.place 0 ∷ w)

-- The first chain is written.
pub record ChainPut (rows atoms : List ℕ) (k : ℕ) (q : List ℕ) (L : Extension) (old : List ℕ) (at : ℕ) (new : List ℕ) (r : ℕ) : Type 0 where
  pub rest : List ℕ
  pub wrote : Wrote old at (get_or atoms L.place 0 ∷ rest) new r
  pub first : (P : Program) → Setting P rows atoms k → LacksAt P atoms k q L → FirstAt P atoms k q L rest
