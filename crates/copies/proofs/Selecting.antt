-- The rules that a copy keeps are those of the table's kept entries.
use mathlib.Core.Bool.{Bool, true, not, ◌&&◌, ◌||◌}
use mathlib.Core.List.Memᴰ
use mathlib.Core.List.{List, [], ◌∷◌, ◌++◌, map, map-map, Memᴰ}
use mathlib.Core.Path.{◌≡◌, refl, sym, ◌∙◌, ap, ap₂}
use Prim.Native.Nat.{ℕ, ◌<◌}
use native.Mathlib.Omega.{arith}
use lib.Dec.{eqb, ltb}
use lib.ListN.{length, length-map, get_or, take}
use Rattle.lists.specs.Lists.{all, below, filter, range}
use Rattle.lists.proofs.Bools.{by_bool, and_left, and_right}
use Rattle.lists.proofs.Members.{all_at, all_cong, map_cong, filter_cong, filter_out, range_in, range_out, below_at}
use Rattle.asp.specs.Program.{Body, Rule, Program, body_below, rule_below, well_formed}
use Rattle.unfolding.specs.Unfolded.{Copy, last, latest_keeps, usable, replaced, renamed, is_kept, kept_for}
use Rattle.bits.specs.inner.Sets.{has}
use Rattle.bits.specs.inner.Visited.{listed}
use Rattle.program.specs.inner.Held.{table_rule, ProgramTable, added_atom, body_of, rule_of, rules_at, program_in}
use Rattle.copies.specs.inner.Bodies.{body_by, entry_body, bodies_by, atom_count}
use Rattle.copies.specs.inner.Kept.{keeps, kept_entries, Kept}
use Rattle.copies.specs.inner.Ready.{Ready}

filter_map : {A B : Type 0} (p : B → Bool) (f : A → B) (l : List A) → filter p (map f l) ≡ map f (filter (λ x. p (f x)) l)
unfolding filter
filter_map p f [] = refl
filter_map p f (x ∷ l) = by_bool (p (f x)) (λ t. rw t (ap (λ ys. f x ∷ ys) (filter_map p f l))) (λ z. rw z (filter_map p f l))

-- Renamed bodies have as many atoms.
pub atoms_renamed : (f : ℕ → ℕ) (g : ℕ → Body) (l : List ℕ) → atom_count (map (λ i. renamed f (g i)) l) ≡ atom_count (map g l)
unfolding atom_count renamed
atoms_renamed f g [] = refl
atoms_renamed f g (i ∷ l) =
    let p = length-map (g i).pos f in
    let n = length-map (g i).neg last in
    let e = atoms_renamed f g l in
    omega arith

module _ (t : ProgramTable) (components q : List ℕ) (R : Ready t components q) where
  abbrev P : Program
  P = program_in t

  abbrev wf : well_formed P ≡ true
  wf = R.readable.formed

  -- The positive atoms of a rule are atoms of the table.
  rule_low : (i : ℕ) → i < t.rules → below t.atoms (listed (table_rule t.records t.entries i).pos) ≡ true
  unfolding program_in well_formed rule_below body_below rules_at rule_of body_of
  rule_low i l =
      let rule : ℕ → Rule = λ i. rule_of (table_rule t.records t.entries i) in
      let r = all_at (rule_below t.atoms) P.rules (and_left (all (rule_below t.atoms) P.rules) (all (body_below t.atoms) P.constraints) wf) (rule i)
      (Memᴰ.map rule (range_in 0 t.rules i (omega arith) (omega arith))) in
      let b = and_right (ltb (table_rule t.records t.entries i).head t.atoms) (body_below t.atoms (body_of (table_rule t.records t.entries i))) r in
      and_left (below t.atoms (listed (table_rule t.records t.entries i).pos)) (below t.atoms (listed (table_rule t.records t.entries i).neg ++ added_atom (table_rule t.records t.entries i).added)) b

  module _ (past : List Copy) (keeping : ℕ) (marks : (b : ℕ) → has keeping b ≡ latest_keeps past b) (a : ℕ) (within : a < t.atoms) where
    abbrev entries : List ℕ
    entries = kept_entries t a (get_or components a 0) keeping

    abbrev body : ℕ → Body
    body i = body_of (table_rule t.records t.entries i)

    same_test : (i : ℕ) → i < t.rules → is_kept P past a (rule_of (table_rule t.records t.entries i))
        ≡ keeps a (get_or components a 0) keeping (table_rule t.records t.entries i)
    unfolding is_kept keeps rule_of body_of usable
    same_test i l =
        ap (λ (x : Bool). eqb (table_rule t.records t.entries i).head a && x)
        (all_cong (usable P past a) (λ b. not (has (get_or components a 0) b) || has keeping b) (listed (table_rule t.records t.entries i).pos) each)
      where
        each : (b : ℕ) → Memᴰ b (listed (table_rule t.records t.entries i).pos) → usable P past a b ≡ (not (has (get_or components a 0) b) || has keeping b)
        each b m =
            let h = below_at t.atoms (listed (table_rule t.records t.entries i).pos) (rule_low i l) b m in
            ap₂ (λ (x y : Bool). not x || y) (sym (R.grouped.members a b within h)) (sym (marks b))

    pub kept_are : kept_for P past a ≡ map (λ i. renamed (replaced P past a) (body i)) entries
    unfolding kept_for program_in rules_at kept_entries rule_of
    kept_are =
        let rule : ℕ → Rule = λ i. rule_of (table_rule t.records t.entries i) in
        ap (map (λ (r : Rule). renamed (replaced P past a) r.body)) (filter_map (is_kept P past a) rule (range 0 t.rules))
        ∙ (map-map (λ (r : Rule). renamed (replaced P past a) r.body) rule (filter (λ i. is_kept P past a (rule i)) (range 0 t.rules))
        ∙ ap (map (λ i. renamed (replaced P past a) (body i)))
        (filter_cong (λ i. is_kept P past a (rule i)) (λ i. keeps a (get_or components a 0) keeping (table_rule t.records t.entries i)) (range 0 t.rules)
        (λ i m. let r = (range_out 0 t.rules i m).high in same_test i (omega arith))))

    -- An entry that is kept is one of a rule.
    pub entry_low : (i : ℕ) → Memᴰ i entries → i < t.rules
    unfolding kept_entries
    entry_low i m =
        let f = (filter_out (λ i. keeps a (get_or components a 0) keeping (table_rule t.records t.entries i)) (range 0 t.rules) i m).0 in
        let x = (range_out 0 t.rules i f).high in
        omega arith

    pub kept_number : length (kept_for P past a) ≡ length entries
    kept_number = ap length kept_are ∙ length-map entries (λ i. renamed (replaced P past a) (body i))

    pub kept_atoms : atom_count (kept_for P past a) ≡ atom_count (map body entries)
    kept_atoms = ap atom_count kept_are ∙ atoms_renamed (replaced P past a) body entries

    module _ (list : List ℕ) (k : ℕ) (K : Kept t a (get_or components a 0) keeping list k) where
      pub kept_bodies_lem : (vars : List ℕ) → ((b : ℕ) → b < t.atoms → get_or vars b 0 ≡ replaced P past a b) → kept_for P past a ≡ bodies_by t.records t.entries vars (take k list)
      unfolding bodies_by kept_entries entry_body body_by renamed body_of
      kept_bodies_lem vars h =
          kept_are
          ∙ (map_cong (λ i. renamed (replaced P past a) (body i)) (entry_body t.records t.entries vars) entries each
          ∙ ap (map (entry_body t.records t.entries vars)) (sym K.are))
        where
          each : (i : ℕ) → Memᴰ i entries → renamed (replaced P past a) (body i) ≡ entry_body t.records t.entries vars i
          each i m =
              let l = entry_low i m in
              ap (λ ps. record { pos = ps; neg = map last (listed (table_rule t.records t.entries i).neg ++ added_atom (table_rule t.records t.entries i).added) })
              (map_cong (replaced P past a) (λ b. get_or vars b 0) (listed (table_rule t.records t.entries i).pos) (λ b x. sym (h b (below_at t.atoms (listed (table_rule t.records t.entries i).pos) (rule_low i l) b x))))
