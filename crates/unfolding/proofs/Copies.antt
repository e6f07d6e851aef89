-- An assignment solves the unfolded program just when each copy has the value that the copies before it give it.
use mathlib.Core.Bool.{true, false, not, ◌&&◌, cond}
use mathlib.Core.List.Memᴰ
use mathlib.Core.List.{List, [], ◌∷◌, map, reverse_aux, Memᴰ}
use mathlib.Core.Logic.{inr, ⊎_elim}
use mathlib.Core.Path.{◌≡◌, refl, sym, ◌∙◌, ap, subst}
use Prim.Native.Nat.{ℕ, suc, ◌+◌, ◌<◌}
use native.Mathlib.Omega.{arith}
use borrow.Author.Tests.{eqb-true, eqb-false, eq-eqb, lt-ltb}
use lib.Dec.{eqb, ltb}
use lib.ListN.{length}
use Rattle.lists.specs.Lists.{all, any, filter, member}
use Rattle.lists.proofs.Bools.{by_bool, true_false, is_false, bool_ext, and_intro, and_left, and_right}
use Rattle.lists.proofs.Members.{all_at, all_intro, all_map, all_cong, any_at, any_intro, filter_in, filter_out, member_in, member_out}
use Rattle.asp.specs.Program.{Body, Rule, Program, State, outside, holds, well_formed}
use Rattle.asp.proofs.Derived.{fires_in, fires_out, pos_below, rule_atoms}
use Rattle.asp.proofs.Same.{holds_in, holds_pos, holds_neg}
use Rattle.unfolding.specs.Graph.{same_component}
use Rattle.unfolding.specs.Unfolded.{Copy, last, latest_keeps, latest, usable, replaced, renamed, is_kept, kept_for, variable, copies_from}
use Rattle.unfolding.specs.Faithful.{Assignment}
use Rattle.unfolding.proofs.Current.{reads, copy_value, current, current_here, current_other, reads_same, reads_other}

-- The entries of the copies.
abbrev pub entries : List Copy → List ℕ
entries past = map (λ c. c.atom) past

-- Each copy's variable is true just when the body of a rule kept for it holds.
abbrev pub Solves : Assignment → List Copy → Type 0
Solves M cs = (c : Copy) → Memᴰ c cs → M c.var ≡ any (holds M) c.kept

-- Last copies have the values of the state.
pub outside_last : (M : Assignment) (X : State) (l : List ℕ) → ((b : ℕ) → Memᴰ b l → M (last b) ≡ X b) → outside M (map last l) ≡ outside X l
unfolding outside
outside_last M X l h = all_map (λ v. not (M v)) last l ∙ all_cong (λ b. not (M (last b))) (λ b. not (X b)) l (λ b m. ap not (h b m))

-- Each copy has the value that the copies before it give it; `past` are the entries so far, the latest first.
abbrev pub Follows : Program → State → Assignment → ℕ → List ℕ → List ℕ → Type 0
Follows P X M e past [] = Unit {0}
Follows P X M e past (a ∷ s) =
    (M (variable P e a (member a s)) ≡ copy_value P X (current P X past) a) × Follows P X M (cond (member a s) (suc e) e) (a ∷ past) s

module _ (P : Program) (wf : well_formed P ≡ true) (M : Assignment) (X : State) (projects : (b : ℕ) → b < P.atoms → M (last b) ≡ X b) where
  -- The copies made so far have the current values.
  abbrev pub Agrees : List Copy → Type 0
  Agrees past = (b : ℕ) → (latest_keeps past b && M (latest past b)) ≡ current P X (entries past) b

  module _ (past : List Copy) (agrees : Agrees past) (a : ℕ) where
    L : State
    L = reads P X (current P X (entries past)) a

    reads_in : (b : ℕ) → b < P.atoms → L b ≡ true → (usable P past a b ≡ true) × (M (replaced P past a b) ≡ true)
    unfolding L usable replaced
    reads_in b l r =
        by_bool (same_component P a b)
        (λ t. let c = agrees b ∙ (sym (reads_same P X (current P X (entries past)) a b t) ∙ r) in
        rw t (and_left (latest_keeps past b) (M (latest past b)) c, and_right (latest_keeps past b) (M (latest past b)) c))
        (λ f. rw f (refl, projects b l ∙ (sym (reads_other P X (current P X (entries past)) a b f) ∙ r)))

    reads_out : (b : ℕ) → b < P.atoms → usable P past a b ≡ true → M (replaced P past a b) ≡ true → L b ≡ true
    unfolding L usable replaced
    reads_out b l u v =
        by_bool (same_component P a b)
        (λ t. reads_same P X (current P X (entries past)) a b t ∙ (sym (agrees b) ∙ and_intro (rw t at u) (rw t at v)))
        (λ f. reads_other P X (current P X (entries past)) a b f ∙ (sym (projects b l) ∙ (rw f at v)))

    negatives : (r : Rule) → Memᴰ r P.rules → outside M (map last r.body.neg) ≡ outside X r.body.neg
    negatives r m = outside_last M X r.body.neg (λ b k. projects b (rule_atoms P wf r m b (inr k)))

    kept_fires : any (holds M) (kept_for P past a) ≡ true → copy_value P X (current P X (entries past)) a ≡ true
    unfolding kept_for is_kept renamed copy_value L
    kept_fires e =
        let u = any_at (holds M) (kept_for P past a) e in
        let q = Memᴰ.of_map (λ (r : Rule). renamed (replaced P past a) r.body) (filter (is_kept P past a) P.rules) u.1 in
        let f = filter_out (is_kept P past a) P.rules q.0 q.1 in
        let r = q.0 in
        let h : holds M (renamed (replaced P past a) r.body) ≡ true = ap (holds M) q.2 ∙ u.2 in
        let ps = sym (all_map M (replaced P past a) r.body.pos) ∙ holds_pos M (renamed (replaced P past a) r.body) h in
        let us = and_right (eqb r.head a) (all (usable P past a) r.body.pos) f.1 in
        fires_in P.rules X L a (record {
          rule = r;
          stands = f.0;
          head = eqb-true r.head a (and_left (eqb r.head a) (all (usable P past a) r.body.pos) f.1);
          negatives = sym (negatives r f.0) ∙ holds_neg M (renamed (replaced P past a) r.body) h;
          positives = all_intro L r.body.pos (λ b k. reads_out b (pos_below P wf r f.0 b k) (all_at (usable P past a) r.body.pos us b k) (all_at (λ b. M (replaced P past a b)) r.body.pos ps b k));
        })

    fires_kept : copy_value P X (current P X (entries past)) a ≡ true → any (holds M) (kept_for P past a) ≡ true
    unfolding kept_for is_kept renamed copy_value L
    fires_kept e =
        let F = fires_out P.rules X L a e in
        let r = F.rule in
        let reading : (b : ℕ) → Memᴰ b r.body.pos → (usable P past a b ≡ true) × (M (replaced P past a b) ≡ true) = λ b k. reads_in b (pos_below P wf r F.stands b k) (all_at L r.body.pos F.positives b k) in
        any_intro (holds M) (kept_for P past a) (renamed (replaced P past a) r.body)
        (Memᴰ.map (λ (r : Rule). renamed (replaced P past a) r.body)
        (filter_in (is_kept P past a) P.rules r F.stands (and_intro (eq-eqb r.head a F.head) (all_intro (usable P past a) r.body.pos (λ b k. (reading b k).0)))))
        (holds_in M (renamed (replaced P past a) r.body)
        (all_map M (replaced P past a) r.body.pos ∙ all_intro (λ b. M (replaced P past a b)) r.body.pos (λ b k. (reading b k).1))
        (negatives r F.stands ∙ F.negatives))

    kept_value : any (holds M) (kept_for P past a) ≡ copy_value P X (current P X (entries past)) a
    kept_value = bool_ext kept_fires fires_kept

    -- A copy that keeps no rule is false.
    no_rule : {v : ℕ} (bs : List Body) → M v ≡ any (holds M) bs → (ltb 0 (length bs) && M v) ≡ M v
    unfolding any
    no_rule [] own = sym own
    no_rule (b ∷ bs) own = rw (lt-ltb 0 (length (b ∷ bs)) (omega arith)) refl

    -- With one copy more.
    agrees_more : (v : ℕ) (bs : List Body) → M v ≡ any (holds M) bs → M v ≡ copy_value P X (current P X (entries past)) a
        → Agrees (record { atom = a; var = v; kept = bs } ∷ past)
    unfolding latest_keeps latest
    agrees_more v bs own e b =
        by_bool (eqb a b)
        (λ t. rw t (no_rule bs own ∙ (e ∙ sym (current_here P X (entries past) a b (eqb-true a b t)))))
        (λ f. rw f (agrees b ∙ sym (current_other P X (entries past) a b (eqb-false a b f))))

  -- Along the sequence, both ways.
  pub solves_follows : (s : List ℕ) (e : ℕ) (past : List Copy) → Agrees past → Solves M (copies_from P e past s) → Follows P X M e (entries past) s
  unfolding copies_from
  solves_follows [] e past g h = tt
  solves_follows (a ∷ s) e past g h =
      let v = variable P e a (member a s) in
      let bs = kept_for P past a in
      let own : M v ≡ any (holds M) bs = h (record { atom = a; var = v; kept = bs }) (Memᴰ.head refl) in
      let here : M v ≡ copy_value P X (current P X (entries past)) a = own ∙ kept_value past g a in
      (here, solves_follows s (cond (member a s) (suc e) e) (record { atom = a; var = v; kept = bs } ∷ past) (agrees_more past g a v bs own here) (λ c m. h c (Memᴰ.tail m)))

  pub follows_solves : (s : List ℕ) (e : ℕ) (past : List Copy) → Agrees past → Follows P X M e (entries past) s → Solves M (copies_from P e past s)
  unfolding copies_from
  follows_solves [] e past g f c m = absurd (Memᴰ.not-nil m)
  follows_solves (a ∷ s) e past g f c m =
      let v = variable P e a (member a s) in
      let bs = kept_for P past a in
      let own : M v ≡ any (holds M) bs = f.0 ∙ sym (kept_value past g a) in
      ⊎_elim (λ q. subst (λ (c : Copy). M c.var ≡ any (holds M) c.kept) (sym q) own)
      (λ k. follows_solves s (cond (member a s) (suc e) e) (record { atom = a; var = v; kept = bs } ∷ past) (agrees_more past g a v bs own f.0) f.1 c k)
      (Memᴰ.cases_cons m)

  pub agrees_none : Agrees []
  unfolding latest_keeps current
  agrees_none b = refl

-- An atom that does not come again keeps its value.
current_later : (P : Program) (X : State) (s past : List ℕ) (a : ℕ) → member a s ≡ false → current P X (reverse_aux s past) a ≡ current P X past a
current_later P X [] past a f = refl
current_later P X (x ∷ s) past a f =
    current_later P X s (x ∷ past) a (is_false (λ t. true_false (member_in a (x ∷ s) (Memᴰ.tail (member_out a s t))) f))
    ∙ current_other P X past x a (λ q. true_false (member_in a (x ∷ s) (Memᴰ.head (sym q))) f)

-- The last copy of an atom has its value at the end.
pub last_value : (P : Program) (X : State) (M : Assignment) (s : List ℕ) (e : ℕ) (past : List ℕ) → Follows P X M e past s
    → (a : ℕ) → Memᴰ a s → M (last a) ≡ current P X (reverse_aux s past) a
unfolding variable
last_value P X M [] e past f a m = absurd (Memᴰ.not-nil m)
last_value P X M (x ∷ s) e past f a m =
    by_bool (member a s) (λ t. last_value P X M s (cond (member x s) (suc e) e) (x ∷ past) f.1 a (member_out a s t))
    (λ gone. ⊎_elim (λ q. here q gone) (λ k. absurd (true_false (member_in a s k) gone)) (Memᴰ.cases_cons m))
  where
    here : a ≡ x → member a s ≡ false → M (last a) ≡ current P X (reverse_aux s (x ∷ past)) a
    here q gone =
        ap (λ y. M (last y)) q
        ∙ (subst (λ b. M (cond b (P.atoms + suc e) (last x)) ≡ copy_value P X (current P X past) x) (ap (λ y. member y s) (sym q) ∙ gone) f.0
        ∙ (sym (current_here P X past x a (sym q)) ∙ sym (current_later P X s (x ∷ past) a gone)))
