-- The count of an expanded program is the number of the cuts of its answer sets, and the count by the free rules over the written atoms.
use mathlib.Core.Bool.{Bool, true, ◌&&◌, false≢true}
use mathlib.Core.List.Memᴰ
use mathlib.Core.List.{List, map, Memᴰ, Nodup}
use mathlib.Core.Path.{◌≡◌, sym, ◌∙◌, subst}
use Prim.Native.Nat.{ℕ}
use lib.ListN.{length, length-map}
use Rattle.lists.specs.Lists.{filter}
use Rattle.lists.proofs.Bools.{and_intro, and_left}
use Rattle.lists.proofs.Members.{filter_in, filter_out}
use Rattle.lists.proofs.Nodup.{nodup_map, nodup_filter, nodup_same}
use Rattle.asp.specs.Program.{Program, State}
use Rattle.asp.specs.StableModel.{StableModel}
use Rattle.asp.specs.Count.{Enumerates, empty, states, stable_models, count}
use Rattle.asp.proofs.Same.{stable_answer, answer_stable}
use Rattle.asp.proofs.Counted.{states_within, states_all, states_distinct, stable_listed}
use Rattle.search.specs.inner.Decided.{is_stable_by, agrees, count_by}
use Rattle.search.proofs.Branching.{agree_make}
use Rattle.sheet.specs.Sheet.{Record, constraints_of, program_of}
use Rattle.sheet.specs.inner.Walk.{AllSound}
use Rattle.choice.specs.Written.{projected, ProjectedAnswerSet}
use Rattle.choice.specs.inner.FreeRules.{free_rules}
use Rattle.choice.proofs.Expanded.{expanded_formed}
use Rattle.choice.proofs.Unique.{written_within, written_decide}
use Rattle.choice.proofs.Meaning.{cut_stable, stable_lift}

-- With nothing decided every state agrees.
agree_empty : (n : ℕ) (X : State) → agrees n empty empty X ≡ true
unfolding empty
agree_empty n X = agree_make n empty empty X (λ a l e. absurd (false≢true e)) (λ a l e. absurd (false≢true e))

module _ (n : ℕ) (rs : List Record) (A : AllSound n rs) where
  abbrev P : Program
  P = program_of n rs

  -- The cuts of the stable models, each once.
  pub cuts : List State
  cuts = map (projected n) (stable_models P)

  listed : Enumerates (StableModel P) (stable_models P)
  listed = stable_listed P (expanded_formed n rs A)

  cuts_differ : Nodup cuts
  unfolding cuts
  cuts_differ = nodup_map (projected n) (stable_models P) (λ X Y m k. written_decide n rs A X Y (listed.sound X m) (listed.sound Y k)) listed.distinct

  cut_out : (Y : State) → Memᴰ Y cuts → (X : State) × StableModel P X × (projected n X ≡ Y)
  unfolding cuts
  cut_out Y m = let u = Memᴰ.of_map (projected n) (stable_models P) m in (u.0, listed.sound u.0 u.1, u.2)

  cut_in : (X : State) → StableModel P X → Memᴰ (projected n X) cuts
  unfolding cuts
  cut_in X S = Memᴰ.map (projected n) (listed.complete X S)

  -- A list of the cuts, each once, is as long as the count says.
  count_cuts : (L : List State) → Nodup L → ((Y : State) → Memᴰ Y L → Memᴰ Y cuts) → ((Y : State) → Memᴰ Y cuts → Memᴰ Y L) → length L ≡ count P
  unfolding count cuts
  count_cuts L d f g = nodup_same L cuts d cuts_differ f g ∙ length-map (stable_models P) (projected n)

  -- The cuts of answer sets are listed so.
  pub cuts_listed : Enumerates (ProjectedAnswerSet n P) cuts
  cuts_listed =
      let w = expanded_formed n rs A in
      record {
        distinct = cuts_differ;
        sound = λ Y m. let u = cut_out Y m in (u.0, stable_answer P w u.0 u.1, u.2);
        complete = λ Y u. subst (λ Y. Memᴰ Y cuts) u.2 (cut_in u.0 (answer_stable P w u.0 u.1));
      }

  -- However the cuts of answer sets are listed, each once, the list is as long as the count says.
  pub count_written : (L : List State) → Enumerates (ProjectedAnswerSet n P) L → length L ≡ count P
  count_written L E =
      count_cuts L E.distinct (λ Y m. cuts_listed.complete Y (E.sound Y m)) (λ Y m. E.complete Y (cuts_listed.sound Y m))

  -- The states that are stable by the free rules are the cuts.
  pub count_free : count P ≡ count_by n (free_rules rs) (constraints_of rs) empty empty
  unfolding count_by
  count_free =
      sym (count_cuts (filter test (states n)) (nodup_filter test (states n) (states_distinct n))
      (λ Y m. let u = filter_out test (states n) Y m in
      let v = stable_lift n rs A Y (states_within n Y u.0) (and_left (is_stable_by n (free_rules rs) (constraints_of rs) Y) (agrees n empty empty Y) u.1) in
      subst (λ Y. Memᴰ Y cuts) v.2 (cut_in v.0 v.1))
      (λ Y m. let u = cut_out Y m in
      subst (λ Y. Memᴰ Y (filter test (states n))) u.2
      (filter_in test (states n) (projected n u.0) (states_all n (projected n u.0) (written_within n u.0)) (and_intro (cut_stable n rs A u.0 u.1) (agree_empty n (projected n u.0))))))
    where
      test : State → Bool
      test Y = is_stable_by n (free_rules rs) (constraints_of rs) Y && agrees n empty empty Y
