-- Laws of one round of propagation, and of rounds until nothing follows.
use mathlib.Core.Bool.{Bool, true, false}
use mathlib.Core.Path.{◌≡◌, refl, ◌∙◌, subst}
use Prim.Native.Nat.{ℕ, ◌^◌, ◌≤◌, ◌<◌}
use native.Mathlib.Omega.{arith}
use Rattle.std.proofs.Common.{Option, Some, None}
use Rattle.lists.proofs.Bools.{or_left}
use Rattle.bits.specs.inner.Sets.{has, Subset, Both, Either, Difference}
use Rattle.bits.proofs.Digits.{inside_le}
use Rattle.search.specs.inner.Rules.{Masks, LeastBy}
use Rattle.search.specs.inner.Search.{lower, upper, deciding, Refuted, Follows, Propagated, RoundTo, Round}
use Rattle.search.specs.declared.Decisions.{Decisions}
use Rattle.search.proofs.Tasks.{meets, lacks, from_nothing, cut, cut_count, joined, joined_count}

-- What follows from what follows.
module _ (M : Masks) (d p : Decisions) (F : Follows M d p) where
  pub follows_refuted : Refuted M p → Refuted M d
  follows_refuted R = record { is = λ n rs cs T. let U = F.is n rs cs T in U.same ∙ R.is n rs cs U.task }

  follows_then : (q : Decisions) → Follows M p q → Follows M d q
  follows_then q G =
      record {
        is = λ n rs cs T. let U = F.is n rs cs T in let W = G.is n rs cs U.task in record { same = U.same ∙ W.same; task = W.task };
        atoms = G.atoms ∙ F.atoms;
        more_ins = λ a t. G.more_ins a (F.more_ins a t);
        more_outs = λ a t. G.more_outs a (F.more_outs a t);
      }

-- The lower half of a round.
module _ (M : Masks) (d : Decisions) (l : ℕ) (B : LeastBy M (lower d) d.ins l) where
  pub round_met : (r : ℕ) → r < 2 ^ 64 → Both l d.outs r → (r ≡ 0 → ⊥) → Refuted M d
  round_met r s W ne = record { is = λ n rs cs T. meets n rs cs M d T l B r s W ne }

  -- Then the upper half, from all that is in.
  pub round_then : (r : ℕ) → Both l d.outs r → r ≡ 0 → (y ins : ℕ) → Both l d.atoms y → Either d.ins y ins → (p : Option Decisions) → Round M (deciding d ins d.outs) p → Round M d p
  round_then r W none y ins Y E = go
    where
      first : Follows M d (deciding d ins d.outs)
      first =
          record {
            is = λ n rs cs T. record { same = joined_count n rs cs M d T l B r W none y ins Y E; task = joined n rs cs M d T l B r W none y ins Y E };
            atoms = refl;
            more_ins = λ a s. E.members a ∙ or_left (has y a) s;
            more_outs = λ a s. s;
          }

      go : (p : Option Decisions) → Round M (deciding d ins d.outs) p → Round M d p
      go None R = follows_refuted M d (deciding d ins d.outs) first R
      go (Some p) R = record { follows = follows_then M d (deciding d ins d.outs) first p R.follows; grows = R.grows; fits = R.fits }

pub round_still : (M : Masks) (d : Decisions) → d.outs < 2 ^ 64 → RoundTo M d d
round_still M d low =
    record {
      follows = record {
        is = λ n rs cs T. record { same = refl; task = T };
        atoms = refl;
        more_ins = λ a t. t;
        more_outs = λ a t. t;
      };
      grows = omega arith;
      fits = low;
    }

-- The upper half.
module _ (M : Masks) (d : Decisions) (u : ℕ) (C : LeastBy M (upper d) 0 u) (b : Bool) (S : Subset d.ins u b) (low : d.outs < 2 ^ 64) where
  pub round_lacks : b ≡ false → Refuted M d
  round_lacks f = record { is = λ n rs cs T. lacks n rs cs M d T u (from_nothing n rs cs M d T (upper d) u C) (subst (Subset d.ins u) f S) }

  pub round_goes : (z outs : ℕ) → b ≡ true → Difference d.atoms u z → Either d.outs z outs → outs < 2 ^ 64 → RoundTo M d (deciding d d.ins outs)
  round_goes z outs t Z D high =
      record {
        follows = record {
          is = λ n rs cs T. record {
            same = cut_count n rs cs M d T u C (subst (Subset d.ins u) t S) z outs Z D;
            task = cut n rs cs M d T u C (subst (Subset d.ins u) t S) z outs Z D;
          };
          atoms = refl;
          more_ins = λ a s. s;
          more_outs = λ a s. D.members a ∙ or_left (has z a) s;
        };
        grows = inside_le 64 d.outs outs low high (λ a s. D.members a ∙ or_left (has z a) s);
        fits = high;
      }

-- Rounds, the last from atoms out.
pub record Propagating (M : Masks) (d : Decisions) (seen : ℕ) (p : Decisions) : Type 0 where
  pub done : Follows M d p
  pub grows : seen ≤ p.outs
  pub fits : p.outs < 2 ^ 64

module _ (M : Masks) (d : Decisions) where
  pub propagating_start : (p : Decisions) → RoundTo M d p → Propagating M d d.outs p
  propagating_start p R = record { done = R.follows; grows = R.grows; fits = R.fits }

  module _ (seen : ℕ) (p : Decisions) (A : Propagating M d seen p) where
    pub propagating_turn : (q : Decisions) → RoundTo M p q → Propagating M d p.outs q
    propagating_turn q R = record { done = follows_then M d p A.done q R.follows; grows = R.grows; fits = R.fits }

    pub propagating_refuted : (r : Option Decisions) → r ≡ None → Refuted M p → Propagated M d r
    propagating_refuted r e R = rw e (follows_refuted M d p A.done R)

    pub propagating_end : Follows M d p
    propagating_end = A.done
