-- The laws of a log: a set and its complement part the lines.
-- Assumes nothing.
use mathlib.Core.Path.{◌≡◌, sym, ◌∙◌, ap}
use mathlib.Core.Bool.{true, false, not, ◌&&◌}
use Prim.Native.Nat.{ℕ, zero, suc, ◌-◌, ◌*◌, ◌/◌, ◌%◌, ◌^◌, ◌<◌}
use native.Mathlib.Omega.{arith}
use native.Mathlib.Nat.{div-div-eq-div-mul, div-one, pow-succ'}
use mathlib.Core.Logic.{⊎_elim}
use lib.ListN.{length, get_or}
use lib.Dec.{leb, eqb, leb→le, le→leb, eqb→eq}
use Rattle.scenario.specs.Rows.{event_count, full_set}
use Rattle.scenario.specs.Log.{Log, in_set, has_at, run_of}
use Rattle.scenario.proofs.Base.{both, tell, is_true, is_false, eq→eqb, neq→neqb, neqb→neq, all_get_d}
use Rattle.scenario.specs.Reading.{IsEvents, LogRead}
use Rattle.scenario.proofs.Rules.{Laws}
use Rattle.scenario.proofs.Halves.{complement-whole}

pub in_set-zero : (s : ℕ) → in_set s 0 ≡ eqb (s % 2) 1
unfolding in_set
in_set-zero s = ap (λ (k : ℕ). eqb (k % 2) 1) (div-one s)

-- one bit further is half the number
pub in_set-suc : (s e : ℕ) → in_set s (suc e) ≡ in_set (s / 2) e
unfolding in_set
in_set-suc s e = ap (λ (k : ℕ). eqb (k % 2) 1) (ap (λ (d : ℕ). s / d) (pow-succ' 2 e) ∙ sym (div-div-eq-div-mul s 2 (2 ^ e)))

-- the lowest bits of a number and of its complement to 2 p - 1 differ
flip : (p s : ℕ) → s < 2 * p → eqb ((2 * p - 1 - s) % 2) 1 ≡ not (eqb (s % 2) 1)
flip p s h = ⊎_elim
    (λ t. let q = eqb→eq (s % 2) 1 t in
    is_false (eqb ((2 * p - 1 - s) % 2) 1) (neq→neqb ((2 * p - 1 - s) % 2) 1 (λ z. omega arith)) ∙ sym (ap not (is_true (eqb (s % 2) 1) t)))
    (λ t. let q = neqb→neq (s % 2) 1 t in
    is_true (eqb ((2 * p - 1 - s) % 2) 1) (eq→eqb ((2 * p - 1 - s) % 2) 1 (odd q)) ∙ sym (ap not (is_false (eqb (s % 2) 1) t)))
    (tell (eqb (s % 2) 1))
  where
    odd : (s % 2 ≡ 1 → ⊥) → (2 * p - 1 - s) % 2 ≡ 1
    odd q = omega arith

-- the complement in k bits
pub in_set-complement : (e k s : ℕ) → e < k → s < 2 ^ k → in_set (2 ^ k - 1 - s) e ≡ not (in_set s e)
in_set-complement e zero s h l = absurd (omega arith)
in_set-complement zero (suc k) s h l =
    in_set-zero (2 ^ suc k - 1 - s) ∙ ap (λ (p : ℕ). eqb ((p - 1 - s) % 2) 1) (pow-succ' 2 k)
    ∙ flip (2 ^ k) s (omega (arith, pow-succ' 2 k)) ∙ sym (ap not (in_set-zero s))
in_set-complement (suc e) (suc k) s h l =
    in_set-suc (2 ^ suc k - 1 - s) e ∙ ap (λ (x : ℕ). in_set x e) halves
    ∙ in_set-complement e k (s / 2) (omega arith) (omega (arith, pow-succ' 2 k)) ∙ sym (ap not (in_set-suc s e))
  where
    halves : (2 ^ suc k - 1 - s) / 2 ≡ 2 ^ k - 1 - s / 2
    halves = omega (arith, pow-succ' 2 k)

pub in_set-none : (e : ℕ) → in_set 0 e ≡ false
in_set-none zero = in_set-zero 0
in_set-none (suc e) = in_set-suc 0 e ∙ in_set-none e

-- every event is in the full set
pub in_set-full : (e : ℕ) → e < event_count → in_set full_set e ≡ true
in_set-full e h = in_set-complement e event_count 0 h (omega arith) ∙ ap not (in_set-none e)

-- The laws of a log that is read.
pub laws : (g : Log) → LogRead g → Laws (run_of g)
unfolding has_at IsEvents
laws g h = record {
  line = λ s x t. let a = both (leb 1 x && leb x (length g.events)) (in_set s (get_or g.events (x - 1) 0)) t in
      let b = both (leb 1 x) (leb x (length g.events)) a.0 in (leb→le 1 x b.0, leb→le x (length g.events) b.1);
  other = λ s x i o.
      rw (is_true (leb 1 x) (le→leb 1 x o.0), is_true (leb x (length g.events)) (le→leb x (length g.events) o.1))
      (ap (λ (c : ℕ). in_set c (get_or g.events (x - 1) 0)) (complement-whole s i)
      ∙ in_set-complement (get_or g.events (x - 1) 0) event_count s (all_get_d (λ (e : ℕ). e < event_count) 0 g.events h (x - 1) (omega arith)) (omega arith));
}
