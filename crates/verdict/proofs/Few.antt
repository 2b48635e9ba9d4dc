-- How large the numbers are that a check names: refusals up to 27, at most 4 points and 6 consequents, rows at fault up to 176.
-- Carried by a bound on the refusals of each reader, and by a place in its consequent for each walk that stops.
-- Assumes nothing.
use mathlib.Core.Path.{◌≡◌, refl, sym, subst}
use mathlib.Core.Bool.{Bool, true, false, not, cond}
use mathlib.Core.List.{List, [], ◌∷◌}
use Prim.Native.Nat.{ℕ, suc, ◌+◌, ◌≤◌, ◌<◌, ◌*◌}
use native.Mathlib.Omega.{arith}
use lib.ListN.{length, drop, replicate}
use lib.Seq.{take-append_seam}
use lib.Dec.{eqb, T}
use borrow.Author.Tests.{eqb-true}
use Rattle.scenario.specs.Rows.{points, Row, Run, Env}
use Rattle.scenario.specs.Sheet.{Answer, nothing, found, Says, env, all, matching, Sheet}
use Rattle.scenario.specs.Walk.{walk, Walk, through, stops, later_stop, advance}
use Rattle.scenario.specs.Search.{check, is_violating, stopped, faults, place_of}
use Rattle.scenario.specs.Reading.{All}
use Rattle.scenario.proofs.Base.{all_map, both}
use Rattle.scenario.proofs.Least.{Placed, least-says}
use Rattle.sheet.specs.Reading.{sheet_in, answer as sheet-answer}
use Rattle.sheet.proofs.Theorems.{accepted-sheet}
use Rattle.runlog.specs.Log.{run_in, answer as log-answer}
use Rattle.runlog.proofs.Whole.{answer-few}
use Rattle.runlog.proofs.Theorems.{accepted-text}
use Rattle.verdict.specs.Check.{Checked}
use Rattle.verdict.specs.Check.{blank, front, violated_at, placement_in, rows_in, verdict_of, check_of}
use Rattle.consequent.proofs.Walk.{faults-length}
use Rattle.sheet.proofs.Bound.{sheet-refusal-low}
use Rattle.runlog.proofs.Bound.{log-refusal-low}
use mathlib.Core.Option.{Option, none, some}

-- Rows at fault

-- a walk stops at one of its rows
place-low : (run : Run) (c : List Row) (e : Env) → T (stopped (walk run e c)) → place_of (walk run e c) < length c
unfolding walk
place-low run [] e t = absurd t
place-low run (r ∷ rs) e t = go (advance run e r) t (λ e'. place-low run rs e')
  where
    further : (w : Walk) → T (stopped (later_stop w)) → (T (stopped w) → place_of w < length rs) → place_of (later_stop w) < suc (length rs)
    further (through e) t f = absurd t
    further (stops j) t f = omega (arith, f tt)

    go : (o : Option Env) → T (stopped (elim o [ none ↦ stops 0 | some e' ↦ later_stop (walk run e' rs) ])) → ((e' : Env) → T (stopped (walk run e' rs)) → place_of (walk run e' rs) < length rs)
        → place_of (elim o [ none ↦ stops 0 | some e' ↦ later_stop (walk run e' rs) ]) < suc (length rs)
    go none t f = omega arith
    go (some e') t f = further (walk run e' rs) t (f e')

-- consequents of at most 24 rows each, o rows standing before them
pub faults-low : (run : Run) (sheet : Sheet) (xs : List ℕ) (cs : List (List Row)) (o : ℕ) → All (λ (c : List Row). length c ≤ 24) cs
    → T (all (λ c. stopped (walk run (env run (points sheet.antecedent) xs) c)) cs) → All (λ (x : ℕ). x ≤ o + 24 * length cs) (faults run sheet xs o cs)
unfolding faults all
faults-low run sheet xs [] o R t = tt
faults-low run sheet xs (c ∷ cs) o R t =
    let e = env run (points sheet.antecedent) xs in
    let stop = both (stopped (walk run e c)) (all (λ d. stopped (walk run e d)) cs) t in
    (omega (arith, place-low run c e stop.0, R.0), all_map (λ x h. omega (arith, h, R.0)) (faults run sheet xs (o + length c) cs) (faults-low run sheet xs cs (o + length c) R.1 stop.1))

-- What a check names: a refusal up to 27; at most 4 points, at lines up to 4,000; for at most 6 consequents rows up to 176

pub record Few (c : Checked) : Type 0 where
  pub refusal : c.refusal ≤ 27
  pub points : c.points ≤ 4
  pub consequents : c.consequents ≤ 6
  pub positions : All (λ (x : ℕ). x ≤ 4000) (placement_in c)
  pub rows : All (λ (x : ℕ). x ≤ 176) (rows_in c)

pub blank-few : (r : ℕ) → r ≤ 27 → Few (blank r)
blank-few r h = record { refusal = h; points = omega arith; consequents = omega arith; positions = tt; rows = tt }

module _ (s l : List ℕ) where
  named_few : (sheet-answer s).refusal ≡ 0 → (log-answer l).refusal ≡ 0 → (a : Answer) → check (run_in l) (sheet_in s) ≡ a → Few (verdict_of (run_in l) (sheet_in s) a)
  unfolding verdict_of violated_at front check is_violating
  named_few z w nothing e = blank-few 0 (omega arith)
  named_few z w (found xs) e =
      let S = accepted-sheet s z in
      let R = S.read in
      let sheet = sheet_in s in
      let fs = faults (run_in l) sheet xs (length sheet.antecedent) sheet.consequents in
      let p = subst (Says (Placed (run_in l).lines (length (points sheet.antecedent)) (is_violating (run_in l) sheet))) e
      (least-says (run_in l).lines (length (points sheet.antecedent)) (is_violating (run_in l) sheet)) in
      let n : (run_in l).lines ≤ 4000 = omega (arith, (accepted-text l w).lines, answer-few l) in
      let halts = (both (matching (run_in l) sheet.antecedent xs) (all (λ c. stopped (walk (run_in l) (env (run_in l) (points sheet.antecedent) xs) c)) sheet.consequents) p.has.passes).1 in
      record {
        refusal = omega arith;
        points = omega (arith, p.has.size, R.few);
        consequents = omega (arith, faults-length (run_in l) sheet xs sheet.consequents (length sheet.antecedent), R.count);
        positions = subst (All (λ (x : ℕ). x ≤ 4000)) (sym (take-append_seam xs (drop (length xs) (replicate 4 0)))) (all_map (λ x h. omega (arith, h.1, n)) xs p.has.lines);
        rows = subst (All (λ (x : ℕ). x ≤ 176)) (sym (take-append_seam fs (drop (length fs) (replicate 6 0))))
            (all_map (λ x h. omega (arith, h, S.antecedent-room, R.count)) fs (faults-low (run_in l) sheet xs sheet.consequents (length sheet.antecedent) S.consequent-room halts));
      }

  pub check-few : Few (check_of s l)
  unfolding check_of
  check-few = go (eqb (sheet-answer s).refusal 0) (eqb (log-answer l).refusal 0) refl refl
    where
      go : (b c : Bool) → eqb (sheet-answer s).refusal 0 ≡ b → eqb (log-answer l).refusal 0 ≡ c
          → Few (cond (not b) (blank (sheet-answer s).refusal) (cond (not c) (blank (log-answer l).refusal) (verdict_of (run_in l) (sheet_in s) (check (run_in l) (sheet_in s)))))
      go false c e f = blank-few (sheet-answer s).refusal (omega (arith, sheet-refusal-low s))
      go true false e f = blank-few (log-answer l).refusal (log-refusal-low l)
      go true true e f = named_few (eqb-true (sheet-answer s).refusal 0 e) (eqb-true (log-answer l).refusal 0 f) (check (run_in l) (sheet_in s)) refl

-- the same of an answer that is the check's
pub few : (s l : List ℕ) (c : Checked) → c ≡ check_of s l → Few c
few s l c e = subst Few (sym e) (check-few s l)
