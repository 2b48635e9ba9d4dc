-- What a host gets, by how an operation ends.
-- Assumes nothing.
use mathlib.Core.Path.{◌≡◌, refl, sym, ◌∙◌, ap}
use mathlib.Core.Bool.{Bool, true, false, not, cond}
use mathlib.Core.List.{List}
use Prim.Native.Nat.{ℕ}
use lib.Dec.{eqb}
use borrow.Author.Tests.{eq-eqb, ne_eqb}
use Rattle.std.specs.Prelude.{Option, Some, None, Result, Ok, Err}
use Rattle.std.specs.Result.{result_unwrap_or}
use Rattle.refusal.specs.declared.Refusal.{Refusal}
use Rattle.refusal.specs.Refusal.{number, refused_with}
use Rattle.refusal.proofs.Numbers.{is_refused}
use Rattle.scenario.specs.Rows.{Run}
use Rattle.scenario.specs.Sheet.{Sheet, Answer, nothing, found}
use Rattle.scenario.specs.Search.{check}
use Rattle.sheet.specs.Reading.{sheet_in, answer as sheet-answer}
use Rattle.runlog.specs.Log.{run_in, answer as log-answer}
use Rattle.verdict.specs.Check.{Checked, blank, violated_at, verdict_of, check_of}
use Rattle.limit.specs.Limit.{Limited}
use Rattle.search.specs.Searching.{answered}
use Rattle.findings.specs.Findings.{host_number, when_violated, fronted}
use Rattle.findings.proofs.Telling.{Told, told_same, unviolated_keeps}
use Rattle.bench.specs.Host.{limited_number, unless_refused, field_number, field_value}

-- The number of a check with a limit

module _ (c : Limited) where
  pub limited-stopped : c.stopped ≡ true → 102 ≡ limited_number c
  unfolding limited_number
  limited-stopped e = simp e

  pub limited_ended : c.stopped ≡ false → host_number c.checked ≡ limited_number c
  unfolding limited_number
  limited_ended e = simp e

  -- what is refused has not stopped
  pub limited-refused : (c.stopped ≡ true → c.checked.refusal ≡ 0) → (c.checked.refusal ≡ 0 → ⊥) → host_number c.checked ≡ limited_number c
  limited-refused h n = go c.stopped refl
    where
      go : (b : Bool) → c.stopped ≡ b → host_number c.checked ≡ limited_number c
      go true e = absurd (n (h e))
      go false e = limited_ended e

-- what is refused is not violated
judged_unviolated : (run : Run) (sheet : Sheet) (a : Answer) → ((verdict_of run sheet a).refusal ≡ 0 → ⊥) → (verdict_of run sheet a).violated ≡ false
unfolding verdict_of violated_at
judged_unviolated run sheet nothing n = refl
judged_unviolated run sheet (found xs) n = absurd (n refl)

pub refused_unviolated : (s l : List ℕ) → ((check_of s l).refusal ≡ 0 → ⊥) → (check_of s l).violated ≡ false
unfolding check_of
refused_unviolated s l n = go (eqb (sheet-answer s).refusal 0) (eqb (log-answer l).refusal 0) n
  where
    go : (b c : Bool) → ((cond (not b) (blank (sheet-answer s).refusal) (cond (not c) (blank (log-answer l).refusal) (verdict_of (run_in l) (sheet_in s) (check (run_in l) (sheet_in s))))).refusal ≡ 0 → ⊥)
        → (cond (not b) (blank (sheet-answer s).refusal) (cond (not c) (blank (log-answer l).refusal) (verdict_of (run_in l) (sheet_in s) (check (run_in l) (sheet_in s))))).violated ≡ false
    go false c n = refl
    go true false n = refl
    go true true n = judged_unviolated (run_in l) (sheet_in s) (check (run_in l) (sheet_in s)) n

-- Lent memory, of an operation whose answer is seen as a record with the refusal's number: where nothing is refused the field is left there, else what was there
module _ {A R : Type 0} (view : Result A Refusal → R) (refusal : R → ℕ) (field : R → A) where
  pub record Seen : Type 0 where
    pub accepted : (v : A) → refusal (view (Ok v)) ≡ 0
    pub found : (v : A) → field (view (Ok v)) ≡ v
    pub refused : (r : Refusal) → refusal (view (Err r)) ≡ number r

  -- read off what is there at the end: n is told, and now is left
  pub refusal-told : Seen → (answer : Result A Refusal) (n : ℕ) → ((v : A) → answer ≡ Ok v → n ≡ 0) → ((r : Refusal) → answer ≡ Err r → n ≡ number r) → n ≡ refusal (view answer)
  refusal-told S (Ok v) n a b = a v refl ∙ sym (S.accepted v)
  refusal-told S (Err r) n a b = b r refl ∙ sym (S.refused r)

  pub left : Seen → (answer : Result A Refusal) (now old : A) → ((v : A) → answer ≡ Ok v → now ≡ v) → ((r : Refusal) → answer ≡ Err r → now ≡ old)
      → now ≡ unless_refused (refusal (view answer)) (field (view answer)) old
  unfolding unless_refused
  left S (Ok v) now old a b = a v refl ∙ rw (eq-eqb _ 0 (S.accepted v)) (sym (S.found v))
  left S (Err r) now old a b = b r refl ∙ rw (ne_eqb _ 0 (λ z. is_refused r (sym (S.refused r) ∙ z)))

  -- both at once: the number told is the answer's own, and what is left is its value, or what was there where it is refused
  pub stored : Seen → (answer : Result A Refusal) (old : A)
      → (refused_with answer ≡ refusal (view answer)) × (result_unwrap_or answer old ≡ unless_refused (refusal (view answer)) (field (view answer)) old)
  stored S answer old =
      let kept = λ (a : Result A Refusal). result_unwrap_or a old in
      (refusal-told S answer (refused_with answer) (λ v e. ap refused_with e) (λ r e. ap refused_with e), left S answer (kept answer) old (λ v e. ap kept e) (λ r e. ap kept e))

-- Lent memory: r is the refusal that the program has, s the definition's

module _ {A : Type 0} where
  pub refused-keeps : (r s : ℕ) (value old : A) → r ≡ s → (r ≡ 0 → ⊥) → (r ≡ s) × (old ≡ unless_refused s value old)
  unfolding unless_refused
  refused-keeps r s value old e n = (e, rw (ne_eqb s 0 (λ z. n (e ∙ z))))

  pub answered_writes : (r s : ℕ) (v value old : A) → r ≡ s → r ≡ 0 → v ≡ value → (0 ≡ s) × (v ≡ unless_refused s value old)
  unfolding unless_refused
  answered_writes r s v value old e z q = (sym z ∙ e, rw (eq-eqb s 0 (sym e ∙ z)) q)

-- Findings with a limit: d is what is asked, c what there is, which is not refused
module _ (c d : Limited) (e : c ≡ d) (z : c.checked.refusal ≡ 0) where
  pub limited-written : (number : ℕ) (positions positions' : List ℕ) (points points' : ℕ) (rows rows' : List ℕ) (consequents consequents' looked after : ℕ)
      → Told c.checked number positions positions' points points' rows rows' consequents consequents'
      → (positions' ≡ when_violated d.checked (fronted d.checked.points d.checked.positions positions) positions)
      × ((points' ≡ when_violated d.checked d.checked.points points)
      × ((rows' ≡ when_violated d.checked (fronted d.checked.consequents d.checked.rows rows) rows)
      × ((consequents' ≡ when_violated d.checked d.checked.consequents consequents)
      × ((c.looked ≡ unless_refused d.checked.refusal d.looked looked) × (c.after ≡ unless_refused d.checked.refusal d.after after)))))
  limited-written number positions positions' points points' rows rows' consequents consequents' looked after t =
      let q = told_same c.checked d.checked (ap (λ (r : Limited). r.checked) e) number positions positions' points points' rows rows' consequents consequents' t in
      let refusal = ap (λ (r : Limited). r.checked.refusal) e in (
        q.1.0,
        (q.1.1.0, (q.1.1.1.0, (q.1.1.1.1, ((answered_writes _ _ _ _ _ refusal z (ap (λ (r : Limited). r.looked) e)).1, (answered_writes _ _ _ _ _ refusal z (ap (λ (r : Limited). r.after) e)).1)))),
      )

-- Findings that stay as they were, where nothing is violated
pub told_nothing : (c : Checked) (n : ℕ) → n ≡ host_number c → c.violated ≡ false → (positions : List ℕ) (points : ℕ) (rows : List ℕ) (consequents : ℕ)
    → Told c n positions positions points points rows rows consequents consequents
told_nothing c n e v positions points rows consequents =
    (e, (unviolated_keeps c _ _ v, (unviolated_keeps c _ _ v, (unviolated_keeps c _ _ v, unviolated_keeps c _ _ v))))

-- Fields

pub bad_field : (f : Option ℕ) (old : ℕ) → f ≡ None → (1 ≡ field_number f) × (old ≡ field_value f old)
bad_field f old e = (rw e, rw e)

pub good_field : (f : Option ℕ) (v old : ℕ) → f ≡ Some v → (0 ≡ field_number f) × (v ≡ field_value f old)
good_field f v old e = (rw e, rw e)

-- A search leaves its places the same, whatever it answers
pub places-are : (r : Result Bool Refusal) (places : List ℕ) → places ≡ (answered r places).places
places-are (Ok hit) places = refl
places-are (Err r) places = refl
