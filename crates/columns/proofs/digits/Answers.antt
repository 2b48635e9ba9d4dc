-- `digits` meets its contract: at each turn the numeral is v with the digits that are left, and v has as many as are read.
use borrow.Author.Rules.{rules}
use mathlib.Core.Path.{sym, ◌∙◌}
use Prim.Native.Nat.{◌<◌}
use native.Mathlib.Omega.{arith}
use borrow.Author.Tests.{eqb-true, eqb-false}
use Rattle.columns.proofs.Scan.{scan-low, scan-high, scan-on, scan-end, scan-end-over, digits_below, fewer_digits, led_empty, led_long, led_zero, led_one, led_more}
use Rattle.columns.proofs.digits.Goals as goal
use Rattle.columns.proofs.digits.Goals.{At-loop-b, Then-s-lt-MOST_DIGITS, then-is_empty-via-then-is_empty, then-is_empty-via-else-is_empty+then-s-gt-MOST_DIGITS}
use Rattle.columns.proofs.digits.Goals.{then-b-lt-ZERO-via-then-b-lt-ZERO, then-b-lt-ZERO-via-else-b-lt-ZERO+then-b-gt-NINE}

-- so few digits are far below 64 bits
small : (c : At-loop-b) → c.loop-b.v < 10000000000
small c = fewer_digits 10 c.loop-b.b-index c.loop-b.v (search rules) c.loop-b.invariant.0

pub returns-then-is_empty : goal.returns-then-is_empty
returns-then-is_empty c =
    elim c.then-is_empty.branch [
      | then-is_empty-via-then-is_empty w ↦ sym (led_empty _ (eqb-true _ _ (sym c.is_empty.ensures ∙ w.if-is_empty.true)))
      | then-is_empty-via-else-is_empty+then-s-gt-MOST_DIGITS w ↦ sym (led_long _ w.if-s-gt-MOST_DIGITS.true)
    ]

pub returns-then-s-eq-ZERO : goal.returns-then-s-eq-ZERO
returns-then-s-eq-ZERO c = sym (led_zero _ c.if-s-eq-ZERO.true (search rules))

pub loop-b-init : goal.loop-b-init
loop-b-init c =
    let some = eqb-false _ _ (sym c.is_empty.ensures ∙ c.if-is_empty.false) in
    (search rules, grind (arith, led_one _ some, led_more _ some))

pub returns-then-b-lt-ZERO : goal.returns-then-b-lt-ZERO
returns-then-b-lt-ZERO c =
    let l = c.loop-b in
    sym (l.invariant.1 ∙ elim c.then-b-lt-ZERO.branch [
      | then-b-lt-ZERO-via-then-b-lt-ZERO w ↦ scan-low _ l.b-index (search rules) l.v w.if-b-lt-ZERO.true
      | then-b-lt-ZERO-via-else-b-lt-ZERO+then-b-gt-NINE w ↦ scan-high _ l.b-index (search rules) l.v (search rules) w.if-b-gt-NINE.true
    ])

pub overflow_mul-v : goal.overflow_mul-v
overflow_mul-v c = let l = small (goal.at.overflow_mul-v c).At-loop-b in search rules

pub overflow_add-v : goal.overflow_add-v
overflow_add-v c = let l = small (goal.at.overflow_add-v c).At-loop-b in search rules

pub loop-b-preserved : goal.loop-b-preserved
loop-b-preserved c =
    let l = c.loop-b in
    rw c.from.ensures (rw c.from-in-loop-b.ensures (digits_below l.b-index l.v _ l.invariant.0 (search rules), l.invariant.1 ∙ scan-on _ l.b-index (search rules) l.v (search rules) (search rules)))

-- fewer digits than the largest has are below it
below : (c : Then-s-lt-MOST_DIGITS) → c.loop-b.v < 1000000000
below c = fewer_digits 9 c.loop-b.b-index c.loop-b.v (search rules) c.loop-b.invariant.0

pub overflow_cast-result : goal.overflow_cast-result
overflow_cast-result c = let l = below (goal.at.overflow_cast-result c).Then-s-lt-MOST_DIGITS in search rules

pub returns-then-s-lt-MOST_DIGITS : goal.returns-then-s-lt-MOST_DIGITS
returns-then-s-lt-MOST_DIGITS c =
    sym (c.loop-b.invariant.1 ∙ scan-end _ c.loop-b.b-index c.loop-b.v c.loop-b-test.false (omega (arith, below (goal.at.returns-then-s-lt-MOST_DIGITS c).Then-s-lt-MOST_DIGITS)))

pub returns-then-v-gt-LARGEST : goal.returns-then-v-gt-LARGEST
returns-then-v-gt-LARGEST c = sym (c.loop-b.invariant.1 ∙ scan-end-over _ c.loop-b.b-index c.loop-b.v c.loop-b-test.false c.if-v-gt-LARGEST.true)

pub returns : goal.returns
returns c = sym (c.loop-b.invariant.1 ∙ scan-end _ c.loop-b.b-index c.loop-b.v c.loop-b-test.false c.if-v-gt-LARGEST.false)
