-- `write_line` meets its contract: what is left to write, from where the writing stands, is the whole line.
use mathlib.Core.Path.{◌∙◌}
use Prim.Native.Nat.{◌+◌, ◌≤◌}
use native.Mathlib.Omega.{arith}
use lib.ListN.{length, drop}
use Rattle.report.specs.Printing.{line_text}
use Rattle.report.proofs.Printing.{field_fits, field-size, field-on, end-size, end_on}
use Rattle.report.proofs.write_line.Goals as goal
use Rattle.report.proofs.write_line.Goals.{In-loop-value}

-- the next field fits
turn : (c : In-loop-value) → let l = c.loop-value in let a = c.args in l.to + a.width + length (line_text a.width (drop (l.value-index + 1) a.values.now)) ≤ 64
turn c =
    omega (arith, field-size c.args.width c.args.values.now c.loop-value.value-index c.loop-value-test.true, c.loop-value.invariant.0, c.requires.1)

pub write_number-requires : goal.write_number-requires
write_number-requires c =
    (field_fits c.args.width c.args.values.now c.loop-value.value-index c.loop-value-test.true c.requires.0, omega (arith, turn (goal.at.write_number-requires c).In-loop-value, c.loop-value.auto.out, c.requires.2))

pub overflow_add-to : goal.overflow_add-to
overflow_add-to c = record { fits = omega (arith, turn (goal.at.overflow_add-to c).In-loop-value) }

pub loop-value-preserved : goal.loop-value-preserved
loop-value-preserved c =
    let l = c.loop-value in
    let a = c.args in (
      omega (arith, field-size a.width a.values.now l.value-index c.loop-value-test.true, l.invariant.0),
      field-on a.width a.values.now l.value-index l.to l.out c.write_number.new.buf c.loop-value-test.true
          (omega (arith, turn (goal.at.loop-value-preserved c).In-loop-value, l.auto.out, c.requires.2)) c.write_number.ensures ∙ l.invariant.1,
    )

pub bounds-out-to : goal.bounds-out-to
bounds-out-to c =
    let l = c.loop-value in omega (arith, end-size c.args.width c.args.values.now l.value-index c.loop-value-test.false, l.auto.out, l.invariant.0, c.requires.1, c.requires.2)

pub overflow_add-result : goal.overflow_add-result
overflow_add-result c =
    let l = c.loop-value in record { fits = omega (arith, end-size c.args.width c.args.values.now l.value-index c.loop-value-test.false, l.invariant.0, c.requires.1) }

pub returns : goal.returns
returns c =
    let l = c.loop-value in
    let a = c.args in
    let size = end-size a.width a.values.now l.value-index c.loop-value-test.false in
    record {
      end = omega (arith, size, l.invariant.0);
      text = end_on a.width a.values.now l.value-index l.to l.out c.loop-value-test.false (omega (arith, size, l.auto.out, l.invariant.0, c.requires.1, c.requires.2)) ∙ l.invariant.1;
    }
