-- `write_field` meets its contract: each way out is a case of the definition.
use mathlib.Core.Path.{◌≡◌, sym, ◌∙◌}
use native.Mathlib.Omega.{arith}
use lib.ListN.{length}
use Rattle.columns.specs.Entry.{entry_of, entered}
use Rattle.std.specs.Prelude.{Err}
use Rattle.columns.proofs.Entering.{too_wide, too_far, made}
use Rattle.columns.proofs.write_field.Goals as goal
use Rattle.columns.proofs.write_field.Goals.{Joined-then-not-fits_in, then-not-fits_in-via-then-not-fits_in}
use Rattle.columns.proofs.write_field.Goals.{then-not-fits_in-via-else-not-fits_in+then-buf-width, then-not-fits_in-via-else-not-fits_in+else-buf-width+then-buf-width-2}

refused : (c : Joined-then-not-fits_in) → let a = c.args in let m = a.buf.now in (Err (record {}) ≡ entry_of (length m) a.at a.width a.v) × (m ≡ entered a.at a.width a.v m)
refused c =
    elim c.then-not-fits_in.branch [
      | then-not-fits_in-via-then-not-fits_in w ↦ too_wide _ _ _ _ (sym c.fits_in.ensures ∙ w.if-not-fits_in.true)
      | then-not-fits_in-via-else-not-fits_in+then-buf-width w ↦ too_far _ _ _ _ (omega arith)
      | then-not-fits_in-via-else-not-fits_in+else-buf-width+then-buf-width-2 w ↦ too_far _ _ _ _ (omega arith)
    ]

pub returns-then-not-fits_in : goal.returns-then-not-fits_in
returns-then-not-fits_in c = let told = refused c in record { answer = told.0; memory = told.1 }

pub returns : goal.returns
returns c =
    let a = c.args in
    let told = made a.at a.width a.v a.buf.now (sym c.fits_in.ensures ∙ c.if-not-fits_in.false) (omega arith) _ c.write_number.ensures in record { answer = told.0; memory = told.1 }
