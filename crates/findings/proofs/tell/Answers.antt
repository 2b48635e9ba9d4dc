-- The findings are those of the answer, and are written where it is violated alone.
use mathlib.Core.Path.{◌≡◌, refl, sym, ap, ◌∙◌}
use Rattle.verdict.specs.Check.{Checked, blank}
use Rattle.verdict.specs.Numbered.{told, violated}
use Rattle.findings.specs.Findings.{by_number, host_number, fronted}
use Rattle.findings.proofs.Telling.{number-blank, number-violated, number-holds, unviolated_keeps, violated_writes, put-fronted}
use Rattle.findings.proofs.tell.Goals as goal

pub returns-in-Err : goal.returns-in-Err
returns-in-Err c =
    let e : by_number c.args.checked ≡ blank c.in-Err.number = ap by_number c.in-Err.is in
    let v = ap (λ (z : Checked). z.violated) e in
    record {
      answer = sym (ap host_number e ∙ number-blank c.in-Err.number);
      positions = unviolated_keeps _ _ _ v;
      points = unviolated_keeps _ _ _ v;
      rows = unviolated_keeps _ _ _ v;
      consequents = unviolated_keeps _ _ _ v;
    }

pub returns-in_default : goal.returns-in_default
returns-in_default c =
    let e : by_number c.args.checked ≡ blank 0 = ap by_number c.in-Ok.is ∙ ap told c.in_default.is in
    let v = ap (λ (z : Checked). z.violated) e in
    record {
      answer = sym (ap host_number e ∙ number-holds (blank 0) refl refl);
      positions = unviolated_keeps _ _ _ v;
      points = unviolated_keeps _ _ _ v;
      rows = unviolated_keeps _ _ _ v;
      consequents = unviolated_keeps _ _ _ v;
    }

pub returns : goal.returns
returns c =
    let e : by_number c.args.checked ≡ violated c.in-Some.violation = ap by_number c.in-Ok.is ∙ ap told c.in-Some.is in
    let v = ap (λ (z : Checked). z.violated) e in
    record {
      answer = sym (ap host_number e ∙ number-violated (violated c.in-Some.violation) refl refl);
      positions = violated_writes _ _ _ _ v (put-fronted _ _ _ _ c.copy_from_slice.ensures.after ∙ ap (λ (z : Checked). fronted z.points z.positions c.args.positions.now) (sym e));
      points = violated_writes _ _ _ _ v (ap (λ (z : Checked). z.points) (sym e));
      rows = violated_writes _ _ _ _ v (put-fronted _ _ _ _ c.copy_from_slice-2.ensures.after ∙ ap (λ (z : Checked). fronted z.consequents z.rows c.args.rows.now) (sym e));
      consequents = violated_writes _ _ _ _ v (ap (λ (z : Checked). z.consequents) (sym e));
    }
