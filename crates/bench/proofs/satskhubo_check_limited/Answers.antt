-- How far the check came is written unless it is refused; where it is violated its findings are told as the check's are.
use mathlib.Core.Path.{◌≡◌, refl, sym, ap, ◌∙◌}
use Rattle.refusal.proofs.Numbers.{is_refused}
use Rattle.verdict.specs.Check.{blank}
use Rattle.limit.specs.Limit.{Limited, limited_of, unlooked}
use Rattle.limit.specs.Numbered.{end_of}
use Rattle.limit.specs.declared.End.{End}
use Rattle.limit.specs.declared.End.TheVariants.{Holds, Violated, Stopped}
use Rattle.limit.proofs.Few.{limited-few}
use Rattle.findings.proofs.Telling.{number-refused, number-holds, unviolated_keeps}
use Rattle.bench.specs.Host.{limited_number}
use Rattle.bench.proofs.Numbers.{limited-stopped, limited_ended, limited-written, refused-keeps, told_nothing}
use Rattle.bench.proofs.satskhubo_check_limited.Goals as goal
use Rattle.bench.proofs.satskhubo_check_limited.Goals.{In-Ok}

pub returns-in-Err : goal.returns-in-Err
returns-in-Err c =
    let e = c.in-Err.ensures.answer in
    let v = ap (λ (z : Limited). z.checked.violated) (sym e) in
    let n = ap (λ (z : Limited). z.checked.refusal) e in
    record {
      answer = c.number.ensures ∙ sym (number-refused (blank _) (is_refused _)) ∙ limited_ended (unlooked _) refl ∙ ap limited_number e;
      positions = unviolated_keeps _ _ _ v;
      points = unviolated_keeps _ _ _ v;
      rows = unviolated_keeps _ _ _ v;
      consequents = unviolated_keeps _ _ _ v;
      looked = (refused-keeps _ _ _ _ n (is_refused c.in-Err.refusal)).1;
      after = (refused-keeps _ _ _ _ n (is_refused c.in-Err.refusal)).1;
    }

-- what is known of the answer, by the way it ends
ended : (c : In-Ok) (e : End) → c.in-Ok.limited.end ≡ e → end_of e c.in-Ok.limited.looked c.in-Ok.limited.after ≡ limited_of c.args.sheet.now c.args.log.now c.args.limit
ended c e is = ap (λ (z : End). end_of z c.in-Ok.limited.looked c.in-Ok.limited.after) (sym is) ∙ c.in-Ok.ensures.answer

pub returns-in-Holds : goal.returns-in-Holds
returns-in-Holds c =
    let e = ended (goal.at.returns-in-Holds c).In-Ok Holds c.in-Holds.is in
    let z = sym (number-holds (blank 0) refl refl) in
    let q = limited-written _ _ e refl _ _ _ _ _ _ _ _ _ c.args.looked.now c.args.after.now (told_nothing (blank 0) 0 z refl c.args.positions.now c.args.points.now c.args.rows.now c.args.consequents.now) in
    record {
      answer = z ∙ limited_ended (end_of Holds _ _) refl ∙ ap limited_number e;
      positions = q.0;
      points = q.1.0;
      rows = q.1.1.0;
      consequents = q.1.1.1.0;
      looked = q.1.1.1.1.0;
      after = q.1.1.1.1.1;
    }

pub returns-in-Stopped : goal.returns-in-Stopped
returns-in-Stopped c =
    let e = ended (goal.at.returns-in-Stopped c).In-Ok Stopped c.in-Stopped.is in
    let z = sym (number-holds (blank 0) refl refl) in
    let q = limited-written _ _ e refl _ _ _ _ _ _ _ _ _ c.args.looked.now c.args.after.now (told_nothing (blank 0) 0 z refl c.args.positions.now c.args.points.now c.args.rows.now c.args.consequents.now) in
    record {
      answer = limited-stopped (end_of Stopped _ _) refl ∙ ap limited_number e;
      positions = q.0;
      points = q.1.0;
      rows = q.1.1.0;
      consequents = q.1.1.1.0;
      looked = q.1.1.1.1.0;
      after = q.1.1.1.1.1;
    }

pub tell-requires : goal.tell-requires
tell-requires c =
    let e = ended (goal.at.tell-requires c).In-Ok (Violated c.in-Violated.violation) c.in-Violated.is in
    let f = limited-few c.args.sheet.now c.args.log.now c.args.limit _ e in (f.points, f.consequents)

pub returns-in-Violated : goal.returns-in-Violated
returns-in-Violated c =
    let e = ended (goal.at.returns-in-Violated c).In-Ok (Violated c.in-Violated.violation) c.in-Violated.is in
    let t = c.tell.ensures in
    let q = limited-written _ _ e refl _ _ _ _ _ _ _ _ _ c.args.looked.now c.args.after.now (t.answer, (t.positions, (t.points, (t.rows, t.consequents)))) in
    record {
      answer = t.answer ∙ limited_ended (end_of (Violated c.in-Violated.violation) _ _) refl ∙ ap limited_number e;
      positions = q.0;
      points = q.1.0;
      rows = q.1.1.0;
      consequents = q.1.1.1.0;
      looked = q.1.1.1.1.0;
      after = q.1.1.1.1.1;
    }
