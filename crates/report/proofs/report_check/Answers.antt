-- `report_check` meets its contract: one line where nothing is violated, else three, one behind the other.
use borrow.Author.Rules.{rules}
use mathlib.Core.Path.{◌≡◌, refl, sym, ap, ◌∙◌}
use mathlib.Core.List.{List, [], ◌∷◌}
use Prim.Native.Nat.{ℕ, ◌+◌}
use lib.ListN.{length, replicate}
use Rattle.columns.specs.Ink.{inked}
use Rattle.report.specs.Printing.{line_text}
use Rattle.refusal.specs.Refusal.{number}
use Rattle.verdict.specs.Check.{blank, check_of}
use Rattle.verdict.specs.Numbered.{told, violated}
use Rattle.verdict.proofs.Few.{few}
use Rattle.report.proofs.Printing.{lent, within, first_fits, second_fits, third-fits, one_line, one-fits, three-lines, three-fits}
use Rattle.report.proofs.report_check.Goals as goal
use Rattle.report.proofs.report_check.Goals.{In-Some, In-Err, In_default}

-- Refused

refused : (c : In-Err) → blank (number c.in-Err.refusal) ≡ check_of c.args.sheet.now c.args.log.now
refused c = c.in-Err.ensures.answer

pub write_line-length-requires : goal.write_line-length-requires
write_line-length-requires c =
    let f = first_fits c.args.sheet.now c.args.log.now _ (refused (goal.at.write_line-length-requires c).In-Err) 0 refl in
    rw c.number.ensures (f.0, f.1, search rules)

pub returns-in-Err : goal.returns-in-Err
returns-in-Err c =
    let w = c.write_line-length.ensures in
    let n = ap (λ (k : ℕ). line_text 3 (k ∷ 0 ∷ [])) c.number.ensures in
    let e = refused (goal.at.returns-in-Err c).In-Err in
    let end = w.end ∙ ap (λ (t : List ℕ). 0 + length t) n in
    record { text = one_line c.args.sheet.now c.args.log.now _ e 0 refl refl _ _ end (w.text ∙ ap (λ (t : List ℕ). inked 0 t (replicate 64 0)) n); fits = one-fits c.args.sheet.now c.args.log.now _ e 0 refl _ end }

-- It holds

holds : (c : In_default) → blank 0 ≡ check_of c.args.sheet.now c.args.log.now
holds c = ap told (sym c.in_default.is) ∙ c.in-Ok.ensures.answer

pub write_line-length-requires-in_default : goal.write_line-length-requires-in_default
write_line-length-requires-in_default c =
    let f = first_fits c.args.sheet.now c.args.log.now _ (holds (goal.at.write_line-length-requires-in_default c).In_default) 0 refl in
    (f.0, f.1, search rules)

pub returns-in_default : goal.returns-in_default
returns-in_default c =
    let w = c.write_line-length-in_default.ensures in
    let e = holds (goal.at.returns-in_default c).In_default in
    record { text = one_line c.args.sheet.now c.args.log.now _ e 0 refl refl _ _ w.end w.text; fits = one-fits c.args.sheet.now c.args.log.now _ e 0 refl _ w.end }

-- It is violated

broken : (c : In-Some) → violated c.in-Some.violation ≡ check_of c.args.sheet.now c.args.log.now
broken c = ap told (sym c.in-Some.is) ∙ c.in-Ok.ensures.answer

-- the arrays of the violation
four : (c : In-Some) → length c.in-Some.violation.positions ≡ 4
four c = search rules

six : (c : In-Some) → length c.in-Some.violation.rows ≡ 6
six c = search rules

pub write_line-end-requires : goal.write_line-end-requires
write_line-end-requires c =
    let f = first_fits c.args.sheet.now c.args.log.now _ (broken (goal.at.write_line-end-requires c).In-Some) 1 refl in
    (f.0, f.1, search rules)

pub slice_bounds-write_line-end-5 : goal.slice_bounds-write_line-end-5
slice_bounds-write_line-end-5 c =
    let some = (goal.at.slice_bounds-write_line-end-5 c).In-Some in
    within _ 4 _ (few c.args.sheet.now c.args.log.now _ (broken some)).points (four some)

pub write_line-next-requires : goal.write_line-next-requires
write_line-next-requires c =
    let v = c.in-Some.violation in
    let w = c.write_line-end in
    let f = second_fits c.args.sheet.now c.args.log.now _ (broken (goal.at.write_line-next-requires c).In-Some) 1 refl _ _ (lent v.points v.positions) (lent v.consequents v.rows) w.result w.ensures.end in
    (f.0, f.1, w.auto.out)

pub slice_bounds-write_line-end-7 : goal.slice_bounds-write_line-end-7
slice_bounds-write_line-end-7 c =
    let some = (goal.at.slice_bounds-write_line-end-7 c).In-Some in
    within _ 6 _ (few c.args.sheet.now c.args.log.now _ (broken some)).consequents (six some)

pub write_line-length-requires-2 : goal.write_line-length-requires-2
write_line-length-requires-2 c =
    let v = c.in-Some.violation in
    let w = c.write_line-end in
    let w2 = c.write_line-next in
    let f = third-fits c.args.sheet.now c.args.log.now _ (broken (goal.at.write_line-length-requires-2 c).In-Some) 1 refl _ _ (lent v.points v.positions) (lent v.consequents v.rows) w.result w.ensures.end w2.result w2.ensures.end in
    (f.0, f.1, w2.auto.out ∙ w.auto.out)

pub returns : goal.returns
returns c =
    let v = c.in-Some.violation in
    let e = broken (goal.at.returns c).In-Some in
    let w = c.write_line-end in
    let w2 = c.write_line-next in
    let w3 = c.write_line-length-2 in
    record {
      text = three-lines c.args.sheet.now c.args.log.now _ e 1 refl _ _ (lent v.points v.positions) (lent v.consequents v.rows) w.result w.ensures.end w2.result w2.ensures.end w3.result w3.ensures.end refl w.new.out w2.new.out w3.new.out w.ensures.text w2.ensures.text w3.ensures.text;
      fits = three-fits c.args.sheet.now c.args.log.now _ e 1 refl _ _ (lent v.points v.positions) (lent v.consequents v.rows) w.result w.ensures.end w2.result w2.ensures.end w3.result w3.ensures.end;
    }
