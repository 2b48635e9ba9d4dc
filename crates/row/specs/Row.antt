-- One row of a sheet: its six numbers (refusal 4), and the row that they are. What must be believed.
-- Assumes nothing.
use Rattle.std.specs.Prelude.{cond, List, ℕ, get_or, drop, eqb, Option, Some, None}
use Rattle.columns.specs.Number.{field_at}
use Rattle.scenario.specs.Rows.{Row}
use Rattle.scenario.specs.Fields.{row_of}
use Rattle.row.specs.declared.Line.{Line}

-- goes on with a field's value; "with a bad field, a line is malformed"
abbrev pub on_field : Option ℕ → (ℕ → Option Line) → Option Line
on_field (Some v) f = f v
on_field None f = None

-- a row by its six numbers, in the order of the columns
abbrev pub six : (s kind p q a b : ℕ) → Line
six s kind p q a b = record { section = s; kind = kind; p = p; q = q; a = a; b = b }

-- 4 "malformed": "section (3), kind (3), p (3), q (3), a (11), b (11)", and "Lines end with one byte 10 (LF)"
unfoldable pub line_of : List ℕ → Option Line
line_of t =
    on_field (field_at t 3) (λ s.
    on_field (field_at (drop 3 t) 3) (λ kind.
    on_field (field_at (drop 6 t) 3) (λ p.
    on_field (field_at (drop 9 t) 3) (λ q.
    on_field (field_at (drop 12 t) 11) (λ a.
    on_field (field_at (drop 23 t) 11) (λ b.
    cond (eqb (get_or t 34 0) 10) (Some (six s kind p q a b)) None))))))

-- the row of a line, with the fields that its kind mentions; kinds are known once the row is accepted
unfoldable pub row_in : Line → Row
row_in l = row_of l.kind l.p l.q l.a l.b
