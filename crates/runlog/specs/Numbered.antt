-- The answers of the code, with each refusal by its number. What must be believed.
-- Assumes nothing.
use Rattle.std.specs.Prelude.{ℕ, Result, Ok, Err}
use Rattle.refusal.specs.declared.LogRefusal.{LogRefusal}
use Rattle.refusal.specs.declared.Refusal.{Refusal}
use Rattle.refusal.specs.Refusal.{log_number, number}
use Rattle.runlog.specs.declared.Extent.{Extent}
use Rattle.runlog.specs.declared.Line.{Line}
use Rattle.runlog.specs.declared.Refused.{Refused}
use Rattle.runlog.specs.Log.{Head, headed, LineRead, Answer, accepted, refused, LogRead}
use Rattle.runlog.specs.Log.LineRead.{Refused as line_refused, Line as line_read}

abbrev pub numbered_head : Result Extent LogRefusal → Head
numbered_head (Ok e) = headed 0 e.lines e.start e.close
numbered_head (Err r) = headed (log_number r) 0 0 0

abbrev pub numbered_line : Result Line LogRefusal → LineRead
numbered_line (Ok line) = line_read line.tick line.event
numbered_line (Err r) = line_refused (log_number r)

abbrev pub numbered : Result Extent Refused → Answer
numbered (Ok e) = accepted e.lines e.start e.close
numbered (Err r) = refused (log_number r.refusal) r.line

abbrev pub numbered_lines : Result ℕ Refusal → LogRead
numbered_lines (Ok n) = record { refusal = 0; lines = n }
numbered_lines (Err r) = record { refusal = number r; lines = 0 }
