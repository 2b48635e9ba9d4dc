-- `satskhubo_write_field` meets its contract: the answer and the buffer are the writer's.
use mathlib.Core.Path.{ap}
use Rattle.bench.specs.Host.{entry_number}
use Rattle.bench.proofs.satskhubo_write_field.Goals as goal

pub returns-in-Ok : goal.returns-in-Ok
returns-in-Ok c = record { answer = ap entry_number c.in-Ok.ensures.answer; memory = c.write_field.ensures.memory }

pub returns-in-Err : goal.returns-in-Err
returns-in-Err c = record { answer = ap entry_number c.in-Err.ensures.answer; memory = c.write_field.ensures.memory }
