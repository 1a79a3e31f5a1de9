use Rattle.std.proofs.Common.{Result, Ok, Err, ap, length, arith}
use Rattle.std.specs.Result.{OnOk}
use Rattle.h3_table.proofs.Laid.{length-fields_of}
use Rattle.h3_table.proofs.field_queue.FieldQueue.reserve.Goals as goal

on_ok : {A B : Type 0} (r : Result A B) (P : Type 0) → P → OnOk r P
on_ok (Ok x) P h = h
on_ok (Err e) P h = tt

pub returns-clause-places : goal.returns-clause-places
returns-clause-places c =
    let reserved = c.in_ok-reserve_record.ensures in
    on_ok c.block_for.result _ (omega (arith, length-fields_of c.self.inside.bytes.bytes c.reserve_record.new.records.items, ap length reserved.items, reserved.len, reserved.ok, c.self.inside.records.ok.0))

pub returns-in_err-reserve_record-clause-records : goal.returns-in_err-reserve_record-clause-records
returns-in_err-reserve_record-clause-records c =
    let inside = c.self.inside in
    rw (← c.self.view_is) (omega (arith, length-fields_of inside.bytes.bytes inside.records.items, inside.records.ok.0, c.reserve_record.ensures.few))

pub returns-clause-records : goal.returns-clause-records
returns-clause-records c =
    let inside = c.self.inside in
    rw (← c.self.view_is) (omega (arith, length-fields_of inside.bytes.bytes inside.records.items, inside.records.ok.0, c.reserve_record.ensures.few))
