use Rattle.std.proofs.Common.{◌≡◌, ◌+◌, ◌-◌, ◌^◌, ◌<◌, ◌≤◌, min, ℕ, false, refl, ap, arith}
use Rattle.std.proofs.lemmas.Grind.{common_steps}
use Rattle.h3_field.specs.Field.{Field, field_size}
use Rattle.h3_table.specs.TableState.{TableState, has_room}
use Rattle.h3_qpack.specs.ReasonLaws.{reason_map}
use Rattle.h3_qpack.proofs.InsertionsAt.{no_insertion_bad, no_room_bad}
use Rattle.h3_qpack.proofs.decoder.Decoder.take_insertion.Goals as goal

too_many : (h : TableState) (f : Field) → 2 ^ 62 ≤ h.inserted + 1 → has_room h f ≡ false
too_many h f le = grind (arith, common_steps)

too_large : (h : TableState) (f : Field) (size : ℕ) → size ≡ min (2 ^ 64 - 1) (field_size f) → h.capacity < size → has_room h f ≡ false
too_large h f size is lt = let far : h.capacity < field_size f = omega (arith, is, lt) in grind (arith, common_steps)

pub returns-then-inserted-ge-MOST_INSERTIONS : goal.returns-then-inserted-ge-MOST_INSERTIONS
returns-then-inserted-ge-MOST_INSERTIONS c =
    let begins = rw (c.in-Ok-Some.field-0-is, c.new-ahead.ensures, c.chunk.ensures) at c.in-Ok-Some.ensures in (
      no_room_bad c.args.self.now c.args.buf.now _ c.in-Ok-Some.field begins
          (too_many c.args.self.now.table c.in-Ok-Some.field (omega (arith, c.inserted.ensures.value, ap (λ r. r.table.inserted) c.self.view_is))),
      refl,
      refl,
    )

pub returns-then-mem_size-capacity : goal.returns-then-mem_size-capacity
returns-then-mem_size-capacity c =
    let begins = rw (c.in-Ok-Some.field-0-is, c.new-ahead.ensures, c.chunk.ensures) at c.in-Ok-Some.ensures in (
      no_room_bad c.args.self.now c.args.buf.now _ c.in-Ok-Some.field begins
          (too_large c.args.self.now.table c.in-Ok-Some.field c.mem_size.result c.mem_size.ensures (omega (arith, c.capacity.ensures.value, ap (λ r. r.table.capacity) c.self.view_is))),
      refl,
      refl,
    )

pub returns-in-Err : goal.returns-in-Err
returns-in-Err c =
    (reason_map _ _ c.in-Err.e (no_insertion_bad c.args.self.now c.args.buf.now) (rw (c.new-ahead.ensures, c.chunk.ensures) at c.in-Err.ensures), refl, refl)
