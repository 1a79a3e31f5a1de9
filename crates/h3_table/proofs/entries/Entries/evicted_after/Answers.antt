use Rattle.std.proofs.Common.{◌≡◌, ◌<◌, ◌≤◌, ◌-◌, ◌^◌, ℕ, min, ap, arith}
use Rattle.h3_field.specs.Field.{Field, field_size}
use Rattle.h3_table.specs.TableState.{TableState}
use Rattle.h3_table.specs.EvictionLaws.{evicted_with_entry}
use Rattle.h3_table.proofs.entries.Entries.evicted_after.Goals as goal

room_is : (h : TableState) (f : Field) (capacity size : ℕ) → capacity ≡ h.capacity → capacity < 2 ^ 30 → field_size f ≤ h.capacity → size ≡ min (2 ^ 64 - 1) (field_size f) → capacity - size ≡ h.capacity - field_size f
room_is h f capacity size same small fits is = omega (arith, same, small, fits, is)

pub returns-clause-some : goal.returns-clause-some
returns-clause-some c =
    let room = room_is c.args.self.now c.args.field.now c.self.inside.capacity c.size_of.result (ap (λ (h : TableState). h.capacity) c.self.view_is) c.self.invariant.small c.requires.fits c.size_of.ensures in
    rw (evicted_with_entry c.args.self.now c.args.field.now c.requires.fits) (rw room at c.evicted_within.ensures.some)

pub returns-clause-none : goal.returns-clause-none
returns-clause-none c =
    let room = room_is c.args.self.now c.args.field.now c.self.inside.capacity c.size_of.result (ap (λ (h : TableState). h.capacity) c.self.view_is) c.self.invariant.small c.requires.fits c.size_of.ensures in
    rw (evicted_with_entry c.args.self.now c.args.field.now c.requires.fits) (rw room at c.evicted_within.ensures.none)
