use Rattle.std.proofs.Common.{◌≡◌, ◌≤◌, ◌+◌, ◌*◌, ℕ, List, ◌++◌, length, Option, Some, None, refl, ◌∙◌, ap, arith, length-append, append_assoc}
use Rattle.std.specs.Prelude.{IfSome, IfNone}
use Rattle.std.specs.Vec.{vec_capacity}
use Rattle.h3_table.specs.declared.field_queue.Record.{Record}
use Rattle.h3_table.proofs.Laid.{laid_count, laid_push, fields_push, length-fields_of, IsNew}
use Rattle.h3_table.proofs.field_queue.FieldQueue.push.Goals as goal

joined : (bytes moved named whole name value : List ℕ) → moved ≡ bytes → named ≡ moved ++ name → whole ≡ named ++ value → whole ≡ bytes ++ (name ++ value)
joined bytes moved named whole name value same one two =
    two ∙ ap (λ b. b ++ value) (one ∙ ap (λ b. b ++ name) same) ∙ append_assoc bytes name value

-- the bytes fit in the block that is given, and then the new ones fit behind them
fits : {B : Type 0} (block : Option B) (capacity : B → ℕ) (bytes count size more : ℕ) → bytes + 32 * count ≡ size → IfSome block (λ b. size + more ≤ capacity b + 32 * count) → IfSome block (λ b. bytes ≤ capacity b)
fits None capacity bytes count size more e h = tt
fits (Some b) capacity bytes count size more e h = omega (arith, e, h)

room_left : {B : Type 0} (block : Option B) (capacity : B → ℕ) (bytes count size more before room : ℕ) → bytes + 32 * count ≡ size → IfSome block (λ b. size + more ≤ capacity b + 32 * count) → IfNone block (more ≤ before)
    → IfNone block (room ≡ before) → IfSome block (λ b. capacity b ≤ room + bytes) → more ≤ room
room_left None capacity bytes count size more before room e h n same some = omega (arith, n, same)
room_left (Some b) capacity bytes count size more before room e h n same some = omega (arith, e, h, some)

pub move_to-requires-clause-fits : goal.move_to-requires-clause-fits
move_to-requires-clause-fits c =
    fits c.args.block vec_capacity _ _ _ _ (laid_count _ _ _ c.self.invariant.laid) (rw (← c.self.view_is) at c.requires.fits)

pub push_back_reserved-requires : goal.push_back_reserved-requires
push_back_reserved-requires c =
    let place = rw (← c.self.view_is) at c.requires.place in
    omega (arith, place, length-fields_of c.self.inside.bytes.bytes c.self.inside.records.items, c.self.inside.records.ok.0)

pub push-requires : goal.push-requires
push-requires c =
    let all = room_left c.args.block vec_capacity _ _ _ (length c.args.name.now + length c.args.value.now) c.self.inside.bytes.room c.move_to.new.self.room (laid_count _ _ _ c.self.invariant.laid)
    (rw (← c.self.view_is) at c.requires.fits) (rw (← c.self.view_is) at c.requires.room) c.move_to.ensures.none c.move_to.ensures.some in
    omega (arith, all)

pub push-requires-2 : goal.push-requires-2
push-requires-2 c =
    let all = room_left c.args.block vec_capacity _ _ _ (length c.args.name.now + length c.args.value.now) c.self.inside.bytes.room c.move_to.new.self.room (laid_count _ _ _ c.self.invariant.laid)
    (rw (← c.self.view_is) at c.requires.fits) (rw (← c.self.view_is) at c.requires.room) c.move_to.ensures.none c.move_to.ensures.some in
    omega (arith, all, c.push.ensures.room)

pub invariant_of-self : goal.invariant_of-self
invariant_of-self c =
    let i = c.self.invariant in
    let bytes = joined c.self.inside.bytes.bytes _ _ _ c.args.name.now c.args.value.now c.move_to.ensures.bytes c.push.ensures.bytes c.push-2.ensures.bytes in
    let r : Record = record { place = c.self.inside.first + c.len-there.result; name_len = length c.args.name.now; value_len = length c.args.value.now; static_name = c.args.static_name } in
    let new : IsNew c.self.inside.first c.self.inside.bytes.bytes c.args.name.now c.args.value.now r = record {
      at = omega (arith, c.len-there.ensures);
      name_len = refl;
      value_len = refl;
      static_name = c.requires.same;
    } in
    let count = laid_count _ _ _ i.laid in
    let few = rw (← c.self.view_is) at c.requires.few in
    let more = length-append c.self.inside.bytes.bytes (c.args.name.now ++ c.args.value.now) in
    let both = length-append c.args.name.now c.args.value.now in
    let written = rw (← c.self.view_is) at c.requires.written in
    record {
      laid = rw (c.push_back_reserved.ensures.items, bytes) (laid_push c.self.inside.first c.self.inside.bytes.bytes c.args.name.now c.args.value.now c.self.inside.records.items r i.laid new);
      small = omega (arith, ap length bytes, more, both, c.requires.small, written);
      few = omega (arith, ap length bytes, more, both, c.requires.small, count, few);
    }

pub returns-clause-fields : goal.returns-clause-fields
returns-clause-fields c =
    let bytes = joined c.self.inside.bytes.bytes _ _ _ c.args.name.now c.args.value.now c.move_to.ensures.bytes c.push.ensures.bytes c.push-2.ensures.bytes in
    let r : Record = record { place = c.self.inside.first + c.len-there.result; name_len = length c.args.name.now; value_len = length c.args.value.now; static_name = c.args.static_name } in
    let new : IsNew c.self.inside.first c.self.inside.bytes.bytes c.args.name.now c.args.value.now r = record {
      at = omega (arith, c.len-there.ensures);
      name_len = refl;
      value_len = refl;
      static_name = c.requires.same;
    } in
    rw (← c.self.view_is) (rw (c.push_back_reserved.ensures.items, bytes) (fields_push c.self.inside.first c.self.inside.bytes.bytes c.args.name.now c.args.value.now c.self.inside.records.items r c.self.invariant.laid new))

pub returns-clause-written : goal.returns-clause-written
returns-clause-written c =
    let bytes = joined c.self.inside.bytes.bytes _ _ _ c.args.name.now c.args.value.now c.move_to.ensures.bytes c.push.ensures.bytes c.push-2.ensures.bytes in
    let more = length-append c.self.inside.bytes.bytes (c.args.name.now ++ c.args.value.now) in
    rw (← c.self.view_is) (omega (arith, ap length bytes, more, length-append c.args.name.now c.args.value.now))
